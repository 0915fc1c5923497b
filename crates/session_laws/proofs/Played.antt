-- What a script does is a run.
use Rattle.std.proofs.Common.{◌≡◌, ℕ, List, [], ◌∷◌, ◌++◌, Option, Ok, refl, sym, ap, subst}
use Rattle.std.specs.FinMap.{values}
use Rattle.lexer.specs.Token.{Bytes}
use Rattle.replies.specs.declared.reply.Reply.{Reply}
use Rattle.script_pieces.specs.PieceMeaning.{Request}
use Rattle.session_definitions.specs.Asked.{Asked}
use Rattle.session_definitions.specs.Rules.{Rules}
use Rattle.session_definitions.specs.Run.{Event, MakesSession, DropsSession, Moment, Run}
use Rattle.session_definitions.specs.Script.{Scene, first_scene, choosing, Plays, Performs, ArePlayed, EndsSessions, IsPlayed}
use Rattle.session_definitions.specs.Step.{Step}
use Rattle.session_definitions.specs.World.{World}

-- some events lead from one world to the other
abbrev pub Leads : Rules → World → World → Type 0
Leads rules start end = (moments : List Moment) × Run rules start moments end

stays : (rules : Rules) (w v : World) → v ≡ w → Leads rules w v
stays rules w v e = ([], e)

run_on : (rules : Rules) (start mid : World) (earlier : List Moment) → Run rules start earlier mid → (later : List Moment) (end : World) → Run rules mid later end
    → Run rules start (later ++ earlier) end
run_on rules start mid earlier first [] end run = subst (Run rules start earlier) (sym run) first
run_on rules start mid earlier first (moment ∷ later) end run = (run_on rules start mid earlier first later moment.before run.0, run.1)

and_then : (rules : Rules) (start mid end : World) → Leads rules start mid → Leads rules mid end → Leads rules start end
and_then rules start mid end first second = (second.0 ++ first.0, run_on rules start mid first.0 first.1 second.0 end second.1)

makes : (rules : Rules) (w v : World) (s : ℕ) → MakesSession w (Ok s) v → Leads rules w v
makes rules w v s h = (record { before = w; event = Event.Makes (Ok s) } ∷ [], (refl, h))

calls : (rules : Rules) (w : World) (s : ℕ) (text : Bytes) (reply : Reply) (v : World) → Step rules w s text reply v → Leads rules w v
calls rules w s text reply v (effect, call) = (record { before = w; event = Event.Calls s (Asked.Text text) reply effect } ∷ [], (refl, call))

drops : (rules : Rules) (w v : World) (s : ℕ) → DropsSession w s v → Leads rules w v
drops rules w v s h = (record { before = w; event = Event.Drops s } ∷ [], (refl, h))

plays : (rules : Rules) (old : Scene) (text : Bytes) (reply : Reply) (new : Scene) → Plays rules old text reply new → Leads rules old.world new.world
plays rules old text reply new (Plays.stands_already s w is step leaves) =
    subst (λ (scene : Scene). Leads rules old.world scene.world) (sym leaves) (calls rules old.world s text reply w step)
plays rules old text reply new (Plays.made_now s mid w is made step leaves) =
    subst (λ (scene : Scene). Leads rules old.world scene.world) (sym leaves)
    (and_then rules old.world mid w (makes rules old.world mid s made) (calls rules mid s text reply w step))
plays rules old text reply new (Plays.not_made refusal w is made says leaves) =
    subst (λ (scene : Scene). Leads rules old.world scene.world) (sym leaves) (stays rules old.world w made.1)

performs : (rules : Rules) (old : Scene) (request : Request) (printed : Option Reply) (new : Scene) → Performs rules old request printed new
    → Leads rules old.world new.world
performs rules old Request.Nothing printed new h = stays rules old.world new.world (ap (λ (scene : Scene). scene.world) h.1)
performs rules old (Request.Chooses k) printed new h = stays rules old.world new.world (ap (λ (scene : Scene). scene.world) h.1)
performs rules old (Request.Calls text) printed new h = plays rules old text h.0 new h.1
performs rules old (Request.ChoosesAndCalls k text) printed new h = plays rules (choosing old k) text h.0 new h.1
performs rules old Request.Flushes printed new h = stays rules old.world new.world (ap (λ (scene : Scene). scene.world) h.3)
performs rules old Request.Wrong printed new h = stays rules old.world new.world (ap (λ (scene : Scene). scene.world) h.1)

are_played : (rules : Rules) (old : Scene) (pieces : List (List ℕ)) (replies : List (Option Reply)) (new : Scene)
    → ArePlayed rules old pieces replies new → Leads rules old.world new.world
are_played rules old [] replies new h = stays rules old.world new.world (ap (λ (scene : Scene). scene.world) h.1)
are_played rules old (piece ∷ pieces) replies new (request, reply, mid, others, asks, performed, rest, whole) =
    and_then rules old.world mid.world new.world (performs rules old request reply mid performed) (are_played rules mid pieces others new rest)

ends : (rules : Rules) (old : World) (ss : List ℕ) (new : World) → EndsSessions old ss new → Leads rules old new
ends rules old [] new h = stays rules old new h
ends rules old (s ∷ ss) new (mid, dropped, rest) = and_then rules old mid new (drops rules old mid s dropped) (ends rules mid ss new rest)

pub is_run : (rules : Rules) (old : World) (pieces : List (List ℕ)) (printed : List ℕ) (new : World) → IsPlayed rules old pieces printed new
    → (moments : List Moment) × Run rules old moments new
is_run rules old pieces printed new played =
    and_then rules old played.scene.world new
    (are_played rules (first_scene old) pieces played.replies played.scene played.carried_out)
    (ends rules played.scene.world (values played.scene.standing) new played.ended)
