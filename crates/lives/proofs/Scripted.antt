-- What a script does is a run, of just the calls that its pieces ask for, with their replies.
use Rattle.std.proofs.Common.{◌≡◌, ℕ, List, [], ◌∷◌, ◌++◌, map, reverse, Option, Some, Ok, Err, refl, sym, ap, ◌∙◌, subst}
use Rattle.std.proofs.lemmas.List.{reverse-append}
use Rattle.std.specs.FinMap.{values}
use Rattle.lexer.specs.Token.{Bytes}
use Rattle.refusals.specs.declared.refusal.Refusal.{Refusal}
use Rattle.replies.specs.declared.reply.Reply.{Reply}
use Rattle.script_pieces.specs.PieceMeaning.{Request}
use Rattle.session_definitions.specs.Asked.{Asked}
use Rattle.session_definitions.specs.Rules.{Rules}
use Rattle.session_definitions.specs.Run.{Event, MakesSession, DropsSession, Moment, Run}
use Rattle.session_definitions.specs.Script.{Scene, first_scene, choosing, Plays, Performs, ArePlayed, EndsSessions}
use Rattle.session_definitions.specs.Step.{Step}
use Rattle.session_definitions.specs.World.{World}
use Rattle.lives.specs.Told.{AreDone, Chosen, IsAsked, IsDone, IsScript, events_of}

-- these events lead from one world to the other
pub record Leads (rules : Rules) (start end : World) (events : List Event) : Type 0 where
  pub moments : List Moment
  pub run : Run rules start moments end
  pub told : events_of moments ≡ events

-- some events do, of which this is known
pub record By (rules : Rules) (start end : World) (means : List Event → Type 0) : Type 0 where
  pub events : List Event
  pub leads : Leads rules start end events
  pub meaning : means events

-- ---- runs one after another

events_append : (later earlier : List Moment) → events_of (later ++ earlier) ≡ events_of later ++ events_of earlier
events_append [] earlier = refl
events_append (m ∷ later) earlier = ap (λ (es : List Event). m.event ∷ es) (events_append later earlier)

drops_append : (ss more : List ℕ) → map Event.Drops (ss ++ more) ≡ map Event.Drops ss ++ map Event.Drops more
drops_append [] more = refl
drops_append (s ∷ ss) more = ap (λ (es : List Event). Event.Drops s ∷ es) (drops_append ss more)

run_on : (rules : Rules) (start mid : World) (earlier : List Moment) → Run rules start earlier mid → (later : List Moment) (end : World) → Run rules mid later end
    → Run rules start (later ++ earlier) end
run_on rules start mid earlier first [] end run = subst (Run rules start earlier) (sym run) first
run_on rules start mid earlier first (moment ∷ later) end run = (run_on rules start mid earlier first later moment.before run.0, run.1)

and_then : (rules : Rules) (start mid end : World) (first second : List Event) → Leads rules start mid first → Leads rules mid end second → Leads rules start end (second ++ first)
and_then rules start mid end first second a b = record {
  moments = b.moments ++ a.moments;
  run = run_on rules start mid a.moments a.run b.moments end b.run;
  told = events_append b.moments a.moments ∙ ap (λ (es : List Event). es ++ events_of a.moments) b.told ∙ ap (λ (es : List Event). second ++ es) a.told;
}

stays : (rules : Rules) (w v : World) → v ≡ w → Leads rules w v []
stays rules w v e = record { moments = []; run = e; told = refl }

makes : (rules : Rules) (w v : World) (s : ℕ) → MakesSession w (Ok s) v → Leads rules w v (Event.Makes (Ok s) ∷ [])
makes rules w v s h = record { moments = record { before = w; event = Event.Makes (Ok s) } ∷ []; run = (refl, h); told = refl }

makes_none : (rules : Rules) (w v : World) (refusal : Refusal) → MakesSession w (Err refusal) v → Leads rules w v (Event.Makes (Err refusal) ∷ [])
makes_none rules w v refusal h = record { moments = record { before = w; event = Event.Makes (Err refusal) } ∷ []; run = (refl, h); told = refl }

calls : (rules : Rules) (w : World) (s : ℕ) (text : Bytes) (reply : Reply) (v : World) (step : Step rules w s text reply v) → Leads rules w v (Event.Calls s (Asked.Text text) reply step.0 ∷ [])
calls rules w s text reply v step = record { moments = record { before = w; event = Event.Calls s (Asked.Text text) reply step.0 } ∷ []; run = (refl, step.1); told = refl }

drops : (rules : Rules) (w v : World) (s : ℕ) → DropsSession w s v → Leads rules w v (Event.Drops s ∷ [])
drops rules w v s h = record { moments = record { before = w; event = Event.Drops s } ∷ []; run = (refl, h); told = refl }

-- ---- scripts

-- what is chosen where a script stands, whatever the world
abbrev pub chosen_in : Scene → Chosen
chosen_in scene = record { number = scene.chosen; made = scene.standing }

plays : (rules : Rules) (old : Scene) (text : Bytes) (reply : Reply) (new : Scene) → Plays rules old text reply new
    → By rules old.world new.world (IsAsked text reply (chosen_in old) (chosen_in new))
plays rules old text reply new (Plays.stands_already s w is step leaves) =
    subst (λ (scene : Scene). By rules old.world scene.world (IsAsked text reply (chosen_in old) (chosen_in scene))) (sym leaves)
    (record { events = Event.Calls s (Asked.Text text) reply step.0 ∷ []; leads = calls rules old.world s text reply w step; meaning = IsAsked.stood s step.0 is refl refl })
plays rules old text reply new (Plays.made_now s mid w is made step leaves) =
    subst (λ (scene : Scene). By rules old.world scene.world (IsAsked text reply (chosen_in old) (chosen_in scene))) (sym leaves)
    (record {
      events = Event.Calls s (Asked.Text text) reply step.0 ∷ Event.Makes (Ok s) ∷ [];
      leads = and_then rules old.world mid w (Event.Makes (Ok s) ∷ []) (Event.Calls s (Asked.Text text) reply step.0 ∷ []) (makes rules old.world mid s made) (calls rules mid s text reply w step);
      meaning = IsAsked.made s step.0 is refl refl;
    })
plays rules old text reply new (Plays.not_made refusal w is made refused leaves) =
    subst (λ (scene : Scene). By rules old.world scene.world (IsAsked text reply (chosen_in old) (chosen_in scene))) (sym leaves)
    (record { events = Event.Makes (Err refusal) ∷ []; leads = makes_none rules old.world w refusal made; meaning = IsAsked.not_made refusal is refused refl refl })

asked : (rules : Rules) (start end : World) (old new : Chosen) (text : Bytes) (reply : Reply) (printed : Option Reply) → printed ≡ Some reply → By rules start end (IsAsked text reply old new)
    → By rules start end (λ events. (said : Reply) × IsAsked text said old new events × (printed ≡ Some said))
asked rules start end old new text reply printed is by = record { events = by.events; leads = by.leads; meaning = (reply, by.meaning, is) }

nothing : (rules : Rules) (start end : World) (means : List Event → Type 0) → end ≡ start → means [] → By rules start end means
nothing rules start end means e is = record { events = []; leads = stays rules start end e; meaning = is }

performs : (rules : Rules) (old : Scene) (request : Request) (printed : Option Reply) (new : Scene) → Performs rules old request printed new
    → By rules old.world new.world (IsDone request printed (chosen_in old) (chosen_in new))
performs rules old Request.Nothing printed new h = nothing rules old.world new.world _ (ap (λ (scene : Scene). scene.world) h.1) (h.0, refl, ap chosen_in h.1)
performs rules old (Request.Chooses k) printed new h = nothing rules old.world new.world _ (ap (λ (scene : Scene). scene.world) h.1) (h.0, refl, ap chosen_in h.1)
performs rules old (Request.Calls text) printed new h = asked rules old.world new.world (chosen_in old) (chosen_in new) text h.0 printed h.2 (plays rules old text h.0 new h.1)
performs rules old (Request.ChoosesAndCalls k text) printed new h =
    asked rules old.world new.world (chosen_in (choosing old k)) (chosen_in new) text h.0 printed h.2 (plays rules (choosing old k) text h.0 new h.1)
performs rules old Request.Flushes printed new h = nothing rules old.world new.world _ (ap (λ (scene : Scene). scene.world) h.3) (refl, ap chosen_in h.3)
performs rules old Request.Wrong printed new h = nothing rules old.world new.world _ (ap (λ (scene : Scene). scene.world) h.1) (refl, ap chosen_in h.1)

are_done : (rules : Rules) (old : Scene) (pieces : List (List ℕ)) (replies : List (Option Reply)) (new : Scene)
    → ArePlayed rules old pieces replies new → By rules old.world new.world (AreDone pieces replies (chosen_in old) (chosen_in new))
are_done rules old [] replies new h = nothing rules old.world new.world _ (ap (λ (scene : Scene). scene.world) h.1) (h.0, refl, ap chosen_in h.1)
are_done rules old (piece ∷ pieces) replies new (request, reply, mid, others, asks, performed, rest, whole) =
    let one = performs rules old request reply mid performed in
    let more = are_done rules mid pieces others new rest in record {
      events = more.events ++ one.events;
      leads = and_then rules old.world mid.world new.world one.events more.events one.leads more.leads;
      meaning = (request, reply, chosen_in mid, others, one.events, more.events, asks, one.meaning, whole, refl, more.meaning);
    }

-- the latest of the sessions that ended stands first
ends : (rules : Rules) (old : World) (ss : List ℕ) (new : World) → EndsSessions old ss new → By rules old new (λ events. events ≡ map Event.Drops (reverse ss))
ends rules old [] new h = record { events = []; leads = stays rules old new h; meaning = refl }
ends rules old (s ∷ ss) new (mid, dropped, rest) =
    let more = ends rules mid ss new rest in record {
      events = more.events ++ Event.Drops s ∷ [];
      leads = and_then rules old mid new (Event.Drops s ∷ []) more.events (drops rules old mid s dropped) more.leads;
      meaning = ap (λ (es : List Event). es ++ Event.Drops s ∷ []) more.meaning ∙ sym (drops_append (reverse ss) (s ∷ []))
          ∙ ap (map Event.Drops) (sym (reverse-append (s ∷ []) ss));
    }

-- a run, of whose moments this is known
pub record Led (rules : Rules) (start end : World) (means : List Moment → Type 0) : Type 0 where
  pub moments : List Moment
  pub run : Run rules start moments end
  pub meaning : means moments

pub scripted : (rules : Rules) (old : World) (pieces : List (List ℕ)) (replies : List (Option Reply)) (scene : Scene) (new : World)
    → ArePlayed rules (first_scene old) pieces replies scene → EndsSessions scene.world (values scene.standing) new → Led rules old new (IsScript pieces replies)
scripted rules old pieces replies scene new played ended =
    let done = are_done rules (first_scene old) pieces replies scene played in
    let over = ends rules scene.world (values scene.standing) new ended in
    let all = and_then rules old scene.world new done.events over.events done.leads over.leads in record {
      moments = all.moments;
      run = all.run;
      meaning = record {
        chosen = chosen_in scene;
        events = done.events;
        whole = all.told ∙ ap (λ (es : List Event). es ++ done.events) over.meaning;
        done = done.meaning;
      };
    }
