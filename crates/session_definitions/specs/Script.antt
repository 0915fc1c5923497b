-- What the pieces of an input do in order, and what they print. All of this is our own choice.
use Rattle.std.specs.Prelude.{◌≡◌, ◌⊎◌, ℕ, Bool, true, false, List, [], ◌∷◌, ◌++◌, Option, Some, None, Ok, Err}
use Rattle.std.specs.List.{list_any}
use Rattle.std.specs.Ordering.{nat_cmp}
use Rattle.std.specs.FinMap.{FinMap, get, insert, empty, values}
use Rattle.refusals.specs.declared.refusal.Refusal.{Refusal}
use Rattle.refusals.specs.declared.refusal.Refusal.TheVariants.{Invalid}
use Rattle.refusals.specs.declared.reason.Reason.TheVariants as reason
use Rattle.lexer.specs.Token.{Bytes}
use Rattle.replies.specs.declared.reply.Reply.{Reply}
use Rattle.replies.specs.declared.reply.Reply.TheVariants as says
use Rattle.script_pieces.specs.PieceMeaning.{Request, Asks}
use Rattle.replies.specs.Printed.{printed_reply}
use Rattle.replies.specs.Refused.{is_refusal}
use Rattle.session_definitions.specs.Refusals.{StopsFlush}
use Rattle.session_definitions.specs.Rules.{Rules}
use Rattle.session_definitions.specs.Run.{MakesSession, DropsSession}
use Rattle.session_definitions.specs.Step.{Step}
use Rattle.session_definitions.specs.World.{World}

-- Where a script stands: the world, the chosen session's number in the script, and, by these
-- numbers, the sessions that were made.
pub record Scene : Type 0 where
  pub world : World
  pub chosen : ℕ
  pub standing : FinMap nat_cmp ℕ

-- the first choice is session 1, and none is made yet
abbrev pub first_scene : World → Scene
first_scene w = record { world = w; chosen = 1; standing = empty }

abbrev pub choosing : Scene → ℕ → Scene
choosing scene k = record scene { chosen = k }

abbrev pub with_world : Scene → World → Scene
with_world scene w = record scene { world = w }

-- A call of the chosen session, which is made just before it where it does not stand. Where that is
-- refused, the refusal is the reply, and the session still does not stand.
pub data Plays (rules : Rules) (old : Scene) (text : Bytes) (reply : Reply) (new : Scene) : Type 0 where
  stands_already : (s : ℕ) (w : World) → get old.standing old.chosen ≡ Some s → Step rules old.world s text reply w
      → new ≡ with_world old w → Plays rules old text reply new
  made_now : (s : ℕ) (mid w : World) → get old.standing old.chosen ≡ None → MakesSession old.world (Ok s) mid
      → Step rules mid s text reply w
      → new ≡ record old { world = w; standing = insert old.standing old.chosen s } → Plays rules old text reply new
  not_made : (refusal : Refusal) (w : World) → get old.standing old.chosen ≡ None
      → MakesSession old.world (Err refusal) w
      → reply ≡ says.Refused refusal → new ≡ with_world old w → Plays rules old text reply new

-- The reply to flushes until no page is left, or until one is refused. They change no world.
abbrev pub RepliesToFlush : Reply → Type 0
RepliesToFlush reply = (reply ≡ says.Done) ⊎ ((refusal : Refusal) × StopsFlush refusal × (reply ≡ says.Refused refusal))

-- What a piece asks for is done, and a reply is printed where there is one.
abbrev pub Performs : Rules → Scene → Request → Option Reply → Scene → Type 0
Performs rules old Request.Nothing printed new = (printed ≡ None) × (new ≡ old)
Performs rules old (Request.Chooses k) printed new = (printed ≡ None) × (new ≡ choosing old k)
Performs rules old (Request.Calls text) printed new = (reply : Reply) × Plays rules old text reply new
    × (printed ≡ Some reply)
Performs rules old (Request.ChoosesAndCalls k text) printed new = (reply : Reply)
    × Plays rules (choosing old k) text reply new × (printed ≡ Some reply)
Performs rules old Request.Flushes printed new = (reply : Reply) × RepliesToFlush reply × (printed ≡ Some reply)
    × (new ≡ old)
Performs rules old Request.Wrong printed new = (printed ≡ Some (says.Refused (Invalid reason.Session))) × (new ≡ old)

-- whether some reply is a refusal; a piece that is wrong is refused too
abbrev pub is_refused : Option Reply → Bool
is_refused (Some reply) = is_refusal reply
is_refused None = false

abbrev pub has_refusal : List (Option Reply) → Bool
has_refusal = list_any is_refused

-- the text of what is printed
abbrev pub printed_replies : List (Option Reply) → List ℕ
printed_replies [] = []
printed_replies (None ∷ replies) = printed_replies replies
printed_replies (Some reply ∷ replies) = printed_reply reply ++ printed_replies replies

-- The pieces are carried out in order, with these replies.
abbrev pub ArePlayed : Rules → Scene → List (List ℕ) → List (Option Reply) → Scene → Type 0
ArePlayed rules old [] replies new = (replies ≡ []) × (new ≡ old)
ArePlayed rules old (piece ∷ pieces) replies new =
    (request : Request) × (reply : Option Reply) × (mid : Scene) × (others : List (Option Reply))
    × Asks piece request × Performs rules old request reply mid
    × ArePlayed rules mid pieces others new × (replies ≡ reply ∷ others)

-- sessions end, one after another
abbrev pub EndsSessions : World → List ℕ → World → Type 0
EndsSessions old [] new = new ≡ old
EndsSessions old (s ∷ ss) new = (mid : World) × DropsSession old s mid × EndsSessions mid ss new

-- A whole script from a world: its pieces, what it prints, and at its end the sessions that it made
-- end.
pub record IsPlayed (rules : Rules) (old : World) (pieces : List (List ℕ)) (printed : List ℕ) (new : World) : Type 0 where
  pub scene : Scene
  pub replies : List (Option Reply)
  pub carried_out : ArePlayed rules (first_scene old) pieces replies scene
  pub text : printed ≡ printed_replies replies
  pub ended : EndsSessions scene.world (values scene.standing) new

-- A script whose writer refused: the pieces up to one are carried out, and no later one; a
-- beginning of what they print was written, and at the end the sessions that were made end.
pub record IsStopped (rules : Rules) (old : World) (pieces : List (List ℕ)) (written : List ℕ) (new : World) : Type 0 where
  pub done : List (List ℕ)
  pub later : List (List ℕ)
  pub in_order : pieces ≡ done ++ later
  pub scene : Scene
  pub replies : List (Option Reply)
  pub carried_out : ArePlayed rules (first_scene old) done replies scene
  pub unwritten : List ℕ
  pub beginning : printed_replies replies ≡ written ++ unwritten
  pub ended : EndsSessions scene.world (values scene.standing) new
