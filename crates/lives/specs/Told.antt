-- Which events the pieces of a script ask for, and their replies. All of this is our own choice.
use Rattle.std.specs.Prelude.{◌≡◌, ℕ, List, [], ◌∷◌, ◌++◌, map, reverse, Option, Some, None, Ok, Err}
use Rattle.std.specs.Ordering.{nat_cmp}
use Rattle.std.specs.FinMap.{FinMap, get, insert, empty, values}
use Rattle.refusals.specs.declared.refusal.Refusal.{Refusal}
use Rattle.lexer.specs.Token.{Bytes}
use Rattle.replies.specs.declared.reply.Reply.{Reply}
use Rattle.replies.specs.declared.reply.Reply.TheVariants as says
use Rattle.script_pieces.specs.PieceMeaning.{Request, Asks}
use Rattle.session_definitions.specs.Asked.{Asked}
use Rattle.session_definitions.specs.Effect.{Effect}
use Rattle.session_definitions.specs.Run.{Event, Moment}

-- the events of a run, the latest first, as in a run
abbrev pub events_of : List Moment → List Event
events_of moments = map (λ (moment : Moment). moment.event) moments

-- Which session a script has chosen, by its number there, and those that it has made, by these
-- numbers.
pub record Chosen : Type 0 where
  pub number : ℕ
  pub made : FinMap nat_cmp ℕ

-- session 1 is chosen, and none is made yet
abbrev pub none_made : Chosen
none_made = record { number = 1; made = empty }

-- A text was asked and got this reply: by a call of the chosen session, which was made just before
-- where it did not stand; or it was not made, and that refusal is the reply.
pub data IsAsked (text : Bytes) (reply : Reply) (old new : Chosen) (events : List Event) : Type 0 where
  stood : (s : ℕ) (effect : Effect) → get old.made old.number ≡ Some s
      → events ≡ Event.Calls s (Asked.Text text) reply effect ∷ [] → new ≡ old → IsAsked text reply old new events
  made : (s : ℕ) (effect : Effect) → get old.made old.number ≡ None
      → events ≡ Event.Calls s (Asked.Text text) reply effect ∷ Event.Makes (Ok s) ∷ []
      → new ≡ record old { made = insert old.made old.number s } → IsAsked text reply old new events
  not_made : (refusal : Refusal) → get old.made old.number ≡ None → reply ≡ says.Refused refusal
      → events ≡ Event.Makes (Err refusal) ∷ [] → new ≡ old → IsAsked text reply old new events

-- What a piece asks for happened, with this reply. What is no call is no event: flushes change no
-- world.
abbrev pub IsDone : Request → Option Reply → Chosen → Chosen → List Event → Type 0
IsDone Request.Nothing reply old new events = (reply ≡ None) × (events ≡ []) × (new ≡ old)
IsDone (Request.Chooses k) reply old new events = (reply ≡ None) × (events ≡ []) × (new ≡ record old { number = k })
IsDone (Request.Calls text) reply old new events =
    (said : Reply) × IsAsked text said old new events × (reply ≡ Some said)
IsDone (Request.ChoosesAndCalls k text) reply old new events =
    (said : Reply) × IsAsked text said (record old { number = k }) new events × (reply ≡ Some said)
IsDone Request.Flushes reply old new events = (events ≡ []) × (new ≡ old)
IsDone Request.Wrong reply old new events = (events ≡ []) × (new ≡ old)

-- the pieces asked for these events, one after another, with these replies
abbrev pub AreDone : List (List ℕ) → List (Option Reply) → Chosen → Chosen → List Event → Type 0
AreDone [] replies old new events = (replies ≡ []) × (events ≡ []) × (new ≡ old)
AreDone (piece ∷ pieces) replies old new events =
    (request : Request) × (reply : Option Reply) × (mid : Chosen) × (others : List (Option Reply))
    × (first : List Event) × (later : List Event)
    × Asks piece request × IsDone request reply old mid first × (replies ≡ reply ∷ others) × (events ≡ later ++ first)
    × AreDone pieces others mid new later

-- A script: its pieces asked for events, each of the session that is chosen then, with these
-- replies; and then the sessions that it made were ended.
pub record IsScript (pieces : List (List ℕ)) (replies : List (Option Reply)) (moments : List Moment) : Type 0 where
  pub chosen : Chosen
  pub events : List Event
  pub whole : events_of moments ≡ map Event.Drops (reverse (values chosen.made)) ++ events
  pub done : AreDone pieces replies none_made chosen events
