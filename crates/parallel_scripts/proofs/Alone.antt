-- What scripts come to, with no word of what is handed back.
use Rattle.std.proofs.Common.{◌≡◌, ℕ, Bool, List, [], ◌∷◌, Option, Ok, Err, subst}
use Rattle.replies.specs.declared.reply.Reply.{Reply}
use Rattle.replies.specs.declared.reply.Reply.TheVariants as says
use Rattle.session_definitions.specs.World.{World}
use Rattle.shared.specs.Scripts.{AllTellDeviceIf, Answer, Script, Text, TellsDeviceIf}
use Rattle.parallel_scripts.specs.Alone.{EndsAlone}
use Rattle.parallel_scripts.specs.Cut.{Parts}
use Rattle.parallel_scripts.specs.Ends.{Ends}
use Rattle.parallel_scripts.specs.Handed.{Left}
use Rattle.parallel_scripts.specs.Many.{ComesTo, Cuts, Opens, Runs, Shows}
use Rattle.parallel_scripts.specs.Shown.{Answers}

-- so many scripts end as others of that number do
pub ends_for : {count number : ℕ} {held holds : Option (List ℕ)} {exit : ℕ} → count ≡ number → EndsAlone count held holds exit → EndsAlone number held holds exit
ends_for {held = held} {holds = holds} {exit = exit} same ends = subst (λ (n : ℕ). EndsAlone n held holds exit) same ends

tells_any : (answer : Answer) → TellsDeviceIf (Unit {0}) answer
tells_any (Err refusal) = λ _. tt
tells_any (Ok reply) = replied reply where
  replied : (reply : Reply) → TellsDeviceIf (Unit {0}) (Ok reply)
  replied (says.Refused refusal) = λ _. tt
  replied _ = tt

all_tell_any : (answers : List Answer) → AllTellDeviceIf (Unit {0}) answers
all_tell_any [] = tt
all_tell_any (answer ∷ answers) = (tells_any answer, all_tell_any answers)

module _ (start : World) (hands : Left → Type 0) (has_refused : Type 0) where
  shows_alone : (end : World) (parts : List Parts) (answers : List Answers) (text : List ℕ) (status : ℕ) → Shows hands end parts answers text status
      → Shows (λ left. Unit {0}) end parts answers text status
  shows_alone end parts answers text status (Shows.closed is told left) = Shows.closed is told tt
  shows_alone end parts answers text status (Shows.not_closed is told left) = Shows.not_closed is told tt

  runs_alone : (scripts : List Script) (parts : List Parts) (text : List ℕ) (status : ℕ) → Runs start hands has_refused scripts parts text status
      → Runs start (λ left. Unit {0}) (Unit {0}) scripts parts text status
  runs_alone scripts parts text status (Runs.no_memory told left) = Runs.no_memory told tt
  runs_alone scripts parts text status (Runs.ran answers end ran shows) =
      Runs.ran answers end (record { history = ran.history; device = λ k one is. all_tell_any one.items; limits = ran.limits }) (shows_alone end parts answers text status shows)

  opens_alone : (scripts : List Script) (parts : List Parts) (text : List ℕ) (status : ℕ) → Opens start hands has_refused scripts parts text status
      → Opens start (λ left. Unit {0}) (Unit {0}) scripts parts text status
  opens_alone scripts parts text status (Opens.not_opened refusal stops told left) = Opens.not_opened refusal stops told tt
  opens_alone scripts parts text status (Opens.opened runs) = Opens.opened (runs_alone scripts parts text status runs)

  cuts_alone : (scripts : List Text) (text : List ℕ) (status : ℕ) → Cuts start hands has_refused scripts text status → Cuts start (λ left. Unit {0}) (Unit {0}) scripts text status
  cuts_alone scripts text status (Cuts.no_room told left) = Cuts.no_room told tt
  cuts_alone scripts text status (Cuts.cut texts parts are opens) = Cuts.cut texts parts are (opens_alone texts parts text status opens)

  comes_to_alone : (scripts : List Text) (text : List ℕ) (status : ℕ) → ComesTo start hands has_refused scripts text status → ComesTo start (λ left. Unit {0}) (Unit {0}) scripts text status
  comes_to_alone scripts text status (ComesTo.too_many more told left) = ComesTo.too_many more told tt
  comes_to_alone scripts text status (ComesTo.within few cuts) = ComesTo.within few (cuts_alone scripts text status cuts)

  pub ends_alone : (scripts : List Text) (held holds : Option (List ℕ)) (exit : ℕ) (is_told : Bool) → Ends (ComesTo start hands has_refused scripts) held holds exit is_told
      → Ends (ComesTo start (λ left. Unit {0}) (Unit {0}) scripts) held holds exit is_told
  ends_alone scripts held holds exit is_told (Ends.written text means written told) = Ends.written text (comes_to_alone scripts text exit means) written told
  ends_alone scripts held holds exit is_told (Ends.not_written text status mid means some line failed) =
      Ends.not_written text status mid (comes_to_alone scripts text status means) some line failed
