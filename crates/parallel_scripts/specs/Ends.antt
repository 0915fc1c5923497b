-- How what prints ends: the text that is written, and the exit status. All of this is our own
-- choice.
use Rattle.std.specs.Prelude.{◌≡◌, ◌⊎◌, ℕ, Bool, true, false, List, Option, Result, is_ok, IfOk, MatchResult}
use Rattle.std.specs.Io.KnownBytes.{Keeps}
use Rattle.refusals.specs.declared.refusal.Refusal.{Refusal}
use Rattle.refusals.specs.declared.refusal.Refusal.TheVariants.{Disk}
use Rattle.replies.specs.declared.reply.Reply.TheVariants as says
use Rattle.replies.specs.Printed.{printed_reply}
use Rattle.replies.specs.Writes.{Writes}

-- no reply was a refusal; some reply was one, or the scripts were refused; something went wrong
-- around them
abbrev pub IsStatus : ℕ → Type 0
IsStatus status = (status ≡ 0) ⊎ (status ≡ 1) ⊎ (status ≡ 3)

-- the line of a refusal
abbrev pub refusal_line : Refusal → List ℕ
refusal_line refusal = printed_reply (says.Refused refusal)

-- the text is the line of this refusal alone, and the status is this one
abbrev pub Tells : Refusal → ℕ → List ℕ → ℕ → Type 0
Tells refusal told text status = (text ≡ refusal_line refusal) × (status ≡ told)

-- A text was written, and the answer is its status, as `means` says; or the writer refused, and a
-- beginning of it was written.
pub record Puts {E : Type 0} (means : List ℕ → ℕ → Type 0) (held holds : Option (List ℕ)) (answer : Result ℕ E) : Type 0 where
  pub text : List ℕ
  pub status : ℕ
  pub meaning : means text status
  pub written : Writes held holds (is_ok answer) text
  pub is : IfOk answer (λ s. s ≡ status)

-- A text was written and passed on, and the exit status is its status. Or the writer refused: a
-- beginning of the text was written, and of the line of X0002 behind it a beginning, or all where
-- that is told; and the exit status is 3.
pub data Ends (means : List ℕ → ℕ → Type 0) (held holds : Option (List ℕ)) (exit : ℕ) (is_told : Bool) : Type 0 where
  written : (text : List ℕ) → means text exit → Writes held holds true text → is_told ≡ true
      → Ends means held holds exit is_told
  not_written : (text : List ℕ) (status : ℕ) (mid : Option (List ℕ)) → means text status → Writes held mid false text
      → Writes mid holds is_told (refusal_line Disk) → exit ≡ 3
      → Ends means held holds exit is_told

-- the fault of the writer is told, or a beginning of it
abbrev pub EndsRefused : Option (List ℕ) → Option (List ℕ) → ℕ → Bool → Type 0
EndsRefused held holds exit is_told = Writes held holds is_told (refusal_line Disk) × (exit ≡ 3)

-- what was written is passed on; where the writer refuses that, or refused before, its fault is
-- told
abbrev pub EndsBy : {E : Type 0} → Result ℕ E → Option (List ℕ) → Option (List ℕ) → ℕ → Bool → Type 0
EndsBy outcome held holds exit is_told =
    MatchResult outcome (λ status. Keeps held holds × (exit ≡ status) × (is_told ≡ true)
    ⊎ EndsRefused held holds exit is_told) (λ _. EndsRefused held holds exit is_told)
