-- What `sqlsh load` and `sqlsh dump` do over a store that was opened. All of this is our own
-- choice.
use Rattle.std.specs.Prelude.{◌≡◌, ◌≤◌, ◌++◌, ℕ, Bool, true, false, List, codes, decimal, Option, Some, None, IfSome, Result, Ok, Err}
use Rattle.refusals.specs.declared.refusal.Refusal.{Refusal}
use Rattle.refusals.specs.declared.refusal.Refusal.TheVariants.{Disk}
use Rattle.lexer.specs.Token.{Bytes}
use Rattle.denote.specs.Database.{Database, CheckReading, IsGood}
use Rattle.replies.specs.declared.reply.Reply.{Reply}
use Rattle.replies.specs.declared.reply.Reply.TheVariants as says
use Rattle.replies.specs.Printed.{printed_reply}
use Rattle.replies.specs.Refused.{is_refusal}
use Rattle.replies.specs.Writes.{Writes}
use Rattle.session_definitions.specs.Rules.{Rules}
use Rattle.session_definitions.specs.Run.{MakesSession}
use Rattle.session_definitions.specs.World.{World}
use Rattle.endings.specs.Ended.{HasRefused, TellsBehind}
use Rattle.endings.specs.Tells.{Tells}
use Rattle.csvio.specs.Batches.{LoadsBatches}
use Rattle.csvio.specs.Dumping.{Dumps}
use Rattle.csvio.specs.Loading.{Loads}

-- ---- the calls

-- A session is made, and in it the rows of the input are loaded; or none is made, and the refusal
-- of that is answered.
pub data LoadsAlone (rules : Rules) (table : Bytes) (input : Option (List ℕ)) (old : World) (reply : Reply) (new : World) : Type 0 where
  unmade : (refusal : Refusal) → MakesSession old (Err refusal) new → reply ≡ says.Refused refusal
      → LoadsAlone rules table input old reply new
  loads : (s : ℕ) (begun : World) → MakesSession old (Ok s) begun → Loads rules begun s table input reply new
      → LoadsAlone rules table input old reply new

-- A session is made, and in it the rows of the input are loaded by batches; or none is made, and
-- the refusal of that is answered. So many rows stand committed.
pub data LoadsBatchesAlone (rules : Rules) (table : Bytes) (most : ℕ) (input : Option (List ℕ)) (old : World) (reply : Reply) (committed : ℕ) (new : World) : Type 0 where
  unmade : (refusal : Refusal) → MakesSession old (Err refusal) new → reply ≡ says.Refused refusal → committed ≡ 0
      → LoadsBatchesAlone rules table most input old reply committed new
  loads : (s : ℕ) (begun : World) → MakesSession old (Ok s) begun
      → LoadsBatches rules begun s table most input reply committed new
      → LoadsBatchesAlone rules table most input old reply committed new

-- the line that says behind how many records a load by batches stopped
abbrev pub note_text : ℕ → List ℕ
note_text committed = codes "stopped behind " ++ (decimal committed ++ codes " records\n")

-- nothing is said of a load that was not refused; of another that line, or a beginning of it
pub data Notes (reply : Reply) (committed : ℕ) (held holds : Option (List ℕ)) : Type 0 where
  silent : is_refusal reply ≡ false → holds ≡ held → Notes reply committed held holds
  stopped : (whole : Bool) → is_refusal reply ≡ true → Writes held holds whole (note_text committed)
      → Notes reply committed held holds

-- It is loaded by batches, and a note says where that stopped.
pub record LoadsNoted (rules : Rules) (table : Bytes) (most : ℕ) (input noted notes : Option (List ℕ)) (old : World) (reply : Reply) (new : World) : Type 0 where
  pub committed : ℕ
  pub loads : LoadsBatchesAlone rules table most input old reply committed new
  pub says : Notes reply committed noted notes

-- A session is made, and in it the table is dumped; or none is made, and the refusal of that is
-- answered.
pub data DumpsAlone (rules : Rules) (table : Bytes) (held holds : Option (List ℕ)) (old : World) (reply : Reply) (new : World) : Type 0 where
  unmade : (refusal : Refusal) → MakesSession old (Err refusal) new → reply ≡ says.Refused refusal → holds ≡ held
      → DumpsAlone rules table held holds old reply new
  dumps : (s : ℕ) (begun : World) → MakesSession old (Ok s) begun → Dumps rules begun s table held holds reply new
      → DumpsAlone rules table held holds old reply new

-- ---- what is printed, and the status

-- 3 where the reply was not printed whole; else 1 where it is a refusal
abbrev pub status_with : Bool → Bool → ℕ
status_with false refused = 3
status_with true true = 1
status_with true false = 0

-- the reply is printed, of which the status tells
pub record Answers (reply : Reply) (status : ℕ) (is_told : Bool) (held holds : Option (List ℕ)) : Type 0 where
  pub printed : Writes held holds is_told (printed_reply reply)
  pub status_is : status ≡ status_with is_told (is_refusal reply)

-- The store is closed, and nothing more is said; or the device refused that, which is told behind
-- what was said before, with status 3.
pub data Closes {D C : Type 0} (was : ℕ) (was_told : Bool) (held holds : Option (List ℕ)) (status : ℕ) (is_told : Bool) (device : Option D) (core : Option C) : Type 0 where
  closed : (back : D) → device ≡ Some back → holds ≡ held → status ≡ was → is_told ≡ was_told
      → Closes was was_told held holds status is_told device core
  not_closed : (back : C) → core ≡ Some back → device ≡ None → TellsBehind was_told is_told Disk held holds → status ≡ 3
      → Closes was was_told held holds status is_told device core

-- What is handed back of any device: it was closed, is synced behind its last write, and counts the
-- refused calls from before; or it is kept by the core that was not closed, which counts more of
-- them.
pub data HandsBack {D C : Type 0} (settled : D → Type 0) (calls : D → ℕ) (refused : C → ℕ) (before : ℕ) (device : Option D) (core : Option C) : Type 0 where
  closed : (back : D) → device ≡ Some back → settled back → before ≤ calls back
      → HandsBack settled calls refused before device core
  not_closed : device ≡ None → HasRefused refused before core → HandsBack settled calls refused before device core

-- ---- the commands

-- The calls were made in this world, the last reply was printed, and the store was closed; what was
-- committed last is saved on the device, if this was closed, and is good.
pub record Transfers {D C : Type 0} (does : World → Reply → World → Type 0) (saved : D → Database → Type 0) (reading : CheckReading) (old : World) (held holds : Option (List ℕ)) (status : ℕ) (is_told : Bool) (device : Option D) (core : Option C)
    : Type 0 where
  pub reply : Reply
  pub end : World
  pub was : ℕ
  pub was_told : Bool
  pub mid : Option (List ℕ)
  pub done : does old reply end
  pub answers : Answers reply was was_told held mid
  pub closes : Closes was was_told mid holds status is_told device core
  pub left : IfSome device (λ back. saved back end.last)
  pub good : IsGood reading end.last

-- The CSV could not be opened: X0002 is said, the status is 3, and the store was closed as it was.
pub record LacksCsv {D C : Type 0} (held holds : Option (List ℕ)) (status : ℕ) (is_told : Bool) (device : Option D) (core : Option C) : Type 0 where
  pub was_told : Bool
  pub mid : Option (List ℕ)
  pub told : Tells Disk was_told held mid
  pub closes : Closes 3 was_told mid holds status is_told device core

-- Nothing was opened: X0002 is said, and the status is 3.
pub record IsRefused (held holds : Option (List ℕ)) (status : ℕ) : Type 0 where
  pub is_told : Bool
  pub told : Tells Disk is_told held holds
  pub failed : status ≡ 3
