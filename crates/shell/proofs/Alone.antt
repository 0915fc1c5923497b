-- A run whose device is not handed back.
use Rattle.std.proofs.Common.{◌≡◌, refl, ℕ, Bool, false, List, [], Option, Some, None, Result, Ok, Err, subst}
use Rattle.std.specs.Prelude.{IfOk, IfSome, OnErr}
use Rattle.std.specs.Borrow.{Bor}
use Rattle.denote.specs.Database.{IsGood}
use Rattle.refusals.specs.declared.refusal.Refusal.TheVariants.{Disk}
use Rattle.session_definitions.specs.Rules.{Rules}
use Rattle.session_definitions.specs.World.{World}
use Rattle.scripts.specs.Played.{Streams, between}
use Rattle.shell.specs.Alone.{EndsAlone, IsRefused, RunsInMemory}
use Rattle.shell.specs.Runs.{Ends, EndsOverFile, Left, Runs, ScriptEnds, database_in}
use Rattle.endings.specs.Ended.{HasSameBytes}
use Rattle.endings.specs.Tells.{Tells}
use Rattle.shell.specs.Words.{name_of}
use Rattle.std.proofs.KnownBytes.{Appends-nil}
use Rattle.replies.specs.Printed.{printed_reply}
use Rattle.replies.specs.declared.reply.Reply.TheVariants as says

-- nothing is said
pub unsaid : (held : Option (List ℕ)) → Tells Disk false held held
unsaid held = record { front = []; rest = printed_reply (says.Refused Disk); whole = refl; taken = Appends-nil held; complete = λ done. absurd (cc) }

-- what was refused behind a command line
pub refused_alone : (streams : Streams) (status : ℕ) → IsRefused streams status → EndsAlone streams status
refused_alone streams status r = EndsAlone.not_opened r.is_told Disk r.unread r.told r.failed

pub refused_in_memory : (rules : Rules) (old : World) (streams : Streams) (status : ℕ) → IsGood rules.check old.last → IsRefused streams status → RunsInMemory rules old streams status
refused_in_memory rules old streams status good r = record { is_told = r.is_told; runs = Runs.not_opened Disk tt r.unread r.told r.failed good }

-- a file that is named has a name
pub has_name : (file : Option (Bor (List ℕ))) (path : Bor (List ℕ)) → file ≡ Some path → name_of file ≡ None → ⊥
has_name file path is none = let bad : Some path.now ≡ None = subst (λ (f : Option (Bor (List ℕ))). name_of f ≡ None) is none in cc

module _ {D C : Type 0} (settled : D → Type 0) (calls : D → ℕ) (refused : C → ℕ) (streams : Streams) (status : ℕ) (is_told : Bool) (device : Option D) (core : Option C) where
  pub ends_alone : (same_bytes : Option D → Type 0) (before : ℕ) → before ≡ 0 → Ends same_bytes settled calls refused before streams status is_told device core → EndsAlone streams status
  ends_alone same_bytes before none (Ends.not_opened h) = EndsAlone.not_opened is_told h.refusal h.unread h.told h.failed
  ends_alone same_bytes before none (Ends.closed back there synced least script) =
      EndsAlone.closed is_told (calls back) (subst (λ (n : ℕ). ScriptEnds streams n status is_told (calls back)) none script)
  ends_alone same_bytes before none (Ends.not_closed was after was_told mid script told is gone risen counted) =
      EndsAlone.not_closed is_told was_told was after mid (subst (λ (n : ℕ). ScriptEnds (between streams.given streams.left streams.held mid) n was was_told after) none script) told is

  -- over a file
  module _ (is_honest : D → Type 0) (same : D → D → Type 0) where
    pub over_file : {E : Type 0} (opened : Result D E) → IfOk opened (λ found. calls found ≡ 0) → IfOk opened (λ found. Ends (HasSameBytes is_honest same found) settled calls refused (calls found) streams status is_told device core)
        → OnErr opened ((streams.left ≡ streams.given) × Tells Disk is_told streams.held streams.holds × (status ≡ 3)) → OnErr opened ((device ≡ None) × (core ≡ None))
        → EndsOverFile is_honest same settled calls refused streams status is_told device core
    over_file (Ok found) none ends failed nothing = EndsOverFile.over found none ends
    over_file (Err error) none ends failed nothing = EndsOverFile.not_opened failed.0 failed.1 failed.2 nothing.0 nothing.1

    pub file_alone : EndsOverFile is_honest same settled calls refused streams status is_told device core → EndsAlone streams status
    file_alone (EndsOverFile.not_opened unread told is gone closed) = EndsAlone.not_opened is_told Disk unread told is
    file_alone (EndsOverFile.over opened none ends) = ends_alone (HasSameBytes is_honest same opened) (calls opened) none ends

module _ (rules : Rules) (old : World) (streams : Streams) (status : ℕ) (is_told : Bool) where
  runs_so : (P Q : Left → Type 0) → ((left : Left) → P left → Q left) → Runs rules old streams status is_told P → Runs rules old streams status is_told Q
  runs_so P Q so (Runs.not_opened refusal stops unread told is left) = Runs.not_opened refusal stops unread told is (so _ left)
  runs_so P Q so (Runs.closed end carried left) = Runs.closed end carried (so _ left)
  runs_so P Q so (Runs.not_closed before was_told mid end carried told is left) = Runs.not_closed before was_told mid end carried told is (so _ left)

  pub runs_alone : (P : Left → Type 0) → Runs rules old streams status is_told P → ((left : Left) → P left → IfSome (database_in left) (IsGood rules.check)) → RunsInMemory rules old streams status
  runs_alone P ran good = record { is_told = is_told; runs = runs_so _ _ good ran }
