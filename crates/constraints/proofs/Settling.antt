-- A change of a table's rows whose would-be database was looked at.
use Rattle.std.proofs.Common.{◌≡◌, ◌∙◌, refl, sym, ap, subst, ℕ, List, [], ◌∷◌, Some, arith}
use Rattle.std.specs.Prelude.{Contains}
use Rattle.std.specs.FinMap.{insert}
use Rattle.refusals.specs.declared.refusal.Refusal.{Refusal}
use Rattle.sqlval.specs.Value.{Row}
use Rattle.typing.specs.declared.statement.Change.{Change}
use Rattle.denote.specs.Change.{Changed, changed, with_rows, unless_violated, IsNamed}
use Rattle.denote.specs.Change.Changed.{Makes}
use Rattle.denote.specs.Database.{Name, Table, Database, CheckReading, violated_in}
use Rattle.store.specs.Contents.{Contents}
use Rattle.store.specs.Stored.{Stored, SameButMark, marked_now, undone, working_on}
use Rattle.constraints.specs.Changed.{RefusesChange}
use Rattle.constraints.specs.Matched.{AllHold, BreaksAny}

-- what goes back to the mark
pub undone_all : (old mid new : Stored) (c : Contents) → mid ≡ working_on (marked_now old) c → new ≡ undone mid → SameButMark old new
undone_all old mid new c e u =
    let back : new ≡ marked_now old = u ∙ ap undone e in
    subst (λ (s : Stored). SameButMark old s) (sym back) (record { commits = refl; last = refl; readers = refl; working = refl })

is_named : (names : List Name) (db : Database) (count : ℕ) (name : Name) → Contains names name → IsNamed (unless_violated names db count) name
is_named [] db count name one = absurd (let below = one.1 in omega (arith, below))
is_named (n ∷ names) db count name one = one

module _ (reading : CheckReading) (db made : Database) (name : Name) (table : Table) (rows : List Row) (count : ℕ) (is : made ≡ insert db name (record table { rows = rows })) where
  -- where the would-be database violates nothing, it is made
  pub makes : AllHold reading made → with_rows reading db name table rows count ≡ Makes made (Some count)
  makes holds =
      ap (λ names. unless_violated names (insert db name (record table { rows = rows })) count) (subst (λ (m : Database). violated_in reading m ≡ []) is holds)
      ∙ ap (λ (m : Database). Makes m (Some count)) (sym is)

  -- else the change is refused
  pub refuses : (change : Change) (refusal : Refusal) → changed reading db change ≡ with_rows reading db name table rows count → BreaksAny reading made refusal
      → RefusesChange reading db change refusal
  refuses change refusal e (BreaksAny.withheld reserved) = RefusesChange.withheld reserved
  refuses change refusal e (BreaksAny.violates constraint says_so one) =
      let new : Database = insert db name (record table { rows = rows }) in
      RefusesChange.violates constraint says_so
      (subst (λ (c : Changed). IsNamed c constraint) (sym e)
      (is_named (violated_in reading new) new count constraint (subst (λ (m : Database). Contains (violated_in reading m) constraint) is one)))
