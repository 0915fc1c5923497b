-- What steps give: the rows that were given, before what is left now, are what was left.
use Rattle.std.specs.Prelude.{◌≡◌, ◌⊎◌, false, List, Result, Err, Some, IfOk}
use Rattle.sqlval.specs.Value.{Row}
use Rattle.algebra.specs.declared.tree.Tree.{Tree}
use Rattle.denote.specs.Outcome.{Outcome}
use Rattle.store.specs.declared.error.StoreError.{StoreError}
use Rattle.store.specs.declared.error.StoreError.TheVariants.{Memory}
use Rattle.executor.specs.declared.listed.Listed.{Listed}
use Rattle.places.specs.declared.place.Members.{Members}
use Rattle.places.specs.declared.place.Place.{Place}
use Rattle.places.specs.declared.place.Place.TheVariants.{Start}
use Rattle.places.specs.Joins.{Join, Pairing, joined_on}
use Rattle.places.specs.Left.{Entries, before, left}
use Rattle.places.specs.Views.{ByKeys, Paired, Pairs, asked_above, by_keys, is_whole, keyed_left, paired, standing}
use Rattle.streams.specs.declared.step.Step.{Step}

-- rows of a tree and its place behind them
abbrev pub RowsGive : Entries → Tree → Outcome → Result (List Row) StoreError → Place → Type 0
RowsGive entries tree whole rows place = IfOk rows (λ found. before found (left entries place tree) ≡ whole)

abbrev pub StepGives : Entries → Tree → Outcome → Result Step StoreError → Type 0
StepGives entries tree whole step = IfOk step (λ made. before made.rows (left entries made.place tree) ≡ whole)

-- want of memory, or the refusal of what was made before
abbrev pub IsPassed : {A : Type 0} → Result A StoreError → StoreError → Type 0
IsPassed made error = (error ≡ Memory) ⊎ (made ≡ Err error)

-- ---- what is left of a tree at the places of joins

-- a place where a join stands that reads its right side anew for each left row
pub record StandsAt (place : Place) (at : Paired) : Type 0 where
  pub goes_on : is_whole place ≡ false
  pub stands : standing place ≡ Pairs at
  pub paired : paired place ≡ at

-- such a join: the right side of each left row is a tree
abbrev pub IsPaired : Entries → Tree → Pairing → (Row → List Row) → (Row → Tree) → Tree → Type 0
IsPaired entries tree pairing others right_of rows = (place : Place) (at : Paired) → StandsAt place at
    → left entries place tree ≡ joined_on pairing others at.row at.matched
    (λ one. (left entries at.right (right_of one)).rows) (before at.ahead (left entries at.left rows))

-- one that keeps its right rows by keys
abbrev pub IsKeyed : Entries → Tree → Join → Type 0
IsKeyed entries tree join = (place : Place) (at : ByKeys) → is_whole place ≡ false → by_keys place ≡ Some at
    → left entries place tree ≡ keyed_left entries join at

-- the place of a `Member` before its first row, once its members are listed
pub record BeginsMember (place : Place) (listed : Listed) : Type 0 where
  pub members : Members
  pub is : place ≡ asked_above members Start
  pub rows : members.rows ≡ listed.rows
  pub fault : members.fault ≡ listed.fault
