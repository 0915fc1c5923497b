-- Plans of one table that is scanned, under filters and projections. A step reads as many rows as
-- it is asked for, or all that are left, and then stands behind the last that it read. So in steps
-- of one row a step that gives a row has read that row alone, and the count is the row's place in
-- the scan.
use Rattle.std.specs.Prelude.{◌≡◌, ◌≤◌, ◌⊎◌, ℕ, ◌+◌, min, Bool, true, false, List, length, Option, None, Result, IfOk}
use Rattle.std.specs.Option.{option_to_list}
use Rattle.sqlval.specs.Value.{Row}
use Rattle.algebra.specs.declared.tree.Tree.{Tree, Tree-F, fold-Tree}
use Rattle.denote.specs.declared.fault.Fault.{Fault}
use Rattle.store.specs.declared.error.StoreError.{StoreError}
use Rattle.store.specs.View.{counted_on}
use Rattle.places.specs.declared.place.Place.{Place, Place-F, fold-Place, out-Place}
use Rattle.places.specs.declared.place.Place.TheVariants as p
use Rattle.places.specs.Left.{Entries}
use Rattle.places.specs.Views.{Layer}
use Rattle.streams.specs.declared.step.Step.{Step}
use Rattle.streams.specs.Reads.{Once, once_in_condition, once_in_expression, once_in_function, to_read}

-- ---- such plans

abbrev pub over_scan_at : Once Tree-F → Bool
over_scan_at (Tree-F.Scan table) = true
over_scan_at (Tree-F.Filter condition tree) = tree
over_scan_at (Tree-F.Project items tree) = tree
over_scan_at _ = false

unfoldable pub is_over_scan : Tree → Bool
is_over_scan = fold-Tree _ _ _ _ once_in_condition once_in_expression once_in_function over_scan_at

-- ---- their places

-- whether no list is kept at a place, and none has ended
abbrev pub walks_at : Place-F Bool → Bool
walks_at (Place-F.Kept rows fault) = false
walks_at (Place-F.Ended fault) = false
walks_at (Place-F.Through below) = below
walks_at _ = true

unfoldable pub walks : Place → Bool
walks = fold-Place _ walks_at

-- it walks on, or has ended
abbrev pub WalksOn : Place → Type 0
WalksOn place = (walks place ≡ true) ⊎ ((fault : Option Fault) × place ≡ p.Ended fault)

-- the fault by which it has ended, if there is one
abbrev pub fault_in : Layer → Option Fault
fault_in (Place-F.Ended fault) = fault
fault_in _ = None

abbrev pub fault_of : Place → Option Fault
fault_of place = fault_in (out-Place place)

-- ---- what a step reads

-- Of `to_come` rows as many as `most` are read, or all that there are, and counted on `was`. Each
-- gives a row, none, or the fault that ends the list; without one, all others are still to be read.
pub record ReadsAhead (entries : Entries) (tree : Tree) (to_come was count most : ℕ) (rows : List Row) (next : Place) : Type 0 where
  pub read : ℕ
  pub exact : read ≡ min most to_come
  pub counted : count ≡ counted_on was read
  pub gives : length rows + length (option_to_list (fault_of next)) ≤ read
  pub left : fault_of next ≡ None → read + to_read entries next tree ≡ to_come
  pub goes_on : WalksOn next

abbrev pub RowsAhead : Entries → Tree → ℕ → ℕ → ℕ → ℕ → Result (List Row) StoreError → Place → Type 0
RowsAhead entries tree to_come was count most rows next =
    IfOk rows (λ found. ReadsAhead entries tree to_come was count most found next)

abbrev pub StepAhead : Entries → Tree → ℕ → ℕ → ℕ → ℕ → Result Step StoreError → Type 0
StepAhead entries tree to_come was count most step =
    IfOk step (λ made. ReadsAhead entries tree to_come was count most made.rows made.place)
