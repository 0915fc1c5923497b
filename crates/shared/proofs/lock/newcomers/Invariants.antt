use Rattle.std.proofs.Common.{◌≡◌, ℕ, Some, [], length, slice_get}
use Rattle.crossbeam_utils.specs.Seq.{cell_view}
use Rattle.shared.specs.Views.{keeper, IsNew, Past}
use Rattle.shared.proofs.lock.newcomers.Given as goal

abbrev pub invariant-loop-number : goal.invariant-loop-number
invariant-loop-number g l =
    (l.keeper.table_id ≡ l.initial.keeper.table_id)
    × (cell_view l.keeper ≡ keeper l._number [])
    × (length l.callers.items ≡ l._number)
    × ((k : ℕ) (caller : Past) → slice_get l.callers.items k ≡ Some caller → IsNew k caller)
