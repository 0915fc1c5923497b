use Rattle.std.specs.Prelude.{◌≡◌, true, length}
use Rattle.std.specs.Vec.Iter.{into_iter_items, into_iter_len}
use Rattle.crossbeam_utils.specs.Seq.{cell_view}
use Rattle.shared.specs.Views.{AllHeard}
use Rattle.shared.proofs.lock.Shared.into_core.Given as goal

-- the pass knows the same history; where those that are left are heard in it, all are
abbrev pub invariant-loop-client : goal.invariant-loop-client
invariant-loop-client g l =
    let v = cell_view l.keeper in let was = cell_view l.initial.keeper in
    (l.keeper.table_id ≡ l.initial.keeper.table_id)
    × (v.keeps ≡ true)
    × (v.log ≡ was.log)
    × (into_iter_len l.client-iterator ≡ length (into_iter_items l.client-iterator))
    × (AllHeard was.log (into_iter_items l.client-iterator) → AllHeard was.log (into_iter_items l.initial.client-iterator))
