use Rattle.std.proofs.Common.{subst, arith}
use Rattle.catalog_records.specs.Keepable.{IsIndex}
use Rattle.paged_store.proofs.KeepingLemmas.{all_step}
use Rattle.paged_store.proofs.keeping.are_indexes.Goals as goal

pub loop-index-preserved : goal.loop-index-preserved
loop-index-preserved c =
    all_step IsIndex c.args.indexes.now c.loop-index.index-index c.index-item.result (omega arith)
    (subst IsIndex c.index-item.is (record { root = omega arith; columns = rw c.as_slice.ensures at c.are_places.ensures })) c.loop-index.invariant
