use Rattle.std.proofs.Common.{subst, arith}
use Rattle.catalog_records.specs.Keepable.{IsColumn}
use Rattle.paged_store.proofs.KeepingLemmas.{all_step}
use Rattle.paged_store.proofs.keeping.are_columns.Goals as goal

pub loop-column-preserved : goal.loop-column-preserved
loop-column-preserved c =
    all_step IsColumn c.args.columns.now c.loop-column.column-index c.column-item.result (omega arith)
    (subst IsColumn c.column-item.is (c.is_column.ensures c.if-not-is_column.false)) c.loop-column.invariant
