use Rattle.std.proofs.Common.{◌≡◌, subst, arith}
use Rattle.sqlval.specs.declared.schema.Index.{Index}
use Rattle.paged_store.proofs.KeepingLemmas.{all_step}
use Rattle.paged_store.proofs.keeping.are_new.Goals as goal

pub loop-index-preserved : goal.loop-index-preserved
loop-index-preserved c =
    all_step (λ (x : Index). x.root ≡ 0) c.args.indexes.now c.loop-index.index-index c.index-item.result (omega arith)
    (subst (λ (x : Index). x.root ≡ 0) c.index-item.is c.if-index-ne0.false) c.loop-index.invariant
