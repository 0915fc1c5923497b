use Rattle.std.proofs.Common.{arith, ◌≡◌, ◌<◌, ◌∙◌, ℕ, List, length, ap, subst}
use Rattle.std.specs.Prelude.{slice_index_or}
use Rattle.database_trees.proofs.RootLemmas.{index_any, put_more, put_end}
use Rattle.database_trees.proofs.settling.indexes_with.Goals as goal

pub loop-at-preserved : goal.loop-at-preserved
loop-at-preserved c = c.put_root.ensures ∙ put_more c.args.roots.now c.args.indexes c.loop-at.changed c.loop-at.at _ (subst (λ (rs : List ℕ). c.loop-at.at < length rs) c.as_slice-root-items.ensures c.loop-at-test.true) (ap (λ (rs : List ℕ). slice_index_or rs c.loop-at.at 0) c.as_slice-root-items.ensures ∙ index_any c.args.roots.now c.loop-at.at 0 _ (subst (λ (rs : List ℕ). c.loop-at.at < length rs) c.as_slice-root-items.ensures c.loop-at-test.true)) c.loop-at.invariant

pub returns : goal.returns
returns c =
    let end : c.loop-at.at ≡ length c.as_slice-root-items.result.now = omega (arith, c.loop-at-test.false, c.loop-at.auto.at-end) in
    put_end c.args.roots.now c.args.indexes c.loop-at.changed c.loop-at.at (end ∙ ap length c.as_slice-root-items.ensures) c.loop-at.invariant
