use Rattle.std.proofs.Common.{arith, ◌≡◌, ◌<◌, ◌∙◌, ℕ, List, length, ap, subst}
use Rattle.std.specs.Prelude.{slice_index_or}
use Rattle.database_trees.proofs.RootLemmas.{index_any, has_root_more, has_all}
use Rattle.database_trees.proofs.settling.begin_at.Goals as goal

pub loop-at-preserved : goal.loop-at-preserved
loop-at-preserved c = has_root_more c.args.roots.now c.args.indexes.now c.loop-at.at _ (subst (λ (rs : List ℕ). c.loop-at.at < length rs) c.as_slice-root-items.ensures c.loop-at-test.true) (ap (λ (rs : List ℕ). slice_index_or rs c.loop-at.at 0) c.as_slice-root-items.ensures ∙ index_any c.args.roots.now c.loop-at.at 0 _ (subst (λ (rs : List ℕ). c.loop-at.at < length rs) c.as_slice-root-items.ensures c.loop-at-test.true)) (c.begins_at.ensures c.if-not-begins_at.false) c.loop-at.invariant

pub returns : goal.returns
returns c = λ _.
    let end : c.loop-at.at ≡ length c.as_slice-root-items.result.now = omega (arith, c.loop-at-test.false, c.loop-at.auto.at-end) in
    has_all c.args.roots.now c.args.indexes.now c.loop-at.at (end ∙ ap length c.as_slice-root-items.ensures) c.loop-at.invariant
