use Rattle.std.proofs.Common.{arith, ◌≡◌, ◌<◌, ◌∙◌, ap, List, length, subst, false}
use Rattle.std.specs.Prelude.{slice_index_or}
use Rattle.sqlval.specs.declared.schema.Index.{Index}
use Rattle.database_trees.specs.Dropped.{AreIndexes}
use Rattle.database_trees.proofs.DropLemmas.{gone_first, gone_next, gone_all, tree_here}
use Rattle.btree.specs.Overfull.{IsNoTreeIn}
use Rattle.database_trees.proofs.UnindexLemmas.{exit_fault}
use Rattle.database_trees.proofs.dropping.drop_indexes.Goals as goal

pub loop-index-init : goal.loop-index-init
loop-index-init g c = record {
  gone = λ alone. gone_first (g.S.PageReader.pages c.args.space.now) c.args.indexes.now;
  whole = λ h. h;
  rising = omega arith;
  follows = g.met.S.PageReader.follows_refl _;
}

pub loop-index-preserved : goal.loop-index-preserved
loop-index-preserved g c =
    let known = c.loop-index.invariant in
    let done = c.in_ok-drop_tree.ensures in
    record {
      gone = λ alone. gone_next (g.S.PageReader.pages c.args.space.now) (g.S.PageReader.pages c.loop-index.space) c.args.indexes.now c.loop-index.index-index c.index-item.result (subst (λ (xs : List Index). c.loop-index.index-index < length xs) c.as_slice-index-items.ensures c.loop-index-test.true) (subst (λ (xs : List Index). c.index-item.result ≡ slice_index_or xs c.loop-index.index-index c.index-item.result) c.as_slice-index-items.ensures c.index-item.is) (g.S.PageReader.pages c.drop_tree.new.space) (known.gone alone) done.dropped;
      whole = λ h. done.whole (known.whole h);
      rising = omega (arith, known.rising, done.rising);
      follows = g.met.S.PageReader.follows_trans _ _ _ known.follows done.follows;
    }

pub returns-in_err-drop_tree-clause-refusal : goal.returns-in_err-drop_tree-clause-refusal
returns-in_err-drop_tree-clause-refusal g c =
    let known = c.loop-index.invariant in
    exit_fault _ c.in_err-drop_tree.field-0.0 (g.S.PageSpace.at_limit c.drop_tree.new.space) (IsNoTreeIn (g.S.PageReader.pages c.loop-index.space) c.index-item.result.root (g.S.PageReader.is_whole c.loop-index.space)) (AreIndexes false (g.S.PageReader.pages c.args.space.now) c.args.indexes.now → (g.S.PageReader.is_whole c.args.space.now) → ⊥) _ _ _
    (λ none h whole. let t = tree_here (g.S.PageReader.pages c.args.space.now) (g.S.PageReader.pages c.loop-index.space) c.args.indexes.now c.loop-index.index-index c.index-item.result (subst (λ (xs : List Index). c.loop-index.index-index < length xs) c.as_slice-index-items.ensures c.loop-index-test.true) (subst (λ (xs : List Index). c.index-item.result ≡ slice_index_or xs c.loop-index.index-index c.index-item.result) c.as_slice-index-items.ensures c.index-item.is) (known.gone false) h in none _ t.entries t.tree (known.whole whole)) known.rising c.from_residual.ensures.1 c.in_err-drop_tree.ensures.refusal

pub returns-clause-dropped : goal.returns-clause-dropped
returns-clause-dropped g c = λ alone h.
    let end : c.loop-index.index-index ≡ length c.as_slice-index-items.result.now = omega (arith, c.loop-index-test.false, c.loop-index.auto.index-index-end) in
    gone_all (g.S.PageReader.pages c.args.space.now) (g.S.PageReader.pages c.loop-index.space) c.args.indexes.now c.loop-index.index-index (end ∙ ap length c.as_slice-index-items.ensures) (c.loop-index.invariant.gone alone) h
