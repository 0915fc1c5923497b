use Rattle.std.proofs.Common.{arith, ◌≡◌, ◌+◌, ◌<◌, ◌∙◌, ℕ, List, ap, length, subst, false}
use Rattle.std.specs.Prelude.{slice_index_or}
use Rattle.sqlval.specs.declared.schema.Table.{Table}
use Rattle.database_trees.specs.Held.{TableAt, HoldsDatabase, declared_of}
use Rattle.database_trees.specs.Exchanged.{IsTableOf}
use Rattle.database_trees.proofs.UnindexLemmas.{tables_first, tables_next, tables_end, next_table}
use Rattle.database_trees.proofs.RefusalLemmas.{exit_later}
use Rattle.database_trees.proofs.unindexing.unindex_each.Goals as goal

pub loop-table-init : goal.loop-table-init
loop-table-init g c = record {
  midway = λ alone. tables_first (g.S.PageReader.pages c.args.space.now) c.args.root c.args.name.now c.args.tables.now;
  whole = λ h. h;
  rising = omega arith;
  follows = g.met.S.PageReader.follows_refl _;
}

pub loop-table-preserved : goal.loop-table-preserved
loop-table-preserved g c =
    let known = c.loop-table.invariant in
    let done = c.in_ok-top.ensures in
    record {
      midway = λ alone. tables_next (g.S.PageReader.pages c.args.space.now) (g.S.PageReader.pages c.loop-table.space) c.args.root c.loop-table.top c.args.name.now c.args.tables.now c.loop-table.table-index c.table-item.result (subst (λ (xs : List Table). c.loop-table.table-index < length xs) c.as_slice-table-items.ensures c.loop-table-test.true) (subst (λ (xs : List Table). c.table-item.result ≡ slice_index_or xs c.loop-table.table-index c.table-item.result) c.as_slice-table-items.ensures c.table-item.is) (c.loop-table.invariant.midway alone) (g.S.PageReader.pages c.unindex_table.new.space) c.in_ok-top.top (done.unindexed alone);
      whole = λ h. done.whole (known.whole h);
      rising = omega (arith, known.rising, done.rising);
      follows = g.met.S.PageReader.follows_trans _ _ _ known.follows done.follows;
    }

pub returns-in_err-top-clause-refusal : goal.returns-in_err-top-clause-refusal
returns-in_err-top-clause-refusal g c =
    let known = c.loop-table.invariant in
    exit_later _ c.in_err-top.field-0.0 (g.S.PageSpace.at_limit c.unindex_table.new.space) (IsTableOf false (g.S.PageReader.pages c.loop-table.space) c.loop-table.top c.table-item.result → (g.S.PageReader.is_whole c.loop-table.space) → ⊥)
    ((its : List TableAt) → HoldsDatabase (g.S.PageReader.pages c.args.space.now) c.args.root its → declared_of its ≡ c.args.tables.now → (g.S.PageReader.is_whole c.args.space.now) → ⊥) _ _ _
    (λ none its h e whole. none (next_table (g.S.PageReader.pages c.args.space.now) (g.S.PageReader.pages c.loop-table.space) c.args.root c.loop-table.top c.args.name.now c.args.tables.now c.loop-table.table-index c.table-item.result (subst (λ (xs : List Table). c.loop-table.table-index < length xs) c.as_slice-table-items.ensures c.loop-table-test.true) (subst (λ (xs : List Table). c.table-item.result ≡ slice_index_or xs c.loop-table.table-index c.table-item.result) c.as_slice-table-items.ensures c.table-item.is) (c.loop-table.invariant.midway false) its h e) (known.whole whole)) known.rising c.from_residual.ensures.1 c.in_err-top.ensures.refusal

pub returns-clause-unindexed : goal.returns-clause-unindexed
returns-clause-unindexed g c = λ alone its h e.
    let end : c.loop-table.table-index ≡ length c.as_slice-table-items.result.now = omega (arith, c.loop-table-test.false, c.loop-table.auto.table-index-end) in
    tables_end (g.S.PageReader.pages c.args.space.now) (g.S.PageReader.pages c.loop-table.space) c.args.root c.loop-table.top c.args.name.now c.args.tables.now c.loop-table.table-index (end ∙ ap length c.as_slice-table-items.ensures) (c.loop-table.invariant.midway alone) its h e
