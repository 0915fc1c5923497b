use Rattle.std.proofs.Common.{arith, ℕ, ◌≡◌, ◌+◌, ◌<◌, ◌++◌, ◌∙◌, ap, List, [], ◌∷◌, length, map, sym, subst, false}
use Rattle.std.specs.Prelude.{slice_index_or}
use Rattle.sqlval.specs.declared.schema.Index.{Index}
use Rattle.denote.specs.SchemaOf.{index_of}
use Rattle.store.specs.Errors.{HasLongKey}
use Rattle.index_trees.specs.Indexed.{IndexWritten}
use Rattle.database_trees.specs.Exchanged.{IsExchangeable, AreExchangeable, HasLongKeyIn}
use Rattle.database_trees.proofs.EachLemmas.{MidwayBy, midway_first, midway_next, midway_end, exchange_here, long_in}
use Rattle.database_trees.proofs.RefusalLemmas.{exit_later, exit_reaches, exit_memory, exit_no_limit}
use Rattle.database_trees.proofs.indexes.exchange_each.Goals as goal

pub loop-index-init : goal.loop-index-init
loop-index-init g c = record {
  midway = λ alone. subst (λ (rs : List ℕ). MidwayBy alone (g.S.PageReader.pages c.args.space.now) (g.S.PageReader.pages c.args.space.now) c.args.indexes.now c.args.exchange.now 0 rs) (sym c.new-roots.ensures) (midway_first (g.S.PageReader.pages c.args.space.now) c.args.indexes.now c.args.exchange.now);
  whole = λ h. h;
  rising = omega arith;
  follows = g.met.S.PageReader.follows_refl _;
}

pub loop-index-preserved : goal.loop-index-preserved
loop-index-preserved g c =
    let known = c.loop-index.invariant in
    let done = c.in_ok-top.ensures in
    record {
      midway = λ alone. subst (λ (rs : List ℕ). MidwayBy alone (g.S.PageReader.pages c.args.space.now) (g.S.PageReader.pages c.exchange_rows.new.space) c.args.indexes.now c.args.exchange.now (c.loop-index.index-index + 1) rs) (sym c.in_ok-push.ensures.ok)
          (midway_next (g.S.PageReader.pages c.args.space.now) (g.S.PageReader.pages c.loop-index.space) c.args.indexes.now c.args.exchange.now c.loop-index.index-index c.loop-index.roots c.index-item.result (subst (λ (xs : List Index). c.loop-index.index-index < length xs) c.as_slice-index-items.ensures c.loop-index-test.true) (subst (λ (xs : List Index). c.index-item.result ≡ slice_index_or xs c.loop-index.index-index c.index-item.result) c.as_slice-index-items.ensures c.index-item.is) (g.S.PageReader.pages c.exchange_rows.new.space) c.in_ok-top.top (known.midway alone)
          (subst (λ (cs : List ℕ). (h : IsExchangeable (g.S.PageReader.pages c.loop-index.space) c.index-item.result.root cs c.args.exchange.now) → IndexWritten (g.S.PageReader.pages c.loop-index.space) (g.S.PageReader.pages c.exchange_rows.new.space) h.owned cs (h.left ++ h.more) c.in_ok-top.top) c.as_slice.ensures done.exchanged) done.keeps);
      whole = λ h. done.whole (known.whole h);
      rising = omega (arith, known.rising, done.rising);
      follows = g.met.S.PageReader.follows_trans _ _ _ known.follows done.follows;
    }

pub returns-in_err-top-clause-limits : goal.returns-in_err-top-clause-limits
returns-in_err-top-clause-limits g c =
    exit_reaches _ c.in_err-top.field-0.0 ⊥ (HasLongKeyIn c.as_slice.result.now c.args.exchange.now.put.rows) ⊥ ⊥ (HasLongKey (map index_of c.args.indexes.now) c.args.exchange.now.put.rows) ⊥ (λ none. none)
    (λ key. long_in c.args.indexes.now c.loop-index.index-index c.index-item.result c.args.exchange.now.put.rows (subst (λ (xs : List Index). c.loop-index.index-index < length xs) c.as_slice-index-items.ensures c.loop-index-test.true) (subst (λ (xs : List Index). c.index-item.result ≡ slice_index_or xs c.loop-index.index-index c.index-item.result) c.as_slice-index-items.ensures c.index-item.is) (subst (λ (cs : List ℕ). HasLongKeyIn cs c.args.exchange.now.put.rows) c.as_slice.ensures key)) (λ none. none) c.from_residual.ensures.1
    c.in_err-top.ensures.limits

pub returns-in_err-top-clause-refusal : goal.returns-in_err-top-clause-refusal
returns-in_err-top-clause-refusal g c =
    let known = c.loop-index.invariant in
    exit_later _ c.in_err-top.field-0.0 (g.S.PageSpace.at_limit c.exchange_rows.new.space) (IsExchangeable (g.S.PageReader.pages c.loop-index.space) c.index-item.result.root c.as_slice.result.now c.args.exchange.now → (g.S.PageReader.is_whole c.loop-index.space) → ⊥)
    (AreExchangeable false (g.S.PageReader.pages c.args.space.now) c.args.indexes.now c.args.exchange.now → (g.S.PageReader.is_whole c.args.space.now) → ⊥) _ _ _
    (λ none h whole. none (subst (λ (cs : List ℕ). IsExchangeable (g.S.PageReader.pages c.loop-index.space) c.index-item.result.root cs c.args.exchange.now) (sym c.as_slice.ensures) (exchange_here (g.S.PageReader.pages c.args.space.now) (g.S.PageReader.pages c.loop-index.space) c.args.indexes.now c.args.exchange.now c.loop-index.index-index c.loop-index.roots c.index-item.result (subst (λ (xs : List Index). c.loop-index.index-index < length xs) c.as_slice-index-items.ensures c.loop-index-test.true) (subst (λ (xs : List Index). c.index-item.result ≡ slice_index_or xs c.loop-index.index-index c.index-item.result) c.as_slice-index-items.ensures c.index-item.is) (known.midway false) h)) (known.whole whole)) known.rising c.from_residual.ensures.1 c.in_err-top.ensures.refusal

pub returns-clause-exchanged : goal.returns-clause-exchanged
returns-clause-exchanged g c = λ alone h.
    let end : c.loop-index.index-index ≡ length c.as_slice-index-items.result.now = omega (arith, c.loop-index-test.false, c.loop-index.auto.index-index-end) in
    midway_end (g.S.PageReader.pages c.args.space.now) (g.S.PageReader.pages c.loop-index.space) c.args.indexes.now c.args.exchange.now c.loop-index.index-index c.loop-index.roots (end ∙ ap length c.as_slice-index-items.ensures) (c.loop-index.invariant.midway alone) h
