use Rattle.std.proofs.Common.{arith, ℕ, ◌≡◌, ◌+◌, ◌<◌, ◌++◌, ◌∙◌, ap, sym, subst, List, take, length}
use Rattle.std.specs.Prelude.{slice_index_or}
use Rattle.sqlval.specs.Value.{Row}
use Rattle.sqlval.specs.CodedLength.{key_length}
use Rattle.sqlval.specs.Matching.{key_of}
use Rattle.index_trees.specs.Indexed.{HoldsNoIndexIn}
use Rattle.btree.proofs.PageLossLemmas.{no_page_lost, no_page_lost_on}
use Rattle.database_trees.specs.Exchanged.{HasLongKeyIn, IsOpen}
use Rattle.database_trees.proofs.IndexLemmas.{put_first, put_next, put_all, long_at}
use Rattle.database_trees.proofs.RefusalLemmas.{exit_later, exit_reaches}
use Rattle.database_trees.proofs.exchange.add_rows.Goals as goal

pub loop-at-init : goal.loop-at-init
loop-at-init g c = record {
  put = put_first _ _ _ _;
  keeps = no_page_lost (g.S.PageReader.pages c.args.space.now) c.args.root;
  whole = λ h. h;
  rising = omega arith;
  follows = g.met.S.PageReader.follows_refl _;
}

pub loop-at-preserved : goal.loop-at-preserved
loop-at-preserved g c =
    let known = c.loop-at.invariant in
    let done = c.in_ok-top.ensures in
    record {
      put = put_next (g.S.PageReader.pages c.args.space.now) (g.S.PageReader.pages c.loop-at.space) (g.S.PageReader.pages c.add_one.new.space) c.args.root c.loop-at.top c.in_ok-top.top c.loop-at.at c.number_at-number.result c.args.columns.now c.args.put.now c.row-item.result (subst (λ (rs : List Row). c.loop-at.at < length rs) c.as_slice-row-items.ensures c.loop-at-test.true) (c.number_at-number.ensures ∙ ap (λ (ns : List ℕ). slice_index_or ns c.loop-at.at 0) c.as_slice.ensures) (subst (λ (rs : List Row). c.row-item.result ≡ slice_index_or rs c.loop-at.at c.row-item.result) c.as_slice-row-items.ensures c.row-item.is) known.put done.added;
      keeps = no_page_lost_on (g.S.PageReader.pages c.args.space.now) (g.S.PageReader.pages c.loop-at.space) (g.S.PageReader.pages c.add_one.new.space) c.args.root c.loop-at.top c.in_ok-top.top known.keeps done.keeps;
      whole = λ h. done.whole (known.whole h);
      rising = omega (arith, known.rising, done.rising);
      follows = g.met.S.PageReader.follows_trans _ _ _ known.follows done.follows;
    }

pub returns-in_err-top-clause-limits : goal.returns-in_err-top-clause-limits
returns-in_err-top-clause-limits g c =
    exit_reaches _ c.in_err-top.field-0.0 ⊥ (600 < key_length (key_of c.args.columns.now c.row-item.result) + 8) ⊥ ⊥ (HasLongKeyIn c.args.columns.now c.args.put.now.rows) ⊥ (λ none. none)
    (λ long. long_at c.args.columns.now c.args.put.now.rows c.row-item.result c.loop-at.at (subst (λ (rs : List Row). c.loop-at.at < length rs) c.as_slice-row-items.ensures c.loop-at-test.true) (subst (λ (rs : List Row). c.row-item.result ≡ slice_index_or rs c.loop-at.at c.row-item.result) c.as_slice-row-items.ensures c.row-item.is) long) (λ none. none) c.from_residual.ensures.1 c.in_err-top.ensures.limits

pub returns-in_err-top-clause-refusal : goal.returns-in_err-top-clause-refusal
returns-in_err-top-clause-refusal g c =
    let known = c.loop-at.invariant in
    exit_later _ c.in_err-top.field-0.0 (g.S.PageSpace.at_limit c.add_one.new.space) (HoldsNoIndexIn (g.S.PageReader.pages c.loop-at.space) c.loop-at.top c.args.columns.now (g.S.PageReader.is_whole c.loop-at.space)) (IsOpen (g.S.PageReader.pages c.args.space.now) c.args.root c.args.columns.now c.args.put.now → (g.S.PageReader.is_whole c.args.space.now) → ⊥) _ _ _
    (λ none h whole. let w = known.put h in none w.now_owned (h.held ++ take c.loop-at.at h.more) w.holds (known.whole whole)) known.rising c.from_residual.ensures.1 c.in_err-top.ensures.refusal

pub returns-clause-added : goal.returns-clause-added
returns-clause-added g c = λ h.
    let end : c.loop-at.at ≡ length c.as_slice-row-items.result.now = omega (arith, c.loop-at-test.false, c.loop-at.auto.at-end) in
    put_all (g.S.PageReader.pages c.args.space.now) (g.S.PageReader.pages c.loop-at.space) c.args.root c.loop-at.top c.loop-at.at c.args.columns.now c.args.put.now (end ∙ ap length c.as_slice-row-items.ensures) c.loop-at.invariant.put h
