use Rattle.std.proofs.Common.{arith}
use Rattle.btree.specs.Overfull.{IsNoTreeIn}
use Rattle.btree.proofs.PageLossLemmas.{no_page_lost, no_page_lost_on}
use Rattle.catalog.proofs.RefusalLemmas.{refused_later}
use Rattle.catalog.proofs.LeftLemmas.{takes_first, takes_next, takes_all}
use Rattle.catalog.proofs.removing.remove_records.Goals as goal

pub loop-r-init : goal.loop-r-init
loop-r-init g c = record {
  takes = takes_first _ _ _;
  tree = λ h. h;
  keeps = no_page_lost _ _;
  whole = λ h. h;
  rising = omega arith;
  follows = g.met.S.PageReader.follows_refl _;
}

pub loop-r-preserved : goal.loop-r-preserved
loop-r-preserved g c =
    let known = c.loop-r.invariant in
    let done = c.in_ok-top.ensures in
    record {
      takes = takes_next _ _ _ _ _ _ _ _ _ c.loop-r-test.true c.r-item.is known.takes done.removed;
      tree = λ h. done.tree (known.tree h);
      keeps = no_page_lost_on _ _ _ _ _ _ known.keeps done.keeps;
      whole = λ h. done.whole (known.whole h);
      rising = omega (arith, known.rising, done.rising);
      follows = g.met.S.PageReader.follows_trans _ _ _ known.follows done.follows;
    }

pub returns-in_err-top-clause-refusal : goal.returns-in_err-top-clause-refusal
returns-in_err-top-clause-refusal g c =
    let known = c.loop-r.invariant in
    refused_later _ c.in_err-top.field-0.0 (g.S.PageSpace.at_limit c.remove_record.new.space)
    (IsNoTreeIn (g.S.PageReader.pages c.loop-r.space) c.loop-r.top (g.S.PageReader.is_whole c.loop-r.space))
    (IsNoTreeIn (g.S.PageReader.pages c.args.space.now) c.args.root (g.S.PageReader.is_whole c.args.space.now))
    _ _ _ known.rising (λ none owned entries t whole. let w = known.tree (record { owned = owned; entries = entries; tree = t }) in none w.owned w.entries w.tree (known.whole whole))
    c.from_residual.ensures.1 c.in_err-top.ensures.refusal

pub returns-clause-removed : goal.returns-clause-removed
returns-clause-removed g c = takes_all _ _ _ _ _ c.loop-r.r-index (omega (arith, c.loop-r-test.false)) c.loop-r.invariant.takes
