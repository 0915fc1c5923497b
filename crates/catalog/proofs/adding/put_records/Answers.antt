use Rattle.std.proofs.Common.{List, take, sym, subst, arith}
use Rattle.btree_read.specs.declared.entry.Entry.{Entry}
use Rattle.btree.specs.Written.{IsWritten}
use Rattle.catalog.specs.Changed.{put_all}
use Rattle.catalog.proofs.PutLemmas.{put_all_more, coded_more}
use Rattle.btree.proofs.ChangeLemmas.{written_none, written_on}
use Rattle.btree.proofs.PageLossLemmas.{no_page_lost, no_page_lost_on}
use Rattle.btree.specs.Overfull.{IsNoTreeIn}
use Rattle.catalog.proofs.RefusalLemmas.{refused_later}
use Rattle.catalog.proofs.adding.put_records.Goals as goal

pub loop-r-init : goal.loop-r-init
loop-r-init g c = record {
  put = λ owned entries t. written_none _ _ owned entries t;
  keeps = no_page_lost _ _;
  coded = tt;
  whole = λ h. h;
  rising = omega arith;
  follows = g.met.S.PageReader.follows_refl _;
}

pub loop-r-preserved : goal.loop-r-preserved
loop-r-preserved g c =
    let known = c.loop-r.invariant in
    let done = c.in_ok-top.ensures in
    record {
      put = λ owned entries t.
          let w = known.put owned entries t in
          let one = done.put w.now_owned (put_all (take c.loop-r.r-index c.args.records.now) entries) w.stored in
          subst (λ (es : List Entry). IsWritten (g.S.PageReader.pages c.args.space.now) (g.S.PageReader.pages c.put_record.new.space) owned es c.in_ok-top.top)
          (sym (put_all_more c.args.records.now c.loop-r.r-index c.r-item.result entries c.loop-r-test.true c.r-item.is))
          (written_on _ _ _ owned _ _ _ _ w one);
      keeps = no_page_lost_on _ _ _ _ _ _ known.keeps done.keeps;
      coded = coded_more c.args.records.now c.loop-r.r-index c.r-item.result c.loop-r-test.true c.r-item.is known.coded done.coded;
      whole = λ h. done.whole (known.whole h);
      rising = omega (arith, known.rising, done.rising);
      follows = g.met.S.PageReader.follows_trans _ _ _ known.follows done.follows;
    }

pub returns-in_err-top-clause-refusal : goal.returns-in_err-top-clause-refusal
returns-in_err-top-clause-refusal g c =
    let known = c.loop-r.invariant in
    refused_later _ c.in_err-top.field-0.0 (g.S.PageSpace.at_limit c.put_record.new.space)
    (IsNoTreeIn (g.S.PageReader.pages c.loop-r.space) c.loop-r.top (g.S.PageReader.is_whole c.loop-r.space))
    (IsNoTreeIn (g.S.PageReader.pages c.args.space.now) c.args.root (g.S.PageReader.is_whole c.args.space.now))
    _ _ _ known.rising (λ none owned entries t whole. let w = known.put owned entries t in none w.now_owned _ w.stored (known.whole whole)) c.from_residual.ensures.1 c.in_err-top.ensures.refusal
