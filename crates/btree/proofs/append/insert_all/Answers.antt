use Rattle.std.proofs.Common.{◌≡◌, ◌≤◌, ◌+◌, ◌-◌, ◌∙◌, ap, sym, drop, arith, length, length-drop}
use Rattle.std.proofs.lemmas.List.{take_all}
use Rattle.btree_read.specs.declared.entry.Entry.{Entry}
use Rattle.btree.proofs.AppendLemmas.{stays_begin, stays_further, stays_end, kept_begin, kept_behind, appended}
use Rattle.btree.proofs.append.insert_all.Goals as goal

pub entries-init : goal.entries-init
entries-init g c = record {
  few = omega arith;
  written = stays_begin (g.S.PageReader.pages c.args.space.now) c.args.root c.args.entries.now;
  keeps = kept_begin (g.S.PageReader.pages c.args.space.now) c.args.root;
  whole = λ w. w;
  rising = omega arith;
  follows = g.met.S.PageReader.follows_refl _;
}

pub entries-preserved : goal.entries-preserved
entries-preserved g c =
    let left = length-drop (c.entries.done + 1) c.args.entries.now in
    let rest = take_all (length c.args.entries.now - (c.entries.done + 1)) (drop (c.entries.done + 1) c.args.entries.now) (omega (arith, left)) in record {
      few = omega (arith, c.entries-test.true, c.in_ok-done.ensures.few, ap length rest, left);
      written = stays_further _ _ _ _ _ c.entries.done c.in_ok-done.field-0 _ _ c.args.entries.now _ _ _ _ c.entries-test.true (c.as_slice.ensures ∙ ap (λ (e : Entry). e.key) c.index-entries-done.is)
          (c.as_slice-in-entries.ensures ∙ ap (λ (e : Entry). e.value) c.index-entries-done.is) rest c.entries.invariant.written c.in_ok-top.ensures.inserts c.in_ok-done.ensures.appends;
      keeps = kept_behind _ _ _ _ _ c.entries.done c.in_ok-done.field-0 _ _ c.args.entries.now _ _ _ c.entries-test.true (c.as_slice.ensures ∙ ap (λ (e : Entry). e.key) c.index-entries-done.is)
          (c.as_slice-in-entries.ensures ∙ ap (λ (e : Entry). e.value) c.index-entries-done.is) c.entries.invariant.written c.entries.invariant.keeps c.in_ok-top.ensures.inserts c.in_ok-top.ensures.keeps c.in_ok-done.ensures.keeps;
      whole = λ w. c.in_ok-done.ensures.whole (c.in_ok-top.ensures.whole (c.entries.invariant.whole w));
      rising = omega (arith, c.entries.invariant.rising, c.in_ok-top.ensures.rising, c.in_ok-done.ensures.rising);
      follows = g.met.S.PageReader.follows_trans _ _ _ (g.met.S.PageReader.follows_trans _ _ _ c.entries.invariant.follows c.in_ok-top.ensures.follows) c.in_ok-done.ensures.follows;
    }

pub returns-clause-appends : goal.returns-clause-appends
returns-clause-appends g c =
    λ owned entries w h. appended _ _ owned entries _ _ h
    (stays_end _ _ _ c.entries.done _ c.args.entries.now (omega (arith, c.entries-test.false, c.entries.invariant.few)) c.entries.invariant.written owned entries w)
