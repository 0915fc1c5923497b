use Rattle.std.proofs.Common.{◌∙◌, sym, ap, arith}
use Rattle.btree_read.specs.Sorted.{is_from}
use Rattle.btree_read.proofs.PlaceLemmas.{is_from_all, is_from_none}
use Rattle.btree_read.proofs.place.first_place.Goals as goal

pub loop-low-preserved-then-is_from : goal.loop-low-preserved-then-is_from
loop-low-preserved-then-is_from c =
    record {
      order = omega arith;
      within = omega arith;
      cells = c.loop-low.invariant.cells;
      before = c.loop-low.invariant.before;
      behind = λ i l h. is_from_all _ _ _ _ c.loop-low.invariant.cells _ i l h (ap (is_from c.args.start c.args.key.now) (sym c.key.ensures) ∙ sym c.is_from.ensures ∙ c.if-is_from.true);
    }

pub loop-low-preserved : goal.loop-low-preserved
loop-low-preserved c =
    record {
      order = omega arith;
      within = omega arith;
      cells = c.loop-low.invariant.cells;
      before = λ i l. is_from_none _ _ _ _ c.loop-low.invariant.cells i _ (omega arith) (omega arith) (ap (is_from c.args.start c.args.key.now) (sym c.key.ensures) ∙ sym c.is_from.ensures ∙ c.if-is_from.false);
      behind = c.loop-low.invariant.behind;
    }
