use Rattle.std.proofs.Common.{sym, subst, arith, take}
use Rattle.sqlrecord.specs.Build.{lent, Fits}
use Rattle.btree.proofs.CellLemmas.{lent_length, lent_take}
use Rattle.btree.proofs.SizeLemmas.{cut_in_middle, cut_at_most, front_fits, middle_fills, middle_within}
use Rattle.btree.proofs.cells.place_to_cut.Goals.{else-is_last-via-then-is_last+else-fits, else-is_last-via-else-is_last}
use Rattle.btree.proofs.cells.place_to_cut.Goals as goal

pub returns-then-most-middle-clause-fits : goal.returns-then-most-middle-clause-fits
returns-then-most-middle-clause-fits c =
    λ l w. cut_at_most _ _ w (omega (arith, l, lent_length c.args.cells.now)) (front_fits _ _ _ c.if-most-middle.true c.middle_of-middle.ensures.front)

pub returns-then-fits-clause-fits : goal.returns-then-fits-clause-fits
returns-then-fits-clause-fits c =
    let fits : Fits (take c.args.most (lent c.args.cells.now)) = subst Fits (lent_take c.args.cells.now c.args.most) (c.fits.ensures.0 c.if-fits.true) in
    λ l w. cut_at_most _ _ w (omega (arith, l, lent_length c.args.cells.now)) fits

pub returns-clause-fits : goal.returns-clause-fits
returns-clause-fits c =
    λ l w. cut_in_middle _ _ w (c.middle_of-middle.ensures.some (omega (arith, c.requires))) c.middle_of-middle.ensures.front
    (c.middle_of-middle.ensures.back (omega (arith, c.requires, c.if-most-middle.false)))

pub returns-then-most-middle-clause-filled : goal.returns-then-most-middle-clause-filled
returns-then-most-middle-clause-filled c =
    λ _ l w. absurd (middle_within _ _ _ w (omega (arith, l, lent_length c.args.cells.now)) c.if-most-middle.true c.middle_of-middle.ensures.front)

pub returns-clause-filled : goal.returns-clause-filled
returns-clause-filled c =
    λ _ _ w. middle_fills _ _ w (c.middle_of-middle.ensures.some (omega (arith, c.requires))) c.middle_of-middle.ensures.front
    (c.middle_of-middle.ensures.back (omega (arith, c.requires, c.if-most-middle.false)))

pub returns-clause-full : goal.returns-clause-full
returns-clause-full c =
    λ e f. elim c.else-is_last.branch [
      | else-is_last-via-then-is_last+else-fits w ↦
          let holds = w.fits.ensures.1 (subst Fits (sym (lent_take c.args.cells.now c.args.most)) f) in
          absurd (cc)
      | else-is_last-via-else-is_last w ↦ absurd (cc)
    ]
