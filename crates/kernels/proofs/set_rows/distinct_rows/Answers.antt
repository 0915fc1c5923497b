use Rattle.std.proofs.Common.{sym, ◌∙◌, ap, []}
use Rattle.kernels.specs.Marks.{first_marks}
use Rattle.kernels.proofs.Firsts.{distinct-firsts}
use Rattle.kernels.proofs.Marking.{kept}
use Rattle.kernels.proofs.set_rows.distinct_rows.Goals as goal

pub returns : goal.returns
returns c = kept c.marked_rows.result (λ _. 1) c.as_slice-2.result.now c.args.rows _ c.marked_rows.ensures
    (c.as_slice-2.ensures ∙ c.in_ok-marks.ensures ∙ ap (first_marks (λ _. 1) []) c.as_slice.ensures) (sym (distinct-firsts c.args.rows))
