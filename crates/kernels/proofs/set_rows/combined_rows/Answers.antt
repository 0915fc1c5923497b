use Rattle.std.proofs.Common.{sym, ◌∙◌, ap, []}
use Rattle.typing.specs.declared.typed.SetOperator.TheVariants.{Except, Intersect}
use Rattle.algebra.specs.Listing.{firsts, sides}
use Rattle.denote.specs.Bag.{times}
use Rattle.denote.specs.SetOperator.{multiplicity}
use Rattle.kernels.specs.Marks.{first_marks}
use Rattle.kernels.proofs.Marking.{kept}
use Rattle.kernels.proofs.set_rows.combined_rows.Goals as goal

pub returns-in_ok-marks-in-Except : goal.returns-in_ok-marks-in-Except
returns-in_ok-marks-in-Except c =
    let left = c.args.left in
    let right = c.args.right in
    let all = c.args.operation.all in
    let e = c.as_slice.ensures in
    let f = c.as_slice-in-Except.ensures in
    kept c.marked_rows.result (λ row. multiplicity Except all (times row left) (times row right)) c.as_slice-in-Except-2.result.now left _ c.marked_rows.ensures
    (c.as_slice-in-Except-2.ensures ∙ c.in_ok-marks-in-Except.ensures ∙ (λ i. first_marks (λ row. multiplicity Except all (times row (e i)) (times row (f i))) [] (e i)))
    (ap (λ o. firsts (λ row. multiplicity o all (times row left) (times row right)) [] (sides o left right)) (sym c.in-Except.is))

pub returns-in_ok-marks-in-Intersect : goal.returns-in_ok-marks-in-Intersect
returns-in_ok-marks-in-Intersect c =
    let left = c.args.left in
    let right = c.args.right in
    let all = c.args.operation.all in
    let e = c.as_slice-in-Intersect.ensures in
    let f = c.as_slice-in-Intersect-2.ensures in
    kept c.marked_rows-in-Intersect.result (λ row. multiplicity Intersect all (times row left) (times row right)) c.as_slice-in-Intersect-3.result.now left _ c.marked_rows-in-Intersect.ensures
    (c.as_slice-in-Intersect-3.ensures ∙ c.in_ok-marks-in-Intersect.ensures ∙ (λ i. first_marks (λ row. multiplicity Intersect all (times row (e i)) (times row (f i))) [] (e i)))
    (ap (λ o. firsts (λ row. multiplicity o all (times row left) (times row right)) [] (sides o left right)) (sym c.in-Intersect.is))
