use Rattle.std.proofs.Common.{◌∙◌, ℕ, List, [], sym, ap, arith}
use Rattle.journal.specs.Parts.{shown}
use Rattle.journal.proofs.Sets.{get_or_any}
use Rattle.journaled_file.proofs.Laying.{laid_at, has_index}
use Rattle.journaled_file.proofs.reading.copy_image.Goals as goal

pub returns-then-at-number-clause-found : goal.returns-then-at-number-clause-found
returns-then-at-number-clause-found c is rising base =
    let images = c.args.images.now in
    let i = c.loop-at.at-index in
    let item = c.loop-at-item.result in
    let found = c.loop-at-item.is ∙ get_or_any images i item (0, []) c.loop-at-test.true in
    laid_at images i c.args.number base rising c.loop-at-test.true (sym (ap (λ (e : ℕ × List ℕ). e.0) found) ∙ c.if-at-number.true)
    ∙ ap (λ (p : List ℕ). shown c.args.number p) (sym (c.get.ensures ∙ ap (λ (e : ℕ × List ℕ). e.1) found))

pub returns-clause-none : goal.returns-clause-none
returns-clause-none c is has =
    let at = has_index c.args.number c.args.images.now has in
    c.loop-at.invariant at.0 (omega (arith, at.1, c.loop-at-test.false)) at.2
