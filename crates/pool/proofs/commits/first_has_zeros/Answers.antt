use Rattle.std.proofs.Common.{sym}
use Rattle.pool.proofs.LaidLemmas.{zeros_of, not_zeros, no_page}
use Rattle.pool.proofs.commits.first_has_zeros.Goals as goal

pub returns-in-Some-clause-zeros : goal.returns-in-Some-clause-zeros
returns-in-Some-clause-zeros c = λ has. zeros_of c.args.images.now c.in-Some.image.now c.requires (sym c.in-Some.ensures.value) (c.image_has_zeros.ensures.zeros has)

pub returns-in-Some-clause-others : goal.returns-in-Some-clause-others
returns-in-Some-clause-others c = λ none.
    not_zeros c.args.images.now c.in-Some.image.now (sym c.in-Some.ensures.value) (c.image_has_zeros.ensures.first none) (c.image_has_zeros.ensures.others none)

pub returns-in-None-clause-zeros : goal.returns-in-None-clause-zeros
returns-in-None-clause-zeros c = λ has. no_page c.args.images.now (sym c.in-None.ensures.value)
