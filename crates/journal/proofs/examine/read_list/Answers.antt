use Rattle.std.proofs.Common.{List, ℕ, refl, sym, subst}
use Rattle.journal.specs.Lists.{IsList}
use Rattle.journal.proofs.examine.read_list.Goals as goal

pub returns-in-None-clause-damaged : goal.returns-in-None-clause-damaged
returns-in-None-clause-damaged g c is honest size journal =
    c.in-None.ensures.none refl size
    (subst (λ (l : List ℕ). IsList l c.args.start size) (sym (c.in_ok-read_block.ensures.value honest)) journal.list)
