use Rattle.std.proofs.Common.{◌∙◌, rules}
use Rattle.std.proofs.lemmas.Fn.{always_returns_same}
use Rattle.range_lookups.proofs.Restored.{lower, lower_rank, restored}
use Rattle.range_lookups.proofs.numbers.sorted.Goals as goal

pub returns : goal.returns
returns c = λ order test all rises is.
    c.from_vec.ensures ∙ restored order test all _ rises
    (c.in_ok-sort_by.ensures.sorted lower lower_rank
    (always_returns_same _ _ _ (λ a r k q. (search rules, search rules))))
    (rw (c.into_vec-list.ensures, is) at (c.in_ok-sort_by.ensures.stable lower lower_rank
    (always_returns_same _ _ _ (λ a r k q. (search rules, search rules)))))
