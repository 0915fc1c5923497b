use Rattle.std.proofs.Common.{List, ℕ, sym, subst}
use Rattle.std.specs.List.Sorted.{IsStrictlySortedBy}
use Rattle.std.specs.Ordering.{nat_cmp}
use Rattle.std.proofs.lemmas.Map.Keys.{below_from_sorted}
use Rattle.pool.specs.Pages.{numbers_of}
use Rattle.pool.specs.Ready.{Ascend}
use Rattle.pool.proofs.page_set.PageSet.numbers.Goals as goal

pub returns-in-Ok-clause-ascend : goal.returns-in-Ok-clause-ascend
returns-in-Ok-clause-ascend c = subst (λ (l : List ℕ). Ascend l) (sym c.in-Ok.ensures.numbers) (λ i j less within. below_from_sorted (numbers_of c.args.self.now) i j 0
    (subst (λ (l : List (ℕ × List ℕ)). IsStrictlySortedBy nat_cmp (numbers_of l)) c.self.view_is c.len-len.ensures.ordered) less within)
