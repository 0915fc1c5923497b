use Rattle.std.proofs.Common.{List, ℕ, sym, subst}
use Rattle.journal.specs.Lists.{IsRising}
use Rattle.pool.proofs.ListLemmas.{rising_from}
use Rattle.pool.proofs.page_set.PageSet.into_images.Goals as goal

pub returns-in-Ok-clause-rising : goal.returns-in-Ok-clause-rising
returns-in-Ok-clause-rising c = subst (λ (l : List (ℕ × List ℕ)). IsRising l) (sym c.in-Ok.ensures.same) (rising_from _ c.len-len.ensures.ordered)
