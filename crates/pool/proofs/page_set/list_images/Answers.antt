use Rattle.std.proofs.Common.{◌<◌, ℕ, List, length, sym, subst, ◌≡◌}
use Rattle.journal.specs.Lists.{image_in}
use Rattle.pool.proofs.ListLemmas.{listed_one, sized_more, nothing_left, none_some}
use Rattle.pool.proofs.page_set.list_images.Goals as goal

pub listed-preserved : goal.listed-preserved
listed-preserved c = record {
  same = listed_one c.listed.images c.pop_first.new.self.entries c.push_image.new.images c.listed.pages.entries c.args.pages.entries (c.in-Some.number, c.in-Some.page)
      c.listed.invariant.same c.in-Some.ensures.removal c.in_ok-push_image.ensures.pushed;
  sized =
      subst (λ (l : List (ℕ × List ℕ)). (i : ℕ) → i < length l → length (image_in l i) ≡ 4096) (sym c.in_ok-push_image.ensures.pushed)
      (sized_more c.listed.images c.in-Some.number c.in-Some.page c.listed.invariant.sized c.push_image.ensures.sized);
}

pub returns-clause-same : goal.returns-clause-same
returns-clause-same c = nothing_left c.listed.images c.listed.pages.entries c.args.pages.entries c.listed.invariant.same (λ more. none_some (c.in_default.ensures.variant.1 more))
