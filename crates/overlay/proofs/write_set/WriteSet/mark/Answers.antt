use Rattle.std.proofs.Common.{◌≡◌, None, ap, sym, ◌∙◌}
use Rattle.pool.specs.Pages.{PageMap, pages_in, over}
use Rattle.overlay.specs.WriteSet.{settled_of}
use Rattle.overlay.proofs.LayerLemmas.{none_listed, listed_moved, settled_now, settled_pages, size_undone, marked_same}
use Rattle.overlay.proofs.write_set.WriteSet.mark.Goals as goal

pub invariant_of-self-2 : goal.invariant_of-self-2
invariant_of-self-2 c =
    let s = c.args.self.now in
    let none : pages_in c.replace.new.dest ≡ (λ n. None) = ap pages_in (c.replace.ensures.after ∙ c.new.ensures) in
    let counted = settled_now (pages_in s.fresh) (settled_of s) (pages_in c.replace.result) (pages_in c.settle_all.new.settled) s.private_count (ap pages_in c.replace.ensures.value) c.in_ok-settle_all.ensures.settled s.private_counted in
    record {
      listed = none_listed (pages_in c.replace.new.dest) _ none;
      newer_listed = listed_moved s.fresh c.replace.result s.fresh_numbers c.replace-2.result c.replace.ensures.value c.replace-2.ensures.value s.listed;
      older_counted = c.settle_all.ensures.counted;
      settled_counted = counted;
      private_counted = size_undone (over (pages_in c.replace.result) (pages_in c.settle_all.new.settled)) (pages_in c.replace.new.dest) _ none counted;
      few = s.few;
    }

pub returns-clause-same : goal.returns-clause-same
returns-clause-same c =
    let s = c.args.self.now in
    marked_same (pages_in s.fresh) (settled_of s) _ _ (settled_pages (pages_in s.fresh) (settled_of s) (pages_in c.replace.result) (pages_in c.settle_all.new.settled) (ap pages_in c.replace.ensures.value) c.in_ok-settle_all.ensures.settled)
    (ap pages_in (c.replace.ensures.after ∙ c.new.ensures))
