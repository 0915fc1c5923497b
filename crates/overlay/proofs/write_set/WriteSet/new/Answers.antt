use Rattle.std.proofs.Common.{◌≡◌, None, ap, sym, rules}
use Rattle.pool.specs.Pages.{PageMap, pages_in, over}
use Rattle.overlay.proofs.LayerLemmas.{size_empty, none_listed, both_none}
use Rattle.overlay.proofs.write_set.WriteSet.new.Goals as goal

pub invariant_of-result : goal.invariant_of-result
invariant_of-result c =
    let older : pages_in c.new.result ≡ (λ n. None) = ap pages_in c.new.ensures in
    let newer : pages_in c.new-2.result ≡ (λ n. None) = ap pages_in c.new-2.ensures in
    let fresh : pages_in c.new-4.result ≡ (λ n. None) = ap pages_in c.new-4.ensures in
    let settled : over (pages_in c.new-2.result) (pages_in c.new.result) ≡ (λ n. None) = both_none (pages_in c.new-2.result) (pages_in c.new.result) newer older in
    record {
      listed = none_listed (pages_in c.new-4.result) _ fresh;
      newer_listed = none_listed (pages_in c.new-2.result) _ newer;
      older_counted = sym (size_empty (pages_in c.new.result) older);
      settled_counted = sym (size_empty (over (pages_in c.new-2.result) (pages_in c.new.result)) settled);
      private_counted = sym (size_empty (over (pages_in c.new-4.result) (over (pages_in c.new-2.result) (pages_in c.new.result)))
          (both_none (pages_in c.new-4.result) (over (pages_in c.new-2.result) (pages_in c.new.result)) fresh settled));
      few = search rules;
    }
