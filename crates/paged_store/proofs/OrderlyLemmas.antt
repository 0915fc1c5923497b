-- That the parts of a paged store stay in order.
use Rattle.std.proofs.Common.{◌≡◌, ◌∙◌, sym, ap, subst, ℕ, ◌≤◌, Bool, arith}
use Rattle.std.specs.Ordering.{nat_cmp}
use Rattle.std.specs.FinMap.{FinMap}
use Rattle.pool.specs.Pages.{PageMap, over, known}
use Rattle.pool.specs.Versions.{Versions}
use Rattle.snapshot_pins.specs.declared.readers.Readers.{Readers}
use Rattle.snapshot_pins.specs.Pinned.{ArePinned, KeepsFound}
use Rattle.paged_store.specs.Orderly.{IsOrderly}
use Rattle.paged_store.proofs.PageLemmas.{newest_kept, first_kept, first_committed}

pub orderly_same : (honest : Bool) (v w : Versions) (readers : Readers) (commits : ℕ) → w ≡ v → IsOrderly honest v readers commits → IsOrderly honest w readers commits
orderly_same honest v w readers commits same o = subst (λ (x : Versions). IsOrderly honest x readers commits) (sym same) o

pub orderly_kept : (honest : Bool) (v w : Versions) (readers now : Readers) (commits : ℕ) (numbers : FinMap nat_cmp ℕ) → KeepsFound numbers v w → ArePinned now w.pins
    → IsOrderly honest v readers commits → IsOrderly honest w now commits
orderly_kept honest v w readers now commits numbers kept pinned o = record {
  pinned = pinned;
  counted = o.counted ∙ sym kept.last;
  first = first_kept honest v w (newest_kept v w kept.last kept.newest) o.first;
}

pub orderly_committed : (honest : Bool) (v w : Versions) (readers : Readers) (commits number : ℕ) (written : PageMap) → number ≡ w.last → w.pins ≡ v.pins
    → w.pages w.last ≡ known honest (over written (v.pages v.last)) → IsOrderly honest v readers commits → IsOrderly honest w readers number
orderly_committed honest v w readers commits number written is pins newest o = record {
  pinned = λ c. ap (λ (f : ℕ → ℕ). f c) pins ∙ o.pinned c;
  counted = is;
  first = first_committed honest (v.pages v.last) written (w.pages w.last) newest o.first;
}

-- a count that is as it was
pub no_more : (n : ℕ) → n ≤ n
no_more n = omega arith

pub no_fall : (k n : ℕ) → n ≡ k → k ≤ n
no_fall k n same = omega (arith, same)
