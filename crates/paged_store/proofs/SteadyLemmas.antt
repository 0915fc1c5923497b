-- That written pages leave a database wherever those written before the mark do.
use Rattle.std.proofs.Common.{ℕ, ◌≡◌, ◌∙◌, sym, subst, Result, Ok, Err, OnOk, OnErr}
use Rattle.pool.specs.Pages.{PageMap, over}
use Rattle.pool.specs.Versions.{Versions}
use Rattle.snapshot_pins.specs.Pinned.{KeepsFound}
use Rattle.std.specs.Ordering.{nat_cmp}
use Rattle.std.specs.FinMap.{FinMap}
use Rattle.database_versions.specs.Databases.{nothing, IsDatabase}
use Rattle.paged_store.specs.Orderly.{IsSteady}
use Rattle.paged_store.proofs.PageLemmas.{newest_kept, none_private}

-- the same versions
pub steady_same : (v w : Versions) (written settled : PageMap) → w ≡ v → IsSteady (v.pages v.last) written settled → IsSteady (w.pages w.last) written settled
steady_same v w written settled same steady = subst (λ (x : Versions). IsSteady (x.pages x.last) written settled) (sym same) steady

-- the same last commit
pub steady_kept : (v w : Versions) (numbers : FinMap nat_cmp ℕ) (written settled : PageMap) → KeepsFound numbers v w → IsSteady (v.pages v.last) written settled → IsSteady (w.pages w.last) written settled
steady_kept v w numbers written settled kept steady = subst (λ (p : PageMap). IsSteady p written settled) (sym (newest_kept v w kept.last kept.newest)) steady

-- the same pages
pub steady_with : (version written settled written_now settled_now : PageMap) → written_now ≡ written → settled_now ≡ settled → IsSteady version written settled → IsSteady version written_now settled_now
steady_with version written settled written_now settled_now a b steady marked =
    subst (λ (p : PageMap). ∥ IsDatabase version p ∥₁) (sym a) (steady (subst (λ (p : PageMap). IsDatabase version p) b marked))

-- no page since the mark
pub steady_at : (version written settled : PageMap) → written ≡ settled → IsSteady version written settled
steady_at version written settled same marked = ∣ subst (λ (p : PageMap). IsDatabase version p) (sym same) marked ∣₁

-- no page at all
pub steady_none : (version fresh settled : PageMap) → fresh ≡ nothing → settled ≡ nothing → IsSteady version (over fresh settled) settled
steady_none version fresh settled a b = steady_at version (over fresh settled) settled (none_private fresh settled a b ∙ sym b)

-- The mark is set, so that no page is since the mark, or it is as it was.
pub steady_marked : {E : Type 0} (version written settled written_now settled_now : PageMap) (done : Result (Unit {0}) E) → written_now ≡ written → OnOk done (settled_now ≡ written) → OnErr done (settled_now ≡ settled)
    → IsSteady version written settled → IsSteady version written_now settled_now
steady_marked version written settled written_now settled_now (Ok u) same moved left steady = steady_at version written_now settled_now (same ∙ sym moved)
steady_marked version written settled written_now settled_now (Err e) same moved left steady = steady_with version written settled written_now settled_now same left steady
