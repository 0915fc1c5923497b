-- What every call keeps, and what it counts.
use Rattle.std.proofs.Common.{◌∙◌, ◌≡◌, refl, sym, ap, subst, ℕ, Bool, List, Option, Some, None, Result, IfErr}
use Rattle.std.specs.Ordering.{nat_cmp}
use Rattle.std.specs.FinMap.{FinMap}
use Rattle.sqlval.specs.declared.schema.Schema.{Schema as Declared}
use Rattle.store.specs.Errors.{MayFail, Tells, Never}
use Rattle.store.specs.Going.{SameLast, noted}
use Rattle.store.specs.declared.error.StoreError.{StoreError}
use Rattle.pool.specs.Pages.{PageMap, pick, over}
use Rattle.pool.specs.Versions.{Versions}
use Rattle.pool.specs.declared.error.PoolError.{PoolError}
use Rattle.pool.specs.Refused.{IsOfDevice}
use Rattle.pool.specs.declared.error.PoolError.TheVariants as pool
use Rattle.database_versions.specs.Databases.{nothing, known_contents}
use Rattle.database_versions.specs.Refusals.{of_pool}
use Rattle.paged_store.specs.Shown.{stored}
use Rattle.paged_store.proofs.PageLemmas.{newest_kept}

-- ---- the last version

-- the same last commit, whatever is read, written and counted
pub last_kept : (honest : Bool) (v w : Versions) (numbers now : FinMap nat_cmp ℕ) (written settled written_now settled_now : PageMap) (p q : Declared) (k n d e r l i j : ℕ)
    → w.last ≡ v.last → w.pages v.last ≡ v.pages v.last → j ≡ i
    → SameLast (noted (stored honest v numbers written settled) p k d r i) (noted (stored honest w now written_now settled_now) q n e l j)
last_kept honest v w numbers now written settled written_now settled_now p q k n d e r l i j last newest writes = record {
  commits = last;
  last = ap (λ (x : PageMap). known_contents honest x nothing) (newest_kept v w last newest);
  writes = writes;
}

pub last_same : (honest : Bool) (v w : Versions) (numbers now : FinMap nat_cmp ℕ) (written settled written_now settled_now : PageMap) (p q : Declared) (k n d e r l i j : ℕ)
    → w ≡ v → j ≡ i → SameLast (noted (stored honest v numbers written settled) p k d r i) (noted (stored honest w now written_now settled_now) q n e l j)
last_same honest v w numbers now written settled written_now settled_now p q k n d e r l i j same writes =
    last_kept honest v w numbers now written settled written_now settled_now p q k n d e r l i j (ap (λ (x : Versions). x.last) same) (ap (λ (x : Versions). x.pages v.last) same) writes

-- a device that is as it was
pub as_it_was : {D : Type 0} (count : D → ℕ) (old new : D) → new ≡ old → count new ≡ count old
as_it_was {D} count old new same = ap count same

-- ---- pages

-- where nothing is written over settled pages, and there are none in all, none are settled
pub none_settled : (fresh settled : PageMap) → over fresh settled ≡ nothing → settled ≡ nothing
none_settled fresh settled none = λ i n. (at (fresh n) (settled n) (ap (λ (p : PageMap). p n) none)) i
  where
    at : (a b : Option (List ℕ)) → pick a b ≡ None → b ≡ None
    at None b e = e
    at (Some x) b e = let bad : Some x ≡ None = e in absurd (cc)

-- ---- refusals

-- what the pool refuses but a read is never told as damage
pub pool_tells : (error : StoreError) (cause : PoolError) (n : ℕ) → error ≡ of_pool cause → (cause ≡ pool.Damaged → ⊥) → Tells error n n
pool_tells error cause n is sound = subst (λ (e : StoreError). Tells e n n) (sym is) (by cause sound)
  where
    by : (c : PoolError) → (c ≡ pool.Damaged → ⊥) → Tells (of_pool c) n n
    by pool.Memory h = refl
    by (pool.Device e) h = refl
    by pool.Damaged h = absurd (h refl)
    by pool.Pages h = refl
    by pool.Kept h = refl

pub of_memory : (c : PoolError) → c ≡ pool.Memory → c ≡ pool.Damaged → ⊥
of_memory c memory damaged = let bad : pool.Memory ≡ pool.Damaged = sym memory ∙ damaged in cc

pub of_device : (k n : ℕ) (c : PoolError) → IsOfDevice k n c → c ≡ pool.Damaged → ⊥
of_device k n c h damaged = subst (IsOfDevice k n) damaged h

-- a refusal that is passed on
pub fails_so : {A : Type 0} (result found : Result A StoreError) (sound : Type 0) (k n : ℕ) → result ≡ found → IfErr found (MayFail sound k n Never) → IfErr result (MayFail sound k n Never)
fails_so {A} result found sound k n same h = subst (λ (r : Result A StoreError). IfErr r (MayFail sound k n Never)) (sym same) h
