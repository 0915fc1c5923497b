-- WriteSet of the tables that are shown, and refusals of the pool.
use Rattle.std.proofs.Common.{◌≡◌, ◌∙◌, sym, ap, subst, ℕ, Bool}
use Rattle.std.specs.Ordering.{nat_cmp}
use Rattle.std.specs.FinMap.{FinMap}
use Rattle.store.specs.Contents.{Contents}
use Rattle.store.specs.Errors.{MayFail}
use Rattle.store.specs.declared.error.StoreError.{StoreError}
use Rattle.store.specs.declared.error.StoreLimit.{StoreLimit}
use Rattle.pool.specs.Pages.{PageMap}
use Rattle.pool.specs.Versions.{Versions}
use Rattle.pool.specs.declared.error.PoolError.{PoolError}
use Rattle.pool.specs.declared.error.PoolError.TheVariants as pool
use Rattle.database_versions.specs.Changed.{IsNow}
use Rattle.database_versions.specs.Databases.{contents_in, known_contents, IsDatabase}
use Rattle.database_versions.specs.Refusals.{of_pool}
use Rattle.paged_store.specs.SeenLemmas.{known_is}
use Rattle.paged_store.specs.Sound.{IsSound}

module _ (honest : Bool) (v : Versions) (numbers : FinMap nat_cmp ℕ) (written settled : PageMap) (commits : ℕ) (last : commits ≡ v.last) where
  -- a change of the tables that lie there is one of the tables that are shown
  pub changed_here : (change : Contents → Contents) (now : PageMap) → (IsDatabase (v.pages commits) written → IsNow (v.pages commits) now (change (contents_in (v.pages commits) written)))
      → IsSound honest v numbers written settled → IsNow (v.pages v.last) now (change (known_contents honest (v.pages v.last) written))
  changed_here change now made sound =
      subst (λ (c : Contents). IsNow (v.pages v.last) now (change c)) (sym (known_is honest (v.pages v.last) written sound.device))
      (subst (λ (n : ℕ). IsDatabase (v.pages n) written → IsNow (v.pages n) now (change (contents_in (v.pages n) written))) last made sound.working.is)

-- want of memory
pub memory_fails : (sound : Type 0) (k n : ℕ) (reached : StoreLimit → Type 0) (error : StoreError) (cause : PoolError) → error ≡ of_pool cause → cause ≡ pool.Memory → MayFail sound k n reached error
memory_fails sound k n reached error cause is memory = subst (λ (e : StoreError). MayFail sound k n reached e) (sym (is ∙ ap of_pool memory)) tt

-- an error that is told as this one
pub told_fails : (sound : Type 0) (k n : ℕ) (reached : StoreLimit → Type 0) (error other : StoreError) → error ≡ other → MayFail sound k n reached other → MayFail sound k n reached error
told_fails sound k n reached error other is h = subst (λ (e : StoreError). MayFail sound k n reached e) (sym is) h
