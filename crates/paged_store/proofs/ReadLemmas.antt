-- What is read of a view, and why a reading is refused.
use Rattle.std.proofs.Common.{◌≡◌, ◌∙◌, sym, ap, subst, ℕ, Bool, Result, IfErr}
use Rattle.std.specs.Prelude.{unwrap_or}
use Rattle.std.specs.Ordering.{nat_cmp}
use Rattle.std.specs.FinMap.{FinMap, get}
use Rattle.store.specs.Contents.{Contents}
use Rattle.store.specs.Errors.{MayFail, Never}
use Rattle.store.specs.View.{seen_by}
use Rattle.store.specs.declared.error.StoreError.{StoreError}
use Rattle.store.specs.declared.view.View.{View}
use Rattle.store.specs.declared.view.View.TheVariants as at
use Rattle.pool.specs.Pages.{PageMap}
use Rattle.pool.specs.Versions.{Versions}
use Rattle.database_versions.specs.Databases.{nothing, contents_in, IsDatabase}
use Rattle.database_versions.proofs.RefusalLemmas.{refused_weaker}
use Rattle.paged_store.specs.Shown.{stored}
use Rattle.paged_store.specs.Sound.{IsSound}
use Rattle.paged_store.specs.SeenLemmas.{known_is, seen_found, database_found}

module _ (honest : Bool) (v : Versions) (numbers : FinMap nat_cmp ℕ) (written settled : PageMap) (commits : ℕ) (last : commits ≡ v.last) where
  pub working_there : IsSound honest v numbers written settled → IsDatabase (v.pages commits) written
  working_there sound = subst (λ (n : ℕ). IsDatabase (v.pages n) written) (sym last) sound.working.is

  pub read_working : (P : Contents → Type 0) (view : View) → view ≡ at.Working → (IsDatabase (v.pages commits) written → P (contents_in (v.pages commits) written))
      → IsSound honest v numbers written settled → P (seen_by (stored honest v numbers written settled) view)
  read_working P view e read sound =
      subst (λ (w : View). P (seen_by (stored honest v numbers written settled) w)) (sym e)
      (subst P (ap (λ (n : ℕ). contents_in (v.pages n) written) last ∙ sym (known_is honest (v.pages v.last) written sound.device)) (read (working_there sound)))

module _ (honest : Bool) (v : Versions) (numbers : FinMap nat_cmp ℕ) (written settled : PageMap) (commits : ℕ) (last : commits ≡ v.last)
    (q number : ℕ) (is : number ≡ unwrap_or (get numbers q) commits) (pages : PageMap) (none : pages ≡ nothing) where
  number_is : number ≡ unwrap_or (get numbers q) v.last
  number_is = is ∙ ap (λ (n : ℕ). unwrap_or (get numbers q) n) last

  pub found_there : IsSound honest v numbers written settled → IsDatabase (v.pages number) pages
  found_there sound = subst (λ (p : PageMap). IsDatabase (v.pages number) p) (sym none)
      (subst (λ (n : ℕ). IsDatabase (v.pages n) nothing) (sym number_is) (database_found honest v numbers written settled q sound))

  pub read_found : (P : Contents → Type 0) (view : View) → view ≡ at.Found q → (IsDatabase (v.pages number) pages → P (contents_in (v.pages number) pages))
      → IsSound honest v numbers written settled → P (seen_by (stored honest v numbers written settled) view)
  read_found P view e read sound =
      let found : ℕ = unwrap_or (get numbers q) v.last in
      let there : contents_in (v.pages number) pages ≡ contents_in (v.pages found) nothing = λ i. contents_in (v.pages (number_is i)) (none i) in
      subst (λ (w : View). P (seen_by (stored honest v numbers written settled) w)) (sym e)
      (subst P (there ∙ sym (known_is honest (v.pages found) nothing sound.device) ∙ sym (seen_found honest v numbers written settled q)) (read (found_there sound)))

-- a refusal, by what is weaker
pub read_fails : {A : Type 0} (result : Result A StoreError) (sound other : Type 0) (k n : ℕ) → (other → sound) → IfErr result (MayFail sound k n Never) → IfErr result (MayFail other k n Never)
read_fails result sound other k n f h = refused_weaker result sound other k n Never Never f (λ l never. never) h
