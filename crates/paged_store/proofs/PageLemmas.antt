-- Pages of a version, of a commit, and of changes that begin again.
use Rattle.std.proofs.Common.{◌≡◌, ◌∙◌, refl, sym, ap, subst, ℕ, Bool, true, false, Option, Some, None, List, IsTrue, IsSome}
use Rattle.std.specs.Option.{is_some}
use Rattle.pool.specs.Pages.{PageMap, pick, over, known}
use Rattle.pool.specs.Versions.{Versions}
use Rattle.overlay.specs.Bounded as bounded
use Rattle.overlay.specs.InUse.{in_use}
use Rattle.database_trees.specs.Held.{HoldsDatabase, IsAllOwned}
use Rattle.stored_tables.specs.Contents.{contents_at}
use Rattle.database_versions.specs.Databases.{nothing, root_of, contents_in, known_contents, IsDatabase, IsOwned}

-- ---- changes

-- nothing was written
pub none_private : (fresh settled : PageMap) → fresh ≡ nothing → settled ≡ nothing → over fresh settled ≡ nothing
none_private fresh settled a b = λ i n. pick (a i n) (b i n)

-- nothing was written since the mark
pub none_fresh : (fresh settled was : PageMap) → fresh ≡ nothing → settled ≡ was → over fresh settled ≡ was
none_fresh fresh settled was a b = λ i n. pick (a i n) (b i n)

-- ---- a commit

some_over : (a b : Option (List ℕ)) → is_some b ≡ true → is_some (pick a b) ≡ true
some_over (Some x) b e = refl
some_over None b e = e

-- pages are in use as they were when they lay over the version
pub use_committed : (base written : PageMap) → is_some (base 0) ≡ true → in_use (over written base) nothing ≡ in_use base written
use_committed base written e = λ i n. (same n) i
  where
    same : (n : ℕ) → in_use (over written base) nothing n ≡ in_use base written n
    same n = bounded.known (over written base) nothing n (some_over (written 0) (base 0) e) ∙ sym (bounded.known base written n e)

pub contents_committed : (base written : PageMap) → is_some (base 0) ≡ true → contents_in (over written base) nothing ≡ contents_in base written
contents_committed base written e = ap (λ (pages : PageMap). contents_at pages (root_of base written)) (use_committed base written e)

pub known_committed : (honest : Bool) (base written now : PageMap) → now ≡ known honest (over written base) → (IsTrue honest → IsSome (base 0))
    → known_contents honest now nothing ≡ known_contents honest base written
known_committed true base written now is first = ap (λ (p : PageMap). contents_in p nothing) is ∙ contents_committed base written (first refl)
known_committed false base written now is first = refl

pub database_committed : (honest : Bool) (base written now : PageMap) → now ≡ known honest (over written base) → IsTrue honest → IsSome (base 0)
    → IsDatabase base written → IsDatabase now nothing
database_committed true base written now is device first d = subst (λ (p : PageMap). IsDatabase p nothing) (sym is) (record {
  whole = record { whole = d.whole.whole; full = λ start. start };
  tables = d.tables;
  holds = subst (λ (pages : PageMap). HoldsDatabase pages (root_of base written) d.tables) (sym (use_committed base written first)) d.holds;
  read = contents_committed base written first ∙ d.read;
  rise = d.rise;
})
database_committed false base written now is device first d = let bad : false ≡ true = device in absurd (cc)

pub owned_committed : (honest : Bool) (base written now : PageMap) → now ≡ known honest (over written base) → IsTrue honest → IsSome (base 0)
    → IsOwned base written → IsOwned now nothing
owned_committed true base written now is device first d = subst (λ (p : PageMap). IsOwned p nothing) (sym is) (record {
  is = database_committed true base written (over written base) refl device first d.is;
  start = d.is.whole.full d.start;
  tables = d.tables;
  owned = subst (λ (pages : PageMap). IsAllOwned pages (root_of base written) d.tables) (sym (use_committed base written first)) d.owned;
})
owned_committed false base written now is device first d = let bad : false ≡ true = device in absurd (cc)

pub first_committed : (honest : Bool) (base written now : PageMap) → now ≡ known honest (over written base) → (IsTrue honest → IsSome (base 0)) → IsTrue honest → IsSome (now 0)
first_committed true base written now is first device = subst (λ (p : PageMap). IsSome (p 0)) (sym is) (some_over (written 0) (base 0) (first device))
first_committed false base written now is first device = let bad : false ≡ true = device in absurd (cc)

-- ---- the last commit is kept

pub newest_kept : (v w : Versions) → w.last ≡ v.last → w.pages v.last ≡ v.pages v.last → w.pages w.last ≡ v.pages v.last
newest_kept v w last newest = ap w.pages last ∙ newest

pub first_kept : (honest : Bool) (v w : Versions) → w.pages w.last ≡ v.pages v.last → (IsTrue honest → IsSome (v.pages v.last 0)) → IsTrue honest → IsSome (w.pages w.last 0)
first_kept honest v w newest first device = subst (λ (p : PageMap). IsSome (p 0)) (sym newest) (first device)
