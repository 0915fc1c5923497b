-- Where each page of a version stands of which none is lost.
use Rattle.std.proofs.Common.{◌≡◌, ◌≢◌, ◌∙◌, ◌++◌, ℕ, ◌<◌, ◌≤◌, true, refl, sym, ap, arith, List, Option, Some, None, IsSome, ◌⊎◌, inl, inr}
use Rattle.std.specs.Prelude.{slice_index, nat_lt, if◌then◌else◌}
use Rattle.std.specs.Option.{is_some}
use Rattle.std.proofs.lemmas.Bool.{cases_lt}
use Rattle.pagefile.specs.declared.header.FileHeader.{FileHeader}
use Rattle.pool.specs.Pages.{PageMap, over, pick}
use Rattle.pool.proofs.SlotLemmas.{lt-true}
use Rattle.overlay.specs.Bounded.{known, some_is}
use Rattle.overlay.specs.InUse.{in_use, is_counted, not_free}
use Rattle.overlay.specs.Whole.{IsIn, HasFreeList}
use Rattle.overlay.proofs.InUseLemmas.{in_use-here}
use Rattle.overlay.proofs.WholeLemmas.{same_or_apart}
use Rattle.btree_read.specs.Lists.{Has}
use Rattle.database_trees.specs.Held.{trees_of}
use Rattle.database_trees.specs.Trees.{pages_of}
use Rattle.database_trees.proofs.DatabaseLemmas.{all_are_owned}
use Rattle.database_versions.specs.Databases.{nothing, root_of, IsOwned}

-- laid over itself a version is as it was
pick_same : (o : Option (List ℕ)) → pick o o ≡ o
pick_same None = refl
pick_same (Some page) = refl

over_itself : (p : PageMap) → over p p ≡ p
over_itself p = λ i n. pick_same (p n) i

-- a page that is there, below the page count and not free, is in use
used : (p : PageMap) (header : FileHeader) (w : HasFreeList true p header) (n : ℕ) (page : List ℕ) → 0 < n → n < header.page_count → p n ≡ Some page → slice_index page 0 ≢ 3
    → in_use p nothing n ≡ Some page
used p header w n page some below there differs =
    known p nothing n first ∙ sym (ap (λ (q : PageMap). if is_counted (q 0) n then not_free q n else None) (over_itself p)) ∙ sym (known p p n first)
    ∙ in_use-here p p n page some few there differs (λ k. counted)
  where
    first : is_some (p 0) ≡ true
    first = ap (λ (o : Option (List ℕ)). is_some o) w.there

    few : n < 65536
    few = let most = w.bounds.few in omega (arith, below, most)

    counted : is_counted (over p p 0) n ≡ true
    counted = ap (λ (o : Option (List ℕ)). is_counted o n) (ap (λ (q : PageMap). q 0) (over_itself p) ∙ w.there) ∙ ap (λ (c : ℕ). nat_lt n c) w.says.page_count ∙ lt-true n header.page_count below

pub has_place : (p : PageMap) (d : IsOwned p nothing) (n : ℕ) → IsSome (p n) → (n ≡ 0) ⊎ (Has n (d.owned.owned ++ pages_of (trees_of d.tables)) ⊎ IsIn n d.start.1.free)
has_place p d n there = by (same_or_apart n 0)
  where
    page : (bytes : List ℕ) × (p n ≡ Some bytes)
    page = some_is (p n) there

    never_behind : d.start.0.page_count ≤ n → ⊥
    never_behind behind = let none = d.start.1.ends n behind in let bad : None ≡ Some page.0 = sym none ∙ page.1 in cc

    within : (n < d.start.0.page_count) ⊎ (d.start.0.page_count ≤ n) → n < d.start.0.page_count
    within (inl less) = less
    within (inr behind) = absurd (never_behind behind)

    below : n < d.start.0.page_count
    below = within (cases_lt n d.start.0.page_count)

    placed : 0 < n → (slice_index page.0 0 ≡ 3) ⊎ (slice_index page.0 0 ≢ 3) → (n ≡ 0) ⊎ (Has n (d.owned.owned ++ pages_of (trees_of d.tables)) ⊎ IsIn n d.start.1.free)
    placed some (inl free) = inr (inr (d.start.1.lists refl n page.0 some below page.1 free))
    placed some (inr differs) = inr (inl (all_are_owned (in_use p nothing) (root_of p nothing) d.tables d.owned n (ap (λ (o : Option (List ℕ)). is_some o) (used p d.start.0 d.start.1 n page.0 some below page.1 differs))))

    by : (n ≡ 0) ⊎ (n ≢ 0) → (n ≡ 0) ⊎ (Has n (d.owned.owned ++ pages_of (trees_of d.tables)) ⊎ IsIn n d.start.1.free)
    by (inl zero_is) = inl zero_is
    by (inr differs) = placed (omega (arith, differs)) (same_or_apart (slice_index page.0 0) 3)
