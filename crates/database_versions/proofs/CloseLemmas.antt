-- What closing leaves on the device.
use Rattle.std.proofs.Common.{◌≡◌, ◌∙◌, ℕ, ◌+◌, ◌*◌, ◌%◌, ◌<◌, ◌≤◌, Bool, true, false, List, [], ◌∷◌, length, Option, Some, None, IsTrue, IsSome, Result, Ok, Err, IfOk, refl, sym, ap, subst, inl, inr, arith, suc, zero}
use Rattle.std.specs.Prelude.{◌⊎◌, nat_le, if◌then◌else◌}
use Rattle.std.proofs.lemmas.Bool.{cases_lt, leb-true}
use Rattle.store.specs.Contents.{database_of}
use Rattle.pagefile.specs.declared.header.FileHeader.{FileHeader}
use Rattle.pagefile.specs.Header.{IsHeader}
use Rattle.pagefile.specs.Parts.{gate_part}
use Rattle.journal.specs.declared.found.Format.TheVariants.{Two}
use Rattle.journal.specs.Headers.{IsGood, IsHeaderOf}
use Rattle.journal.specs.Parts.{place}
use Rattle.journal.specs.Versions.{StandsFor, InPlaces}
use Rattle.journal.proofs.States.{shut_is}
use Rattle.journaled_file.specs.Renewed.{renewed_pages}
use Rattle.journaled_file.specs.Shown.{padded, placed}
use Rattle.journaled_file.proofs.Renewing.{stays_renewed}
use Rattle.last_version.specs.Standing.{padded_of, pages_below}
use Rattle.last_version.proofs.ShownLemmas.{shown_there, shown_gone}
use Rattle.pool.specs.Pages.{PageMap}
use Rattle.overlay.specs.Bounded.{some_is}
use Rattle.overlay.specs.Whole.{HasFreeList}
use Rattle.database_versions.specs.Databases.{nothing, contents_in, IsDatabase, IsOwned}
use Rattle.database_versions.specs.Saved.{HoldsDatabase, HoldsOwned, IsClosed, opened_pages}
use Rattle.database_versions.proofs.FileLemmas.{kept_header, place_size}

-- a page that a reader finds lies within the file, and is what stands in its place
page_found : (f : List ℕ) (n : ℕ) (page : List ℕ) → padded_of f n ≡ Some page → (4096 * n + 4096 ≤ length f) × (padded n (place f n) ≡ page)
page_found f n page = by (nat_le (4096 * n + 4096) (length f)) refl
  where
    by : (b : Bool) → nat_le (4096 * n + 4096) (length f) ≡ b → (if b then Some (padded n (place f n)) else None) ≡ Some page
        → (4096 * n + 4096 ≤ length f) × (padded n (place f n) ≡ page)
    by true e is = let same : padded n (place f n) ≡ page = cc in (leb-true (4096 * n + 4096) (length f) e, same)
    by false e is = let bad : None ≡ Some page = is in absurd (cc)

-- a file that has the pages of a version, and nothing behind the last of them, and whose gate is
-- shut
module _ (p : PageMap) (f : List ℕ) (stored : (n : ℕ) (page : List ℕ) → p n ≡ Some page → padded_of f n ≡ Some page)
    (size : (m : ℕ) → ((n : ℕ) → m ≤ n → p n ≡ None) → length f ≤ 4096 * m) (gate : gate_part f ≡ 0 ∷ []) (d : IsDatabase p nothing) where
  abbrev h : FileHeader
  h = d.whole.whole.0

  w : HasFreeList false p h
  w = d.whole.whole.1

  found : (n : ℕ) → n < h.page_count → (4096 * n + 4096 ≤ length f) × (Some (padded n (place f n)) ≡ p n)
  found n less =
      let page = some_is (p n) (w.all n less) in
      let it = page_found f n page.0 (stored n page.0 page.1) in (it.0, ap (λ (l : List ℕ). Some l) it.1 ∙ sym page.1)

  fits : length f ≡ 4096 * h.page_count
  fits = exact (length f) h.page_count w.bounds.some (size h.page_count w.ends) (λ n less. (found n less).0)
    where
      exact : (len count : ℕ) → 1 ≤ count → len ≤ 4096 * count → ((n : ℕ) → n < count → 4096 * n + 4096 ≤ len) → len ≡ 4096 * count
      exact len zero some most least = absurd (omega (arith, some))
      exact len (suc k) some most least = let last = least k (omega arith) in omega (arith, most, last)

  some : 4096 ≤ length f
  some = omega (arith, fits, w.bounds.some)

  first : padded 0 (place f 0) ≡ w.first
  first = (page_found f 0 w.first (stored 0 w.first w.there)).1

  header : IsHeaderOf (4096 * h.page_count) (place f 0) Two h
  header = kept_header (place f 0) (4096 * h.page_count) h (place_size f some) (subst (λ (l : List ℕ). IsHeader l h) (sym first) w.says) w.bounds (omega arith)

  good : IsGood (placed h.page_count f)
  good = record { format = Two; header = h; fits = header }

  places : InPlaces (placed h.page_count f) f
  places = record {
    size = record { some = some; long = omega (arith, fits); even = omega (arith, fits) };
    some = w.bounds.some;
    pages = λ n less. refl;
  }

  stands : StandsFor (placed h.page_count f) f
  stands = shut_is (placed h.page_count f) f 0 gate (λ e. omega (arith, e)) places

  -- it shows the same pages once it is opened
  shows : (n : ℕ) → opened_pages (placed h.page_count f) h.page_count n ≡ p n
  shows n = by (cases_lt n h.page_count)
    where
      by : (n < h.page_count) ⊎ (h.page_count ≤ n) → opened_pages (placed h.page_count f) h.page_count n ≡ p n
      by (inl less) =
          shown_there h.page_count (renewed_pages (place f)) n less
          ∙ ap (λ (l : List ℕ). Some (padded n l)) (sym (stays_renewed (place f) header.begins n)) ∙ (found n less).1
      by (inr more) = shown_gone h.page_count (renewed_pages (place f)) n more ∙ sym (w.ends n more)

  same : opened_pages (placed h.page_count f) h.page_count ≡ p
  same = λ i n. shows n i

  pub file_holds : HoldsDatabase f (database_of (contents_in p nothing))
  unfolding good
  file_holds = record {
    version = placed h.page_count f;
    stands = stands;
    good = good;
    is = subst (λ (q : PageMap). IsDatabase q nothing) (sym same) d;
    shows = ap (λ (q : PageMap). database_of (contents_in q nothing)) same;
  }

  pub file_owned : IsOwned p nothing → HoldsOwned f
  unfolding good
  file_owned owned = record {
    version = placed h.page_count f;
    stands = stands;
    good = good;
    owned = subst (λ (q : PageMap). IsOwned q nothing) (sym same) owned;
  }

  pub file_closed : IsClosed f
  file_closed = record { gate = gate; begins = header.begins }

module _ {A E : Type 0} (result : Result A E) (honest : Bool) (bytes : A → List ℕ) (p : PageMap)
    (stored : IfOk result (λ a. IsTrue honest → (n : ℕ) (page : List ℕ) → p n ≡ Some page → padded_of (bytes a) n ≡ Some page))
    (size : IfOk result (λ a. IsTrue honest → (m : ℕ) → ((n : ℕ) → m ≤ n → p n ≡ None) → length (bytes a) ≤ 4096 * m))
    (gate : IfOk result (λ a. IsTrue honest → gate_part (bytes a) ≡ 0 ∷ [])) where
  pub closed_holds : IfOk result (λ a. IsTrue honest → IsDatabase p nothing → HoldsDatabase (bytes a) (database_of (contents_in p nothing)))
  closed_holds = by result stored size gate
    where
      by : (r : Result A E) → IfOk r (λ a. IsTrue honest → (n : ℕ) (page : List ℕ) → p n ≡ Some page → padded_of (bytes a) n ≡ Some page)
          → IfOk r (λ a. IsTrue honest → (m : ℕ) → ((n : ℕ) → m ≤ n → p n ≡ None) → length (bytes a) ≤ 4096 * m)
          → IfOk r (λ a. IsTrue honest → gate_part (bytes a) ≡ 0 ∷ [])
          → IfOk r (λ a. IsTrue honest → IsDatabase p nothing → HoldsDatabase (bytes a) (database_of (contents_in p nothing)))
      by (Ok a) stored size gate = λ h d. file_holds p (bytes a) (stored h) (size h) (gate h) d
      by (Err e) stored size gate = stored

  pub closed_owned : IfOk result (λ a. IsTrue honest → IsOwned p nothing → HoldsOwned (bytes a))
  closed_owned = by result stored size gate
    where
      by : (r : Result A E) → IfOk r (λ a. IsTrue honest → (n : ℕ) (page : List ℕ) → p n ≡ Some page → padded_of (bytes a) n ≡ Some page)
          → IfOk r (λ a. IsTrue honest → (m : ℕ) → ((n : ℕ) → m ≤ n → p n ≡ None) → length (bytes a) ≤ 4096 * m)
          → IfOk r (λ a. IsTrue honest → gate_part (bytes a) ≡ 0 ∷ []) → IfOk r (λ a. IsTrue honest → IsOwned p nothing → HoldsOwned (bytes a))
      by (Ok a) stored size gate = λ h owned. file_owned p (bytes a) (stored h) (size h) (gate h) owned.is owned
      by (Err e) stored size gate = stored

  pub closed_shut : IfOk result (λ a. IsTrue honest → IsDatabase p nothing → IsClosed (bytes a))
  closed_shut = by result stored size gate
    where
      by : (r : Result A E) → IfOk r (λ a. IsTrue honest → (n : ℕ) (page : List ℕ) → p n ≡ Some page → padded_of (bytes a) n ≡ Some page)
          → IfOk r (λ a. IsTrue honest → (m : ℕ) → ((n : ℕ) → m ≤ n → p n ≡ None) → length (bytes a) ≤ 4096 * m)
          → IfOk r (λ a. IsTrue honest → gate_part (bytes a) ≡ 0 ∷ []) → IfOk r (λ a. IsTrue honest → IsDatabase p nothing → IsClosed (bytes a))
      by (Ok a) stored size gate = λ h d. file_closed p (bytes a) (stored h) (size h) (gate h) d
      by (Err e) stored size gate = stored
