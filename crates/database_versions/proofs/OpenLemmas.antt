-- What opening a device gives.
use Rattle.std.proofs.Common.{◌≡◌, ◌≢◌, ◌∙◌, ℕ, zero, suc, ◌*◌, ◌%◌, ◌<◌, ◌≤◌, [], ◌∷◌, ◌++◌, Bool, true, false, List, length, get_or, drop, Option, Some, None, Result, Ok, Err, IfOk, IfErr, IsTrue, IsSome, refl, sym, ap, subst, arith, ◌⊎◌, inl, inr}
use Rattle.std.specs.Option.{is_some}
use Rattle.std.proofs.lemmas.Bool.{cases_eq}
use Rattle.std.specs.FinMap.{empty}
use Rattle.denote.specs.Database.{Database}
use Rattle.store.specs.declared.error.StoreError.{StoreError}
use Rattle.store.specs.declared.error.StoreError.TheVariants as refused
use Rattle.store.specs.Contents.{database_of}
use Rattle.store.specs.Errors.{MayFail, Never}
use Rattle.store.proofs.Databases.{database-empty}
use Rattle.pagefile.specs.declared.header.FileHeader.{FileHeader}
use Rattle.pagefile.specs.Header.{IsHeader, IsInBounds}
use Rattle.pool.specs.Zeros.{EndsInZeros}
use Rattle.pagefile.specs.Parts.{gate_part}
use Rattle.journal.specs.declared.found.Format.TheVariants.{Two}
use Rattle.journal.specs.declared.found.Found.{Found}
use Rattle.journal.specs.declared.found.Gate.{Gate}
use Rattle.journal.specs.declared.found.Gate.TheVariants.{Shut, Torn, Open}
use Rattle.journal.specs.Headers.{IsFile, IsNoFile, IsGate, IsGood, IsHeaderOf, header_part, magic_2}
use Rattle.journal.specs.New.{header_bytes_2}
use Rattle.journal.specs.Parts.{place}
use Rattle.journal.specs.Versions.{Version, StandsFor, InPlaces, IsShut}
use Rattle.journal.proofs.Finding.{gate_is, good_is_file, header_shorter, stands_header}
use Rattle.journal.proofs.Making.{header_2_reads, length_header_2}
use Rattle.journal.proofs.States.{among_open, shut_is}
use Rattle.journaled_file.specs.Refused as counted
use Rattle.journaled_file.specs.Renewed.{IsHeaderIn, renewed_pages}
use Rattle.journaled_file.specs.Shown.{IsAtRest, padded, placed}
use Rattle.journaled_file.specs.declared.opening.OpenRefusal.{OpenRefusal}
use Rattle.journaled_file.specs.declared.opening.OpenRefusal.TheVariants as opening
use Rattle.last_version.specs.Standing.{pages_below}
use Rattle.last_version.proofs.ShownLemmas.{shown_there, shown_gone, shown_as}
use Rattle.pool.specs.Pages.{PageMap, only, known}
use Rattle.pool.specs.Versions.{Versions}
use Rattle.overlay.specs.Bounded.{in_use-bounded}
use Rattle.overlay.specs.InUse.{in_use}
use Rattle.overlay.specs.Whole.{IsWholeFor}
use Rattle.overlay.proofs.InUseLemmas.{in_use-read}
use Rattle.overlay.proofs.LayerLemmas.{only_apart}
use Rattle.database_trees.specs.Held as database
use Rattle.database_trees.proofs.DatabaseLemmas.{as_tables, at_first}
use Rattle.database_versions.specs.Databases.{nothing, root_of, contents_in, IsDatabase, IsOwned}
use Rattle.database_versions.specs.Opened.{Begins, BeginsEmpty, BeginsOwned, IsHandedBack, IsReadable}
use Rattle.database_versions.specs.Refusals.{of_open}
use Rattle.database_versions.specs.Saved.{HoldsDatabase, HoldsOwned, IsClosed, IsSaved, IsSavedOwned, opened_pages}
use Rattle.database_versions.proofs.FileLemmas.{padded_header, padded_zeros, place_size, renewed_header, renewed_size}
use Rattle.database_versions.proofs.HeldLemmas.{TheyAreRead, TheyRise, is_database}
use Rattle.database_versions.proofs.RefusalLemmas.{fail_weaker}

pub known_of : (honest : Bool) (p : PageMap) → IsTrue honest → known honest p ≡ p
known_of true p h = refl
known_of false p h = let bad : false ≡ true = h in absurd (cc)

-- ---- a new database

-- the header of a file of one page
abbrev pub new_header : FileHeader
new_header = record { page_count = 1; first_free = 0; catalog_root = 0 }

abbrev pub TheyBegin : Type 0
TheyBegin = (pages : PageMap) → database.HoldsDatabase pages 0 []

first_whole : (full : Bool) (first : List ℕ) → IsHeader first new_header → EndsInZeros first → IsWholeFor full (only 0 first)
first_whole full first says zeros = (
  new_header,
  record {
    first = first;
    there = refl;
    says = says;
    zeros = zeros;
    bounds = record { some = omega arith; few = omega arith; free = omega arith; root = omega arith };
    free = [];
    listed = refl;
    apart = tt;
    within = λ n i. absurd i;
    all = λ n less. subst (λ (k : ℕ). IsSome (only 0 first k)) (zero_is n less) refl;
    ends = λ n behind. only_apart 0 n first (above n behind);
    lists = λ e n bytes some less there kind. absurd (no_other n some less);
  },
)
  where
    zero_is : (n : ℕ) → n < 1 → 0 ≡ n
    zero_is n less = omega (arith, less)

    no_other : (n : ℕ) → 0 < n → n < 1 → ⊥
    no_other n some less = omega (arith, some, less)

    above : (n : ℕ) → 1 ≤ n → n ≢ 0
    above n behind = omega (arith, behind)

first_holds : TheyBegin → (first : List ℕ) → IsHeader first new_header → database.HoldsDatabase (in_use (only 0 first) nothing) (root_of (only 0 first) nothing) []
first_holds begin first says = subst (λ (r : ℕ). database.HoldsDatabase (in_use (only 0 first) nothing) r []) (sym says.catalog_root) (begin (in_use (only 0 first) nothing))

first_database : TheyBegin → TheyAreRead → TheyRise → (first : List ℕ) → IsHeader first new_header → EndsInZeros first → IsDatabase (only 0 first) nothing
first_database begin read rise first says zeros = is_database read rise (only 0 first) nothing [] (record { whole = first_whole false first says zeros; full = λ start. start }) (first_holds begin first says)

first_shows : TheyBegin → TheyAreRead → database.contents_of [] ≡ empty → (first : List ℕ) → IsHeader first new_header → database_of (contents_in (only 0 first) nothing) ≡ empty
first_shows begin read none first says =
    ap database_of (read (in_use (only 0 first) nothing) (root_of (only 0 first) nothing) [] (λ n there. in_use-bounded (only 0 first) nothing n there)
    (as_tables (in_use (only 0 first) nothing) (root_of (only 0 first) nothing) [] (first_holds begin first says)) ∙ none) ∙ database-empty

-- no page of a new file is in use, so none is lost
first_none : (first : List ℕ) (n : ℕ) → in_use (only 0 first) nothing n ≡ None
first_none first n = by (in_use (only 0 first) nothing n) refl
  where
    by : (o : Option (List ℕ)) → in_use (only 0 first) nothing n ≡ o → in_use (only 0 first) nothing n ≡ None
    by None e = e
    by (Some page) e =
        let some : 0 < n = (in_use-bounded (only 0 first) nothing n (ap (λ (o : Option (List ℕ)). is_some o) e)).0 in
        let differs : n ≢ 0 = omega (arith, some) in
        let bad : None ≡ Some page = sym (only_apart 0 n first differs) ∙ in_use-read (only 0 first) nothing n page e in absurd (cc)

first_owned : TheyBegin → TheyAreRead → TheyRise → (first : List ℕ) → IsHeader first new_header → EndsInZeros first → IsOwned (only 0 first) nothing
first_owned begin read rise first says zeros = record {
  is = first_database begin read rise first says zeros;
  start = first_whole true first says zeros;
  tables = [];
  owned = subst (λ (r : ℕ). database.IsAllOwned (in_use (only 0 first) nothing) r []) (sym says.catalog_root) (at_first (in_use (only 0 first) nothing) (λ alone n. first_none first n));
}

-- ---- what is on the device

-- an empty file stands for nothing
empty_stands : (bytes : List ℕ) (v : Version) → bytes ≡ [] → StandsFor v bytes → ⊥
empty_stands bytes v none (inl o) = let short = ap (λ (f : List ℕ). length f) none in let long = o.1.size.some in omega (arith, short, long)
empty_stands bytes v none (inr s) = let short = ap (λ (f : List ℕ). length f) none in let long = s.1.size.some in omega (arith, short, long)

-- one page
one_page : (p : ℕ → List ℕ) (n : ℕ) → pages_below 1 p n ≡ only 0 (padded 0 (p 0)) n
one_page p zero = refl
one_page p (suc n) = let behind : suc n ≢ 0 = omega arith in shown_gone 1 p (suc n) (omega arith) ∙ sym (only_apart 0 (suc n) (padded 0 (p 0)) behind)

-- a new file is at rest
pub new_rest : (honest durable : Bool) (file : List ℕ) (outcomes : List ℕ → Type 0) → (IsTrue honest → file ≡ header_bytes_2 new_header)
    → (IsTrue durable → IsTrue honest → (c : List ℕ) → outcomes c → c ≡ file) → IsTrue honest → IsAtRest honest durable 1 file outcomes (placed 1 file)
new_rest honest durable file outcomes made only h = record {
  many = refl;
  some = omega arith;
  room = λ _. omega (arith, size);
  pages = λ _ n less. refl;
  gate = λ _. gate;
  shut = λ d h c left. subst (IsShut (placed 1 file)) (sym (only d h c left)) here;
}
  where
    size : length file ≡ 4096
    size = ap (λ (f : List ℕ). length f) (made h) ∙ length_header_2 new_header

    gate : gate_part file ≡ 0 ∷ []
    gate = ap (λ (f : List ℕ). gate_part f) (made h)

    here : IsShut (placed 1 file) file
    here = record {
      gate = gate;
      places = record {
        size = record { some = omega (arith, size); long = omega (arith, size); even = ap (λ (k : ℕ). k % 4096) size };
        some = omega arith;
        pages = λ n less. refl;
      };
    }

-- the first page of a new file
module _ (now : List ℕ) (made : now ≡ header_bytes_2 new_header) where
  abbrev page : List ℕ
  page = padded 0 (place now 0)

  size : length (place now 0) ≡ 20
  size = let long : length now ≡ 4096 = ap (λ (f : List ℕ). length f) made ∙ length_header_2 new_header in place_size now (omega (arith, long))

  header : IsHeaderOf 4096 (place now 0) Two new_header
  header =
      subst (λ (f : List ℕ). IsHeaderOf 4096 (place f 0) Two new_header) (sym made)
      (header_shorter 4096 (header_bytes_2 new_header) Two new_header
      (header_2_reads new_header (record { some = omega arith; few = omega arith; free = omega arith; root = omega arith }) 4096 (omega arith)))

  pub new_says : IsHeader page new_header
  new_says = padded_header (place now 0) 4096 new_header size header

  pub new_zeros : EndsInZeros page
  new_zeros = padded_zeros (place now 0) size

pub new_begins : TheyBegin → TheyAreRead → TheyRise → database.contents_of [] ≡ empty → (honest : Bool) (bytes now : List ℕ) (v : Versions) → (IsTrue honest → bytes ≡ [])
    → (IsTrue honest → now ≡ header_bytes_2 new_header) → v.last ≡ 0 → v.pages ≡ (λ c. known honest (pages_below 1 (place now))) → v.pins ≡ (λ c. 0) → Begins honest bytes v
new_begins begin read rise none honest bytes now v empty_is made last pages pins = record {
  last = last;
  pins = pins;
  first = λ h. ap (λ (o : Option (List ℕ)). is_some o) (ap (λ (p : PageMap). p 0) (here h));
  is = λ db saved. subst (λ (p : PageMap). IsDatabase p nothing) (sym (here saved.0)) (first_database begin read rise (page now (made saved.0)) (new_says now (made saved.0)) (new_zeros now (made saved.0)));
  shows = λ db saved. ap (λ (p : PageMap). database_of (contents_in p nothing)) (here saved.0) ∙ first_shows begin read none (page now (made saved.0)) (new_says now (made saved.0))
      ∙ sym (is_empty db saved.1 (empty_is saved.0));
}
  where
    here : IsTrue honest → v.pages 0 ≡ only 0 (padded 0 (place now 0))
    here h = ap (λ (p : ℕ → PageMap). p 0) pages ∙ known_of honest (pages_below 1 (place now)) h ∙ (λ i n. one_page (place now) n i)

    is_empty : (db : Database) → ((bytes ≡ []) × (db ≡ empty)) ⊎ HoldsDatabase bytes db → bytes ≡ [] → db ≡ empty
    is_empty db (inl both) gone = both.1
    is_empty db (inr held) gone = absurd (empty_stands bytes held.version gone held.stands)

pub new_owned : TheyBegin → TheyAreRead → TheyRise → (honest : Bool) (bytes now : List ℕ) (v : Versions) → (IsTrue honest → now ≡ header_bytes_2 new_header)
    → v.pages ≡ (λ c. known honest (pages_below 1 (place now))) → BeginsOwned honest bytes v
new_owned begin read rise honest bytes now v made pages = λ h saved.
    subst (λ (p : PageMap). IsOwned p nothing)
    (sym (ap (λ (p : ℕ → PageMap). p 0) pages ∙ known_of honest (pages_below 1 (place now)) h ∙ (λ i n. one_page (place now) n i)))
    (first_owned begin read rise (page now (made h)) (new_says now (made h)) (new_zeros now (made h)))

-- what a refusal over an empty device leaves
pub new_back : (honest : Bool) (old new : List ℕ) (error : StoreError) → (IsTrue honest → old ≡ []) → (error ≡ refused.Damaged → ⊥)
    → (IsTrue honest → (new ≡ old) ⊎ (length new ≡ 4096)) → IsHandedBack honest old new error
new_back honest old new error none never made = record {
  damaged = λ is. absurd (never is);
  closed = λ h shut. absurd (open_gate shut.gate (none h));
  made = λ h is. by is (made h);
}
  where
    open_gate : gate_part old ≡ 0 ∷ [] → old ≡ [] → ⊥
    open_gate gate is = let bad : [] ≡ 0 ∷ [] = sym (ap (λ (f : List ℕ). gate_part f) is) ∙ gate in cc

    by : old ≡ [] → (new ≡ old) ⊎ (length new ≡ 4096) → (new ≡ []) ⊎ (length new ≡ 4096)
    by is (inl same) = inl (same ∙ is)
    by is (inr long) = inr long

-- ---- a file

-- what is shown of a file that was opened is what the version has for which it stood
module _ (file now : List ℕ) (h : FileHeader) (is : IsHeaderIn file h)
    (pages : (v : Version) → IsGood v → StandsFor v file → (n : ℕ) → n < h.page_count → place now n ≡ renewed_pages v.pages n) where
  count_is : (v : Version) (good : IsGood v) → StandsFor v file → h.page_count ≡ good.header.page_count
  count_is v good stands =
      ap (λ (k : FileHeader). k.page_count) is.2 ∙ sym (stands_header v file is.0 stands is.1).page_count ∙ good.fits.page_count

  pub shown_is : (v : Version) (good : IsGood v) → StandsFor v file → pages_below h.page_count (place now) ≡ opened_pages v good.header.page_count
  shown_is v good stands =
      (λ i n. shown_as h.page_count (place now) (renewed_pages v.pages) (pages v good stands) n i) ∙ ap (λ (k : ℕ). opened_pages v k) (count_is v good stands)

-- one page that is opened is the database without tables
module _ (file : List ℕ) (found : Found) (f : IsFile file found) (size : length file ≡ 4096) where
  v : Version
  v = placed 1 file

  found_part : (gate : Gate) → IsGate file gate → header_part file gate ≡ place file 0
  found_part Shut said = refl
  found_part Torn said = refl
  found_part (Open start n) said = let long = said.2.long in let some = said.2.some in absurd (omega (arith, long, some, size))

  part : IsHeaderOf (4096 * 1) (place file 0) found.format found.header
  part =
      subst (λ (k : ℕ). IsHeaderOf k (place file 0) found.format found.header) size
      (subst (λ (l : List ℕ). IsHeaderOf (length file) l found.format found.header) (found_part found.gate f.gate) f.header)

  one_stands : StandsFor (placed 1 file) file
  one_stands = by found.gate f.gate
    where
      places : InPlaces (placed 1 file) file
      places = record {
        size = record { some = omega (arith, size); long = omega (arith, size); even = ap (λ (k : ℕ). k % 4096) size };
        some = omega arith;
        pages = λ n less. refl;
      }

      by : (gate : Gate) → IsGate file gate → StandsFor (placed 1 file) file
      by Shut said = shut_is (placed 1 file) file 0 said (λ e. omega (arith, e)) places
      by Torn said = shut_is (placed 1 file) file said.0 said.3 said.2 places
      by (Open start n) said = let long = said.2.long in let some = said.2.some in absurd (omega (arith, long, some, size))

  one_good : IsGood (placed 1 file)
  one_good = record { format = found.format; header = found.header; fits = part }

  one : found.header.page_count ≡ 1
  one = let some = part.bounds.some in let long = part.long in omega (arith, some, long)

  is_new : found.header ≡ new_header
  is_new =
      let free : found.header.first_free ≡ 0 = (let low = part.bounds.free in omega (arith, low, one)) in
      let root : found.header.catalog_root ≡ 0 = (let low = part.bounds.root in omega (arith, low, one)) in
      λ i. record { page_count = one i; first_free = free i; catalog_root = root i }

  abbrev shown : List ℕ
  shown = padded 0 (magic_2 ++ drop 8 (place file 0))

  kept : length (place file 0) ≡ 20
  kept = place_size file (omega (arith, size))

  shown_says : IsHeader shown new_header
  shown_says =
      padded_header (magic_2 ++ drop 8 (place file 0)) 4096 new_header (renewed_size (place file 0) kept)
      (subst (λ (h : FileHeader). IsHeaderOf 4096 (magic_2 ++ drop 8 (place file 0)) Two h) is_new (renewed_header (place file 0) 4096 found.format found.header part))

  shown_zeros : EndsInZeros shown
  shown_zeros = padded_zeros (magic_2 ++ drop 8 (place file 0)) (renewed_size (place file 0) kept)

  is_one : opened_pages (placed 1 file) found.header.page_count ≡ only 0 shown
  is_one = ap (λ (k : ℕ). opened_pages (placed 1 file) k) one ∙ (λ i n. one_page (renewed_pages (place file)) n i)

  pub one_holds : TheyBegin → TheyAreRead → TheyRise → database.contents_of [] ≡ empty → HoldsDatabase file empty
  unfolding one_good
  one_holds begin read rise none = record {
    version = placed 1 file;
    stands = one_stands;
    good = one_good;
    is = subst (λ (p : PageMap). IsDatabase p nothing) (sym is_one) (first_database begin read rise shown shown_says shown_zeros);
    shows = ap (λ (p : PageMap). database_of (contents_in p nothing)) is_one ∙ first_shows begin read none shown shown_says;
  }

  pub one_owned : TheyBegin → TheyAreRead → TheyRise → HoldsOwned file
  unfolding one_good
  one_owned begin read rise = record {
    version = placed 1 file;
    stands = one_stands;
    good = one_good;
    owned = subst (λ (p : PageMap). IsOwned p nothing) (sym is_one) (first_owned begin read rise shown shown_says shown_zeros);
  }

module _ (honest : Bool) (bytes now : List ℕ) (header : FileHeader) (v : Versions) (some : IsTrue honest → bytes ≡ [] → ⊥) (bounds : IsInBounds header)
    (says : IsTrue honest → IsHeaderIn bytes header)
    (placed_as : IsTrue honest → (w : Version) → IsGood w → StandsFor w bytes → (n : ℕ) → n < header.page_count → place now n ≡ renewed_pages w.pages n)
    (pages : v.pages ≡ (λ c. known honest (pages_below header.page_count (place now)))) where
  here : IsTrue honest → v.pages 0 ≡ pages_below header.page_count (place now)
  here h = ap (λ (p : ℕ → PageMap). p 0) pages ∙ known_of honest (pages_below header.page_count (place now)) h

  as_version : (h : IsTrue honest) (w : Version) (good : IsGood w) → StandsFor w bytes → v.pages 0 ≡ opened_pages w good.header.page_count
  as_version h w good stands = here h ∙ shown_is bytes now header (says h) (placed_as h) w good stands

  held : (db : Database) → IsSaved honest bytes db → HoldsDatabase bytes db
  held db (h, (inl both)) = absurd (some h both.0)
  held db (h, (inr it)) = it

  pub old_begins : v.last ≡ 0 → v.pins ≡ (λ c. 0) → Begins honest bytes v
  old_begins last pins = record {
    last = last;
    pins = pins;
    first = λ h. ap (λ (o : Option (List ℕ)). is_some o) (ap (λ (p : PageMap). p 0) (here h) ∙ shown_there header.page_count (place now) 0 bounds.some);
    is = λ db saved.
        let it = held db saved in
        subst (λ (p : PageMap). IsDatabase p nothing) (sym (as_version saved.0 it.version it.good it.stands)) it.is;
    shows = λ db saved.
        let it = held db saved in
        ap (λ (p : PageMap). database_of (contents_in p nothing)) (as_version saved.0 it.version it.good it.stands) ∙ it.shows;
  }

  pub old_owned : BeginsOwned honest bytes v
  old_owned = λ h saved. by h saved
    where
      by : IsTrue honest → IsSavedOwned bytes → IsOwned (v.pages 0) nothing
      by h (inl none) = absurd (some h none)
      by h (inr it) = subst (λ (p : PageMap). IsOwned p nothing) (sym (as_version h it.version it.good it.stands)) it.owned

  pub old_empty : TheyBegin → TheyAreRead → TheyRise → database.contents_of [] ≡ empty → IsTrue honest → length bytes ≡ 4096 → BeginsEmpty v
  old_empty begin read rise none h size =
      let found = says h in
      let held = one_holds bytes found.0 found.1 size begin read rise none in
      let owned = one_owned bytes found.0 found.1 size begin read rise in
      record {
        owned = subst (λ (p : PageMap). IsOwned p nothing) (sym (as_version h owned.version owned.good owned.stands)) owned.owned;
        shows = ap (λ (p : PageMap). database_of (contents_in p nothing)) (as_version h held.version held.good held.stands) ∙ held.shows;
      }

-- what a refusal over a file leaves
pub old_back : (honest : Bool) (old new : List ℕ) (error : StoreError) → (IsTrue honest → old ≡ [] → ⊥) → (error ≡ refused.Damaged → IsTrue honest → new ≡ old)
    → (IsTrue honest → IsClosed old → new ≡ old) → IsHandedBack honest old new error
old_back honest old new error some damaged closed = record { damaged = damaged; closed = closed; made = λ h none. absurd (some h none) }

-- only damage is told as damage
pub open_damaged : (cause : OpenRefusal) → of_open cause ≡ refused.Damaged → cause ≡ opening.Damaged
open_damaged opening.Memory is = let bad : refused.Memory ≡ refused.Damaged = is in cc
open_damaged (opening.Device e) is = let bad : refused.Device ≡ refused.Damaged = is in cc
open_damaged opening.Damaged is = refl

-- ---- the device after a call that keeps its bytes

pub begins_from : (honest : Bool) (now bytes : List ℕ) (v : Versions) → (IsTrue honest → now ≡ bytes) → Begins honest now v → Begins honest bytes v
begins_from honest now bytes v same b = record {
  last = b.last;
  pins = b.pins;
  first = b.first;
  is = λ db saved. b.is db (saved_from db saved);
  shows = λ db saved. b.shows db (saved_from db saved);
}
  where
    saved_from : (db : Database) → IsSaved honest bytes db → IsSaved honest now db
    saved_from db (h, which) = (h, subst (λ (f : List ℕ). ((f ≡ []) × (db ≡ empty)) ⊎ HoldsDatabase f db) (sym (same h)) which)

pub saved_still : (honest : Bool) (bytes now : List ℕ) (db : Database) → (IsTrue honest → now ≡ bytes) → IsSaved honest bytes db → IsSaved honest now db
saved_still honest bytes now db same (h, which) = (h, subst (λ (f : List ℕ). ((f ≡ []) × (db ≡ empty)) ⊎ HoldsDatabase f db) (sym (same h)) which)

pub empty_of : (xs : List ℕ) → length xs ≡ 0 → xs ≡ []
empty_of [] e = refl
empty_of (x ∷ xs) e = absurd (omega (arith, e))

-- a count that stays does not fall
pub no_less : (k m n : ℕ) → m ≡ k → n ≡ m → k ≤ n
no_less k m n first second = omega (arith, first, second)

-- ---- refusals

-- what stands for a good version is a file
placed_file : (v : Version) (c : List ℕ) (g : ℕ) → gate_part c ≡ g ∷ [] → g ≢ 1 → InPlaces v c → IsGood v → (found : Found) × IsFile c found
placed_file v c g gate other p good = by (cases_eq g 0)
  where
    fits : IsHeaderOf (length c) (place c 0) good.format good.header
    fits =
        subst (λ (l : List ℕ). IsHeaderOf (length c) l good.format good.header) (sym (p.pages 0 (omega (arith, p.some))))
        (record {
          begins = good.fits.begins;
          page_count = good.fits.page_count;
          first_free = good.fits.first_free;
          catalog_root = good.fits.catalog_root;
          bounds = good.fits.bounds;
          long = omega (arith, good.fits.long, p.size.long);
        })

    by : (g ≡ 0) ⊎ (g ≢ 0) → (found : Found) × IsFile c found
    by (inl is) = (
      record { header = good.header; format = good.format; gate = Shut },
      record { some = p.size.some; even = p.size.even; gate = gate ∙ ap (λ (k : ℕ). k ∷ []) is; header = fits },
    )
    by (inr torn) = (
      record { header = good.header; format = good.format; gate = Torn },
      record { some = p.size.some; even = p.size.even; gate = (g, torn, other, gate); header = fits },
    )

stands_file : (v : Version) (c : List ℕ) → StandsFor v c → IsGood v → (found : Found) × IsFile c found
stands_file v c (inl o) good = good_is_file v v c (among_open v v v (inl refl) c (record { gate = o.0; ready = o.1 })) good good
stands_file v c (inr s) good =
    let gate = gate_is c s.1.size.some in
    placed_file v c (get_or c 24 0) gate (λ one. s.0 (gate ∙ ap (λ (k : ℕ). k ∷ []) one)) s.1 good

-- no saved file is damaged
never_damaged : (honest : Bool) (bytes : List ℕ) (db : Database) → (IsTrue honest → bytes ≡ [] → ⊥) → (IsTrue honest → IsNoFile bytes) → IsSaved honest bytes db → ⊥
never_damaged honest bytes db some damaged (h, (inl both)) = some h both.0
never_damaged honest bytes db some damaged (h, (inr held)) = let file = stands_file held.version bytes held.stands held.good in damaged h file.0 file.1

pub open_refused : (honest : Bool) (bytes : List ℕ) (k n : ℕ) (cause : OpenRefusal) → (IsTrue honest → bytes ≡ [] → ⊥) → counted.IsCounted cause k n
    → (cause ≡ opening.Damaged → IsTrue honest → IsNoFile bytes) → MayFail ((db : Database) × IsSaved honest bytes db) k n Never (of_open cause)
open_refused honest bytes k n opening.Memory some counts damaged = tt
open_refused honest bytes k n (opening.Device e) some counts damaged = counts.more
open_refused honest bytes k n opening.Damaged some counts damaged = λ saved. never_damaged honest bytes saved.0 some (damaged refl) saved.1

pub saved_fail : (honest : Bool) (now bytes : List ℕ) (k m n : ℕ) (error : StoreError) → (IsTrue honest → now ≡ bytes) → m ≡ k → MayFail ((db : Database) × IsSaved honest now db) m n Never error
    → MayFail ((db : Database) × IsSaved honest bytes db) k n Never error
saved_fail honest now bytes k m n error same is h = fail_weaker ((db : Database) × IsSaved honest now db) ((db : Database) × IsSaved honest bytes db) k n Never Never error
    (λ saved. (saved.0, (saved.1.0, subst (λ (f : List ℕ). ((f ≡ []) × (saved.0 ≡ empty)) ⊎ HoldsDatabase f saved.0) (sym (same saved.1.0)) saved.1.1)))
    (λ l never. never) (subst (λ (c : ℕ). MayFail ((db : Database) × IsSaved honest now db) c n Never error) is h)

-- ---- after the length was asked for

module _ {A E : Type 0} (result : Result A E) (honest : Bool) (now bytes : List ℕ) (same : IsTrue honest → now ≡ bytes) where
  pub begins_after : (v : A → Versions) → IfOk result (λ a. Begins honest now (v a)) → IfOk result (λ a. Begins honest bytes (v a))
  begins_after v h = by result h
    where
      by : (r : Result A E) → IfOk r (λ a. Begins honest now (v a)) → IfOk r (λ a. Begins honest bytes (v a))
      by (Ok a) h = begins_from honest now bytes (v a) same h
      by (Err e) h = h

  pub owned_after : (v : A → Versions) → IfOk result (λ a. BeginsOwned honest now (v a)) → IfOk result (λ a. BeginsOwned honest bytes (v a))
  owned_after v h = by result h
    where
      by : (r : Result A E) → IfOk r (λ a. BeginsOwned honest now (v a)) → IfOk r (λ a. BeginsOwned honest bytes (v a))
      by (Ok a) b = λ h saved. b h (subst IsSavedOwned (sym (same h)) saved)
      by (Err e) h = h

  pub readable_after : IfOk result (λ a. IsReadable honest now) → IfOk result (λ a. IsReadable honest bytes)
  readable_after h = by result h
    where
      by : (r : Result A E) → IfOk r (λ a. IsReadable honest now) → IfOk r (λ a. IsReadable honest bytes)
      by (Ok a) h = λ device. subst (λ (f : List ℕ). (f ≡ []) ⊎ ((found : Found) × IsFile f found)) (same device) (h device)
      by (Err e) h = h

  pub counts_after : (count : A → ℕ) (k m : ℕ) → m ≡ k → IfOk result (λ a. m ≤ count a) → IfOk result (λ a. k ≤ count a)
  counts_after count k m is h = by result h
    where
      by : (r : Result A E) → IfOk r (λ a. m ≤ count a) → IfOk r (λ a. k ≤ count a)
      by (Ok a) h = subst (λ (n : ℕ). n ≤ count a) is h
      by (Err e) h = h

  pub left_after : (left : E → List ℕ) (error : E → StoreError) → IfErr result (λ e. IsHandedBack honest now (left e) (error e))
      → IfErr result (λ e. IsHandedBack honest bytes (left e) (error e))
  left_after left error h = by result h
    where
      by : (r : Result A E) → IfErr r (λ e. IsHandedBack honest now (left e) (error e)) → IfErr r (λ e. IsHandedBack honest bytes (left e) (error e))
      by (Ok a) h = h
      by (Err e) h = record {
        damaged = λ is device. h.damaged is device ∙ same device;
        closed = λ device shut. h.closed device (subst IsClosed (sym (same device)) shut) ∙ same device;
        made = λ device none. h.made device (same device ∙ none);
      }

  pub empty_after : (v : A → Versions) → IfOk result (λ a. IsTrue honest → length now ≡ 4096 → BeginsEmpty (v a))
      → IfOk result (λ a. IsTrue honest → length bytes ≡ 4096 → BeginsEmpty (v a))
  empty_after v h = by result h
    where
      by : (r : Result A E) → IfOk r (λ a. IsTrue honest → length now ≡ 4096 → BeginsEmpty (v a))
          → IfOk r (λ a. IsTrue honest → length bytes ≡ 4096 → BeginsEmpty (v a))
      by (Ok a) h = λ device size. h device (ap (λ (f : List ℕ). length f) (same device) ∙ size)
      by (Err e) h = h

  pub refused_after : (error : E → StoreError) (count : E → ℕ) (k m : ℕ) → m ≡ k → IfErr result (λ e. MayFail ((db : Database) × IsSaved honest now db) m (count e) Never (error e))
      → IfErr result (λ e. MayFail ((db : Database) × IsSaved honest bytes db) k (count e) Never (error e))
  refused_after error count k m is h = by result h
    where
      by : (r : Result A E) → IfErr r (λ e. MayFail ((db : Database) × IsSaved honest now db) m (count e) Never (error e)) → IfErr r (λ e. MayFail ((db : Database) × IsSaved honest bytes db) k (count e) Never (error e))
      by (Ok a) h = h
      by (Err e) h = saved_fail honest now bytes k m (count e) (error e) same is h

-- an empty device has no page
pub never_empty : {A E : Type 0} (result : Result A E) (honest : Bool) (bytes : List ℕ) (v : A → Versions) → (IsTrue honest → bytes ≡ [])
    → IfOk result (λ a. IsTrue honest → length bytes ≡ 4096 → BeginsEmpty (v a))
never_empty (Ok a) honest bytes v none = λ h size. let short = ap (λ (f : List ℕ). length f) (none h) in absurd (omega (arith, short, size))
never_empty (Err e) honest bytes v none = tt

-- the bytes as they were
pub device_back : (honest : Bool) (old new : List ℕ) (error : StoreError) → (IsTrue honest → new ≡ old) → IsHandedBack honest old new error
device_back honest old new error same = record {
  damaged = λ is h. same h;
  closed = λ h shut. same h;
  made = λ h none. inl (same h ∙ none);
}
