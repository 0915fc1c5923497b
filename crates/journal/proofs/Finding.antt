-- What is found in a file, by its gate, its journal and its header.
use Rattle.std.proofs.Common.{◌≡◌, ◌≢◌, ℕ, zero, suc, ◌+◌, ◌*◌, ◌%◌, ◌^◌, ◌<◌, ◌≤◌, List, [], ◌∷◌, length, get_or, take, drop, refl, sym, ◌∙◌, ap, subst, inl, inr, arith, drop-cons}
use Rattle.std.specs.Prelude.{◌⊎◌, ◌==◌, if◌then◌else◌, Bool, true, false, IsTrue, ◌↔◌, Result, Ok, Err, IfOk, IfErr}
use Rattle.std.proofs.lemmas.Bool.{cases_eq, cases_lt}
use Rattle.std.proofs.lemmas.Bool.Decides.{nat_tests}
use Rattle.std.proofs.lemmas.List.{get_or-take, append-nil as append_nil}
use Rattle.std.proofs.lemmas.List.Edits.{get_or-between}
use Rattle.byteorder.specs.Endian.{big_bytes, big_number, big_from}
use Rattle.byteorder.specs.Numbers.{big_number-reads_back}
use Rattle.disk.specs.Crashes.{Bytes}
use Rattle.pagefile.specs.declared.header.FileHeader.{FileHeader}
use Rattle.pagefile.specs.Header.{header_size}
use Rattle.pagefile.specs.declared.error.OpenError.{OpenError}
use Rattle.pagefile.specs.declared.error.OpenError.TheVariants.{Damaged}
use Rattle.pagefile.specs.Number.{number_at}
use Rattle.pagefile.specs.Parts.{gate_part, start_part}
use Rattle.journal.specs.declared.found.Format.{Format}
use Rattle.journal.specs.declared.found.Gate.{Gate}
use Rattle.journal.specs.declared.found.Gate.TheVariants.{Shut, Torn, Open}
use Rattle.journal.specs.declared.found.Found.{Found}
use Rattle.journal.specs.Parts.{shown, place, block}
use Rattle.journal.specs.Lists.{listed, number_in, HasNumbers, IsRising, IsList}
use Rattle.journal.specs.Versions.{Version, put, laid, HasPage, HasImages, InPlaces, IsReady, IsOpen, IsShut, IsBoth, OneOf, IsAmong, StandsFor}
use Rattle.journal.specs.Headers.{IsJournal, IsGate, header_part, IsHeaderOf, IsFile, IsNoFile, IsGood, HasList, NamesPages}
use Rattle.journal.proofs.Numbers.{big_from_same, number_same}
use Rattle.journal.proofs.Sets.{has_at}
use Rattle.journal.proofs.States.{gate_one}

-- parts of page 0, as they are read

pub gate_is : (c : Bytes) → 4096 ≤ length c → gate_part c ≡ get_or c 24 0 ∷ []
gate_is c some = ap (λ (l : List ℕ). take 1 l) (drop-cons c 24 0 (omega (arith, some)))

pub take_take : (m n : ℕ) (xs : List ℕ) → m ≤ n → take m (take n xs) ≡ take m xs
take_take zero n xs less = refl
take_take (suc m) zero xs less = absurd (omega (arith, less))
take_take (suc m) (suc n) [] less = refl
take_take (suc m) (suc n) (x ∷ xs) less = ap (λ (l : List ℕ). x ∷ l) (take_take m n xs (omega (arith, less)))

pub first_place : (c : Bytes) → take 20 (block c 0) ≡ place c 0
first_place c = take_take 20 4096 c (omega arith)

-- a byte of page 0
pub first_byte : (c : Bytes) (page : List ℕ) (i : ℕ) → page ≡ block c 0 → i < 4096 → get_or page i 0 ≡ get_or c i 0
first_byte c page i is less =
    let there : 0 + i ≡ i = omega arith in
    ap (λ (l : List ℕ). get_or l i 0) is ∙ get_or-between c 0 4096 i 0 (omega (arith, less)) ∙ ap (λ (k : ℕ). get_or c k 0) there

pub gate_read : (c : Bytes) (page : List ℕ) (g : ℕ) → page ≡ block c 0 → 4096 ≤ length c → g ≡ get_or page 24 0 → gate_part c ≡ g ∷ []
gate_read c page g is some read =
    gate_is c some ∙ ap (λ (k : ℕ). k ∷ []) (sym (read ∙ first_byte c page 24 is (omega arith)))

pub start_read : (c : Bytes) (page : List ℕ) → page ≡ block c 0 → number_at page 20 ≡ big_number 4 (start_part c)
start_read c page is =
    number_same page c 20 (λ k less. first_byte c page (20 + k) is (omega (arith, less)))
    ∙ big_from_same 4 0 (drop 20 c) (start_part c) (λ k low high. sym (get_or-take 4 (drop 20 c) k 0 (omega (arith, high))))

-- what names the first block reads back
pub start_number : (c : Bytes) (count : ℕ) → start_part c ≡ big_bytes 4 count → count < 2 ^ 32 → big_number 4 (start_part c) ≡ count
start_number c count is small =
    ap (λ (l : List ℕ). big_from 0 4 l) (is ∙ sym (append_nil (big_bytes 4 count))) ∙ big_number-reads_back 4 count [] small

-- a header is read from its part of a page
pub header_shorter : (len : ℕ) (page : List ℕ) (format : Format) (h : FileHeader) → IsHeaderOf len page format h → IsHeaderOf len (take 20 page) format h
header_shorter len page format h is = record {
  begins = take_take 8 20 page (omega arith) ∙ is.begins;
  page_count = number_same (take 20 page) page 8 (λ k less. get_or-take 20 page (8 + k) 0 (omega (arith, less))) ∙ is.page_count;
  first_free = number_same (take 20 page) page 12 (λ k less. get_or-take 20 page (12 + k) 0 (omega (arith, less))) ∙ is.first_free;
  catalog_root = number_same (take 20 page) page 16 (λ k less. get_or-take 20 page (16 + k) 0 (omega (arith, less))) ∙ is.catalog_root;
  bounds = is.bounds;
  long = is.long;
}

pub header_longer : (len : ℕ) (page : List ℕ) (format : Format) (h : FileHeader) → IsHeaderOf len (take 20 page) format h → IsHeaderOf len page format h
header_longer len page format h is = record {
  begins = sym (take_take 8 20 page (omega arith)) ∙ is.begins;
  page_count = sym (number_same (take 20 page) page 8 (λ k less. get_or-take 20 page (8 + k) 0 (omega (arith, less)))) ∙ is.page_count;
  first_free = sym (number_same (take 20 page) page 12 (λ k less. get_or-take 20 page (12 + k) 0 (omega (arith, less)))) ∙ is.first_free;
  catalog_root = sym (number_same (take 20 page) page 16 (λ k less. get_or-take 20 page (16 + k) 0 (omega (arith, less)))) ∙ is.catalog_root;
  bounds = is.bounds;
  long = is.long;
}

-- the header of page 0 as the journal makes it

if_zero : (n : ℕ) (x y : List ℕ) → n ≡ 0 → (if n == 0 then x else y) ≡ x
if_zero n x y is = grind (arith, nat_tests)

if_other : (n : ℕ) (x y : List ℕ) → n ≢ 0 → (if n == 0 then x else y) ≡ y
if_other n x y other = grind (arith, nat_tests)

pub header_of_places : (c : Bytes) (start size : ℕ) → (size ≡ 0) ⊎ (listed (block c start) 0 ≢ 0) → header_part c (Open start size) ≡ place c 0
header_of_places c start zero any = refl
header_of_places c start (suc size) (inl none) = absurd (omega (arith, none))
header_of_places c start (suc size) (inr other) =
    if_other (listed (block c start) 0) (take header_size (block c (start + 1))) (place c 0) other

pub header_of_image : (c : Bytes) (start size : ℕ) → size ≢ 0 → listed (block c start) 0 ≡ 0
    → header_part c (Open start size) ≡ take 20 (block c (start + 1))
header_of_image c start zero some first = absurd (some refl)
header_of_image c start (suc size) some first =
    if_zero (listed (block c start) 0) (take header_size (block c (start + 1))) (place c 0) first

-- a list has one size
pub one_size : (list : List ℕ) (below m n : ℕ) → below ≤ 4294967295 → IsList list below m → IsList list below n → m ≡ n
one_size list below m n small a b = by (cases_lt m n) (cases_lt n m)
  where
    no_less : (k l : ℕ) → IsList list below k → IsList list below l → k < l → ⊥
    no_less k l x y less =
        let unused = x.rest k (omega arith) (omega (arith, less, y.few)) in
        let used = y.low k less in absurd (omega (arith, unused, used, small))

    by : (m < n) ⊎ (n ≤ m) → (n < m) ⊎ (m ≤ n) → m ≡ n
    by (inl less) other = absurd (no_less m n a b less)
    by (inr more) (inl less) = absurd (no_less n m b a less)
    by (inr more) (inr other) = omega (arith, more, other)

-- no file

pub no_short : (c : Bytes) → length c < 4096 → IsNoFile c
no_short c short found f = absurd (omega (arith, short, f.some))

pub no_uneven : (c : Bytes) → length c % 4096 ≢ 0 → IsNoFile c
no_uneven c uneven found f = uneven f.even

-- behind a gate that is not open, the header is that in its place
pub no_closed : (c : Bytes) (page : List ℕ) (len g : ℕ) → page ≡ block c 0 → len ≡ length c → gate_part c ≡ g ∷ [] → g ≢ 1
    → ((format : Format) (h : FileHeader) → IsHeaderOf len page format h → ⊥) → IsNoFile c
no_closed c page len g is size gate other none found f = by found.gate f.gate f.header
  where
    placed : IsHeaderOf (length c) (place c 0) found.format found.header → ⊥
    placed h =
        none found.format found.header
        (header_longer len page found.format found.header
        (subst (λ (k : ℕ). IsHeaderOf k (take 20 page) found.format found.header) (sym size)
        (subst (λ (l : List ℕ). IsHeaderOf (length c) l found.format found.header) (sym (ap (λ (l : List ℕ). take 20 l) is ∙ first_place c)) h)))

    by : (gate : Gate) → IsGate c gate → IsHeaderOf (length c) (header_part c gate) found.format found.header → ⊥
    by Shut said h = placed h
    by Torn said h = placed h
    by (Open start size) said h = other (gate_one c g 1 gate said.0)

-- behind an open gate there is a journal, which names its first block
pub no_journal : (c : Bytes) (start : ℕ) → gate_part c ≡ 1 ∷ [] → start ≡ big_number 4 (start_part c)
    → ((size : ℕ) → IsJournal c start size → ⊥) → IsNoFile c
no_journal c start gate named none found f = by found.gate f.gate
  where
    by : (said : Gate) → IsGate c said → ⊥
    by Shut said = let differs = gate_one c 1 0 gate said in absurd (omega (arith, differs))
    by Torn said = said.2 (gate_one c said.0 1 said.3 gate)
    by (Open at size) said = none size (subst (λ (k : ℕ). IsJournal c k size) (said.1 ∙ sym named) said.2)

-- and a header
pub no_header : (c : Bytes) (start size len : ℕ) (page : List ℕ) → gate_part c ≡ 1 ∷ [] → start ≡ big_number 4 (start_part c)
    → start ≤ 4294967295 → IsJournal c start size → len ≡ length c → take 20 page ≡ header_part c (Open start size)
    → ((format : Format) (h : FileHeader) → IsHeaderOf len page format h → ⊥) → IsNoFile c
no_header c start size len page gate named small journal long part none found f = by found.gate f.gate f.header
  where
    at : IsHeaderOf (length c) (header_part c (Open start size)) found.format found.header → ⊥
    at h =
        none found.format found.header
        (header_longer len page found.format found.header
        (subst (λ (k : ℕ). IsHeaderOf k (take 20 page) found.format found.header) (sym long)
        (subst (λ (l : List ℕ). IsHeaderOf (length c) l found.format found.header) (sym part) h)))

    by : (said : Gate) → IsGate c said → IsHeaderOf (length c) (header_part c said) found.format found.header → ⊥
    by Shut said h = let differs = gate_one c 1 0 gate said in absurd (omega (arith, differs))
    by Torn said h = said.2 (gate_one c said.0 1 said.3 gate)
    by (Open first count) said h =
        let one : first ≡ start = said.1 ∙ sym named in
        let same : IsJournal c start count = subst (λ (k : ℕ). IsJournal c k count) one said.2 in
        let many : count ≡ size = one_size (block c start) start count size small same.list journal.list in
        at (subst (λ (k : ℕ). IsHeaderOf (length c) (header_part c (Open k size)) found.format found.header) one
        (subst (λ (k : ℕ). IsHeaderOf (length c) (header_part c (Open first k)) found.format found.header) many h))

-- the journal of a version

rising_above : (e : ℕ × List ℕ) (es : List (ℕ × List ℕ)) (n : ℕ) → IsRising (e ∷ es) → HasPage n es → e.0 < n
rising_above e [] n rising none = absurd none
rising_above e (f ∷ fs) n rising (inl is) = let first = rising 0 (omega arith) in omega (arith, first, is)
rising_above e (f ∷ fs) n rising (inr more) =
    let first = rising 0 (omega arith) in
    let next = rising_above f fs n (λ i less. rising (suc i) (omega (arith, less))) more in omega (arith, first, next)

laid_none : (es : List (ℕ × List ℕ)) (p : ℕ → List ℕ) (n : ℕ) → (HasPage n es → ⊥) → laid es p n ≡ p n
laid_none [] p n none = refl
laid_none (e ∷ es) p n none =
    laid_none es (put p e.0 e.1) n (λ has. none (inr has)) ∙ off (cases_eq e.0 n)
  where
    off : (e.0 ≡ n) ⊎ (e.0 ≢ n) → put p e.0 e.1 n ≡ p n
    off (inl is) = absurd (none (inl (sym is)))
    off (inr other) = grind (arith, nat_tests, other)

first_laid : (set : List (ℕ × List ℕ)) (c : Bytes) (count : ℕ) → IsRising set → HasNumbers (block c count) set → HasImages c (count + 1) set
    → laid set (place c) 0 ≡ header_part c (Open count (length set))
first_laid [] c count rising list images = refl
first_laid (e ∷ es) c count rising list images =
    laid_none es (put (place c) e.0 e.1) 0 (λ has. let above = rising_above e es 0 rising has in absurd (omega (arith, above)))
    ∙ by (cases_eq e.0 0)
  where
    by : (e.0 ≡ 0) ⊎ (e.0 ≢ 0) → put (place c) e.0 e.1 0 ≡ header_part c (Open count (suc (length es)))
    by (inl is) =
        let here : count + 1 + 0 ≡ count + 1 = omega arith in
        let image : block c (count + 1) ≡ e.1 = ap (block c) (sym here) ∙ images 0 (omega arith) in
        let it : put (place c) e.0 e.1 0 ≡ shown e.0 e.1 = grind (arith, nat_tests, is) in
        it ∙ ap (λ (k : ℕ). shown k e.1) is ∙ ap (λ (l : List ℕ). take 20 l) (sym image)
        ∙ sym (header_of_image c count (suc (length es)) (λ none. omega (arith, none)) (list.each 0 (omega arith) ∙ is))
    by (inr other) =
        let it : put (place c) e.0 e.1 0 ≡ place c 0 = grind (arith, nat_tests, other) in
        it ∙ sym (header_of_places c count (suc (length es)) (inr (λ none. other (sym (list.each 0 (omega arith)) ∙ none))))

-- what page 0 of a version shows, by its journal
pub first_page : (v : Version) (c : Bytes) → IsReady v c → v.pages 0 ≡ header_part c (Open v.count (length v.set))
first_page v c r = sym (r.pages 0 (omega (arith, r.some))) ∙ first_laid v.set c v.count r.rising r.list r.images

pub journal_whole : (v : Version) (c : Bytes) → IsReady v c → IsJournal c v.count (length v.set)
journal_whole v c r = record {
  some = r.some;
  list = record {
    few = r.list.few;
    low = λ i less. let in_set = r.within (number_in v.set i) (has_at v.set i (0, []) less) in omega (arith, r.list.each i less, in_set);
    rising = λ i less. omega (arith, r.list.each i (omega (arith, less)), r.list.each (suc i) less, r.rising i less);
    rest = r.list.rest;
  };
  long = r.size.long;
}

-- the journal that was found is that of the version
pub names : (v : Version) (c : Bytes) (start size : ℕ) (list : List ℕ) → IsReady v c → IsGate c (Open start size)
    → list ≡ block c start → NamesPages v start size list
names v c start size list r gate read =
    let one : start ≡ v.count = gate.1 ∙ start_number c v.count r.start r.small in
    let whole : IsJournal c v.count size = subst (λ (k : ℕ). IsJournal c k size) one gate.2 in
    let many : size ≡ length v.set =
    one_size (block c v.count) v.count size (length v.set) (omega (arith, r.small)) whole.list (journal_whole v c r).list in
    record { from_block = one; many = many; numbers = subst (λ (l : List ℕ). HasNumbers l v.set) (sym (read ∙ ap (block c) one)) r.list }

-- a header of a version, in a longer file
in_longer : (short len : ℕ) (part other : List ℕ) (format : Format) (h : FileHeader) → IsHeaderOf short part format h → short ≤ len
    → part ≡ other → IsHeaderOf len other format h
in_longer short len part other format h is longer same =
    subst (λ (l : List ℕ). IsHeaderOf len l format h) same
    (record {
      begins = is.begins;
      page_count = is.page_count;
      first_free = is.first_free;
      catalog_root = is.catalog_root;
      bounds = is.bounds;
      long = omega (arith, is.long, longer);
    })

file_open : (v : Version) (c : Bytes) → gate_part c ≡ 1 ∷ [] → IsReady v c → IsGood v → (found : Found) × IsFile c found
file_open v c gate r good = (
  record { header = good.header; format = good.format; gate = Open v.count (length v.set) },
  record {
    some = r.size.some;
    even = r.size.even;
    gate = (gate, sym (start_number c v.count r.start r.small), journal_whole v c r);
    header = in_longer (4096 * v.count) (length c) (v.pages 0) (header_part c (Open v.count (length v.set))) good.format good.header good.fits
        (omega (arith, r.size.long)) (first_page v c r);
  },
)

file_shut : (v : Version) (c : Bytes) (g : ℕ) → gate_part c ≡ g ∷ [] → g ≢ 1 → InPlaces v c → IsGood v → (found : Found) × IsFile c found
file_shut v c g gate other p good = by (cases_eq g 0)
  where
    fits : IsHeaderOf (length c) (place c 0) good.format good.header
    fits = in_longer (4096 * v.count) (length c) (v.pages 0) (place c 0) good.format good.header good.fits p.size.long (sym (p.pages 0 (omega (arith, p.some))))

    by : (g ≡ 0) ⊎ (g ≢ 0) → (found : Found) × IsFile c found
    by (inl is) = (
      record { header = good.header; format = good.format; gate = Shut },
      record { some = p.size.some; even = p.size.even; gate = gate ∙ ap (λ (k : ℕ). k ∷ []) is; header = fits },
    )
    by (inr torn) = (
      record { header = good.header; format = good.format; gate = Torn },
      record { some = p.size.some; even = p.size.even; gate = (g, torn, other, gate); header = fits },
    )

one_good : (x y v : Version) → OneOf x y v → IsGood x → IsGood y → IsGood v
one_good x y v (inl is) a b = subst IsGood (sym is) a
one_good x y v (inr is) a b = subst IsGood (sym is) b

file_both : (v w : Version) (c : Bytes) → IsBoth v w c → IsGood v → IsGood w → (found : Found) × IsFile c found
file_both v w c b one two = by (cases_eq (get_or c 24 0) 1)
  where
    by : (get_or c 24 0 ≡ 1) ⊎ (get_or c 24 0 ≢ 1) → (found : Found) × IsFile c found
    by (inl opened) = file_open w c (gate_is c b.ready.size.some ∙ ap (λ (k : ℕ). k ∷ []) opened) b.ready two
    by (inr other) = file_shut v c (get_or c 24 0) (gate_is c b.ready.size.some) other b.places one

-- what stands for one of two versions is a file
pub good_is_file : (x y : Version) (c : Bytes) → IsAmong x y c → IsGood x → IsGood y → (found : Found) × IsFile c found
good_is_file x y c a one two = by a.state
  where
    by : IsOpen a.new c ⊎ (IsShut a.old c ⊎ IsBoth a.old a.new c) → (found : Found) × IsFile c found
    by (inl o) = file_open a.new c o.gate o.ready (one_good x y a.new a.is_new one two)
    by (inr (inl s)) = file_shut a.old c 0 s.gate (λ e. omega (arith, e)) s.places (one_good x y a.old a.is_old one two)
    by (inr (inr b)) = file_both a.old a.new c b (one_good x y a.old a.is_old one two) (one_good x y a.new a.is_new one two)

-- the header that was found is that of the version for which the file stands
pub stands_header : (v : Version) (c : Bytes) (found : Found) → StandsFor v c → IsFile c found
    → IsHeaderOf (length c) (v.pages 0) found.format found.header
stands_header v c found stands f = by found.gate f.gate f.header stands
  where
    placed : InPlaces v c → IsHeaderOf (length c) (place c 0) found.format found.header → IsHeaderOf (length c) (v.pages 0) found.format found.header
    placed p h = subst (λ (l : List ℕ). IsHeaderOf (length c) l found.format found.header) (p.pages 0 (omega (arith, p.some))) h

    by : (gate : Gate) → IsGate c gate → IsHeaderOf (length c) (header_part c gate) found.format found.header → StandsFor v c
        → IsHeaderOf (length c) (v.pages 0) found.format found.header
    by Shut said h (inl o) = let differs = gate_one c 1 0 o.0 said in absurd (omega (arith, differs))
    by Shut said h (inr s) = placed s.1 h
    by Torn said h (inl o) = absurd (said.2 (gate_one c said.0 1 said.3 o.0))
    by Torn said h (inr s) = placed s.1 h
    by (Open start size) said h (inr s) = absurd (s.0 said.0)
    by (Open start size) said h (inl o) =
        let named = names v c start size (block c start) o.1 said refl in
        subst (λ (l : List ℕ). IsHeaderOf (length c) l found.format found.header) (sym (first_page v c o.1))
        (subst (λ (k : ℕ). IsHeaderOf (length c) (header_part c (Open k (length v.set))) found.format found.header) named.from_block
        (subst (λ (k : ℕ). IsHeaderOf (length c) (header_part c (Open start k)) found.format found.header) named.many h))

-- what a gate tells of a version for which the file stands

pub shut_stood : (v : Version) (c : Bytes) → gate_part c ≡ 0 ∷ [] → StandsFor v c → IsShut v c
shut_stood v c shut (inl o) = let differs = gate_one c 0 1 shut o.0 in absurd (omega (arith, differs))
shut_stood v c shut (inr s) = record { gate = shut; places = s.1 }

pub torn_stood : (v : Version) (c : Bytes) (g : ℕ) → g ≢ 1 → gate_part c ≡ g ∷ [] → StandsFor v c → InPlaces v c
torn_stood v c g other gate (inl o) = absurd (other (gate_one c g 1 gate o.0))
torn_stood v c g other gate (inr s) = s.1

pub open_stood : (v : Version) (c : Bytes) → gate_part c ≡ 1 ∷ [] → StandsFor v c → IsReady v c
open_stood v c one (inl o) = o.1
open_stood v c one (inr s) = absurd (s.0 one)

-- what a search for a header gives

pub found_file : {E : Type 0} (H : Type 0) (result : Result Found E) (c : Bytes) (page : List ℕ) (len : ℕ) (gate : Gate) → (H → 4096 ≤ length c)
    → (H → length c % 4096 ≡ 0) → (H → IsGate c gate) → (H → take 20 page ≡ header_part c gate) → (H → len ≡ length c)
    → IfOk result (λ f. f.gate ≡ gate) → IfOk result (λ f. IsHeaderOf len page f.format f.header) → IfOk result (λ f. H → IsFile c f)
found_file H (Ok f) c page len gate some even says part long is header = λ h. record {
  some = some h;
  even = even h;
  gate = subst (IsGate c) (sym is) (says h);
  header =
      subst (λ (said : Gate). IsHeaderOf (length c) (header_part c said) f.format f.header) (sym is)
      (subst (λ (l : List ℕ). IsHeaderOf (length c) l f.format f.header) (part h)
      (subst (λ (k : ℕ). IsHeaderOf k (take 20 page) f.format f.header) (long h) (header_shorter len page f.format f.header header)));
}
found_file H (Err e) c page len gate some even says part long is header = tt

pub no_found : {X : Type 0} (H : Type 0) (result : Result X OpenError) (c : Bytes) (page : List ℕ) (len : ℕ)
    → (H → ((format : Format) (h : FileHeader) → IsHeaderOf len page format h → ⊥) → IsNoFile c)
    → IfErr result (λ e. (format : Format) (h : FileHeader) → IsHeaderOf len page format h → ⊥)
    → IfErr result (λ e. e ≡ Damaged → H → IsNoFile c)
no_found H (Ok x) c page len to none = tt
no_found H (Err e) c page len to none = λ is h. to h none

-- by what a result says, another thing that it says
pub if_ok : {A E : Type 0} (P Q : A → Type 0) (result : Result A E) → ((a : A) → P a → Q a) → IfOk result P → IfOk result Q
if_ok P Q (Ok a) to has = to a has
if_ok P Q (Err e) to has = tt

pub if_err : {A E : Type 0} (P Q : E → Type 0) (result : Result A E) → ((e : E) → P e → Q e) → IfErr result P → IfErr result Q
if_err P Q (Ok a) to has = tt
if_err P Q (Err e) to has = to e has

-- whatever H is, by what a file is that reads the same

pub file_same : {E : Type 0} (H : Type 0) (result : Result Found E) (b d : Bytes) → (H → b ≡ d) → IfOk result (λ f. H → IsFile b f)
    → IfOk result (λ f. H → IsFile d f)
file_same H (Ok f) b d same is = λ h. subst (λ (k : Bytes). IsFile k f) (same h) (is h)
file_same H (Err e) b d same is = tt

pub list_same : {E : Type 0} (H : Type 0) (result : Result Found E) (b d : Bytes) (list : List ℕ) → (H → b ≡ d)
    → IfOk result (λ f. H → HasList b list f.gate) → IfOk result (λ f. H → HasList d list f.gate)
list_same H (Ok f) b d list same has = λ h. subst (λ (k : Bytes). HasList k list f.gate) (same h) (has h)
list_same H (Err e) b d list same has = tt

pub no_file_same : {X : Type 0} (H : Type 0) (result : Result X OpenError) (b d : Bytes) → (H → b ≡ d)
    → IfErr result (λ e. e ≡ Damaged → H → IsNoFile b) → IfErr result (λ e. e ≡ Damaged → H → IsNoFile d)
no_file_same H (Ok x) b d same none = tt
no_file_same H (Err e) b d same none = λ is h. subst IsNoFile (same h) (none is h)

pub list_of_gate : {E : Type 0} (H : Type 0) (result : Result Found E) (c : Bytes) (list : List ℕ) (gate : Gate) → (H → HasList c list gate)
    → IfOk result (λ f. f.gate ≡ gate) → IfOk result (λ f. H → HasList c list f.gate)
list_of_gate H (Ok f) c list gate has is = λ h. subst (HasList c list) (sym is) (has h)
list_of_gate H (Err e) c list gate has is = tt

-- where the first image is not that of page 0
pub not_first : (b : Bool) (size : ℕ) (list : List ℕ) → (IsTrue b ↔ ((size ≢ 0) × (listed list 0 ≡ 0))) → b ≡ false
    → (size ≡ 0) ⊎ (listed list 0 ≢ 0)
not_first b size list says none = by (cases_eq size 0) (cases_eq (listed list 0) 0)
  where
    differ : true ≡ false → ⊥
    differ e = cc

    by : (size ≡ 0) ⊎ (size ≢ 0) → (listed list 0 ≡ 0) ⊎ (listed list 0 ≢ 0) → (size ≡ 0) ⊎ (listed list 0 ≢ 0)
    by (inl is) second = inl is
    by (inr some) (inr other) = inr other
    by (inr some) (inl first) = absurd (differ (sym (says.1 (some, first)) ∙ none))
