-- A file of format 1 made one of format 2.
use Rattle.std.proofs.Common.{◌≡◌, ◌∙◌, ℕ, zero, suc, ◌%◌, ◌<◌, ◌≤◌, List, [], ◌∷◌, ◌++◌, length, get_or, take, drop, refl, sym, ap, subst, inl, inr, arith}
use Rattle.std.specs.Prelude.{◌⊎◌, Bool, IsTrue, Result, Ok, Err, IfOk}
use Rattle.std.proofs.lemmas.Bool.Decides.{nat_tests}
use Rattle.std.proofs.lemmas.List.{take-append-drop, drop-take}
use Rattle.disk.specs.Crashes.{Bytes, Only}
use Rattle.disk.specs.declared.DiskError.{DiskError}
use Rattle.pagefile.specs.declared.error.OpenError.{OpenError}
use Rattle.pagefile.specs.declared.error.OpenError.TheVariants as cause
use Rattle.pagefile.specs.Whole as whole
use Rattle.journaled_file.specs.declared.opening.OpenRefusal.TheVariants.{Damaged}
use Rattle.journaled_file.specs.Refused.{IsCounted, IsTold, refusal_for}
use Rattle.pagefile.specs.declared.header.FileHeader.{FileHeader}
use Rattle.pagefile.specs.Number.{number_at}
use Rattle.pagefile.specs.Parts.{gate_part}
use Rattle.journal.specs.declared.found.Format.{Format}
use Rattle.journal.specs.declared.found.Format.TheVariants.{One, Two}
use Rattle.journal.specs.declared.found.Found.{Found}
use Rattle.journal.specs.declared.found.Gate.{Gate}
use Rattle.journal.specs.declared.found.Gate.TheVariants.{Shut, Torn, Open}
use Rattle.journal.specs.Headers.{IsFile, IsGate, IsGood, IsHeaderOf, header_part, magic_2, magic_of}
use Rattle.journal.specs.Parts.{place, block, HasLength}
use Rattle.journal.specs.Versions.{Version, OneOf, InPlaces, IsAmong, IsShut, IsCommittable, StandsFor, committed}
use Rattle.journal.proofs.Finding.{first_place}
use Rattle.journal.proofs.States.{gate_one, shut_is}
use Rattle.journaled_file.specs.Renewed.{renewed, renewed_pages, first_pages, IsOpening, IsOpeningAlone, IsRenewing}
use Rattle.journaled_file.specs.Shown.{IsAtRest, placed}

-- a good version has the pages that its header counts
pub few : (v : Version) (len : ℕ) (format : Format) (h : FileHeader) → IsGood v → IsHeaderOf len (v.pages 0) format h → h.page_count ≤ v.count
few v len format h good is =
    let count = sym good.fits.page_count ∙ is.page_count in
    let long = good.fits.long in omega (arith, count, long)

pub first_shut : (v : Version) (count : ℕ) (c : Bytes) → count ≤ v.count → 1 ≤ count → IsShut v c → IsShut (first_pages v count) c
first_shut v count c fewer some s = record {
  gate = s.gate;
  places = record {
    size = record { some = s.places.size.some; long = omega (arith, s.places.size.long, fewer); even = s.places.size.even };
    some = some;
    pages = λ n less. s.places.pages n (omega (arith, less, fewer));
  };
}

-- the commit of page 0
pub committable : (v : Version) (count : ℕ) (page : List ℕ) → 1 ≤ count → IsCommittable (first_pages v count) ((0, page) ∷ []) count
committable v count page some = record {
  some = some;
  grows = omega arith;
  within = λ n has. by n has;
  rising = λ i less. absurd (omega (arith, less));
  covered = λ n low high. absurd (omega (arith, low, high));
}
  where
    by : (n : ℕ) → (n ≡ 0) ⊎ ⊥ → n < count
    by n (inl is) = omega (arith, is, some)
    by n (inr none) = absurd none

-- what it shows
pub shows_renewed : (v : Version) (count : ℕ) (page : List ℕ) (c : Bytes) → page ≡ magic_2 ++ drop 8 (block c 0) → place c 0 ≡ v.pages 0 → (n : ℕ)
    → (committed (first_pages v count) ((0, page) ∷ []) count).pages n ≡ renewed_pages v.pages n
shows_renewed v count page c is first zero =
    ap (λ (p : List ℕ). take 20 p) is
    ∙ ap (λ (l : List ℕ). magic_2 ++ l) (sym (drop-take 8 12 (block c 0)) ∙ ap (λ (l : List ℕ). drop 8 l) (first_place c ∙ first))
shows_renewed v count page c is first (suc n) = grind (arith, nat_tests)

pub rest_renewed : (honest durable : Bool) (v : Version) (count : ℕ) (page : List ℕ) (old file : Bytes) (outcomes : Bytes → Type 0)
    → page ≡ magic_2 ++ drop 8 (block old 0) → place old 0 ≡ v.pages 0
    → IsAtRest honest durable count file outcomes (committed (first_pages v count) ((0, page) ∷ []) count)
    → IsAtRest honest durable count file outcomes (renewed v count)
rest_renewed honest durable v count page old file outcomes is first r = record {
  many = refl;
  some = r.some;
  room = r.room;
  pages = λ h n less. r.pages h n less ∙ shows_renewed v count page old is first n;
  gate = r.gate;
  shut = λ d h c left.
      let s = r.shut d h c left in
      record {
        gate = s.gate;
        places = record {
          size = s.places.size;
          some = s.places.some;
          pages = λ n less. s.places.pages n less ∙ shows_renewed v count page old is first n;
        };
      };
}

pub renewing : (x y v : Version) (count : ℕ) (page : List ℕ) (old : Bytes) → OneOf x y v → number_at (v.pages 0) 8 ≡ count → count ≤ v.count
    → page ≡ magic_2 ++ drop 8 (block old 0) → place old 0 ≡ v.pages 0 → (c : Bytes)
    → IsAmong (first_pages v count) (committed (first_pages v count) ((0, page) ∷ []) count) c → IsRenewing x y c
renewing x y v count page old one counted fewer is first c a = record {
  version = v;
  one = one;
  new = committed (first_pages v count) ((0, page) ∷ []) count;
  counted = counted;
  fewer = fewer;
  pages = λ n less. shows_renewed v count page old is first n;
  state = a;
}

-- a header of format 2 is as it is renewed
pub stays_renewed : (pages : ℕ → List ℕ) → take 8 (pages 0) ≡ magic_2 → (n : ℕ) → pages n ≡ renewed_pages pages n
stays_renewed pages begins zero = sym (take-append-drop 8 (pages 0)) ∙ ap (λ (l : List ℕ). l ++ drop 8 (pages 0)) begins
stays_renewed pages begins (suc n) = refl

-- what was opened, of two things that are known of it
pub both_ok : {A E : Type 0} (result : Result A E) (P Q R : A → Type 0) → ((x : A) → P x → Q x → R x) → IfOk result P → IfOk result Q → IfOk result R
both_ok (Ok x) P Q R to p q = to x p q
both_ok (Err e) P Q R to p q = tt

-- one of two good versions is good
pub good_one : (x y v : Version) → OneOf x y v → IsGood x → IsGood y → IsGood v
good_one x y v (inl is) first second = subst IsGood (sym is) first
good_one x y v (inr is) first second = subst IsGood (sym is) second

-- a file for which nothing but what is read can be left, and that is shut for a version, is at rest
pub found_at_rest : (honest durable : Bool) (v : Version) (count : ℕ) (file : Bytes) (outcomes : Bytes → Type 0) → 1 ≤ count → count ≤ v.count → IsShut v file
    → (IsTrue durable → IsTrue honest → Only file outcomes) → IsAtRest honest durable count file outcomes (first_pages v count)
found_at_rest honest durable v count file outcomes some fewer s only = record {
  many = refl;
  some = some;
  room = λ h. omega (arith, s.places.size.long, fewer);
  pages = λ h n less. s.places.pages n (omega (arith, less, fewer));
  gate = λ h. s.gate;
  shut = λ d h c left. first_shut v count c fewer some (subst (IsShut v) (sym (only d h c left)) s);
}

-- a file of the second format at rest
pub rest_second : (honest durable : Bool) (v : Version) (count : ℕ) (file : Bytes) (outcomes : Bytes → Type 0) → take 8 (v.pages 0) ≡ magic_2
    → IsAtRest honest durable count file outcomes (first_pages v count) → IsAtRest honest durable count file outcomes (renewed v count)
rest_second honest durable v count file outcomes begins r = record {
  many = refl;
  some = r.some;
  room = r.room;
  pages = λ h n less. r.pages h n less ∙ stays_renewed v.pages begins n;
  gate = r.gate;
  shut = λ d h c left.
      let s = r.shut d h c left in
      record {
        gate = s.gate;
        places = record {
          size = s.places.size;
          some = s.places.some;
          pages = λ n less. s.places.pages n less ∙ stays_renewed v.pages begins n;
        };
      };
}

-- damage is told where the recovery tells it, and of what it counts
pub told_damage : (e : OpenError) → refusal_for e ≡ Damaged → e ≡ cause.Damaged
told_damage cause.Damaged is = refl
told_damage (cause.Device d) is = absurd (cc)

pub counts_as : (e : OpenError) (old new : ℕ) → whole.IsCounted e old new → IsCounted (refusal_for e) old new
counts_as cause.Damaged old new counted = counted
counts_as (cause.Device d) old new counted = counted

pub tells_as : (told : DiskError → Type 0) (e : OpenError) → whole.IsTold told e → IsTold told (refusal_for e)
tells_as told cause.Damaged is = tt
tells_as told (cause.Device d) is = is

-- ---- the version that a file has in its places

-- a file at rest is at rest for what its places have
pub own_rest : (honest durable : Bool) (count : ℕ) (file : Bytes) (outcomes : Bytes → Type 0) (v : Version) → IsAtRest honest durable count file outcomes v
    → IsAtRest honest durable count file outcomes (placed count file)
own_rest honest durable count file outcomes v r = record {
  many = refl;
  some = r.some;
  room = r.room;
  pages = λ h n less. refl;
  gate = r.gate;
  shut = λ d h c left.
      let s = r.shut d h c left in
      record {
        gate = s.gate;
        places = record {
          size = record { some = s.places.size.some; long = omega (arith, s.places.size.long, r.many); even = s.places.size.even };
          some = r.some;
          pages = λ n less. s.places.pages n (omega (arith, less, r.many)) ∙ sym (r.pages h n less);
        };
      };
}

-- so is a file of which the gate was shut, and that has the length of one that is opened
pub found_rest : (honest durable : Bool) (old new : Bytes) (outcomes : Bytes → Type 0) (found : Found) → IsFile old found → gate_part new ≡ 0 ∷ []
    → length new ≡ length old → (IsTrue durable → IsTrue honest → (c : Bytes) → outcomes c → c ≡ new)
    → IsAtRest honest durable found.header.page_count new outcomes (placed found.header.page_count new)
found_rest honest durable old new outcomes found f gate size only = record {
  many = refl;
  some = f.header.bounds.some;
  room = λ h. omega (arith, f.header.long, size);
  pages = λ h n less. refl;
  gate = λ h. gate;
  shut = λ d h c left. subst (IsShut (placed found.header.page_count new)) (sym (only d h c left)) here;
}
  where
    here : IsShut (placed found.header.page_count new) new
    here = record {
      gate = gate;
      places = record {
        size = record { some = omega (arith, f.some, size); long = omega (arith, f.header.long, size); even = ap (λ (k : ℕ). k % 4096) size ∙ f.even };
        some = f.header.bounds.some;
        pages = λ n less. refl;
      };
    }

-- a shut file that begins with the magic of format 2 is one of that format
pub format_two : (c : Bytes) (found : Found) → IsFile c found → gate_part c ≡ 0 ∷ [] → take 8 (place c 0) ≡ magic_2 → found.format ≡ Two
format_two c found f shut begins = by found.gate f.gate f.header
  where
    of_magic : (format : Format) → magic_of format ≡ magic_2 → format ≡ Two
    of_magic Two e = refl
    of_magic One e = let bad : 49 ≡ 50 = ap (λ (l : List ℕ). get_or l 7 0) e in absurd (omega (arith, bad))

    by : (gate : Gate) → IsGate c gate → IsHeaderOf (length c) (header_part c gate) found.format found.header → found.format ≡ Two
    by Shut said h = of_magic found.format (sym h.begins ∙ begins)
    by Torn said h = absurd (said.1 (gate_one c said.0 0 said.3 shut))
    by (Open start size) said h = let differs = gate_one c 1 0 said.0 shut in absurd (omega (arith, differs))

-- ---- a file of page 0 alone

-- there is no room for a journal in it, so its places have the version
pub alone_stands : (c : Bytes) (found : Found) → IsFile c found → length c ≡ 4096 → StandsFor (placed found.header.page_count c) c
alone_stands c found f short = by found.gate f.gate
  where
    places : InPlaces (placed found.header.page_count c) c
    places = record {
      size = record { some = f.some; long = f.header.long; even = f.even };
      some = f.header.bounds.some;
      pages = λ n less. refl;
    }

    by : (gate : Gate) → IsGate c gate → StandsFor (placed found.header.page_count c) c
    by Shut said = shut_is (placed found.header.page_count c) c 0 said (λ e. omega (arith, e)) places
    by Torn said = shut_is (placed found.header.page_count c) c said.0 said.3 said.2 places
    by (Open start size) said = let some = said.2.some in let long = said.2.long in absurd (omega (arith, short, some, long))

-- and the header that is found is the one in its place
pub alone_counts : (c : Bytes) (found : Found) → IsFile c found → length c ≡ 4096 → number_at (place c 0) 8 ≡ found.header.page_count
alone_counts c found f short = by found.gate f.gate f.header
  where
    by : (gate : Gate) → IsGate c gate → IsHeaderOf (length c) (header_part c gate) found.format found.header
        → number_at (place c 0) 8 ≡ found.header.page_count
    by Shut said h = h.page_count
    by Torn said h = h.page_count
    by (Open start size) said h = let some = said.2.some in let long = said.2.long in absurd (omega (arith, short, some, long))

-- ---- what a recovery leaves, an opening may leave

pub among_or_before : (before : Type 0) (x y : Version) (c : Bytes) → before ⊎ IsAmong x y c → before ⊎ IsOpening x y c
among_or_before before x y c (inl left) = inl left
among_or_before before x y c (inr among) = inr (inl among)

pub alone_or_before : (before : Type 0) (c : Bytes) → before ⊎ HasLength 4096 c → before ⊎ IsOpeningAlone c
alone_or_before before c (inl left) = inl left
alone_or_before before c (inr short) = inr (inl short)
