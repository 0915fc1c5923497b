-- A list of codes, one after another, of which some were read.
use Rattle.std.proofs.Common.{◌≡◌, Bool, true, false, List, [], ◌∷◌, ◌++◌, length, refl, sym, ap, ◌∙◌, append_assoc}
use Rattle.std.specs.Bool.{◌==◌}
use Rattle.std.proofs.lemmas.Bool.{eqb-true}
use Rattle.std.proofs.lemmas.List.Concat.{flat_map-append}
use Rattle.std.specs.List.{AllByRecursion, flat_map}
use Rattle.std.proofs.lemmas.List.{append-nil}

-- of all items those are read, and the rest is the codes of the others
pub record Remains {A B : Type 0} (code : A → List B) (Good : A → Type 0) (all read : List A) (rest : List B) : Type 0 where
  pub later : List A
  pub whole : read ++ later ≡ all
  pub good : AllByRecursion Good later
  pub left : flat_map code later ≡ rest

pub remains_all : {A B : Type 0} (code : A → List B) (Good : A → Type 0) (all : List A) (rest : List B) → AllByRecursion Good all → flat_map code all ≡ rest → Remains code Good all [] rest
remains_all code Good all rest good left = record { later = all; whole = refl; good = good; left = left }

empty_front : {B : Type 0} (xs ys : List B) → xs ++ ys ≡ [] → xs ≡ []
empty_front [] ys e = refl
empty_front (x ∷ xs) ys e = absurd (cc)

-- all is read
pub remains_none : {A B : Type 0} (code : A → List B) (Good : A → Type 0) (all read : List A) → ((x : A) → code x ≡ [] → ⊥) → Remains code Good all read [] → read ≡ all
remains_none code Good all read some r = go r.later r.whole r.left
  where
    go : (later : List _) → read ++ later ≡ all → flat_map code later ≡ [] → read ≡ all
    go [] whole left = sym (append-nil read) ∙ whole
    go (y ∷ ys) whole left = absurd (some y (empty_front (code y) (flat_map code ys) left))

-- one more is to be read
pub remains_one : {A B : Type 0} (code : A → List B) (Good : A → Type 0) (all read : List A) (rest : List B) (b : B) (bs : List B) (P : Type 0)
    → Remains code Good all read rest → rest ≡ b ∷ bs
    → ((y : A) (ys : List A) → Good y → AllByRecursion Good ys → code y ++ flat_map code ys ≡ rest → read ++ y ∷ ys ≡ all → P) → P
remains_one code Good all read rest b bs P r more use_it = go r.later r.whole r.good r.left
  where
    go : (later : List _) → read ++ later ≡ all → AllByRecursion Good later → flat_map code later ≡ rest → P
    go [] whole good left = absurd (let none : [] ≡ b ∷ bs = left ∙ more in cc)
    go (y ∷ ys) whole good left = use_it y ys good.0 good.1 left whole

-- and was read
pub remains_next : {A B : Type 0} (code : A → List B) (Good : A → Type 0) (all read : List A) (rest : List B) (b : B) (bs : List B) (x : A) (after : List B)
    → Remains code Good all read rest → rest ≡ b ∷ bs
    → ((y : A) (ys : List A) → Good y → AllByRecursion Good ys → code y ++ flat_map code ys ≡ rest → (x ≡ y) × (after ≡ flat_map code ys))
    → Remains code Good all (read ++ x ∷ []) after
remains_next code Good all read rest b bs x after r more only =
    remains_one code Good all read rest b bs _ r more (λ y ys good others left whole. step y ys others whole (only y ys good others left))
  where
    step : (y : _) (ys : List _) → AllByRecursion Good ys → read ++ y ∷ ys ≡ all → (x ≡ y) × (after ≡ flat_map code ys) → Remains code Good all (read ++ x ∷ []) after
    step y ys others whole e = record {
      later = ys;
      whole = append_assoc read (x ∷ []) ys ∙ (rw (sym e.0) at whole);
      good = others;
      left = sym e.1;
    }

-- and what is read has the codes
pub read_more : {A B : Type 0} (code : A → List B) (read : List A) (rest text : List B) (x : A) (after : List B)
    → flat_map code read ++ rest ≡ text → code x ++ after ≡ rest → flat_map code (read ++ x ∷ []) ++ after ≡ text
read_more code read rest text x after e f =
    let one : flat_map code (read ++ x ∷ []) ≡ flat_map code read ++ code x = flat_map-append code read (x ∷ []) ∙ ap (λ xs. flat_map code read ++ xs) (append-nil (code x)) in
    rw one (append_assoc (flat_map code read) (code x) after ∙ ap (λ xs. flat_map code read ++ xs) f ∙ e)

pub no_more : {B : Type 0} (xs : List B) → length xs ≡ 0 → xs ≡ []
no_more [] e = refl
no_more (x ∷ xs) e = absurd (cc)

pub nothing : {B : Type 0} (xs : List B) (empty : Bool) → empty ≡ (length xs == 0) → empty ≡ true → xs ≡ []
nothing xs empty is h = no_more xs (eqb-true (length xs) 0 (sym is ∙ h))

pub something : {B : Type 0} (xs : List B) (empty : Bool) → empty ≡ (length xs == 0) → empty ≡ false → xs ≡ [] → ⊥
something [] empty is h e = let f : true ≡ false = sym is ∙ h in cc
something (x ∷ xs) empty is h e = cc
