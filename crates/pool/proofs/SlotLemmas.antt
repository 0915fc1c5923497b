-- Old images, and what commits show through them.
use Rattle.std.proofs.Common.{◌≡◌, ◌≢◌, ℕ, ◌<◌, ◌≤◌, ◌==◌, ◌||◌, Bool, true, false, List, [], ◌∷◌, ◌++◌, Option, refl, sym, ap, subst, ◌∙◌, if◌then◌else◌, arith}
use Rattle.std.specs.Prelude.{nat_lt}
use Rattle.std.proofs.lemmas.Bool.{eqb-true, eqb-false}
use borrow.Author.Tests.{ltb-true, ltb-false}
use Rattle.pool.specs.declared.slot.OldImage.{OldImage}
use Rattle.pool.specs.declared.slot.Slot.{Slot}
use Rattle.pool.specs.Images.{covers}
use Rattle.pool.specs.Pages.{PageMap}
use Rattle.pool.specs.Slots.{seen, slot_at, pages_at}

pub lt-true : (a b : ℕ) → a < b → nat_lt a b ≡ true
lt-true a b h = by (nat_lt a b) refl
  where
    by : (t : Bool) → nat_lt a b ≡ t → nat_lt a b ≡ true
    by true e = e
    by false e = let not_less : b ≤ a = ltb-false a b e in absurd (omega arith)

pub lt-false : (a b : ℕ) → b ≤ a → nat_lt a b ≡ false
lt-false a b h = by (nat_lt a b) refl
  where
    by : (t : Bool) → nat_lt a b ≡ t → nat_lt a b ≡ false
    by true e = let less : a < b = ltb-true a b e in absurd (omega arith)
    by false e = e

pub not_same : (k n : ℕ) → (k ≡ n → ⊥) → (k == n) ≡ false
not_same k n differs = by (k == n) refl
  where
    by : (b : Bool) → (k == n) ≡ b → (k == n) ≡ false
    by true e = absurd (differs (eqb-true k n e))
    by false e = e

-- a fact at n and at all other places
pub by_place : (P : ℕ → Type 0) (n : ℕ) → P n → ((m : ℕ) → m ≢ n → P m) → (m : ℕ) → P m
by_place P n here others m = by (m == n) refl
  where
    by : (b : Bool) → (m == n) ≡ b → P m
    by true e = subst P (sym (eqb-true m n e)) here
    by false e = others m (eqb-false m n e)

pub pushed : (c : ℕ) (os : List OldImage) (o : OldImage) (d : Option (List ℕ)) → seen c (os ++ o ∷ []) d ≡ seen c os (if nat_lt c o.until then o.page else d)
pushed c [] o d = refl
pushed c (x ∷ os) o d = ap (λ r. if nat_lt c x.until then x.page else r) (pushed c os o d)

-- a commit that an image is of does not read the newest version
step : (b rest : Bool) (x : Option (List ℕ)) (d e : Option (List ℕ)) → (rest ≡ true → d ≡ e) → (b || rest) ≡ true → (if b then x else d) ≡ (if b then x else e)
step true rest x d e f h = refl
step false rest x d e f h = f h

pub covered : (c : ℕ) (os : List OldImage) → covers c os ≡ true → (d e : Option (List ℕ)) → seen c os d ≡ seen c os e
covered c [] h d e = let bad : false ≡ true = h in cc
covered c (o ∷ os) h d e = step (nat_lt c o.until) (covers c os) o.page (seen c os d) (seen c os e) (λ t. covered c os t d e) h

-- and one that none is of does
pub reads_now : (c : ℕ) (os : List OldImage) → covers c os ≡ false → (d : Option (List ℕ)) → seen c os d ≡ d
reads_now c [] h d = refl
reads_now c (o ∷ os) h d = go (nat_lt c o.until) (covers c os) o.page (seen c os d) (λ t. reads_now c os t d) h
  where
    go : (b rest : Bool) (x y : Option (List ℕ)) → (rest ≡ false → y ≡ d) → (b || rest) ≡ false → (if b then x else y) ≡ d
    go true rest x y f h = let bad : true ≡ false = h in cc
    go false rest x y f h = f h

-- where images and newest versions are the same, all versions are
pub same_newest : (newest now : PageMap) (slots new_slots : List Slot) → ((n : ℕ) → (slot_at new_slots n).images ≡ (slot_at slots n).images)
    → ((n : ℕ) → now n ≡ newest n) → (c n : ℕ) → pages_at now new_slots c n ≡ pages_at newest slots c n
same_newest newest now slots new_slots images same c n =
    ap (λ os. seen c os (now n)) (images n) ∙ ap (seen c (slot_at slots n).images) (same n)

pub same_shown : (newest : PageMap) (slots new_slots : List Slot) → ((n : ℕ) → (slot_at new_slots n).images ≡ (slot_at slots n).images)
    → (c n : ℕ) → pages_at newest new_slots c n ≡ pages_at newest slots c n
same_shown newest slots new_slots images = same_newest newest newest slots new_slots images (λ n. refl)

-- an image of the newest version is kept
module _ (newest : PageMap) (slots new_slots : List Slot) (n : ℕ) (image : OldImage)
    (here : (slot_at new_slots n).images ≡ (slot_at slots n).images ++ image ∷ [])
    (others : (m : ℕ) → m ≢ n → (slot_at new_slots m).images ≡ (slot_at slots m).images)
    (value : newest n ≡ image.page) where
  choice : (b : Bool) (x y : Option (List ℕ)) → y ≡ x → (if b then x else y) ≡ y
  choice true x y e = sym e
  choice false x y e = refl

  pub shown_with_image : (c m : ℕ) → pages_at newest new_slots c m ≡ pages_at newest slots c m
  shown_with_image c = by_place (λ m. pages_at newest new_slots c m ≡ pages_at newest slots c m) n
      (ap (λ os. seen c os (newest n)) here ∙ pushed c (slot_at slots n).images image (newest n)
      ∙ ap (seen c (slot_at slots n).images) (choice (nat_lt c image.until) image.page (newest n) value))
      (λ m differs. ap (λ os. seen c os (newest m)) (others m differs))
