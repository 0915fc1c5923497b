-- An image that no commit in use reads may be dropped.
use Rattle.std.proofs.Common.{◌≡◌, ◌≢◌, ℕ, ◌<◌, ◌≤◌, ◌+◌, ◌-◌, ◌==◌, ◌||◌, Bool, true, false, List, [], ◌∷◌, ◌++◌, ◌⊎◌, inl, inr, Option, refl, sym, ap, subst, ◌∙◌, if◌then◌else◌, length, get_or, take, drop, suc, zero, not, drop-cons, eq-eqb, arith}
use Rattle.std.specs.Prelude.{nat_lt, ◌&&◌}
use Rattle.std.specs.List.{list_any, remove}
use Rattle.std.proofs.lemmas.List.{take-append-drop, get_or_default, take_more, take_all}
use Rattle.std.proofs.lemmas.List.Edits.{get_or-remove_below}
use Rattle.pool.specs.declared.slot.OldImage.{OldImage}
use Rattle.pool.specs.declared.pins.Pin.{Pin}
use Rattle.pool.specs.Pins.{pins_at}
use Rattle.pool.specs.declared.slot.Slot.{Slot}
use Rattle.pool.specs.Images.{covers, reads, no_image, AreNeeded, pinned_in}
use Rattle.pool.specs.Ready.{KeepsSeen}
use Rattle.pool.specs.Slots.{seen, slot_at}
use Rattle.pool.proofs.SlotLemmas.{by_place, not_same}
use Rattle.pool.proofs.ImageLemmas.{any_push, or_false, or_first, or_second, any_same, none_removed, reads_before}

skip : (t : Bool) (x y : Option (List ℕ)) → t ≡ false → y ≡ (if t then x else y)
skip true x y e = cc
skip false x y e = refl

first : (t r : Bool) (x y z : Option (List ℕ)) → (r ≡ true → y ≡ z) → (t || r) ≡ true → (if t then x else y) ≡ (if t then x else z)
first true r x y z f h = refl
first false r x y z f h = f h

-- it is too old for the commit, or a nearer one is there
dropped : (c : ℕ) (b a : List OldImage) (o : OldImage) (d : Option (List ℕ)) → (nat_lt c o.until ≡ false) ⊎ (list_any (λ x. nat_lt c x.until) b ≡ true)
    → seen c (b ++ a) d ≡ seen c (b ++ o ∷ a) d
dropped c [] a o d (inl e) = skip (nat_lt c o.until) o.page (seen c a d) e
dropped c [] a o d (inr e) = let bad : false ≡ true = e in cc
dropped c (x ∷ b) a o d (inl e) = ap (λ r. if nat_lt c x.until then x.page else r) (dropped c b a o d (inl e))
dropped c (x ∷ b) a o d (inr e) =
    first (nat_lt c x.until) (list_any (λ y. nat_lt c y.until) b) x.page (seen c (b ++ a) d) (seen c (b ++ o ∷ a) d) (λ h. dropped c b a o d (inr h)) e

whole : (os : List OldImage) (i : ℕ) (o : OldImage) → i < length os → o ≡ get_or os i o → os ≡ take i os ++ (o ∷ drop (suc i) os)
whole os i o less is = sym (take-append-drop i os) ∙ ap (λ r. take i os ++ r) (drop-cons os i o less ∙ ap (λ (x : OldImage). x ∷ drop (suc i) os) (sym is))

pub dropped_at : (c : ℕ) (os : List OldImage) (i : ℕ) (o : OldImage) → i < length os → o ≡ get_or os i o → (d : Option (List ℕ))
    → (nat_lt c o.until ≡ false) ⊎ (list_any (λ x. nat_lt c x.until) (take i os) ≡ true) → seen c (remove os i) d ≡ seen c os d
dropped_at c os i o less is d h = dropped c (take i os) (drop (suc i) os) o d h ∙ ap (λ (xs : List OldImage). seen c xs d) (sym (whole os i o less is))

pub turned : (b : Bool) → not b ≡ false → b ≡ true
turned true e = refl
turned false e = sym e

pub fewer : (b : Bool) (x y : ℕ) → y ≡ (if b then x - 1 else x) → 0 < y → 0 < x
fewer true x y e some = omega arith
fewer false x y e some = omega arith

-- what no pinned commit reads may go
not_read : (a b : Bool) → (a && not b) ≡ false → (a ≡ false) ⊎ (b ≡ true)
not_read true true h = inr refl
not_read true false h = let bad : true ≡ false = h in cc
not_read false b h = inl refl

pub unread_gone : (c : ℕ) (os : List OldImage) (i : ℕ) → i < length os → reads os i c ≡ false → (d : Option (List ℕ)) → seen c (remove os i) d ≡ seen c os d
unread_gone c os i less h d =
    let o = get_or os i no_image in
    dropped_at c os i o less (get_or_default os i no_image o less) d (not_read (nat_lt c o.until) (list_any (λ x. nat_lt c x.until) (take i os)) h)

-- the same of each pinned commit
pub pinned_gone : (os : List OldImage) (i : ℕ) (pins : List Pin) → ((p : Pin) (ps : List Pin) (c : ℕ) → 0 < pins_at (p ∷ ps) c → (p.number ≡ c) ⊎ (0 < pins_at ps c)) → i < length os
    → list_any (reads os i) (pinned_in pins) ≡ false → KeepsSeen pins os (remove os i)
pinned_gone os i [] split less h c some d = let zero_pins : pins_at [] c ≡ 0 = refl in absurd (omega (arith, zero_pins, some))
pinned_gone os i (p ∷ ps) split less h c some d = elim (split p ps c some) [
  | inl is ↦ unread_gone c os i less (subst (λ n. reads os i n ≡ false) is (or_first (reads os i p.number) (list_any (reads os i) (pinned_in ps)) h)) d
  | inr more ↦ pinned_gone os i ps split less (or_second (reads os i p.number) (list_any (reads os i) (pinned_in ps)) h) c more d
]

pub covers_fewer : (c : ℕ) (os : List OldImage) (i : ℕ) → covers c (remove os i) ≡ true → covers c os ≡ true
covers_fewer c os i h = by (covers c os) refl
  where
    by : (b : Bool) → covers c os ≡ b → b ≡ true
    by true e = refl
    by false e = sym (none_removed (λ o. nat_lt c o.until) os i e) ∙ h

-- the images before a removed one are read as before
pub still_needed : (pinned : List ℕ) (os : List OldImage) (place : ℕ) → place < length os
    → ((i : ℕ) → i < place → list_any (reads os i) pinned ≡ true) → (i : ℕ) → i < place → list_any (reads (remove os place) i) pinned ≡ true
still_needed pinned os place within needed i less =
    any_same (reads (remove os place) i) (reads os i) (λ c. reads_before os (remove os place) i c (get_or-remove_below os place no_image i less within) (front os place i (omega (arith, less)))) pinned ∙ needed i less
  where
    front : (xs : List OldImage) (p j : ℕ) → j ≤ p → take j (remove xs p) ≡ take j xs
    front xs p zero le = refl
    front [] zero (suc j) le = refl
    front [] (suc p) (suc j) le = refl
    front (x ∷ xs) zero (suc j) le = absurd (omega (arith, le))
    front (x ∷ xs) (suc p) (suc j) le = ap (λ l. x ∷ l) (front xs p j (omega (arith, le)))

-- ---- one page more was looked at

module _ (pages : List ℕ) (i : ℕ) (was slots new_slots : List Slot) (within : i < length pages)
    (others : (n : ℕ) → n ≢ get_or pages i 0 → (slot_at new_slots n).images ≡ (slot_at slots n).images) where
  listed_more : (n : ℕ) → list_any (λ m. m == n) (take (i + 1) pages) ≡ (list_any (λ m. m == n) (take i pages) || (get_or pages i 0 == n))
  listed_more n = ap (list_any (λ m. m == n)) (take_more pages i 0 within) ∙ any_push (λ m. m == n) (take i pages) (get_or pages i 0)

  pub needed_then : (pinned : List ℕ) → AreNeeded pinned (slot_at new_slots (get_or pages i 0)).images
      → ((n : ℕ) → list_any (λ m. m == n) (take i pages) ≡ true → AreNeeded pinned (slot_at slots n).images)
      → (n : ℕ) → list_any (λ m. m == n) (take (i + 1) pages) ≡ true → AreNeeded pinned (slot_at new_slots n).images
  needed_then pinned here so_far = by_place (λ n. list_any (λ m. m == n) (take (i + 1) pages) ≡ true → AreNeeded pinned (slot_at new_slots n).images) (get_or pages i 0) (λ h. here)
      (λ n differs h. subst (AreNeeded pinned) (sym (others n differs)) (so_far n (sym (listed_more n ∙ ap (λ b. list_any (λ m. m == n) (take i pages) || b) (not_same (get_or pages i 0) n (λ e. differs (sym e))) ∙ or_false (list_any (λ m. m == n) (take i pages))) ∙ h)))

  pub others_then : ((n : ℕ) → list_any (λ m. m == n) (take i pages) ≡ false → (slot_at slots n).images ≡ (slot_at was n).images)
      → (n : ℕ) → list_any (λ m. m == n) (take (i + 1) pages) ≡ false → (slot_at new_slots n).images ≡ (slot_at was n).images
  others_then so_far n h =
      let both = sym (listed_more n) ∙ h in
      let apart = or_second (list_any (λ m. m == n) (take i pages)) (get_or pages i 0 == n) both in
      others n (λ e. let bad : true ≡ false = sym (eq-eqb (get_or pages i 0) n (sym e)) ∙ apart in cc) ∙ so_far n (or_first (list_any (λ m. m == n) (take i pages)) (get_or pages i 0 == n) both)

-- all pages were looked at
pub all_looked : (n : ℕ) (pages : List ℕ) (i : ℕ) → length pages ≤ i → list_any (λ m. m == n) pages ≡ true → list_any (λ m. m == n) (take i pages) ≡ true
all_looked n pages i le h = ap (list_any (λ m. m == n)) (take_all i pages le) ∙ h

pub none_looked : (n : ℕ) (pages : List ℕ) (i : ℕ) → length pages ≤ i → list_any (λ m. m == n) pages ≡ false → list_any (λ m. m == n) (take i pages) ≡ false
none_looked n pages i le h = ap (list_any (λ m. m == n)) (take_all i pages le) ∙ h

pub keeps_on : (pins : List Pin) (a b c : List OldImage) → KeepsSeen pins a b → KeepsSeen pins b c → KeepsSeen pins a c
keeps_on pins a b c h g v some d = g v some d ∙ h v some d

pub keeps_same : (pins : List Pin) (a b c : List OldImage) → KeepsSeen pins a b → c ≡ b → KeepsSeen pins a c
keeps_same pins a b c h same v some d = ap (λ (os : List OldImage). seen v os d) same ∙ h v some d
