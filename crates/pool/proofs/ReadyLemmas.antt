-- Pages that are readied for a commit.
use Rattle.std.proofs.Common.{◌≡◌, ◌≢◌, inl, inr, ℕ, ◌<◌, ◌≤◌, ◌+◌, ◌==◌, ◌||◌, Bool, true, false, List, [], ◌∷◌, ◌++◌, refl, sym, ap, subst, ◌∙◌, arith, length, get_or}
use Rattle.std.specs.Prelude.{nat_lt}
use Rattle.std.specs.List.{list_any}
use borrow.Author.Tests.{ltb-false}
use Rattle.pool.specs.declared.slot.OldImage.{OldImage}
use Rattle.pool.specs.declared.slot.Slot.{Slot}
use Rattle.pool.specs.Images.{covers, reads_newest, AreNeeded, AreKept}
use Rattle.pool.specs.Ready.{IsImaged, IsReadied, MayBeImaged, Grows, Ascend}
use Rattle.pool.specs.Slots.{slot_at}
use Rattle.pool.proofs.SlotLemmas.{by_place, lt-false}
use Rattle.pool.proofs.ImageLemmas.{covers_push, covers_later, all_covered, needed_push}

pub grows_then : (a b c : List (List ℕ)) → Grows a b → Grows b c → Grows a c
grows_then a b c h g k m has = g k m (h k m has)

imaged_more : (last : ℕ) (pinned : List ℕ) (touched more : List (List ℕ)) (n : ℕ) (old new : List OldImage) → Grows touched more → IsImaged last pinned touched n old new → IsImaged last pinned more n old new
imaged_more last pinned touched more n old new grows h = record {
  image = h.image;
  until = h.until;
  is = h.is;
  wanted = h.wanted;
  noted = λ k less none. grows k n (h.noted k less none);
}

-- a page that comes later in the list was not readied yet
pub fresh : (numbers : List ℕ) (i last : ℕ) (pinned : List ℕ) (touched : List (List ℕ)) (old new : List OldImage) → Ascend numbers → i < length numbers
    → MayBeImaged numbers i last pinned touched (get_or numbers i 0) old new → new ≡ old
fresh numbers i last pinned touched old new ascend within (inl same) = same
fresh numbers i last pinned touched old new ascend within (inr (k, less, is, imaged)) = let below = ascend k i less within in absurd (omega (arith, below, is))

-- one page more is readied
module _ (numbers : List ℕ) (i last : ℕ) (pinned : List ℕ) (touched more : List (List ℕ)) (was slots new_slots : List Slot) (grows : Grows touched more) (ascend : Ascend numbers) (within : i < length numbers)
    (others : (n : ℕ) → n ≢ get_or numbers i 0 → (slot_at new_slots n).images ≡ (slot_at slots n).images)
    (so_far : (n : ℕ) → MayBeImaged numbers i last pinned touched n (slot_at was n).images (slot_at slots n).images) where
  abbrev pub page : ℕ
  page = get_or numbers i 0

  pub not_yet : (slot_at slots page).images ≡ (slot_at was page).images
  not_yet = fresh numbers i last pinned touched (slot_at was page).images (slot_at slots page).images ascend within (so_far page)

  later_on : (n : ℕ) (new : List OldImage) → new ≡ (slot_at slots n).images → MayBeImaged numbers i last pinned touched n (slot_at was n).images (slot_at slots n).images
      → MayBeImaged numbers (i + 1) last pinned more n (slot_at was n).images new
  later_on n new same (inl e) = inl (same ∙ e)
  later_on n new same (inr (k, less, is, imaged)) = inr (
    k,
    omega (arith, less),
    is,
    subst (IsImaged last pinned more n (slot_at was n).images) (sym same) (imaged_more last pinned touched more n (slot_at was n).images (slot_at slots n).images grows imaged),
  )

  pub one_readied : IsReadied last pinned more page (slot_at slots page).images (slot_at new_slots page).images
      → (n : ℕ) → MayBeImaged numbers (i + 1) last pinned more n (slot_at was n).images (slot_at new_slots n).images
  one_readied readied = by_place (λ n. MayBeImaged numbers (i + 1) last pinned more n (slot_at was n).images (slot_at new_slots n).images) page
      (here (subst (λ (os : List OldImage). IsReadied last pinned more page os (slot_at new_slots page).images) not_yet readied))
      (λ n differs. later_on n (slot_at new_slots n).images (others n differs) (so_far n))
    where
      here : IsReadied last pinned more page (slot_at was page).images (slot_at new_slots page).images → MayBeImaged numbers (i + 1) last pinned more page (slot_at was page).images (slot_at new_slots page).images
      here (inl (same, none)) = inl same
      here (inr imaged) = inr (i, omega arith, refl, imaged)

  -- it was refused
  pub none_readied : (slot_at new_slots page).images ≡ (slot_at slots page).images → (n : ℕ) → MayBeImaged numbers (i + 1) last pinned more n (slot_at was n).images (slot_at new_slots n).images
  none_readied same = by_place (λ n. MayBeImaged numbers (i + 1) last pinned more n (slot_at was n).images (slot_at new_slots n).images) page
      (later_on page (slot_at new_slots page).images same (so_far page))
      (λ n differs. later_on n (slot_at new_slots n).images (others n differs) (so_far n))

  -- no pinned commit reads its newest version
  pub is_ready : list_any (λ c. nat_lt last c) pinned ≡ false → IsReadied last pinned more page (slot_at slots page).images (slot_at new_slots page).images
      → reads_newest pinned (slot_at new_slots page).images ≡ false
  is_ready before (inl (same, none)) = ap (reads_newest pinned) same ∙ none
  is_ready before (inr imaged) = ap (reads_newest pinned) imaged.is ∙ all_covered last pinned (slot_at slots page).images imaged.image imaged.until before

  pub still_ready : (k : ℕ) → k < i → reads_newest pinned (slot_at slots (get_or numbers k 0)).images ≡ false → reads_newest pinned (slot_at new_slots (get_or numbers k 0)).images ≡ false
  still_ready k less was_ready = ap (reads_newest pinned) (others (get_or numbers k 0) (λ e. let below = ascend k i less within in absurd (omega (arith, below, e)))) ∙ was_ready

pub maybe_more : (numbers : List ℕ) (i j last : ℕ) (pinned : List ℕ) (touched : List (List ℕ)) (n : ℕ) (old new : List OldImage) → i ≤ j → MayBeImaged numbers i last pinned touched n old new → MayBeImaged numbers j last pinned touched n old new
maybe_more numbers i j last pinned touched n old new le (inl same) = inl same
maybe_more numbers i j last pinned touched n old new le (inr (k, less, is, imaged)) = inr (k, omega (arith, less, le), is, imaged)

-- with the same images before
pub maybe_from : (numbers : List ℕ) (i last : ℕ) (pinned : List ℕ) (touched : List (List ℕ)) (n : ℕ) (was old new : List OldImage) → old ≡ was → MayBeImaged numbers i last pinned touched n old new → MayBeImaged numbers i last pinned touched n was new
maybe_from numbers i last pinned touched n was old new same h = subst (λ (os : List OldImage). MayBeImaged numbers i last pinned touched n os new) same h

-- what was readied is taken back
pub all_back : (numbers : List ℕ) (last : ℕ) (pinned : List ℕ) (touched : List (List ℕ)) (was slots new_slots : List Slot)
    → ((n : ℕ) → covers last (slot_at was n).images ≡ false)
    → ((n : ℕ) → MayBeImaged numbers (length numbers) last pinned touched n (slot_at was n).images (slot_at slots n).images)
    → ((n : ℕ) → covers last (slot_at slots n).images ≡ false → (slot_at new_slots n).images ≡ (slot_at slots n).images)
    → ((k : ℕ) → k < length numbers → (others : List OldImage) (image : OldImage) → last < image.until → (slot_at slots (get_or numbers k 0)).images ≡ others ++ image ∷ [] → (slot_at new_slots (get_or numbers k 0)).images ≡ others)
    → (n : ℕ) → (slot_at new_slots n).images ≡ (slot_at was n).images
all_back numbers last pinned touched was slots new_slots old readied same taken n = by (readied n)
  where
    by : MayBeImaged numbers (length numbers) last pinned touched n (slot_at was n).images (slot_at slots n).images → (slot_at new_slots n).images ≡ (slot_at was n).images
    by (inl e) = same n (ap (covers last) e ∙ old n) ∙ e
    by (inr (k, less, is, imaged)) = let until = imaged.until in
        subst (λ m. (slot_at new_slots m).images ≡ (slot_at was n).images) is
        (taken k less (slot_at was n).images imaged.image (omega (arith, until)) (ap (λ m. (slot_at slots m).images) is ∙ imaged.is))

-- ---- a commit

none_later : (last : ℕ) (cs : List ℕ) → list_any (λ c. nat_lt last c) cs ≡ false → list_any (λ c. nat_lt (last + 1) c) cs ≡ false
none_later last [] h = refl
none_later last (c ∷ cs) h = go (nat_lt last c) (list_any (λ d. nat_lt last d) cs) refl (none_later last cs) h
  where
    go : (b r : Bool) → nat_lt last c ≡ b → (r ≡ false → list_any (λ d. nat_lt (last + 1) d) cs ≡ false) → (b || r) ≡ false → (nat_lt (last + 1) c || list_any (λ d. nat_lt (last + 1) d) cs) ≡ false
    go true r e f h = let bad : true ≡ false = h in cc
    go false r e f h = let most : c ≤ last = ltb-false last c e in ap (λ b. b || list_any (λ d. nat_lt (last + 1) d) cs) (lt-false (last + 1) c (omega (arith, most))) ∙ f h

pub no_later : (last : ℕ) (os new : List OldImage) (numbers : List ℕ) (m : ℕ) (pinned : List ℕ) (touched : List (List ℕ)) (n : ℕ) → covers last os ≡ false
    → MayBeImaged numbers m last pinned touched n os new → covers (last + 1) new ≡ false
no_later last os new numbers m pinned touched n none (inl same) = ap (covers (last + 1)) same ∙ covers_later last (last + 1) os (omega arith) none
no_later last os new numbers m pinned touched n none (inr (k, less, is, imaged)) = let until = imaged.until in
    ap (covers (last + 1)) imaged.is ∙ covers_push (last + 1) os imaged.image
    ∙ ap (λ b. b || nat_lt (last + 1) imaged.image.until) (covers_later last (last + 1) os (omega arith) none) ∙ lt-false (last + 1) imaged.image.until (omega (arith, until))

pub kept_committed : (last : ℕ) (pinned : List ℕ) (touched more : List (List ℕ)) (numbers : List ℕ) (slots ready new_slots : List Slot)
    → ((n : ℕ) → MayBeImaged numbers (length numbers) last pinned more n (slot_at slots n).images (slot_at ready n).images)
    → ((n : ℕ) → (slot_at new_slots n).images ≡ (slot_at ready n).images) → Grows touched more → length more ≡ length touched
    → AreKept last pinned touched slots → AreKept (last + 1) pinned more new_slots
kept_committed last pinned touched more numbers slots ready new_slots readied same grows long kept = record {
  before = none_later last pinned kept.before;
  room = let was = kept.room in omega (arith, was, long);
  old = λ n. ap (covers (last + 1)) (same n) ∙ no_later last (slot_at slots n).images (slot_at ready n).images numbers (length numbers) pinned more n (kept.old n) (readied n);
  needed = λ n. subst (AreNeeded pinned) (sym (same n)) (needed n (readied n));
  noted = λ n k less is. noted n k less (ap (covers (get_or pinned k 0)) (sym (same n)) ∙ is) (readied n);
}
  where
    needed : (n : ℕ) → MayBeImaged numbers (length numbers) last pinned more n (slot_at slots n).images (slot_at ready n).images → AreNeeded pinned (slot_at ready n).images
    needed n (inl e) = subst (AreNeeded pinned) (sym e) (kept.needed n)
    needed n (inr (k, less, is, imaged)) = subst (AreNeeded pinned) (sym imaged.is) (needed_push last pinned (slot_at slots n).images imaged.image imaged.until kept.before imaged.wanted (kept.needed n))

    noted : (n k : ℕ) → k < length pinned → covers (get_or pinned k 0) (slot_at ready n).images ≡ true → MayBeImaged numbers (length numbers) last pinned more n (slot_at slots n).images (slot_at ready n).images
        → list_any (λ m. m == n) (get_or more k []) ≡ true
    noted n k less is (inl e) = grows k n (kept.noted n k less (ap (covers (get_or pinned k 0)) (sym e) ∙ is))
    noted n k less is (inr (j, below, here, imaged)) = by (covers (get_or pinned k 0) (slot_at slots n).images) refl
      where
        by : (b : Bool) → covers (get_or pinned k 0) (slot_at slots n).images ≡ b → list_any (λ m. m == n) (get_or more k []) ≡ true
        by true e = grows k n (kept.noted n k less e)
        by false e = imaged.noted k less e
