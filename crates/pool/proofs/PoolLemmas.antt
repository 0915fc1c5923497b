-- What a pool shows.
use Rattle.std.proofs.Common.{◌≡◌, ℕ, ◌<◌, ◌≤◌, ◌+◌, ◌*◌, Bool, true, false, List, Option, Some, None, refl, sym, ap, subst, ◌∙◌, arith, length, IsTrue, IsSome, rules, [], ◌∷◌, suc, zero, ◌⊎◌, inl, inr}
use Rattle.std.specs.Prelude.{slice_get}
use Rattle.std.proofs.lemmas.Bool.{cases_lt}
use Rattle.disk.specs.declared.device.Disk.{Ghosts}
use Rattle.last_version.specs.declared.version.LastVersion.{LastVersion}
use Rattle.last_version.specs.Lasts.{device_under, shown_by, is_broken, left_of, waits_at}
use Rattle.journaled_file.specs.Shown.{padded}
use Rattle.last_version.specs.Standing.{pages_below, padded_of, waits_in, left_in}
use Rattle.last_version.proofs.ShownLemmas.{shown_there}
use Rattle.last_version.proofs.LastLemmas.{stored_in}
use Rattle.pool.specs.declared.slot.Slot.{Slot}
use Rattle.pool.specs.declared.pool.Pool.{Pool}
use Rattle.pool.specs.Follows.{MayFollow}
use Rattle.pool.specs.Pages.{PageMap, pick, known}
use Rattle.pool.specs.Images.{covers}
use Rattle.pool.specs.declared.found.Found.{Found}
use Rattle.pool.specs.declared.found.Found.TheVariants.{Copied, Newest, Absent}
use Rattle.pool.specs.declared.slot.OldImage.{OldImage}
use Rattle.pool.specs.declared.pins.Pin.{Pin}
use Rattle.pool.specs.Pins.{pins_at}
use Rattle.pool.specs.Ready.{IsFound, KeepsSeen}
use Rattle.pool.specs.Slots.{pages_at, seen, slot_at, empty_slot}
use Rattle.pool.specs.Versions.{Versions, HoldsSame}
use Rattle.pool.proofs.SlotLemmas.{reads_now}

pub known_same : (honest : Bool) (p q : PageMap) → (IsTrue honest → (n : ℕ) → p n ≡ q n) → known honest p ≡ known honest q
known_same true p q f = λ i n. f (search rules) n i
known_same false p q f = refl

pub known_at : (honest : Bool) (p : PageMap) (n : ℕ) → IsTrue honest → known honest p n ≡ p n
known_at true p n h = refl
known_at false p n h = let bad : false ≡ true = h in cc

pub same_versions : (honest : Bool) (last : ℕ) (pins : ℕ → ℕ) (p q : ℕ → PageMap) → (IsTrue honest → (c n : ℕ) → p c n ≡ q c n)
    → (let a : Versions = record { last = last; pages = λ c. known honest (p c); pins = pins } in let b : Versions = record { last = last; pages = λ c. known honest (q c); pins = pins } in a ≡ b)
same_versions honest last pins p q f = λ i. record { last = last; pages = λ c. known_same honest (p c) (q c) (λ h. f h c) i; pins = pins }

-- what is known, is known of an honest device
pub known_is : (G : Type 0) (honest : Bool) (p : PageMap) (n : ℕ) (page : List ℕ) → known honest p n ≡ Some page → (IsTrue honest → p n ≡ Some page → G) → G
known_is G true p n page e f = f (search rules) e
known_is G false p n page e f = cc

pub is_known : (honest : Bool) (p : PageMap) (n : ℕ) (page : List ℕ) → IsTrue honest → p n ≡ Some page → IsSome (known honest p n)
is_known true p n page h e = rw e (search rules)
is_known false p n page h e = let bad : false ≡ true = h in cc

pub none_known : (honest : Bool) (p : PageMap) (n : ℕ) → p n ≡ None → known honest p n ≡ None
none_known true p n e = e
none_known false p n e = refl

pub past : (slots : List Slot) (n : ℕ) → slice_get slots n ≡ None → slot_at slots n ≡ empty_slot
past [] n e = refl
past (s ∷ slots) zero e = cc
past (s ∷ slots) (suc n) e = past slots n e

-- ---- what was found of a page

pub found_image : (shown : Option (List ℕ) → Option (List ℕ)) (image : Option (List ℕ)) (bytes : List ℕ) (found : Found) → ((newest : Option (List ℕ)) → shown newest ≡ image)
    → IsFound (λ newest. image) bytes found → IsFound shown bytes found
found_image shown image bytes (Copied known) is h = (λ newest. is newest ∙ h.0 newest, h.1)
found_image shown image bytes Newest is h = λ newest. is newest ∙ h image ∙ h newest
found_image shown image bytes Absent is h = λ newest. is newest ∙ h newest

-- ---- a commit is no longer pinned

-- the last commit and those that are pinned read the same
pub kept_seen : (v last : ℕ) (pins : List Pin) (old new : List OldImage) → covers last old ≡ false → (covers last new ≡ true → covers last old ≡ true) → KeepsSeen pins old new
    → (v ≡ last) ⊎ (0 < pins_at pins v) → (d : Option (List ℕ)) → seen v new d ≡ seen v old d
kept_seen v last pins old new none fewer shown (inr some) d = shown v some d
kept_seen v last pins old new none fewer shown (inl is) d =
    ap (λ c. seen c new d) is ∙ reads_now last new (turn (covers last new) (covers last old) fewer none) d ∙ sym (reads_now last old none d) ∙ ap (λ c. seen c old d) (sym is)
  where
    turn : (a b : Bool) → (a ≡ true → b ≡ true) → b ≡ false → a ≡ false
    turn true b f e = let bad : true ≡ false = sym (f refl) ∙ e in cc
    turn false b f e = refl

pub still_seen : (newest : PageMap) (c : ℕ) (slots new_slots : List Slot)
    → ((n : ℕ) (d : Option (List ℕ)) → seen c (slot_at new_slots n).images d ≡ seen c (slot_at slots n).images d)
    → (n : ℕ) → pages_at newest new_slots c n ≡ pages_at newest slots c n
still_seen newest c slots new_slots shown n = shown n (newest n)

-- where versions are the same, so are their newest pages
pub same_last : (v w : Versions) (n : ℕ) (o : Option (List ℕ)) → w ≡ v → v.pages v.last n ≡ o → w.pages w.last n ≡ o
same_last v w n o same e = ap (λ (u : Versions). u.pages u.last n) same ∙ e

pub empty_of : (xs : List ℕ) → length xs ≡ 0 → xs ≡ []
empty_of [] e = refl
empty_of (x ∷ xs) e = absurd (omega arith)

-- ---- what a pool holds

pub holds_same : {D : Type 0} {device : Ghosts D} (a : Pool D device) → HoldsSame a a
holds_same a = record { images = refl; needed = λ numbers. refl; frames = refl }

pub holds_then : {D : Type 0} {device : Ghosts D} (a b c : Pool D device) → HoldsSame a b → HoldsSame b c → HoldsSame a c
holds_then a b c h g = record { images = g.images ∙ h.images; needed = λ numbers. g.needed numbers ∙ h.needed numbers; frames = g.frames ∙ h.frames }

-- ---- what is in the file

-- versions over newest pages that are the same
pub same_over : (newest now : PageMap) (slots : List Slot) → ((n : ℕ) → now n ≡ newest n) → (c n : ℕ) → pages_at now slots c n ≡ pages_at newest slots c n
same_over newest now slots same c n = ap (seen c (slot_at slots n).images) (same n)

-- a page that is not to be written stands in the file
pub stored_of : {D : Type 0} {device : Ghosts D} (file : LastVersion D device) (slots : List Slot) (last n : ℕ) (page : List ℕ) → IsTrue device.is_honest
    → is_broken file ≡ false → covers last (slot_at slots n).images ≡ false → waits_at file n ≡ 0
    → known device.is_honest (pages_at (shown_by file) slots last) n ≡ Some page → padded_of (device.bytes (device_under file)) n ≡ Some page
stored_of {D} {device} file slots last n page honest whole old none is =
    stored_in file honest whole n page none
    (sym (reads_now last (slot_at slots n).images old (shown_by file n)) ∙ sym (known_at device.is_honest (pages_at (shown_by file) slots last) n honest) ∙ is)

-- where none is left, no page is to be written
pub none_of : {D : Type 0} {device : Ghosts D} (file : LastVersion D device) → left_of file ≡ 0 → (n : ℕ) → waits_at file n ≡ 0
none_of file none n = ap (λ (l : List (ℕ × List ℕ)). waits_in l n) (empty (left_in file.file) none)
  where
    empty : (xs : List (ℕ × List ℕ)) → length xs ≡ 0 → xs ≡ []
    empty [] e = refl
    empty (x ∷ xs) e = absurd (omega (arith, e))

-- where no page is shown from m on, there are at most m
pub none_above : (honest : Bool) (count : ℕ) (pages : ℕ → List ℕ) (slots : List Slot) (last size m : ℕ) → IsTrue honest
    → ((n : ℕ) → covers last (slot_at slots n).images ≡ false) → size ≡ 4096 * count
    → ((n : ℕ) → m ≤ n → known honest (pages_at (pages_below count pages) slots last) n ≡ None) → size ≤ 4096 * m
none_above honest count pages slots last size m h old is none = by (cases_lt m count)
  where
    gone : pages_below count pages m ≡ None
    gone =
        sym (reads_now last (slot_at slots m).images (old m) (pages_below count pages m))
        ∙ sym (known_at honest (pages_at (pages_below count pages) slots last) m h) ∙ none m (omega arith)

    by : (m < count) ⊎ (count ≤ m) → size ≤ 4096 * m
    by (inl less) = let bad : Some (padded m (pages m)) ≡ None = sym (shown_there count pages m less) ∙ gone in cc
    by (inr more) = omega (arith, is, more)

-- ---- what may be committed

-- over what the last commit shows is over the newest versions
pub follows_shown : (honest : Bool) (newest : PageMap) (slots : List Slot) (last : ℕ) (top : PageMap) → IsTrue honest
    → ((n : ℕ) → covers last (slot_at slots n).images ≡ false) → MayFollow top (known honest (pages_at newest slots last)) → MayFollow top newest
follows_shown honest newest slots last top h old follows = record {
  gapless = λ n m less there. subst (λ (o : Option (List ℕ)). IsSome o) (ap (pick (top n)) (same n)) (follows.gapless n m less there);
  low = follows.low;
  zeros = follows.zeros;
}
  where
    same : (n : ℕ) → known honest (pages_at newest slots last) n ≡ newest n
    same n = known_at honest (pages_at newest slots last) n h ∙ reads_now last (slot_at slots n).images (old n) (newest n)
