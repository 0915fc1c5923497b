-- Cells as they are made.
use Rattle.std.proofs.Common.{◌≡◌, ℕ, suc, ◌+◌, ◌-◌, ◌^◌, ◌/◌, ◌%◌, ◌<◌, ◌≤◌, List, [], ◌∷◌, ◌++◌, length, get_or, ap, ◌∙◌, subst, arith, IsTrue, Bor}
use Rattle.std.specs.Int.{w32, to_be_bytes}
use Rattle.std.proofs.lemmas.List.{length-append, length-drop, length-map, get_or-map}
use Rattle.std.proofs.lemmas.Nat.{from_be_bytes-to_be_bytes_4}
use Rattle.std.proofs.Math.Nat.{div-add-mod}
use Rattle.std.proofs.Math.Seq.{drop-append_seam, take-append_seam}
use Rattle.std.specs.Ordering.{is_lt}
use Rattle.sqlrecord.specs.declared.kind.PageKind.{PageKind}
use Rattle.sqlrecord.specs.Key.{byte_order}
use Rattle.sqlrecord.specs.Build.{lent}
use Rattle.sqlrecord.specs.Page.{key_length_of, key_of, value_of, four_at, IsCell, AreCells}
use Rattle.sqlrecord.specs.Cell.{IsLeafCell, IsInnerCell}
use Rattle.sqlrecord.proofs.ByteLemmas.{length_be}

pub leaf_made : (cell key value : List ℕ) → cell ≡ (length key / 256 ∷ length key % 256 ∷ []) ++ (key ++ value) → IsLeafCell cell key value
leaf_made cell key value e =
    let n : key_length_of cell ≡ length key = rw e (div-add-mod (length key) 256) in
    let both = length-append key value in
    let long : length cell ≡ 2 + length key + length value = ap length e ∙ omega (arith, both) in
    let less : 2 + length key - 2 ≡ length key = omega arith in
    let two : 2 + length key ≡ suc (suc (length key)) = omega arith in
    record {
      formed = record { has_key = rw n (omega (arith, long)); has_child = λ wrong. absurd (cc wrong) };
      key_is = rw n (rw e (rw less (take-append_seam key value)));
      value_is = rw n (rw e (rw two (drop-append_seam key value)));
      size = long;
    }

child_read : (value : List ℕ) (child : ℕ) → value ≡ to_be_bytes w32 child → child < 2 ^ 32 → four_at value 0 ≡ child
child_read value child e h = rw e (from_be_bytes-to_be_bytes_4 child h)

pub inner_made : (cell key : List ℕ) (child : ℕ) → child < 2 ^ 32 → IsLeafCell cell key (to_be_bytes w32 child) → IsInnerCell cell key child
inner_made cell key child h leaf =
    let four : length (to_be_bytes w32 child) ≡ 4 = length_be 4 child in
    record {
      formed = record { has_key = leaf.formed.has_key; has_child = λ is. inner_size cell key child leaf };
      key_is = leaf.key_is;
      child_is = child_read (value_of cell) child leaf.value_is h;
      size = omega (arith, leaf.size, four);
    }
  where
    inner_size : (cell key : List ℕ) (child : ℕ) → IsLeafCell cell key (to_be_bytes w32 child) → 2 + key_length_of cell + 4 ≡ length cell
    inner_size cell key child leaf = let rest = ap length leaf.value_is in let four = length_be 4 child in let left = length-drop (2 + key_length_of cell) cell in let fits = leaf.formed.has_key in omega (arith, rest, four, left, fits)

-- a reference that lends no bytes
abbrev pub nothing : Bor (List ℕ)
nothing = record { ref_ptr = (0, 0); now = [] }

-- the cell that a reference lends
lent_at : (cells : List (Bor (List ℕ))) (i : ℕ) → i < length cells → get_or (lent cells) i [] ≡ (get_or cells i nothing).now
lent_at cells i h = get_or-map (λ (cell : Bor (List ℕ)). cell.now) cells i nothing [] h

length_lent : (cells : List (Bor (List ℕ))) → length (lent cells) ≡ length cells
length_lent cells = length-map cells (λ (cell : Bor (List ℕ)). cell.now)

pub are_lent : (kind : PageKind) (cells : List (Bor (List ℕ))) (i : ℕ) → length cells ≤ i → ((k : ℕ) → k < i → IsCell kind (get_or cells k nothing).now)
    → ((k : ℕ) → k + 1 < i → IsTrue (is_lt (byte_order (key_of (get_or cells k nothing).now) (key_of (get_or cells (k + 1) nothing).now)))) → AreCells kind (lent cells)
are_lent kind cells i past formed rising = record {
  formed = λ k h. let l : k < length cells = rw (← length_lent cells) h in rw (lent_at cells k l) (formed k (omega (arith, l, past)));
  rising = λ k h.
      let l : k + 1 < length cells = rw (← length_lent cells) h in
      let b : k < length cells = omega (arith, l) in
      rw (lent_at cells k b, lent_at cells (k + 1) l) (rising k (omega (arith, l, past)));
}

pub not_formed_lent : (kind : PageKind) (cells : List (Bor (List ℕ))) (i : ℕ) → i < length cells → (IsCell kind (get_or cells i nothing).now → ⊥) → AreCells kind (lent cells) → ⊥
not_formed_lent kind cells i h none are = let cell = are.formed i (rw length_lent h) in none (rw (lent_at cells i h) at cell)

pub not_rising_lent : (kind : PageKind) (cells : List (Bor (List ℕ))) (i : ℕ) → 0 < i → i < length cells
    → (IsTrue (is_lt (byte_order (key_of (get_or cells (i - 1) nothing).now) (key_of (get_or cells i nothing).now))) → ⊥) → AreCells kind (lent cells) → ⊥
not_rising_lent kind cells i some h none are =
    let before : i - 1 < length cells = omega (arith, h) in
    let one : i - 1 + 1 ≡ i = omega (arith, some) in
    let within : i - 1 + 1 < length (lent cells) = rw length_lent (omega (arith, some, h)) in
    let rise = are.rising (i - 1) within in
    none (rw (← lent_at cells (i - 1) before, ← lent_at cells i h) (subst (λ k. IsTrue (is_lt (byte_order (key_of (get_or (lent cells) (i - 1) [])) (key_of (get_or (lent cells) k []))))) one rise))
