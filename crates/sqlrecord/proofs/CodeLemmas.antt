-- Codes of lists of values.
use Rattle.std.proofs.Common.{◌≡◌, ℕ, ◌+◌, ◌^◌, ◌<◌, ◌≤◌, IsTrue, List, [], ◌∷◌, ◌++◌, length, get_or, take, refl, sym, ap, ◌∙◌, arith, append_assoc}
use Rattle.std.specs.Prelude.{FitsSigned, ℤ, pos, negsuc, nat_le}
use Rattle.std.specs.Int.{w16, w64, to_be_bytes, cast_unsigned}
use Rattle.std.specs.List.{AllByRecursion, flat_map, list_all}
use Rattle.std.proofs.lemmas.Bool.{and_parts, leb-true}
use Rattle.std.proofs.lemmas.Int.{ints}
use Rattle.std.proofs.lemmas.List.{take_more, flat_map_more, length-append}
use Rattle.std.proofs.lemmas.List.Sums.{sum_by-cons}
use Rattle.items.specs.Text.{is_character, is_text}
use Rattle.sqlval.specs.declared.value.Value.{Value}
use Rattle.sqlval.specs.declared.value.Value.TheVariants.{Null, Int, Text}
use Rattle.sqlval.specs.CodedLength.{value_in_row, value_in_key, row_length, key_length}
use Rattle.sqlrecord.specs.Storable.{IsStorable, AllStorable}
use Rattle.sqlrecord.specs.Row.{value_code, row_code}
use Rattle.sqlrecord.specs.Key.{biased, value_key, key_code}
use Rattle.sqlrecord.proofs.ByteLemmas.{append_same, ended_same, length_be, be_same_2, be_same_8, bits_below, bits_same}

-- a text is short, and has no byte 0
pub text_short : (codes : List ℕ) → IsTrue (is_text codes) → length codes ≤ 1000
text_short codes h = leb-true (length codes) 1000 (and_parts (nat_le (length codes) 1000) _ h).0

pub characters_above : (codes : List ℕ) → IsTrue (list_all is_character codes) → AllByRecursion (λ b. 0 < b) codes
characters_above [] h = tt
characters_above (c ∷ codes) h =
    let both = and_parts (is_character c) (list_all is_character codes) h in
    let low = leb-true 32 c (and_parts (nat_le 32 c) (nat_le c 126) both.0).0 in
    (omega (arith, low), characters_above codes both.1)

pub text_above : (codes : List ℕ) → IsTrue (is_text codes) → AllByRecursion (λ b. 0 < b) codes
text_above codes h = characters_above codes (and_parts (nat_le (length codes) 1000) _ h).1

-- one more value in a loop
pub code_step : (f : Value → List ℕ) (row : List Value) (i : ℕ) (v : Value) (old before now : List ℕ) → i < length row → v ≡ get_or row i v
    → before ≡ old ++ flat_map f (take i row) → now ≡ before ++ f v → now ≡ old ++ flat_map f (take (i + 1) row)
code_step f row i v old before now h is e put =
    put ∙ ap (λ b. b ++ f v) e ∙ flat_map_more f old (take i row) v ∙ ap (λ xs. old ++ flat_map f xs) (ap (λ w. take i row ++ w ∷ []) is ∙ sym (take_more row i v h))

all_push : (row : List Value) (v : Value) → AllStorable row → IsStorable v → AllStorable (row ++ v ∷ [])
all_push [] v h g = (g, tt)
all_push (w ∷ row) v h g = (h.0, all_push row v h.1 g)

pub storable_push : (row : List Value) (v : Value) → AllStorable row → IsStorable v → AllStorable (row ++ v ∷ [])
storable_push = all_push

pub storable_step : (row : List Value) (i : ℕ) (v : Value) → i < length row → v ≡ get_or row i v → AllStorable (take i row) → IsStorable v → AllStorable (take (i + 1) row)
storable_step row i v h is all one = rw (take_more row i v h, ← is) (all_push (take i row) v all one)

heads : (a b : ℕ) (s t : List ℕ) → a ∷ s ≡ b ∷ t → a ≡ b
heads a b s t e = cc

-- values are equal where their codes begin alike, and so is what follows
pub value_unique : (v w : Value) (s t : List ℕ) → IsStorable v → IsStorable w → value_code v ++ s ≡ value_code w ++ t → (v ≡ w) × (s ≡ t)
value_unique Null Null s t h g e = let tail : s ≡ t = cc in (refl, tail)
value_unique Null (Int y) s t h g e = absurd (omega (arith, heads 0 1 _ _ e))
value_unique Null (Text y) s t h g e = absurd (omega (arith, heads 0 2 _ _ e))
value_unique (Int x) Null s t h g e = absurd (omega (arith, heads 1 0 _ _ e))
value_unique (Int x) (Int y) s t h g e =
    let tail : to_be_bytes w64 (cast_unsigned w64 x) ++ s ≡ to_be_bytes w64 (cast_unsigned w64 y) ++ t = cc in
    let both = append_same (to_be_bytes w64 (cast_unsigned w64 x)) (to_be_bytes w64 (cast_unsigned w64 y)) s t (length_be 8 (cast_unsigned w64 x) ∙ sym (length_be 8 (cast_unsigned w64 y))) tail in
    (ap Int (bits_same x y h g (be_same_8 _ _ (bits_below x h) (bits_below y g) both.0)), both.1)
value_unique (Int x) (Text y) s t h g e = absurd (omega (arith, heads 1 2 _ _ e))
value_unique (Text x) Null s t h g e = absurd (omega (arith, heads 2 0 _ _ e))
value_unique (Text x) (Int y) s t h g e = absurd (omega (arith, heads 2 1 _ _ e))
value_unique (Text x) (Text y) s t h g e =
    let tail : (to_be_bytes w16 (length x) ++ x) ++ s ≡ (to_be_bytes w16 (length y) ++ y) ++ t = cc in
    let split : to_be_bytes w16 (length x) ++ (x ++ s) ≡ to_be_bytes w16 (length y) ++ (y ++ t) = sym (append_assoc (to_be_bytes w16 (length x)) x s) ∙ tail ∙ append_assoc (to_be_bytes w16 (length y)) y t in
    let sizes = append_same (to_be_bytes w16 (length x)) (to_be_bytes w16 (length y)) (x ++ s) (y ++ t) (length_be 2 (length x) ∙ sym (length_be 2 (length y))) split in
    let short_x = text_short x h in
    let short_y = text_short y g in
    let both = append_same x y s t (be_same_2 (length x) (length y) (omega (arith, short_x)) (omega (arith, short_y)) sizes.0) sizes.1 in
    (ap Text both.0, both.1)

biased_same : (x y : ℤ) → FitsSigned w64 x → FitsSigned w64 y → biased x ≡ biased y → x ≡ y
biased_same (pos m) (pos n) h g e = ap pos (omega (arith, e))
biased_same (pos m) (negsuc n) h g e = absurd (omega (arith, ints, h, g, e))
biased_same (negsuc m) (pos n) h g e = absurd (omega (arith, ints, h, g, e))
biased_same (negsuc m) (negsuc n) h g e = ap negsuc (omega (arith, ints, h, g, e))

pub biased_below : (x : ℤ) → FitsSigned w64 x → biased x < 2 ^ 64
biased_below (pos n) h = omega (arith, ints, h)
biased_below (negsuc n) h = omega (arith, ints, h)

-- the same for keys
pub key_unique : (v w : Value) (s t : List ℕ) → IsStorable v → IsStorable w → value_key v ++ s ≡ value_key w ++ t → (v ≡ w) × (s ≡ t)
key_unique Null Null s t h g e = let tail : s ≡ t = cc in (refl, tail)
key_unique Null (Int y) s t h g e = absurd (omega (arith, heads 0 1 _ _ e))
key_unique Null (Text y) s t h g e = absurd (omega (arith, heads 0 2 _ _ e))
key_unique (Int x) Null s t h g e = absurd (omega (arith, heads 1 0 _ _ e))
key_unique (Int x) (Int y) s t h g e =
    let tail : to_be_bytes w64 (biased x) ++ s ≡ to_be_bytes w64 (biased y) ++ t = cc in
    let both = append_same (to_be_bytes w64 (biased x)) (to_be_bytes w64 (biased y)) s t (length_be 8 (biased x) ∙ sym (length_be 8 (biased y))) tail in
    (ap Int (biased_same x y h g (be_same_8 _ _ (biased_below x h) (biased_below y g) both.0)), both.1)
key_unique (Int x) (Text y) s t h g e = absurd (omega (arith, heads 1 2 _ _ e))
key_unique (Text x) Null s t h g e = absurd (omega (arith, heads 2 0 _ _ e))
key_unique (Text x) (Int y) s t h g e = absurd (omega (arith, heads 2 1 _ _ e))
key_unique (Text x) (Text y) s t h g e =
    let tail : (x ++ 0 ∷ []) ++ s ≡ (y ++ 0 ∷ []) ++ t = cc in
    let split : x ++ 0 ∷ s ≡ y ++ 0 ∷ t = sym (append_assoc x (0 ∷ []) s) ∙ tail ∙ append_assoc y (0 ∷ []) t in
    let both = ended_same x y s t (text_above x h) (text_above y g) split in
    (ap Text both.0, both.1)

-- lists of values whose codes are equal are equal, where a value's code tells where it ends
module _ (f : Value → List ℕ) (some : (v : Value) → 1 ≤ length (f v)) (unique : (v w : Value) (s t : List ℕ) → IsStorable v → IsStorable w → f v ++ s ≡ f w ++ t → (v ≡ w) × (s ≡ t)) where
  nothing_left : (v : Value) (s : List ℕ) → f v ++ s ≡ [] → ⊥
  nothing_left v s e = let long = some v in let none = ap length e in let size : length (f v ++ s) ≡ length (f v) + length s = simp length-append in omega (arith, long, none, size)

  pub list_unique : (vs ws : List Value) → AllStorable vs → AllStorable ws → flat_map f vs ≡ flat_map f ws → vs ≡ ws
  list_unique [] [] h g e = refl
  list_unique [] (w ∷ ws) h g e = absurd (nothing_left w (flat_map f ws) (sym e))
  list_unique (v ∷ vs) [] h g e = absurd (nothing_left v (flat_map f vs) e)
  list_unique (v ∷ vs) (w ∷ ws) h g e =
      let both = unique v w (flat_map f vs) (flat_map f ws) h.0 g.0 e in
      let more = list_unique vs ws h.1 g.1 both.1 in
      cc (both.0, more)

  -- where a list's code goes on past these values, the next value's code comes next
  pub list_goes_on : (vs ws : List Value) (rest : List ℕ) → AllStorable vs → AllStorable ws → 0 < length rest → flat_map f vs ++ rest ≡ flat_map f ws
      → ((v : Value) (s : List ℕ) → IsStorable v → rest ≡ f v ++ s → ⊥) → ⊥
  list_goes_on [] [] rest h g some_left e none = let empty = ap length e in omega (arith, some_left, empty)
  list_goes_on [] (w ∷ ws) rest h g some_left e none = none w (flat_map f ws) g.0 e
  list_goes_on (v ∷ vs) [] rest h g some_left e none = nothing_left v (flat_map f vs ++ rest) (sym (append_assoc (f v) (flat_map f vs) rest) ∙ e)
  list_goes_on (v ∷ vs) (w ∷ ws) rest h g some_left e none =
      let both = unique v w (flat_map f vs ++ rest) (flat_map f ws) h.0 g.0 (sym (append_assoc (f v) (flat_map f vs) rest) ∙ e) in
      list_goes_on vs ws rest h.1 g.1 some_left both.1 none

pub value_some : (v : Value) → 1 ≤ length (value_code v)
value_some Null = omega arith
value_some (Int x) = omega arith
value_some (Text x) = omega arith

pub key_some : (v : Value) → 1 ≤ length (value_key v)
key_some Null = omega arith
key_some (Int x) = omega arith
key_some (Text x) = omega arith

-- the codes have the lengths that are said of them
value_length : (v : Value) → length (value_code v) ≡ value_in_row v
value_length Null = refl
value_length (Int x) = let long = length_be 8 (cast_unsigned w64 x) in omega (arith, long)
value_length (Text x) = let long = length_be 2 (length x) in let both : length (to_be_bytes w16 (length x) ++ x) ≡ length (to_be_bytes w16 (length x)) + length x = simp length-append in omega (arith, long, both)

key_value_length : (v : Value) → length (value_key v) ≡ value_in_key v
key_value_length Null = refl
key_value_length (Int x) = let long = length_be 8 (biased x) in omega (arith, long)
key_value_length (Text x) = let both : length (x ++ 0 ∷ []) ≡ length x + 1 = simp length-append in omega (arith, both)

pub length_row : (row : List Value) → length (row_code row) ≡ row_length row
length_row [] = refl
length_row (v ∷ row) =
    length-append (value_code v) (row_code row) ∙ ap (λ n. n + length (row_code row)) (value_length v) ∙ ap (λ n. value_in_row v + n) (length_row row) ∙ sym (sum_by-cons value_in_row v row)

pub length_key : (key : List Value) → length (key_code key) ≡ key_length key
length_key [] = refl
length_key (v ∷ key) =
    length-append (value_key v) (key_code key) ∙ ap (λ n. n + length (key_code key)) (key_value_length v) ∙ ap (λ n. value_in_key v + n) (length_key key) ∙ sym (sum_by-cons value_in_key v key)
