-- Decoding a row.
use Rattle.std.proofs.Common.{◌≡◌, ℕ, zero, suc, ◌+◌, ◌-◌, ◌^◌, ◌<◌, ◌≤◌, Bool, true, false, IsTrue, List, [], ◌∷◌, ◌++◌, length, get_or, take, drop, refl, sym, ap, ◌∙◌, arith, append_assoc, Some, None}
use Rattle.std.specs.Prelude.{slice_range, if◌then◌else◌, min}
use Rattle.std.specs.Int.{w16, to_be_bytes, from_be_bytes}
use Rattle.std.proofs.lemmas.List.{take_all, length-take-le, length-drop, take-append-drop, drop_all, drop-drop, append-nil as append_nil}
use Rattle.std.proofs.lemmas.List.Concat.{flat_map-append}
use Rattle.std.proofs.lemmas.Nat.{be_bytes_2}
use Rattle.items.specs.Text.{is_text, as_text}
use Rattle.sqlval.specs.declared.value.Value.{Value}
use Rattle.sqlval.specs.declared.value.Value.TheVariants.{Text}
use Rattle.sqlval.specs.CodedLength.{row_length}
use Rattle.sqlrecord.specs.Storable.{AllStorable}
use Rattle.sqlrecord.specs.Row.{value_code, row_code, IsPartOf, IsCodeOf, HasPart, HasNoPart, HasRow, IsNoCode}
use Rattle.sqlrecord.proofs.CodeLemmas.{storable_push, value_unique, value_some, list_unique, list_goes_on, length_row}

-- the text that was read
pub text_from : (b : Bool) (codes text : List ℕ) → is_text codes ≡ b → Some text ≡ (if b then Some codes else None) → (text ≡ codes) × IsTrue (is_text text)
text_from true codes text is e = let same : text ≡ codes = cc in (same, rw same is)
text_from false codes text is e = absurd (cc)

joined : (a b c : ℕ) (two text tail rest : List ℕ) → a ≡ 2 → two ≡ b ∷ c ∷ [] → text ++ tail ≡ rest → (2 ∷ (two ++ text)) ++ tail ≡ a ∷ b ∷ c ∷ rest
joined a b c two text tail rest first is e = rw (first, is) (ap (λ xs. 2 ∷ b ∷ c ∷ xs) e)

pub text_part : (bytes text : List ℕ) (n : ℕ) → bytes ≡ 2 ∷ drop 1 bytes → 3 + n ≤ length bytes → ((i : ℕ) → get_or bytes i 0 < 256)
    → n ≡ from_be_bytes w16 (get_or bytes 1 0 ∷ get_or bytes 2 0 ∷ []) → Some text ≡ as_text (slice_range bytes 3 (3 + n)) → IsPartOf bytes (Text text) (3 + n)
text_part [] text n tag fits small size is = absurd (omega (arith, fits))
text_part (a ∷ []) text n tag fits small size is = absurd (omega (arith, fits))
text_part (a ∷ b ∷ []) text n tag fits small size is = absurd (omega (arith, fits))
text_part (a ∷ b ∷ c ∷ rest) text n tag fits small size is =
    let less : 3 + n - 3 ≡ n = omega arith in
    let read = text_from _ (slice_range (a ∷ b ∷ c ∷ rest) 3 (3 + n)) text refl is in
    let codes : text ≡ take n rest = read.0 ∙ ap (λ k. take k rest) less in
    let long : length text ≡ n = ap length codes ∙ length-take-le n rest (omega (arith, fits)) in
    let three : 3 + n ≡ suc (suc (suc n)) = omega arith in
    let two : to_be_bytes w16 (length text) ≡ b ∷ c ∷ [] = ap (to_be_bytes w16) long ∙ be_bytes_2 (b ∷ c ∷ []) n refl (pair b c (small 1) (small 2)) size in
    let first : a ≡ 2 = cc tag in
    let tail : text ++ drop (3 + n) (a ∷ b ∷ c ∷ rest) ≡ rest = rw (three, codes) (take-append-drop n rest) in
    record {
      storable = read.1;
      code = joined a b c (to_be_bytes w16 (length text)) text (drop (3 + n) (a ∷ b ∷ c ∷ rest)) rest first two tail;
      some = omega arith;
      within = fits;
    }
  where
    pair : (b c : ℕ) → b < 256 → c < 256 → (i : ℕ) → get_or (b ∷ c ∷ []) i 0 < 256
    pair b c h g zero = h
    pair b c h g (suc zero) = g
    pair b c h g (suc (suc i)) = omega arith

-- a row that was encoded
pub encoded : (row : List Value) (code items : List ℕ) (i n : ℕ) → length row ≤ i → AllStorable (take i row) → items ≡ [] ++ row_code (take i row) → code ≡ items
    → n ≡ min (row_length row) (2 ^ 64 - 1) → n ≤ 1000 → IsCodeOf code row
encoded row code items i n past all put same size short =
    let whole = take_all i row past in
    let is : row_code row ≡ code = sym (same ∙ put ∙ ap row_code whole) in
    let long = length_row row in
    let sizes : length (row_code row) ≡ length code = ap length is in
    record { storable = rw whole at all; code = is; short = omega (arith, long, sizes, size, short) }

-- one more value of a row
pub row_step : (bytes : List ℕ) (row : List Value) (at n : ℕ) (v : Value) → row_code row ++ drop at bytes ≡ bytes → IsPartOf (drop at bytes) v n
    → row_code (row ++ v ∷ []) ++ drop (at + n) bytes ≡ bytes
row_step bytes row at n v e part =
    let one : row_code (row ++ v ∷ []) ≡ row_code row ++ value_code v = flat_map-append value_code row (v ∷ []) ∙ ap (λ xs. row_code row ++ xs) (append_nil (value_code v)) in
    let rest : drop n (drop at bytes) ≡ drop (at + n) bytes = drop-drop n at bytes in
    rw (one, ← rest) (append_assoc (row_code row) (value_code v) (drop n (drop at bytes)) ∙ ap (λ xs. row_code row ++ xs) part.code ∙ e)

-- all values read
pub row_read : (bytes : List ℕ) (row : List Value) (at : ℕ) → AllStorable row → row_code row ++ drop at bytes ≡ bytes → length bytes ≤ at → length bytes ≤ 1000 → IsCodeOf bytes row
row_read bytes row at all e past short = record {
  storable = all;
  code = sym (append_nil (row_code row)) ∙ ap (λ xs. row_code row ++ xs) (sym (drop_all at bytes past)) ∙ e;
  short = short;
}

pub row_only : (bytes : List ℕ) (row other : List Value) → IsCodeOf bytes row → IsCodeOf bytes other → other ≡ row
row_only bytes row other a b = list_unique value_code value_some value_unique other row b.storable a.storable (b.code ∙ sym a.code)

-- no row has a code that goes on as no value's does
pub row_stuck : (bytes : List ℕ) (row other : List Value) (at : ℕ) → AllStorable row → row_code row ++ drop at bytes ≡ bytes → at < length bytes → HasNoPart (drop at bytes) → IsCodeOf bytes other → ⊥
row_stuck bytes row other at all e within none code =
    list_goes_on value_code value_some value_unique row other (drop at bytes) all code.storable (simp length-drop (omega (arith, within))) (e ∙ sym code.code) none

-- some values' codes, up to a place
pub record HasRead (bytes : List ℕ) (at : ℕ) : Type 0 where
  pub row : List Value
  pub storable : AllStorable row
  pub code : row_code row ++ drop at bytes ≡ bytes

pub read_none : (bytes : List ℕ) → HasRead bytes 0
read_none bytes = record { row = []; storable = tt; code = refl }

pub read_more : (bytes : List ℕ) (at n : ℕ) → HasRead bytes at → HasPart (drop at bytes) n → HasRead bytes (at + n)
read_more bytes at n r p = record {
  row = r.row ++ p.value ∷ [];
  storable = storable_push r.row p.value r.storable p.part.storable;
  code = row_step bytes r.row at n p.value r.code p.part;
}

pub read_all : (bytes : List ℕ) (at : ℕ) → HasRead bytes at → length bytes ≤ at → length bytes ≤ 1000 → HasRow bytes
read_all bytes at r past short = record { row = r.row; code = row_read bytes r.row at r.storable r.code past short }

pub read_stuck : (bytes : List ℕ) (at : ℕ) → HasRead bytes at → at < length bytes → HasNoPart (drop at bytes) → IsNoCode bytes
read_stuck bytes at r within none other code = row_stuck bytes r.row other at r.storable r.code within none code

-- the text of these codes
pub has_text : (bytes : List ℕ) (n : ℕ) (b : Bool) → bytes ≡ 2 ∷ drop 1 bytes → 3 + n ≤ length bytes → ((i : ℕ) → get_or bytes i 0 < 256)
    → n ≡ from_be_bytes w16 (get_or bytes 1 0 ∷ get_or bytes 2 0 ∷ []) → b ≡ is_text (slice_range bytes 3 (3 + n)) → b ≡ true → HasPart bytes (3 + n)
has_text bytes n b tag fits small size is h = record {
  value = Text (slice_range bytes 3 (3 + n));
  part = text_part bytes (slice_range bytes 3 (3 + n)) n tag fits small size (some_text (slice_range bytes 3 (3 + n)) (sym is ∙ h));
}
  where
    some_text : (codes : List ℕ) → is_text codes ≡ true → Some codes ≡ as_text codes
    some_text codes e = rw e refl
