-- Decoding a key.
use Rattle.std.proofs.Common.{◌≡◌, ◌≢◌, ℕ, zero, suc, ◌+◌, ◌-◌, ◌^◌, ◌<◌, ◌≤◌, Bool, true, false, IsTrue, List, [], ◌∷◌, ◌++◌, length, get_or, take, drop, refl, sym, ap, ◌∙◌, arith, append_assoc, Some, None, inl, inr}
use Rattle.std.specs.Prelude.{slice_range, if◌then◌else◌, ◌⊎◌}
use Rattle.std.specs.Int.{w64, from_be_bytes}
use Rattle.std.specs.List.{AllByRecursion}
use Rattle.std.proofs.lemmas.Bool.{cases_lt}
use Rattle.std.proofs.lemmas.List.{take_at, length-append, length-drop, take-append-drop, drop_all, drop_more, drop-drop, get_or-drop, get_or-append_right, get_or_append_left, append-nil as append_nil}
use Rattle.std.proofs.lemmas.List.Concat.{flat_map-append}
use Rattle.std.proofs.lemmas.Nat.{from_be_bytes-to_be_bytes_8}
use Rattle.std.proofs.Math.Seq.{drop-append_seam}
use Rattle.items.specs.Text.{is_text, as_text}
use Rattle.sqlval.specs.declared.value.Value.{Value}
use Rattle.sqlval.specs.declared.value.Value.TheVariants.{Null, Int, Text}
use Rattle.sqlrecord.specs.Storable.{AllStorable}
use Rattle.sqlrecord.specs.Key.{value_key, key_code, number_code, index_key_code, IsKeyPartOf, IsKeyOf, HasKeyPart, HasNoKeyPart, HasKey, IsNoKey}
use Rattle.sqlrecord.proofs.ByteLemmas.{length_be}
use Rattle.sqlrecord.proofs.CodeLemmas.{storable_push, key_unique, key_some, list_unique, list_goes_on, text_above}
use Rattle.sqlrecord.proofs.RowLemmas.{text_from}

-- one more value of a key
pub key_step : (bytes : List ℕ) (key : List Value) (at n : ℕ) (v : Value) → key_code key ++ drop at bytes ≡ bytes → IsKeyPartOf (drop at bytes) v n
    → key_code (key ++ v ∷ []) ++ drop (at + n) bytes ≡ bytes
key_step bytes key at n v e part =
    let one : key_code (key ++ v ∷ []) ≡ key_code key ++ value_key v = flat_map-append value_key key (v ∷ []) ∙ ap (λ xs. key_code key ++ xs) (append_nil (value_key v)) in
    let rest : drop n (drop at bytes) ≡ drop (at + n) bytes = drop-drop n at bytes in
    rw (one, ← rest) (append_assoc (key_code key) (value_key v) (drop n (drop at bytes)) ∙ ap (λ xs. key_code key ++ xs) part.code ∙ e)

-- all values read
pub key_read : (bytes : List ℕ) (key : List Value) (at : ℕ) → AllStorable key → key_code key ++ drop at bytes ≡ bytes → length bytes ≤ at → IsKeyOf bytes key
key_read bytes key at all e past = record { storable = all; code = sym (append_nil (key_code key)) ∙ ap (λ xs. key_code key ++ xs) (sym (drop_all at bytes past)) ∙ e }

pub key_only : (bytes : List ℕ) (key other : List Value) → IsKeyOf bytes key → IsKeyOf bytes other → other ≡ key
key_only bytes key other a b = list_unique value_key key_some key_unique other key b.storable a.storable (b.code ∙ sym a.code)

-- no key has a code that goes on as no value's does
pub key_stuck : (bytes : List ℕ) (key other : List Value) (at : ℕ) → AllStorable key → key_code key ++ drop at bytes ≡ bytes → at < length bytes → HasNoKeyPart (drop at bytes) → IsKeyOf bytes other → ⊥
key_stuck bytes key other at all e within none code =
    list_goes_on value_key key_some key_unique key other (drop at bytes) all code.storable (simp length-drop (omega (arith, within))) (e ∙ sym code.code) none

-- a byte of a text is not 0
above_at : (codes : List ℕ) (i : ℕ) → AllByRecursion (λ b. 0 < b) codes → i < length codes → 0 < get_or codes i 0
above_at [] i h l = absurd (omega arith)
above_at (c ∷ codes) zero h l = h.0
above_at (c ∷ codes) (suc i) h l = above_at codes i h.1 (omega arith)

key_joined : (a : ℕ) (text tail rest : List ℕ) → a ≡ 2 → (text ++ 0 ∷ []) ++ tail ≡ rest → (2 ∷ (text ++ 0 ∷ [])) ++ tail ≡ a ∷ rest
key_joined a text tail rest first e = rw first (ap (λ xs. 2 ∷ xs) e)

-- the text that was read
pub key_text_part : (bytes text : List ℕ) (n : ℕ) → bytes ≡ 2 ∷ drop 1 bytes → n < length (drop 1 bytes) → get_or (drop 1 bytes) n 0 ≡ 0
    → Some text ≡ as_text (slice_range bytes 1 (1 + n)) → IsKeyPartOf bytes (Text text) (2 + n)
key_text_part [] text n tag fits zero_at is = absurd (omega (arith, fits))
key_text_part (a ∷ rest) text n tag fits zero_at is =
    let less : 1 + n - 1 ≡ n = omega arith in
    let read = text_from _ (slice_range (a ∷ rest) 1 (1 + n)) text refl is in
    let codes : text ≡ take n rest = read.0 ∙ ap (λ k. take k rest) less in
    let first : a ≡ 2 = cc tag in
    let two : 2 + n ≡ suc (n + 1) = omega arith in
    let split : rest ≡ take n rest ++ 0 ∷ drop (n + 1) rest = sym (take-append-drop n rest) ∙ ap (λ xs. take n rest ++ xs) (drop_more rest n 0 fits ∙ ap (λ b. b ∷ drop (n + 1) rest) zero_at) in
    let tail : (text ++ 0 ∷ []) ++ drop (2 + n) (a ∷ rest) ≡ rest = append_assoc text (0 ∷ []) (drop (2 + n) (a ∷ rest)) ∙ rw (two, codes) (sym split) in
    record { storable = read.1; code = key_joined a text (drop (2 + n) (a ∷ rest)) rest first tail; some = omega arith; within = omega (arith, fits) }

-- where the first 0 of a text's key is
ends_at : (rest codes tail : List ℕ) (n : ℕ) → rest ≡ (codes ++ 0 ∷ []) ++ tail → AllByRecursion (λ b. 0 < b) codes → n < length rest → get_or rest n 0 ≡ 0
    → ((k : ℕ) → k < n → get_or rest k 0 ≢ 0) → n ≡ length codes
ends_at rest codes tail n e above within zero_at before = by (cases_lt n (length codes)) (cases_lt (length codes) n)
  where
    is : rest ≡ codes ++ 0 ∷ tail
    is = e ∙ append_assoc codes (0 ∷ []) tail

    by : (n < length codes) ⊎ (length codes ≤ n) → (length codes < n) ⊎ (n ≤ length codes) → n ≡ length codes
    by (inl l) w =
        let same : get_or rest n 0 ≡ get_or codes n 0 = ap (λ xs. get_or xs n 0) is ∙ get_or_append_left codes (0 ∷ tail) 0 n l in
        let above_here = above_at codes n above l in
        absurd (omega (arith, same, above_here, zero_at))
    by (inr g) (inl l) =
        let same : get_or rest (length codes) 0 ≡ 0 = ap (λ xs. get_or xs (length codes) 0) is ∙ get_or-append_right codes (0 ∷ tail) (length codes) (length codes) 0 refl (omega arith) ∙ (let none : length codes - length codes ≡ 0 = omega arith in rw none refl) in
        absurd (before (length codes) l same)
    by (inr g) (inr m) = omega (arith, g, m)

-- without a 0 there is no text
no_end : (rest codes tail : List ℕ) → rest ≡ (codes ++ 0 ∷ []) ++ tail → ((k : ℕ) → k < length rest → get_or rest k 0 ≢ 0) → ⊥
no_end rest codes tail e none =
    let is : rest ≡ codes ++ 0 ∷ tail = e ∙ append_assoc codes (0 ∷ []) tail in
    let long : length rest ≡ length codes + suc (length tail) = ap length is ∙ length-append codes (0 ∷ tail) in
    let same : get_or rest (length codes) 0 ≡ 0 = ap (λ xs. get_or xs (length codes) 0) is ∙ get_or-append_right codes (0 ∷ tail) (length codes) (length codes) 0 refl (omega arith) ∙ (let zero_less : length codes - length codes ≡ 0 = omega arith in rw zero_less refl) in
    none (length codes) (omega (arith, long)) same

heads : (a b : ℕ) (s t : List ℕ) → a ∷ s ≡ b ∷ t → a ≡ b
heads a b s t e = cc

tails : (a b : ℕ) (s t : List ℕ) → a ∷ s ≡ b ∷ t → s ≡ t
tails a b s t e = cc

pub no_text_end : (bytes : List ℕ) → bytes ≡ 2 ∷ drop 1 bytes → ((k : ℕ) → k < length (drop 1 bytes) → get_or (drop 1 bytes) k 0 ≢ 0) → HasNoKeyPart bytes
no_text_end bytes tag none Null tail h e = absurd (omega (arith, heads 2 0 _ _ (sym tag ∙ e)))
no_text_end bytes tag none (Int x) tail h e = absurd (omega (arith, heads 2 1 _ _ (sym tag ∙ e)))
no_text_end bytes tag none (Text codes) tail h e = no_end (drop 1 bytes) codes tail (tails 2 2 _ _ (sym tag ∙ e)) none

no_text_by : (b : Bool) (codes : List ℕ) → is_text codes ≡ b → (if b then Some codes else None) ≡ None → IsTrue (is_text codes) → ⊥
no_text_by true codes is e h = cc
no_text_by false codes is e h = cc

pub no_text : (bytes : List ℕ) (n : ℕ) → bytes ≡ 2 ∷ drop 1 bytes → n < length (drop 1 bytes) → get_or (drop 1 bytes) n 0 ≡ 0
    → ((k : ℕ) → k < n → get_or (drop 1 bytes) k 0 ≢ 0) → as_text (slice_range bytes 1 (1 + n)) ≡ None → HasNoKeyPart bytes
no_text bytes n tag within zero_at before none Null tail h e = absurd (omega (arith, heads 2 0 _ _ (sym tag ∙ e)))
no_text bytes n tag within zero_at before none (Int x) tail h e = absurd (omega (arith, heads 2 1 _ _ (sym tag ∙ e)))
no_text bytes n tag within zero_at before none (Text codes) tail h e =
    let rest : drop 1 bytes ≡ (codes ++ 0 ∷ []) ++ tail = tails 2 2 _ _ (sym tag ∙ e) in
    let size = ends_at (drop 1 bytes) codes tail n rest (text_above codes h) within zero_at before in
    let less : 1 + n - 1 ≡ n = omega arith in
    let part : slice_range bytes 1 (1 + n) ≡ codes = rw (less, rest, append_assoc codes (0 ∷ []) tail) (take_at codes (0 ∷ tail) n (sym size)) in
    no_text_by (is_text codes) codes refl (ap as_text (sym part) ∙ none) h

-- the row number at the end of an index key
pub number_at_end : (bytes : List ℕ) (key : List Value) (n : ℕ) → bytes ≡ index_key_code key n → drop (length bytes - 8) bytes ≡ number_code n
number_at_end bytes key n e =
    let long : length bytes ≡ length (key_code key) + 8 = ap length e ∙ length-append (key_code key) (number_code n) ∙ ap (λ k. length (key_code key) + k) (length_be 8 n) in
    let place : length bytes - 8 ≡ length (key_code key) = omega (arith, long) in
    rw (place, e) (drop-append_seam (key_code key) (number_code n))

bytes_alike : (a b c d e f g h n : ℕ) → n < 2 ^ 64 → a ≡ get_or (number_code n) 0 0 → b ≡ get_or (number_code n) 1 0 → c ≡ get_or (number_code n) 2 0 → d ≡ get_or (number_code n) 3 0
    → e ≡ get_or (number_code n) 4 0 → f ≡ get_or (number_code n) 5 0 → g ≡ get_or (number_code n) 6 0 → h ≡ get_or (number_code n) 7 0 → from_be_bytes w64 (a ∷ b ∷ c ∷ d ∷ e ∷ f ∷ g ∷ h ∷ []) ≡ n
bytes_alike a b c d e f g h n small p q r s t u v w = rw (p, q, r, s, t, u, v, w) (from_be_bytes-to_be_bytes_8 n small)

pub number_read : (bytes : List ℕ) (key : List Value) (n r : ℕ) → n < 2 ^ 64 → bytes ≡ index_key_code key n
    → r ≡ from_be_bytes w64 (get_or bytes (length bytes - 8) 0 ∷ get_or bytes (length bytes - 8 + 1) 0 ∷ get_or bytes (length bytes - 8 + 2) 0 ∷ get_or bytes (length bytes - 8 + 3) 0
    ∷ get_or bytes (length bytes - 8 + 4) 0 ∷ get_or bytes (length bytes - 8 + 5) 0 ∷ get_or bytes (length bytes - 8 + 6) 0 ∷ get_or bytes (length bytes - 8 + 7) 0 ∷ [])
    → r ≡ n
number_read bytes key n r small is e = by bytes (length bytes - 8) n r small (number_at_end bytes key n is) e
  where
    by : (bytes : List ℕ) (at n r : ℕ) → n < 2 ^ 64 → drop at bytes ≡ number_code n
        → r ≡ from_be_bytes w64 (get_or bytes at 0 ∷ get_or bytes (at + 1) 0 ∷ get_or bytes (at + 2) 0 ∷ get_or bytes (at + 3) 0 ∷ get_or bytes (at + 4) 0 ∷ get_or bytes (at + 5) 0 ∷ get_or bytes (at + 6) 0 ∷ get_or bytes (at + 7) 0 ∷ [])
        → r ≡ n
    by bytes at n r small same e =
        let nth : (k : ℕ) → get_or bytes (at + k) 0 ≡ get_or (number_code n) k 0 = λ k. sym (get_or-drop at bytes k 0) ∙ ap (λ xs. get_or xs k 0) same in
        let first : get_or bytes at 0 ≡ get_or (number_code n) 0 0 = (let none : at ≡ at + 0 = omega arith in ap (λ i. get_or bytes i 0) none) ∙ nth 0 in
        e ∙ bytes_alike _ _ _ _ _ _ _ _ n small first (nth 1) (nth 2) (nth 3) (nth 4) (nth 5) (nth 6) (nth 7)

-- some values' keys, up to a place
pub record HasReadKey (bytes : List ℕ) (at : ℕ) : Type 0 where
  pub key : List Value
  pub storable : AllStorable key
  pub code : key_code key ++ drop at bytes ≡ bytes

pub key_read_none : (bytes : List ℕ) → HasReadKey bytes 0
key_read_none bytes = record { key = []; storable = tt; code = refl }

pub key_read_more : (bytes : List ℕ) (at n : ℕ) → HasReadKey bytes at → HasKeyPart (drop at bytes) n → HasReadKey bytes (at + n)
key_read_more bytes at n r p = record {
  key = r.key ++ p.value ∷ [];
  storable = storable_push r.key p.value r.storable p.part.storable;
  code = key_step bytes r.key at n p.value r.code p.part;
}

pub key_read_all : (bytes : List ℕ) (at : ℕ) → HasReadKey bytes at → length bytes ≤ at → HasKey bytes
key_read_all bytes at r past = record { key = r.key; code = key_read bytes r.key at r.storable r.code past }

pub key_read_stuck : (bytes : List ℕ) (at : ℕ) → HasReadKey bytes at → at < length bytes → HasNoKeyPart (drop at bytes) → IsNoKey bytes
key_read_stuck bytes at r within none other code = key_stuck bytes r.key other at r.storable r.code within none code

-- whether the bytes before the first 0 are a text
pub has_key_text : (bytes : List ℕ) (n : ℕ) (b : Bool) → bytes ≡ 2 ∷ drop 1 bytes → n < length (drop 1 bytes) → get_or (drop 1 bytes) n 0 ≡ 0
    → b ≡ is_text (slice_range bytes 1 (1 + n)) → b ≡ true → HasKeyPart bytes (2 + n)
has_key_text bytes n b tag within zero_at is h = record {
  value = Text (slice_range bytes 1 (1 + n));
  part = key_text_part bytes (slice_range bytes 1 (1 + n)) n tag within zero_at (some_text (slice_range bytes 1 (1 + n)) (sym is ∙ h));
}
  where
    some_text : (codes : List ℕ) → is_text codes ≡ true → Some codes ≡ as_text codes
    some_text codes e = rw e refl

pub no_key_text : (bytes : List ℕ) (n : ℕ) (b : Bool) → bytes ≡ 2 ∷ drop 1 bytes → n < length (drop 1 bytes) → get_or (drop 1 bytes) n 0 ≡ 0
    → ((k : ℕ) → k < n → get_or (drop 1 bytes) k 0 ≢ 0) → b ≡ is_text (slice_range bytes 1 (1 + n)) → b ≡ false → HasNoKeyPart bytes
no_key_text bytes n b tag within zero_at before is h = no_text bytes n tag within zero_at before (none_of (slice_range bytes 1 (1 + n)) (sym is ∙ h))
  where
    none_of : (codes : List ℕ) → is_text codes ≡ false → as_text codes ≡ None
    none_of codes e = rw e refl
