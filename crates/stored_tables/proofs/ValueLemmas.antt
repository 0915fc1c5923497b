-- Rows and keys are read back from their codes.
use Rattle.std.proofs.Common.{◌≡◌, ℕ, zero, suc, ◌+◌, ◌^◌, ◌<◌, ◌≤◌, cond, List, [], ◌∷◌, ◌++◌, length, take, drop, map, refl, sym, ap, ◌∙◌, arith, ne_eqb, append_assoc, append-nil}
use Rattle.std.specs.Int.{w16, w64, to_be_bytes, from_be_bytes, cast_signed, cast_unsigned}
use Rattle.std.specs.List.{AllByRecursion}
use Rattle.std.proofs.lemmas.List.{length-append}
use Rattle.std.proofs.lemmas.Int.{to_z-of_z}
use Rattle.std.proofs.lemmas.Nat.{from_be_bytes-to_be_bytes_2, from_be_bytes-to_be_bytes_8}
use Rattle.std.proofs.Math.Seq.{take-append_seam, drop-append_seam}
use Rattle.sqlval.specs.declared.value.Value.{Value}
use Rattle.sqlval.specs.declared.value.Value.TheVariants.{Null, Int, Text}
use Rattle.store.specs.Contents as stored
use Rattle.sqlrecord.specs.Storable.{IsStorable, AllStorable}
use Rattle.sqlrecord.specs.Row.{value_code, row_code}
use Rattle.sqlrecord.specs.Key.{key_code, number_code}
use Rattle.sqlrecord.proofs.ByteLemmas.{length_be, bits_below}
use Rattle.sqlrecord.proofs.CodeLemmas.{text_short, text_above}
use Rattle.tablestore.specs.Held.{row_entry, entries_of, IsKept, AreKept}
use Rattle.stored_tables.specs.Values.{number_in, size_in, value_in, values_in, row_in, upto_0, name_in}
use Rattle.stored_tables.specs.Contents.{row_of}

take_front : (n : ℕ) (xs ys : List ℕ) → length xs ≡ n → take n (xs ++ ys) ≡ xs
take_front n xs ys e = ap (λ k. take k (xs ++ ys)) (sym e) ∙ take-append_seam xs ys

drop_front : (n : ℕ) (xs ys : List ℕ) → length xs ≡ n → drop n (xs ++ ys) ≡ ys
drop_front n xs ys e = ap (λ k. drop k (xs ++ ys)) (sym e) ∙ drop-append_seam xs ys

-- ---- values

pub value_back-int : (number : _) (rest : List ℕ) → IsStorable (Int number) → value_in 1 (to_be_bytes w64 (cast_unsigned w64 number) ++ rest) ≡ (Int number, rest)
value_back-int number rest h =
    let front = take_front 8 (to_be_bytes w64 (cast_unsigned w64 number)) rest (length_be 8 (cast_unsigned w64 number)) in
    let same : cast_signed w64 (number_in (to_be_bytes w64 (cast_unsigned w64 number) ++ rest)) ≡ number =
    ap (λ bs. cast_signed w64 (from_be_bytes w64 bs)) front ∙ ap (cast_signed w64) (from_be_bytes-to_be_bytes_8 (cast_unsigned w64 number) (bits_below number h)) ∙ to_z-of_z w64 number h in
    let behind = drop_front 8 (to_be_bytes w64 (cast_unsigned w64 number)) rest (length_be 8 (cast_unsigned w64 number)) in
    λ i. (Int (same i), behind i)

pub value_back-text : (codes rest : List ℕ) → IsStorable (Text codes) → value_in 2 ((to_be_bytes w16 (length codes) ++ codes) ++ rest) ≡ (Text codes, rest)
value_back-text codes rest h =
    let short = text_short codes h in
    let split = append_assoc (to_be_bytes w16 (length codes)) codes rest in
    let size : size_in ((to_be_bytes w16 (length codes) ++ codes) ++ rest) ≡ length codes =
    ap size_in split ∙ ap (from_be_bytes w16) (take_front 2 (to_be_bytes w16 (length codes)) (codes ++ rest) (length_be 2 (length codes)))
    ∙ from_be_bytes-to_be_bytes_2 (length codes) (omega (arith, short)) in
    let behind : drop 2 ((to_be_bytes w16 (length codes) ++ codes) ++ rest) ≡ codes ++ rest =
    ap (drop 2) split ∙ drop_front 2 (to_be_bytes w16 (length codes)) (codes ++ rest) (length_be 2 (length codes)) in
    let text : take (size_in ((to_be_bytes w16 (length codes) ++ codes) ++ rest)) (drop 2 ((to_be_bytes w16 (length codes) ++ codes) ++ rest)) ≡ codes =
    (λ i. take (size i) (behind i)) ∙ take-append_seam codes rest in
    let more : drop (size_in ((to_be_bytes w16 (length codes) ++ codes) ++ rest)) (drop 2 ((to_be_bytes w16 (length codes) ++ codes) ++ rest)) ≡ rest =
    (λ i. drop (size i) (behind i)) ∙ drop-append_seam codes rest in
    λ i. (Text (text i), more i)

values_step : (v : Value) (rest : List ℕ) (n : ℕ) → IsStorable v → values_in (suc n) (value_code v ++ rest) ≡ v ∷ values_in n rest
values_step Null rest n h = refl
values_step (Int number) rest n h = ap (λ (p : Value × List ℕ). p.0 ∷ values_in n p.1) (value_back-int number rest h)
values_step (Text codes) rest n h = ap (λ (p : Value × List ℕ). p.0 ∷ values_in n p.1) (value_back-text codes rest h)

some_bytes : (v : Value) → 1 ≤ length (value_code v)
some_bytes Null = omega arith
some_bytes (Int number) = omega arith
some_bytes (Text codes) = omega arith

values_back : (row : List Value) (n : ℕ) → AllStorable row → length (row_code row) ≤ n → values_in n (row_code row) ≡ row
values_back [] zero h long = refl
values_back [] (suc n) h long = refl
values_back (v ∷ row) zero h long = let some = some_bytes v in let parts = length-append (value_code v) (row_code row) in absurd (omega (arith, long, some, parts))
values_back (v ∷ row) (suc n) h long = let some = some_bytes v in let parts = length-append (value_code v) (row_code row) in
    values_step v (row_code row) n h.0 ∙ ap (λ vs. v ∷ vs) (values_back row n h.1 (omega (arith, long, some, parts)))

pub row_back : (row : List Value) → AllStorable row → row_in (row_code row) ≡ row
row_back row h = values_back row (length (row_code row)) h (omega arith)

-- ---- the name that a key begins with

upto_back : (name rest : List ℕ) → AllByRecursion (λ b. 0 < b) name → upto_0 ((name ++ 0 ∷ []) ++ rest) ≡ name
upto_back [] rest h = refl
upto_back (c ∷ name) rest h = ap (λ b. cond b [] (c ∷ upto_0 ((name ++ 0 ∷ []) ++ rest))) (ne_eqb c 0 (λ e. let some = h.0 in omega (arith, some, e))) ∙ ap (λ cs. c ∷ cs) (upto_back name rest h.1)

pub name_back : (name : List ℕ) (others : List Value) → AllStorable (Text name ∷ others) → name_in (key_code (Text name ∷ others)) ≡ name
name_back name others h = upto_back name (key_code others) (text_above name h.0)

-- ---- rows with their numbers

number_back : (n : ℕ) → n < 2 ^ 64 → number_in (number_code n) ≡ n
number_back n small =
    ap (from_be_bytes w64) (ap (take 8) (sym (append-nil (to_be_bytes w64 n))) ∙ take_front 8 (to_be_bytes w64 n) [] (length_be 8 n)) ∙ from_be_bytes-to_be_bytes_8 n small

row_of-back : (e : stored.Entry) → IsKept e → row_of (row_entry e) ≡ e
row_of-back e h =
    let number = number_back e.0 (let small = h.number in omega (arith, small)) in
    let row = row_back e.1 h.storable in
    λ i. (number i, row i)

pub rows_back : (rows : List stored.Entry) → AreKept rows → map row_of (entries_of rows) ≡ rows
rows_back [] h = refl
rows_back (e ∷ rows) h = λ i. row_of-back e h.0 i ∷ rows_back rows h.1 i
