-- The first bytes of a text.
use Rattle.std.proofs.Common.{◌≡◌, ◌<◌, ◌≤◌, ◌+◌, ℕ, suc, zero, List, [], ◌∷◌, ◌++◌, length, take, set, sym, ap, ◌∙◌, subst, refl, append_assoc, arith, length-append, add-one}
use Rattle.std.proofs.lemmas.List.{take-append-le, length-take}
use Rattle.std.proofs.Math.Seq.{take-suc-set}
use Rattle.script_pieces.specs.PieceMeaning.{text_of_call}

take_front : (n : ℕ) (xs ys : List ℕ) → take n (take n xs ++ ys) ≡ take n (xs ++ ys)
take_front zero xs ys = refl
take_front (suc n) [] ys = refl
take_front (suc n) (x ∷ xs) ys = ap (λ l. x ∷ l) (take_front n xs ys)

-- a byte more in the text, or behind it
pub pushed : (text rest : List ℕ) (b : ℕ) → text_of_call (text_of_call (text ++ b ∷ []) ++ rest) ≡ text_of_call (text ++ b ∷ rest)
pushed text rest b = take_front 65537 (text ++ b ∷ []) rest ∙ ap text_of_call (append_assoc text (b ∷ []) rest)

take_twice : (n : ℕ) (xs : List ℕ) → take n (take n xs) ≡ take n xs
take_twice zero xs = refl
take_twice (suc n) [] = refl
take_twice (suc n) (x ∷ xs) = ap (λ l. x ∷ l) (take_twice n xs)

pub text_twice : (text : List ℕ) → text_of_call (text_of_call text) ≡ text_of_call text
text_twice text = take_twice 65537 text

take_all : (n : ℕ) (xs : List ℕ) → length xs ≤ n → take n xs ≡ xs
take_all zero [] fits = refl
take_all zero (x ∷ xs) fits = absurd (omega (arith, fits))
take_all (suc n) [] fits = refl
take_all (suc n) (x ∷ xs) fits = ap (λ l. x ∷ l) (take_all n xs (omega (arith, fits)))

take_bound : (n : ℕ) (xs : List ℕ) → length (take n xs) ≤ n
take_bound n xs = rw (length-take n xs) (omega arith)

-- the bytes of a buffer are a text of a call
pub kept : (items text : List ℕ) (count : ℕ) → take count items ≡ text → count ≤ 65537 → take count items ≡ text_of_call text
kept items text count is fits =
    let bound : length (take count items) ≤ count = take_bound count items in
    let P : List ℕ → Type 0 = λ l. take count items ≡ text_of_call l in
    subst P is (sym (take_all 65537 (take count items) (omega (arith, bound, fits))))

-- with room for one more byte
pub room : (items text : List ℕ) (count b : ℕ) → take count items ≡ text → count < 65537 → length items ≡ 65537
    → take (count + 1) (set items count b) ≡ text_of_call (text ++ b ∷ [])
room items text count b is less whole =
    let inside : count < length items = omega (arith, less, whole) in
    let bound : length (take count items) ≤ count = take_bound count items in
    let grown : take (suc count) (set items count b) ≡ take count items ++ b ∷ [] = take-suc-set items count b inside in
    let fits : length (take count items ++ b ∷ []) ≤ 65537 = simp length-append (omega (arith, bound, less)) in
    let P : List ℕ → Type 0 = λ l. take (suc count) (set items count b) ≡ text_of_call (l ++ b ∷ []) in
    rw add-one (subst P is (grown ∙ sym (take_all 65537 (take count items ++ b ∷ []) fits)))

-- with none
pub full : (items text : List ℕ) (count b : ℕ) → take count items ≡ text → 65537 ≤ count → count ≤ 65537 → length items ≡ 65537
    → text ≡ text_of_call (text ++ b ∷ [])
full items text count b is many fits whole =
    let long : length (take count items) ≡ 65537 = rw (length-take count items) (omega (arith, many, fits, whole)) in
    let long_text : length text ≡ 65537 = ap length (sym is) ∙ long in
    sym (take-append-le 65537 text (b ∷ []) (omega (arith, long_text)) ∙ take_all 65537 text (omega (arith, long_text)))
