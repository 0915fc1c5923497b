-- Lists of bytes, and numbers as bytes.
use Rattle.std.proofs.Common.{◌≡◌, ℕ, zero, suc, ◌^◌, ◌<◌, List, [], ◌∷◌, ◌++◌, length, refl, sym, ap, ◌∙◌, arith}
use Rattle.std.specs.Prelude.{FitsSigned, ℤ, pos, negsuc}
use Rattle.std.specs.Int.{w16, w64, to_be_bytes, bytes_high_first, cast_unsigned, cast_signed}
use Rattle.std.specs.List.{AllByRecursion}
use Rattle.std.proofs.lemmas.Int.{to_z-of_z, ints}
use Rattle.std.proofs.lemmas.Nat.{from_be_bytes-to_be_bytes_2, from_be_bytes-to_be_bytes_8}
use Rattle.std.specs.Int.{from_be_bytes}

-- beginnings of one length are equal where the wholes are, and so are the rests
pub append_same : (xs ys s t : List ℕ) → length xs ≡ length ys → xs ++ s ≡ ys ++ t → (xs ≡ ys) × (s ≡ t)
append_same [] [] s t h e = (refl, e)
append_same [] (y ∷ ys) s t h e = absurd (omega (arith, h))
append_same (x ∷ xs) [] s t h e = absurd (omega (arith, h))
append_same (x ∷ xs) (y ∷ ys) s t h e =
    let head : x ≡ y = cc in
    let tail : xs ++ s ≡ ys ++ t = cc in
    let more = append_same xs ys s t (omega (arith, h)) tail in
    (cc (head, more.0), more.1)

-- so they are where both go on with a byte 0 that they do not have
pub ended_same : (xs ys s t : List ℕ) → AllByRecursion (λ b. 0 < b) xs → AllByRecursion (λ b. 0 < b) ys → xs ++ 0 ∷ s ≡ ys ++ 0 ∷ t → (xs ≡ ys) × (s ≡ t)
ended_same [] [] s t h g e = let tail : s ≡ t = cc in (refl, tail)
ended_same [] (y ∷ ys) s t h g e = let head : 0 ≡ y = cc in absurd (omega (arith, g.0, head))
ended_same (x ∷ xs) [] s t h g e = let head : x ≡ 0 = cc in absurd (omega (arith, h.0, head))
ended_same (x ∷ xs) (y ∷ ys) s t h g e =
    let head : x ≡ y = cc in
    let tail : xs ++ 0 ∷ s ≡ ys ++ 0 ∷ t = cc in
    let more = ended_same xs ys s t h.1 g.1 tail in
    (cc (head, more.0), more.1)

pub length_be : (k n : ℕ) → length (bytes_high_first k n) ≡ k
length_be zero n = refl
length_be (suc k) n = let more = length_be k n in omega (arith, more)

-- numbers of 8 bytes with the same bytes
pub be_same_8 : (m n : ℕ) → m < 2 ^ 64 → n < 2 ^ 64 → to_be_bytes w64 m ≡ to_be_bytes w64 n → m ≡ n
be_same_8 m n h g e = sym (from_be_bytes-to_be_bytes_8 m h) ∙ ap (from_be_bytes w64) e ∙ from_be_bytes-to_be_bytes_8 n g

pub be_same_2 : (m n : ℕ) → m < 2 ^ 16 → n < 2 ^ 16 → to_be_bytes w16 m ≡ to_be_bytes w16 n → m ≡ n
be_same_2 m n h g e = sym (from_be_bytes-to_be_bytes_2 m h) ∙ ap (from_be_bytes w16) e ∙ from_be_bytes-to_be_bytes_2 n g

-- integers with the same bits
pub bits_below : (z : ℤ) → FitsSigned w64 z → cast_unsigned w64 z < 2 ^ 64
bits_below (pos n) h = omega (arith, ints, h)
bits_below (negsuc n) h = omega (arith, ints, h)

pub bits_same : (x y : ℤ) → FitsSigned w64 x → FitsSigned w64 y → cast_unsigned w64 x ≡ cast_unsigned w64 y → x ≡ y
bits_same x y h g e = sym (to_z-of_z w64 x h) ∙ ap (cast_signed w64) e ∙ to_z-of_z w64 y g
