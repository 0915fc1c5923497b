-- Which integer is printed as a minus and a number.
use Rattle.std.proofs.Common.{◌≡◌, ◌≢◌, ◌<◌, ◌≤◌, ◌^◌, ◌+◌, ℕ, ℤ, pos, negsuc, zero, suc, List, [], ◌∷◌, length, map, get_or, FitsSigned, refl, ap, drop, sym, ◌∙◌, arith}
use Rattle.std.specs.Fmt.{decimal, signed_decimal}
use Rattle.std.specs.Int.{w64}
use Rattle.std.specs.Int.Digits.{digits_of, AllBelowBase}
use Rattle.std.proofs.lemmas.Int.Digits.{all_below_base_digits_of}
use Rattle.std.proofs.lemmas.Fmt.{decimal_digit, decimal-digits_of, decimal_injective, decimal_nonempty}

no_digit : (ds rest : List ℕ) → map (λ d. 48 + d) ds ≢ 45 ∷ rest
no_digit [] rest e = cc e
no_digit (d ∷ ds) rest e = omega (arith, ap (λ xs. get_or xs 0 0) e)

no_minus : (n : ℕ) (rest : List ℕ) → n < 2 ^ 64 → decimal n ≢ 45 ∷ rest
no_minus zero rest h e = omega (arith, ap (λ xs. get_or xs 0 0) (sym (decimal_digit 0 (omega arith)) ∙ e))
no_minus (suc n) rest h e = no_digit (digits_of 10 (suc n)) rest (sym (decimal-digits_of (suc n) (omega arith) h) ∙ e)

pub below_zero : (below : ℤ) (number : ℕ) → FitsSigned w64 below → number < 2 ^ 64 → signed_decimal below ≡ 45 ∷ decimal number
    → (before : ℕ) × (below ≡ negsuc before) × (number ≡ suc before) × (before < 2 ^ 63)
below_zero (pos n) number fits h e = absurd (no_minus n _ (omega (arith, fits.sfits)) e)
below_zero (negsuc n) number fits h e =
    let s : suc n ≡ number = decimal_injective (suc n) number (omega (arith, fits.sfits)) h (ap (drop 1) e) in
    (n, refl, sym s, omega (arith, fits.sfits))

pub not_below_zero : (number : ℤ) (n : ℕ) → FitsSigned w64 number → n < 2 ^ 64 → signed_decimal number ≡ decimal n → (number ≡ pos n) × (n < 2 ^ 63)
not_below_zero (pos m) n fits h e =
    let s : m ≡ n = decimal_injective m n (omega (arith, fits.sfits)) h e in (ap pos s, omega (arith, s, fits.sfits))
not_below_zero (negsuc m) n fits h e = absurd (no_minus n _ h (sym e))

-- an integer whose text begins with no minus is a natural number
pub as_natural : (number : ℤ) (text : List ℕ) → FitsSigned w64 number → ((rest : List ℕ) → text ≢ 45 ∷ rest) → signed_decimal number ≡ text
    → (n : ℕ) × (number ≡ pos n) × (n < 2 ^ 63) × (decimal n ≡ text)
as_natural (pos n) text fits plain e = (n, refl, omega (arith, fits.sfits), e)
as_natural (negsuc n) text fits plain e = absurd (plain _ (sym e))

-- one whose text begins with a minus is below zero
pub as_below : (number : ℤ) (text digits : List ℕ) → FitsSigned w64 number → text ≡ 45 ∷ digits → signed_decimal number ≡ text
    → (n : ℕ) × (number ≡ negsuc n) × (n < 2 ^ 63) × (decimal (suc n) ≡ digits)
as_below (pos n) text digits fits is e = absurd (no_minus n _ (omega (arith, fits.sfits)) (e ∙ is))
as_below (negsuc n) text digits fits is e = (n, refl, omega (arith, fits.sfits), ap (drop 1) (e ∙ is))

from_digits : (ds : List ℕ) (c : ℕ) (rest : List ℕ) → AllBelowBase 10 ds → map (λ d. 48 + d) ds ≡ c ∷ rest → (48 ≤ c) × (c ≤ 57)
from_digits [] c rest below e = absurd (cc e)
from_digits (d ∷ ds) c rest below e = (omega (arith, ap (λ xs. get_or xs 0 0) e), omega (arith, below.0, ap (λ xs. get_or xs 0 0) e))

natural_begins : (n c : ℕ) (rest : List ℕ) → n < 2 ^ 64 → decimal n ≡ c ∷ rest → (48 ≤ c) × (c ≤ 57)
natural_begins zero c rest h e =
    let front : 48 ≡ c = ap (λ xs. get_or xs 0 0) (sym (decimal_digit 0 (omega arith)) ∙ e) in (omega arith, omega arith)
natural_begins (suc n) c rest h e =
    from_digits (digits_of 10 (suc n)) c rest (all_below_base_digits_of 10 (suc n) (omega arith)) (sym (decimal-digits_of (suc n) (omega arith) h) ∙ e)

-- an integer's text begins with a minus or a digit
pub begins : (number : ℤ) (c : ℕ) (rest : List ℕ) → FitsSigned w64 number → signed_decimal number ≡ c ∷ rest → (45 ≤ c) × (c ≤ 57)
begins (pos n) c rest fits e = let d = natural_begins n c rest (omega (arith, fits.sfits)) e in (omega (arith, d), d.1)
begins (negsuc n) c rest fits e = let front : 45 ≡ c = ap (λ xs. get_or xs 0 0) e in (omega arith, omega arith)

-- an integer's text is not empty
pub some_digits : (number : ℤ) → FitsSigned w64 number → signed_decimal number ≢ []
some_digits (pos n) fits e = omega (arith, decimal_nonempty n (omega (arith, fits.sfits)), ap length e)
some_digits (negsuc n) fits e = absurd (cc e)
