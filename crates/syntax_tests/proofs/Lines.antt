-- Lines byte by byte.
use Rattle.std.proofs.Common.{◌≡◌, ◌≢◌, ◌+◌, ◌-◌, ◌*◌, ◌<◌, ◌≤◌, ◌==◌, ◌∙◌, ℕ, true, false, List, [], ◌∷◌, ◌++◌, length, take, drop, get_or, refl, sym, ap, subst, inl, inr, arith, append_assoc, append-nil, add-one, take-suc}
use Rattle.std.specs.List.{flat_map}
use Rattle.std.proofs.lemmas.Bool.{cases_Bool, eqb-true, eqb-false}
use Rattle.std.proofs.lemmas.List.{take_rest}
use Rattle.std.proofs.lemmas.Grind.{flat_map-append}
use Rattle.syntax_tests.specs.Escapes.{Means, Spells, at_end, digit_value, digits, line_of, meaning, nothing, plain, sign, special, written}

-- what is written reads back
pub line_reads_back : (text : List ℕ) → Spells (line_of text) text
line_reads_back [] = nothing
line_reads_back (byte ∷ text) = elim (cases_Bool (byte == 92)) [
  | inl y ↦
      let is : byte ≡ 92 = eqb-true byte 92 y in
      let read : Spells (92 ∷ 92 ∷ line_of text) (92 ∷ text) =
      special 92 (92 ∷ line_of text) (line_of text) text (sign 92 (line_of text) (λ e. absurd (omega (arith, e)))) (line_reads_back text) in
      rw (y, is) read
  | inr n ↦ rw n (plain byte (line_of text) text (eqb-false byte 92 n) (line_reads_back text))
]

take_more : (xs : List ℕ) (i : ℕ) → i < length xs → take (i + 1) xs ≡ take i xs ++ get_or xs i 0 ∷ []
take_more xs i inside = ap (λ k. take k xs) (add-one i) ∙ take-suc xs i 0 inside

-- the line of one byte more
pub line_of-more : (xs : List ℕ) (i : ℕ) → i < length xs → line_of (take (i + 1) xs) ≡ line_of (take i xs) ++ written (get_or xs i 0)
line_of-more xs i inside =
    ap line_of (take_more xs i inside) ∙ flat_map-append written (take i xs) (get_or xs i 0 ∷ [])
    ∙ ap (λ l. line_of (take i xs) ++ l) (append-nil (written (get_or xs i 0)))

-- what one byte is written as, when it is pushed after a test
pub two_pushed : (line : List ℕ) (byte : ℕ) → byte ≡ 92 → (line ++ 92 ∷ []) ++ byte ∷ [] ≡ line ++ written byte
two_pushed line byte is = rw is (append_assoc line (92 ∷ []) (92 ∷ []))

pub one_pushed : (line : List ℕ) (byte : ℕ) → byte ≢ 92 → line ++ byte ∷ [] ≡ line ++ written byte
one_pushed line byte other = elim (cases_Bool (byte == 92)) [
  | inl y ↦ absurd (other (eqb-true byte 92 y))
  | inr n ↦ rw n refl
]

-- what stands behind `\x`
pub digits_here : (xs : List ℕ) (high low : ℕ) → 2 ≤ length xs → high ≡ digit_value (get_or xs 0 0) → low ≡ digit_value (get_or xs 1 0)
    → Means (120 ∷ xs) (high * 16 + low) (take (length xs - 2) (drop 2 xs))
digits_here [] high low some h l = absurd (omega (arith, some))
digits_here (x ∷ []) high low some h l = absurd (omega (arith, some))
digits_here (x ∷ y ∷ xs) high low some h l =
    let rest : take (length (x ∷ y ∷ xs) - 2) xs ≡ xs = take_rest (x ∷ y ∷ xs) 2 in
    rw (h, l, rest) (digits x y xs)

-- what stands behind a backslash
pub sign_here : (xs : List ℕ) (byte : ℕ) → 1 ≤ length xs → get_or xs 0 0 ≢ 120 → byte ≡ meaning (get_or xs 0 0)
    → Means xs byte (take (length xs - 1) (drop 1 xs))
sign_here [] byte some other is = absurd (omega (arith, some))
sign_here (x ∷ xs) byte some other is =
    let rest : take (length (x ∷ xs) - 1) xs ≡ xs = take_rest (x ∷ xs) 1 in
    rw (is, rest) (sign x xs other)

pub nothing_here : (xs : List ℕ) → length xs < 1 → Means xs 92 xs
nothing_here [] none = at_end
nothing_here (x ∷ xs) none = absurd (omega (arith, none))

pub nothing_left : (rest : List ℕ) → length rest < 1 → Spells rest []
nothing_left [] none = nothing
nothing_left (x ∷ xs) none = absurd (omega (arith, none))
