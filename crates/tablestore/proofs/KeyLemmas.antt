-- Keys of 8 bytes.
use Rattle.std.proofs.Common.{◌≡◌, ℕ, ◌+◌, ◌*◌, ◌/◌, ◌%◌, ◌<◌, ◌^◌, List, [], ◌∷◌, length, Fits, w8, sym, arith}
use Rattle.std.specs.Prelude.{slice_index_or}
use Rattle.sqlrecord.specs.Key.{number_code}

abbrev value_of : (a b c d e f g h : ℕ) → ℕ
value_of a b c d e f g h = a * 72057594037927936 + b * 281474976710656 + c * 1099511627776 + d * 4294967296 + e * 16777216 + f * 65536 + g * 256 + h

-- the code of the number that 8 bytes are
eight : (a b c d e f g h : ℕ) → a < 256 → b < 256 → c < 256 → d < 256 → e < 256 → f < 256 → g < 256 → h < 256
    → number_code (value_of a b c d e f g h) ≡ a ∷ b ∷ c ∷ d ∷ e ∷ f ∷ g ∷ h ∷ []
eight a b c d e f g h ra rb rc rd re rf rg rh =
    let n = value_of a b c d e f g h in
    let p0 : n / 72057594037927936 % 256 ≡ a = omega (arith, ra, rb, rc, rd, re, rf, rg, rh) in
    let p1 : n / 281474976710656 % 256 ≡ b = omega (arith, ra, rb, rc, rd, re, rf, rg, rh) in
    let p2 : n / 1099511627776 % 256 ≡ c = omega (arith, ra, rb, rc, rd, re, rf, rg, rh) in
    let p3 : n / 4294967296 % 256 ≡ d = omega (arith, ra, rb, rc, rd, re, rf, rg, rh) in
    let p4 : n / 16777216 % 256 ≡ e = omega (arith, ra, rb, rc, rd, re, rf, rg, rh) in
    let p5 : n / 65536 % 256 ≡ f = omega (arith, ra, rb, rc, rd, re, rf, rg, rh) in
    let p6 : n / 256 % 256 ≡ g = omega (arith, ra, rb, rc, rd, re, rf, rg, rh) in
    let p7 : n % 256 ≡ h = omega (arith, ra, rb, rc, rd, re, rf, rg, rh) in
    λ i. p0 i ∷ p1 i ∷ p2 i ∷ p3 i ∷ p4 i ∷ p5 i ∷ p6 i ∷ p7 i ∷ []

-- bytes of that length are the code of a number
pub record IsOfNumber (bytes : List ℕ) : Type 0 where
  pub number : ℕ
  pub small : number < 2 ^ 64
  pub code : bytes ≡ number_code number

pub number_in : (bytes : List ℕ) → length bytes ≡ 8 → ((i : ℕ) → Fits w8 (slice_index_or bytes i 0)) → IsOfNumber bytes
number_in (a ∷ b ∷ c ∷ d ∷ e ∷ f ∷ g ∷ h ∷ []) long fits = record {
  number = value_of a b c d e f g h;
  small = omega (arith, (fits 0).fits, (fits 1).fits, (fits 2).fits, (fits 3).fits, (fits 4).fits, (fits 5).fits, (fits 6).fits, (fits 7).fits);
  code = sym (eight a b c d e f g h (fits 0).fits (fits 1).fits (fits 2).fits (fits 3).fits (fits 4).fits (fits 5).fits (fits 6).fits (fits 7).fits);
}
number_in bytes long fits = absurd (omega (arith, long))
