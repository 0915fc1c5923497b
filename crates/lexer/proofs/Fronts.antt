-- A list that is taken apart by the pattern `[first, rest @ ..]`.
use Rattle.std.proofs.Common.{◌≡◌, Bool, not, false, ◌≤◌, ◌<◌, ◌-◌, List, [], ◌∷◌, length, take, drop, get_or, refl, sym, ap, arith}
use Rattle.std.specs.Prelude.{◌==◌, if◌then◌else◌}
use Rattle.std.proofs.lemmas.List.{take_rest}
use Rattle.lexer.specs.Token.{Bytes}
use Rattle.lexer.specs.Reading.{ends_gap, gap_from}

pub split : {A : Type 0} (xs : List A) (d : A) → 1 ≤ length xs → xs ≡ get_or xs 0 d ∷ take (length xs - 1) (drop 1 xs)
split [] d within = absurd (omega (arith, within))
split (x ∷ xs) d within = ap (λ rest. x ∷ rest) (sym (take_rest (x ∷ xs) 1))

pub empty : {A : Type 0} (xs : List A) → length xs < 1 → xs ≡ []
empty [] below = refl
empty (x ∷ xs) below = absurd (omega (arith, below))

pub shorter : (bytes : Bytes) → length (take (length bytes - 1) (drop 1 bytes)) ≡ length bytes - 1
shorter [] = refl
shorter (b ∷ bs) = let rest : take (length (b ∷ bs) - 1) bs ≡ bs = take_rest (b ∷ bs) 1 in rw rest (omega arith)

-- a byte that does not end a gap is passed over
pub past : (in_comment next : Bool) (bytes : Bytes) → 1 ≤ length bytes
    → ends_gap in_comment (get_or bytes 0 0) (take (length bytes - 1) (drop 1 bytes)) ≡ false
    → (if in_comment then not (get_or bytes 0 0 == 10) else get_or bytes 0 0 == 45) ≡ next
    → gap_from in_comment bytes ≡ gap_from next (take (length bytes - 1) (drop 1 bytes))
past in_comment next [] within passes e = absurd (omega (arith, within))
past in_comment next (b ∷ bs) within passes e =
    let rest : take (length (b ∷ bs) - 1) bs ≡ bs = take_rest (b ∷ bs) 1 in
    let ends : ends_gap in_comment b bs ≡ false = rw rest at passes in
    rw (rest, ends, e) refl
