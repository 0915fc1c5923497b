-- White space and comments before the place of a token are skipped.
use Rattle.std.proofs.Common.{◌≡◌, ℕ, true, false, [], ◌∷◌, ◌++◌, refl, ◌∙◌, append_assoc, append-nil, cond, eqb, inl, inr}
use Rattle.std.proofs.lemmas.Bool.{cases_Bool, and_parts}
use Rattle.lexer.specs.Token.{Bytes, is_line, IsGap, nothing, space, comment, last_comment}
use Rattle.lexer.specs.Reading.{gap, gap_from}
use Rattle.lexer.proofs.Skipping.{IsAtToken, no_minus}

no_line_feed : (b : ℕ) (line : Bytes) → is_line (b ∷ line) ≡ true → (eqb b 10 ≡ false) × (is_line line ≡ true)
no_line_feed b line h =
    let parts = and_parts (cond (eqb b 10) false true) (is_line line) h in
    elim (cases_Bool (eqb b 10)) [
      | inl e ↦ let no : cond (eqb b 10) false true ≡ false = rw e refl in cc
      | inr n ↦ (n, parts.1)
    ]

line_skipped : (line more : Bytes) → is_line line ≡ true → gap_from true (line ++ 10 ∷ more) ≡ gap_from false more
line_skipped [] more h = refl
line_skipped (b ∷ line) more h = let parts = no_line_feed b line h in rw parts.0 (line_skipped line more parts.1)

last_line_skipped : (line : Bytes) → is_line line ≡ true → gap_from true line ≡ []
last_line_skipped [] h = refl
last_line_skipped (b ∷ line) h = let parts = no_line_feed b line h in rw parts.0 (last_line_skipped line parts.1)

stays : (here : Bytes) → IsAtToken here → gap_from false here ≡ here
stays [] at_token = refl
stays (b ∷ bs) at_token = rw (at_token.no_space, at_token.no_comment) refl

gap_from-IsGap : (front here : Bytes) → IsGap front here → IsAtToken here → gap_from false (front ++ here) ≡ here
gap_from-IsGap front here (nothing rest) at_token = stays here at_token
gap_from-IsGap front here (space b others rest s is_gap) at_token = rw (s, no_minus b s) (gap_from-IsGap others here is_gap at_token)
gap_from-IsGap front here (comment line others rest l is_gap) at_token =
    rw (append_assoc line (10 ∷ others) here) (line_skipped line (others ++ here) l ∙ gap_from-IsGap others here is_gap at_token)
gap_from-IsGap front here (last_comment line l) at_token = rw (append-nil line) (last_line_skipped line l)

pub gap-IsGap : (front here : Bytes) → IsGap front here → IsAtToken here → gap (front ++ here) ≡ here
unfolding gap
gap-IsGap front here is_gap at_token = gap_from-IsGap front here is_gap at_token
