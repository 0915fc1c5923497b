-- A text in quotes, character by character.
use Rattle.std.proofs.Common.{append_assoc, ◌≡◌, ◌∙◌, sym, ap, ℕ, ◌+◌, ◌<◌, List, ◌++◌, length, drop, get_or}
use Rattle.replies.specs.Printed.{quotes_doubled, spelled_character}
use Rattle.replies.proofs.Fields.{quotes_doubled-drop}

-- the next character goes behind those that stand there
pub next_spelled : (old new part text whole : List ℕ) (i d : ℕ) → i < length text → part ≡ spelled_character (get_or text i d) → new ≡ old ++ part
    → old ++ quotes_doubled (drop i text) ≡ whole → new ++ quotes_doubled (drop (i + 1) text) ≡ whole
next_spelled old new part text whole i d within is all before =
    let rest = quotes_doubled (drop (i + 1) text) in
    ap (λ (xs : List ℕ). xs ++ rest) all ∙ append_assoc old part rest
    ∙ ap (λ (xs : List ℕ). old ++ xs) (ap (λ (xs : List ℕ). xs ++ rest) is ∙ sym (quotes_doubled-drop text i d within)) ∙ before
