-- What stands between quotes.
use Rattle.std.proofs.Common.{◌≡◌, ◌==◌, ℕ, List, [], ◌∷◌, ◌++◌, Bool, true, false, Some, inl, inr, refl, sym, ap, ◌∙◌}
use Rattle.std.proofs.lemmas.Bool.{cases_Bool, eqb-true}
use Rattle.std.proofs.lemmas.List.{append_assoc, append-nil}
use Rattle.replies.specs.Printed.{quotes_doubled, spelled_character}
use Rattle.items.specs.Text.{is_text, as_text}
use Rattle.csv_rows.specs.Undoubled.{undoubled}

-- the quote that was read and whose second one is looked for
abbrev pub mark : Bool → List ℕ
mark true = 39 ∷ []
mark false = []

doubled-append : (done : List ℕ) (c : ℕ) (rest : List ℕ) → quotes_doubled (done ++ c ∷ []) ++ rest ≡ quotes_doubled done ++ (spelled_character c ++ rest)
doubled-append [] c rest = ap (λ more. more ++ rest) (append-nil (spelled_character c))
doubled-append (d ∷ done) c rest =
    append_assoc (spelled_character d) (quotes_doubled (done ++ c ∷ [])) rest ∙ ap (λ more. spelled_character d ++ more) (doubled-append done c rest)
    ∙ sym (append_assoc (spelled_character d) (quotes_doubled done) (spelled_character c ++ rest))

-- what is printed of the codes that are read is what was read
pub read_codes : (pending : Bool) (done rest codes : List ℕ) → undoubled pending done rest ≡ Some codes
    → quotes_doubled codes ≡ quotes_doubled done ++ (mark pending ++ rest)
read_codes false done [] codes e = cc e ∙ sym (append-nil (quotes_doubled done))
read_codes true done [] codes e = absurd (cc e)
read_codes false done (c ∷ rest) codes e = elim (cases_Bool (c == 39)) [
  | inl yes_quote ↦ read_codes true done rest codes (rw yes_quote at e) ∙ ap (λ x. quotes_doubled done ++ (x ∷ rest)) {x = 39} {y = c} (sym (eqb-true c 39 yes_quote))
  | inr other ↦ read_codes false (done ++ c ∷ []) rest codes (rw other at e) ∙ doubled-append done c rest ∙ ap (λ s. quotes_doubled done ++ (s ++ rest)) {x = spelled_character c} {y = c ∷ []} (rw other refl)
]
read_codes true done (c ∷ rest) codes e = elim (cases_Bool (c == 39)) [
  | inl yes_quote ↦
      let is : c ≡ 39 = eqb-true c 39 yes_quote in
      read_codes false (done ++ c ∷ []) rest codes (rw yes_quote at e) ∙ doubled-append done c rest ∙ ap (λ s. quotes_doubled done ++ (s ++ rest)) {x = spelled_character c} {y = 39 ∷ 39 ∷ []} (rw yes_quote refl)
      ∙ ap (λ x. quotes_doubled done ++ (39 ∷ x ∷ rest)) {x = 39} {y = c} (sym is)
  | inr other ↦ absurd (cc (rw other at e))
]

-- what is printed of codes reads as these
pub codes_again : (done codes : List ℕ) → undoubled false done (quotes_doubled codes) ≡ Some (done ++ codes)
codes_again done [] = ap (λ x. Some x) (sym (append-nil done))
codes_again done (c ∷ codes) = elim (cases_Bool (c == 39)) [
  | inl yes_quote ↦
      let is : c ≡ 39 = eqb-true c 39 yes_quote in
      rw yes_quote (codes_again (done ++ 39 ∷ []) codes ∙ ap (λ x. Some x) (append_assoc done (39 ∷ []) codes) ∙ ap (λ x. Some (done ++ x ∷ codes)) {x = 39} {y = c} (sym is))
  | inr other ↦ rw other (rw other (codes_again (done ++ c ∷ []) codes ∙ ap (λ x. Some x) (append_assoc done (c ∷ []) codes)))
]

-- a text is made of its codes alone
pub as_text-is : (codes text : List ℕ) → as_text codes ≡ Some text → text ≡ codes
as_text-is codes text e = elim (cases_Bool (is_text codes)) [
  | inl t ↦ cc (rw t at e)
  | inr f ↦ absurd (cc (rw f at e))
]
