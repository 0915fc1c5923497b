-- Which form the words ask for.
use Rattle.std.proofs.Common.{◌≡◌, ◌∙◌, ℕ, Bool, List, codes, sym, subst}
use Rattle.csvio.specs.declared.form.Form.{Form}
use Rattle.transfers.specs.Words.{AsksForm, StandsFirst}

-- whether an option stands first, and what is behind it, there is one answer
pub first_once : (option : List ℕ) (words : List (List ℕ)) (a b : Bool) (xs ys : List (List ℕ)) → StandsFirst option words a xs → StandsFirst option words b ys → (a ≡ b) × (xs ≡ ys)
first_once option words a b xs ys (StandsFirst.first is e) (StandsFirst.first is_too f) = (is ∙ sym is_too, cc (sym e ∙ f))
first_once option words a b xs ys (StandsFirst.first is e) (StandsFirst.absent is_not same none) = absurd (none xs e)
first_once option words a b xs ys (StandsFirst.absent is_not same none) (StandsFirst.first is e) = absurd (none ys e)
first_once option words a b xs ys (StandsFirst.absent is_not same none) (StandsFirst.absent nor same_too none_too) = (is_not ∙ sym nor, same ∙ sym same_too)

pub form_once : (words : List (List ℕ)) (form : Form) (rest mid found : List (List ℕ)) (header plain : Bool) → AsksForm words form rest
    → StandsFirst (codes "--header") words header mid → StandsFirst (codes "--plain") mid plain found
    → (form ≡ record { header = header; plain = plain }) × (rest ≡ found)
form_once words form rest mid found header plain asks header_first plain_first =
    let h = first_once (codes "--header") words form.header header asks.mid mid asks.header header_first in
    let p = first_once (codes "--plain") mid form.plain plain rest found (subst (λ (ws : List (List ℕ)). StandsFirst (codes "--plain") ws form.plain rest) h.1 asks.plain) plain_first in
    ((λ i. record { header = h.0 i; plain = p.0 i }), p.1)
