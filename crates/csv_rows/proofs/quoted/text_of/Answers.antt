use Rattle.std.proofs.Common.{◌≡◌, ◌∷◌, ◌++◌, [], Some, None, refl, sym, ap, ◌∙◌, rules, false}
use Rattle.replies.specs.Printed.{quotes_doubled}
use Rattle.csv_rows.specs.Undoubled.{undoubled}
use Rattle.csv_rows.proofs.Codes.{read_codes, codes_again, as_text-is}
use Rattle.csv_rows.proofs.quoted.text_of.Goals as goal

pub returns-in-Some-2-clause-sound : goal.returns-in-Some-2-clause-sound
returns-in-Some-2-clause-sound c codes e =
    let is : codes ≡ c.in-Some-2.codes = as_text-is c.in-Some-2.codes codes (sym c.from_items.ensures ∙ e) in
    let read : undoubled false [] c.in-Some.inner.now ≡ Some c.in-Some-2.codes = search rules in
    let printed : quotes_doubled codes ≡ c.in-Some.inner.now = ap quotes_doubled is ∙ read_codes false [] c.in-Some.inner.now c.in-Some-2.codes read in
    let field : 39 ∷ (c.in-Some.inner.now ++ 39 ∷ []) ≡ c.args.field.now = search rules in
    ap (λ inner. 39 ∷ (inner ++ 39 ∷ [])) printed ∙ field

pub returns-in-Some-2-clause-again : goal.returns-in-Some-2-clause-again
returns-in-Some-2-clause-again c codes t e =
    let found = c.between_quotes.ensures.again (quotes_doubled codes) e in
    let inner : c.in-Some.inner.now ≡ quotes_doubled codes = search rules in
    let read : undoubled false [] c.in-Some.inner.now ≡ Some c.in-Some-2.codes = search rules in
    let same : c.in-Some-2.codes ≡ codes = cc (read, inner, codes_again [] codes) in
    c.from_items.ensures ∙ rw same (rw t refl)

pub returns-in-None-clause-again : goal.returns-in-None-clause-again
returns-in-None-clause-again c codes t e =
    let found = c.between_quotes.ensures.again (quotes_doubled codes) e in
    let inner : c.in-Some.inner.now ≡ quotes_doubled codes = search rules in
    let read : undoubled false [] c.in-Some.inner.now ≡ None = search rules in
    absurd (cc (inner, codes_again [] codes, read))
