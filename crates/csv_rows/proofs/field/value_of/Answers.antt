use Rattle.std.proofs.Common.{◌≡◌, ◌∷◌, [], refl, sym, ap, ◌∙◌, rules, arith, get_or}
use Rattle.sqlval.specs.declared.value.Value.TheVariants.{Null, Int, Text}
use Rattle.csv_rows.proofs.Integers.{begins}
use Rattle.csv_rows.proofs.field.value_of.Goals as goal

pub returns-then-eq-clause-again : goal.returns-then-eq-clause-again
returns-then-eq-clause-again c Null s e = refl
returns-then-eq-clause-again c (Int number) s e =
    let field : c.args.field.now ≡ 78 ∷ 85 ∷ 76 ∷ 76 ∷ [] = search rules in absurd (omega (arith, begins number 78 _ s (e ∙ field)))
returns-then-eq-clause-again c (Text codes) s e =
    let field : c.args.field.now ≡ 78 ∷ 85 ∷ 76 ∷ 76 ∷ [] = search rules in absurd (omega (arith, ap (λ xs. get_or xs 0 0) (e ∙ field)))

pub returns-in-Some-clause-again : goal.returns-in-Some-clause-again
returns-in-Some-clause-again c Null s e = search rules
returns-in-Some-clause-again c (Int number) s e = let found = c.integer_of.ensures.again number s e in search rules
returns-in-Some-clause-again c (Text codes) s e =
    let number = c.in-Some.ensures.sound in absurd (omega (arith, begins c.in-Some.number 39 _ (search rules) (number ∙ sym e)))
