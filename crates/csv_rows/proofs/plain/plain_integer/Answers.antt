use Rattle.std.proofs.Common.{length, refl, sym, ◌∙◌, rules}
use Rattle.sqlval.specs.declared.value.Value.TheVariants.{Null, Int, Text}
use Rattle.std.proofs.lemmas.Bool.{eqb-true}
use Rattle.std.proofs.lemmas.List.{nil_from_length}
use Rattle.csv_rows.proofs.Integers.{some_digits}
use Rattle.csv_rows.proofs.plain.plain_integer.Goals as goal

pub returns-then-is_empty-clause-again : goal.returns-then-is_empty-clause-again
returns-then-is_empty-clause-again c Null s e = refl
returns-then-is_empty-clause-again c (Int number) s e = absurd (some_digits number s (e ∙ nil_from_length c.args.field.now (eqb-true (length c.args.field.now) 0 (sym c.is_empty.ensures ∙ c.if-is_empty.true))))
returns-then-is_empty-clause-again c (Text codes) s e = absurd e

pub returns-in-Some-clause-again : goal.returns-in-Some-clause-again
returns-in-Some-clause-again c Null s e = search rules
returns-in-Some-clause-again c (Int number) s e = let found = c.integer_of.ensures.again number s e in search rules
returns-in-Some-clause-again c (Text codes) s e = absurd e

pub returns-in-None-clause-again : goal.returns-in-None-clause-again
returns-in-None-clause-again c Null s e = search rules
returns-in-None-clause-again c (Int number) s e = let found = c.integer_of.ensures.again number s e in search rules
returns-in-None-clause-again c (Text codes) s e = absurd e
