use Rattle.std.proofs.Common.{◌≡◌, ◌∙◌, true, List, ℕ, sym, subst}
use Rattle.std.proofs.lemmas.Result.{IfOk-weaker, IfErr-weaker}
use Rattle.csv.specs.Records.{fields_of}
use Rattle.csvio.specs.Forms.{NamesColumns, are_distinct}
use Rattle.csvio.proofs.Headers.{refused_names, unknown_names}
use Rattle.csvio.proofs.header.header_of.Goals as goal

pub returns-in-Ok-clause-names : goal.returns-in-Ok-clause-names
returns-in-Ok-clause-names c = IfOk-weaker c.of_columns.result _ _
    (λ found h. subst (λ (names : List (List ℕ)). NamesColumns c.args.columns.now (fields_of c.args.fields.now) names × (are_distinct names ≡ true)) (sym h.0)
    (record { are = c.in-Ok.ensures.names; known = h.1 }, h.2))
    c.of_columns.ensures.names

pub returns-in-Ok-clause-only : goal.returns-in-Ok-clause-only
returns-in-Ok-clause-only c = IfOk-weaker c.of_columns.result _ _ (λ found h others named. c.in-Ok.ensures.only others named.are ∙ sym h.0) c.of_columns.ensures.names

pub returns-in-Ok-clause-refused : goal.returns-in-Ok-clause-refused
returns-in-Ok-clause-refused c = IfErr-weaker c.of_columns.result _ _
    (λ refusal h. unknown_names c.args.columns.now (fields_of c.args.fields.now) c.in-Ok.names refusal c.in-Ok.ensures.names c.in-Ok.ensures.only h)
    c.of_columns.ensures.refused

pub returns-in-Err-clause-refused : goal.returns-in-Err-clause-refused
returns-in-Err-clause-refused c = refused_names c.args.columns.now (fields_of c.args.fields.now) c.in-Err.refusal c.in-Err.ensures.refused
