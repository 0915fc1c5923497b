use Rattle.std.proofs.Common.{[], ◌∷◌, sym, ap, ◌∙◌}
use Rattle.sqlval.specs.declared.schema.Rule.TheVariants.{NotNull}
use Rattle.catalog_records.proofs.Exits.{refused}
use Rattle.catalog_records.proofs.RuleLemmas.{not_null, lone_length, lone_first}
use Rattle.catalog_records.proofs.parts.not_null_in.Goals as goal

pub returns-in_err-places-clause-again : goal.returns-in_err-places-clause-again
returns-in_err-places-clause-again c = λ rule small sort e.
    not_null rule _ _ small sort (e ∙ sym c.as_slice.ensures.codes) (λ column fits text whole. refused _ c.in_err-places.field-0.0 rule c.from_residual.ensures.1 (c.in_err-places.ensures.again (column ∷ []) (fits, tt) text))

pub returns-then-len-ne1-clause-again : goal.returns-then-len-ne1-clause-again
returns-then-len-ne1-clause-again c = λ rule small sort e.
    not_null rule _ _ small sort (e ∙ sym c.as_slice.ensures.codes) (λ column fits text whole.
    absurd (c.if-len-ne1.true (c.len.ensures ∙ lone_length _ column (c.in_ok-places.ensures.again (column ∷ []) (fits, tt) text))))

pub returns-clause-again : goal.returns-clause-again
returns-clause-again c = λ rule small sort e.
    not_null rule _ _ small sort (e ∙ sym c.as_slice.ensures.codes) (λ column fits text whole.
    let same = c.in_ok-places.ensures.again (column ∷ []) (fits, tt) text in ap NotNull (lone_first c.in_ok-places.places _ column c.as_slice-2.ensures same) ∙ sym whole)
