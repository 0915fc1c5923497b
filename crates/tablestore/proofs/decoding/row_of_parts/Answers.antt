use Rattle.std.proofs.Common.{sym}
use Rattle.tablestore.proofs.DecodeLemmas.{same_pair, refused, kept_code, number_is}
use Rattle.tablestore.proofs.decoding.row_of_parts.Goals as goal

pub returns-in_err-row-clause-kept : goal.returns-in_err-row-clause-kept
returns-in_err-row-clause-kept c = λ e kept fits key value.
    refused _ c.in_err-row.field-0.0 _ c.from_residual.ensures.1 (c.in_err-row.ensures.given e.1 (kept_code e _ kept value) fits)

pub returns-clause-kept : goal.returns-clause-kept
returns-clause-kept c = λ e kept fits key value.
    same_pair e (c.in-Some.number, c.in_ok-row.row) (number_is c.in-Some.number e.0 (c.in-Some.ensures.kept e.0 kept.number key))
    (sym (c.in_ok-row.ensures.given e.1 (kept_code e _ kept value) fits))
