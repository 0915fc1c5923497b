use Rattle.std.proofs.Common.{◌≡◌, ◌∙◌, true, false, sym, ap}
use Rattle.denote.specs.Database.{fits_columns}
use Rattle.tablestore.proofs.DecodeLemmas.{refused, only_memory}
use Rattle.tablestore.proofs.decoding.row_fitting.Goals as goal

pub returns-in_err-row-clause-given : goal.returns-in_err-row-clause-given
returns-in_err-row-clause-given c = λ row code fits.
    refused _ c.in_err-row.field-0.0 _ c.from_residual.ensures.1 (only_memory _ row c.in_err-row.field-0.0 code c.in_err-row.ensures.damaged)

pub returns-then-not-fits_columns-clause-given : goal.returns-then-not-fits_columns-clause-given
returns-then-not-fits_columns-clause-given c = λ row code fits.
    let one = c.in_ok-row.ensures.only row code in
    let bad : true ≡ false = sym fits ∙ ap (fits_columns c.args.columns.now) (one ∙ sym c.as_slice.ensures) ∙ sym c.fits_columns.ensures ∙ c.if-not-fits_columns.true in cc

pub returns-clause-given : goal.returns-clause-given
returns-clause-given c = λ row code fits. sym (c.in_ok-row.ensures.only row code)

pub returns-clause-typed : goal.returns-clause-typed
returns-clause-typed c = ap (fits_columns c.args.columns.now) (sym c.as_slice.ensures) ∙ sym c.fits_columns.ensures ∙ c.if-not-fits_columns.false
