use Rattle.std.proofs.Common.{◌∙◌, ap}
use Rattle.denote.specs.Database.{fits_columns}
use Rattle.tablestore.proofs.fitting.is_fitting.Goals as goal

pub returns : goal.returns
returns c = c.fits_columns.ensures ∙ ap (fits_columns c.args.columns.now) c.as_slice.ensures
