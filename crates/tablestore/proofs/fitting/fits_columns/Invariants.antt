use Rattle.std.proofs.Common.{◌≡◌, length}
use Rattle.denote.specs.Database.{fits_columns}
use Rattle.tablestore.proofs.fitting.fits_columns.Given as goal

-- what is left of both decides
abbrev pub invariant-each : goal.invariant-each
invariant-each l = fits_columns l.rest l.values ≡ fits_columns l.fn.columns l.fn.row

abbrev pub decreases-each : goal.decreases-each
decreases-each l = length l.values
