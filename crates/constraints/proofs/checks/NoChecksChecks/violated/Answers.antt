use Rattle.std.proofs.Common.{◌∙◌, sym, ap}
use Rattle.denote.specs.Database.{table_of}
use Rattle.constraints.specs.Rules.{has_checks}
use Rattle.constraints.proofs.Broken.{no_checks_broken}
use Rattle.constraints.proofs.checks.NoChecksChecks.violated.Goals as goal

pub returns-clause-found : goal.returns-clause-found
returns-clause-found c = λ reading name decided.
    no_checks_broken reading name (table_of c.args.table.now c.args._rows.now) (ap has_checks (sym c.as_slice.ensures) ∙ sym c.if-has_check.ensures)
