use Rattle.std.proofs.Common.{◌≡◌, ◌∙◌, ap, map}
use Rattle.algebra.specs.Described.{described_in}
use Rattle.algebra.specs.Translated.{tree_of_condition}
use Rattle.check_constraints.proofs.Deciding.{described_named}
use Rattle.check_constraints.proofs.reading.table_checks.Goals as goal

pub returns-clause-some : goal.returns-clause-some
returns-clause-some c = (c.in_ok-conditions.conditions, record { described = described_in c.args.schema.now; names = described_named c.args.schema.now; are = rw c.as_slice.ensures at c.in_ok-trees.ensures })

pub returns-clause-decides : goal.returns-clause-decides
returns-clause-decides c = λ reading is_reading. record {
  described = described_in c.args.schema.now;
  names = described_named c.args.schema.now;
  are = (rw c.as_slice.ensures at c.in_ok-trees.ensures) ∙ ap (λ conditions. map (tree_of_condition (described_in c.args.schema.now)) conditions) (c.in_ok-conditions.ensures.rules reading is_reading);
}
