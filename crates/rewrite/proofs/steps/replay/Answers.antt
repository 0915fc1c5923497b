use Rattle.std.proofs.Common.{◌≡◌}
use Rattle.algebra.specs.declared.tree.Tree.{Tree}
use Rattle.denote.specs.Database.{rows_in}
use Rattle.rules.specs.Applied.{replayed}
use Rattle.rules.specs.Same.{IsSameTree}
use Rattle.rewrite.proofs.Kept.{made-keeps}
use Rattle.rewrite.proofs.steps.replay.Goals as goal

pub returns-clause-same : goal.returns-clause-same
returns-clause-same c = λ reading db good has.
    made-keeps (λ (new : Tree). IsSameTree (rows_in db) new c.args.tree) c.made_by.result
    (replayed c.args.steps.now c.args.tree) c.made_by.ensures
    (λ new e. c.good_databases_fit.ensures reading db new c.args.tree good has
    (c.rules_keep_the_outcome.ensures.replayed c.args.steps.now c.args.tree new e))
