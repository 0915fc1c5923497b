use Rattle.std.proofs.Common.{◌≡◌}
use Rattle.algebra.specs.declared.tree.Tree.{Tree}
use Rattle.denote.specs.Database.{rows_in}
use Rattle.rules.specs.Applied.{applied}
use Rattle.rules.specs.Same.{IsSameTree}
use Rattle.rewrite.proofs.Kept.{made-keeps}
use Rattle.rewrite.proofs.steps.apply.Goals as goal

pub returns-clause-same : goal.returns-clause-same
returns-clause-same c = λ reading db good has.
    made-keeps (λ (new : Tree). IsSameTree (rows_in db) new c.args.tree) c.made_at.result
    (applied c.args.rule c.args.path.now.places c.args.tree) c.made_at.ensures
    (λ new e. c.good_databases_fit.ensures reading db new c.args.tree good has
    (c.rules_keep_the_outcome.ensures.applied c.args.rule c.args.path.now.places c.args.tree new e))
