use Rattle.planned_subqueries.proofs.Typed.{condition-stands, expression-stands}
use Rattle.planned_subqueries.proofs.laws.planned_trees_mean_the_same.Goals as goal

pub returns : goal.returns
returns c = record {
  conditions = λ described names tables fits. condition-stands described tables
      (λ query i env. c.translation_keeps_the_meaning.ensures.query described names tables query env i) fits;
  expressions = λ described names tables fits. expression-stands described tables
      (λ query i env. c.translation_keeps_the_meaning.ensures.query described names tables query env i) fits;
}
