use Rattle.rewrite_laws.proofs.ClosedTrees.{closed-alike}
use Rattle.rewrite_laws.proofs.Conditions.{Denials}
use Rattle.rewrite_laws.proofs.SubqueryRuleLaws.{half-made}
use Rattle.rewrite_laws.proofs.SubqueryTrees.{q14, q14-not}
use Rattle.std.specs.Prelude.{true, false, ◌∷◌}
use Rattle.rewrite_laws.proofs.single.subqueries_become_joins.Goals as goal

pub returns : goal.returns
returns c =
    let denied : Denials = record {
      condition = c.denials_are_certain.ensures.condition;
      expression = c.denials_are_certain.ensures.expression;
      plain = c.denials_are_certain.ensures.plain;
    } in
    record {
      exists = λ condition items table left w wide names calm calm-items.
          half-made denied true items condition table left w wide calm calm-items names;
      exists_not = λ condition items table left w wide names calm calm-items.
          half-made denied false items condition table left w wide calm calm-items names;
      member = λ operand members rows closed.
          q14 operand members rows (λ tables row env. closed-alike tables members closed (row ∷ env) env);
      member_not = λ operand members rows closed.
          q14-not operand members rows (λ tables row env. closed-alike tables members closed (row ∷ env) env);
    }
