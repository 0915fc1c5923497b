use Rattle.uncorrelated_subqueries.proofs.subqueries.in_of.Goals as goal

pub returns : goal.returns
returns g c = λ x y h k. c.query_or_list.ensures _ x y (c.lasting_values-values.ensures y k) h k
