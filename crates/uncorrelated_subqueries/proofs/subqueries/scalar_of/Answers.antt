use Rattle.uncorrelated_subqueries.proofs.subqueries.scalar_of.Goals as goal

pub returns : goal.returns
returns g c = λ x h. c.scalar_or_value.ensures _ x (c.lasting_value-value.ensures x h) h
