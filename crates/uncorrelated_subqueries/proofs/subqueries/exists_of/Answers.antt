use Rattle.uncorrelated_subqueries.proofs.subqueries.exists_of.Goals as goal

pub returns : goal.returns
returns g c = λ x h. c.exists_or_truth.ensures _ x (c.lasting_truth-truth.ensures x h) h
