use Rattle.uncorrelated_subqueries.proofs.subqueries.lasting_truth.Goals as goal

pub returns-in-Ok : goal.returns-in-Ok
returns-in-Ok g c = λ x h. c.truth_of_found.ensures _ (rw (c.get.ensures, rw c.in-Ok.is at h) at c.lasting_rows.ensures)
