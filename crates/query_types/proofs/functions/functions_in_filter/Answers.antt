use Rattle.query_types.proofs.functions.functions_in_filter.Goals as goal

pub returns-in-Some : goal.returns-in-Some
returns-in-Some c = λ k. rw c.in-Some.is (rw c.get.ensures at c.functions_in_condition.ensures k)
