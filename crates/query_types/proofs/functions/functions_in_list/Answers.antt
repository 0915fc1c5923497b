use Rattle.query_types.proofs.functions.functions_in_list.Goals as goal

pub returns-in-Some : goal.returns-in-Some
returns-in-Some c = λ k. rw c.in-Some.is (rw c.as_slice.ensures at c.functions_in_items.ensures k)
