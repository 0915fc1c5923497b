use Rattle.change_types.proofs.sources.typed_filter.Goals as goal

pub returns-in-Some : goal.returns-in-Some
returns-in-Some c = rw c.in-Some.is (c.written.ensures _ c.typed_condition.ensures)
