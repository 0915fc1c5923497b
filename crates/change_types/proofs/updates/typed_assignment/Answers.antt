use Rattle.change_types.proofs.updates.typed_assignment.Goals as goal

pub returns : goal.returns
returns c = c.assignment_of.ensures _ (c.both.ensures _ _ c.target_named-target.ensures c.typed_source-source.ensures)
