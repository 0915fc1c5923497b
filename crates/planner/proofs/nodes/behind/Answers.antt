use Rattle.planner.proofs.nodes.behind.Goals as goal

pub returns : goal.returns
returns c = rw c.in_ok-more.was (c.with_steps.ensures _ c.appended.ensures)
