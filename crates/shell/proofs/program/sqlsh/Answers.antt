use Rattle.std.proofs.Common.{◌≡◌, None, true, false, refl, sym, ◌∙◌}
use Rattle.shell.proofs.Alone.{refused_alone}
use Rattle.shell.proofs.program.sqlsh.Goals as goal

pub returns-then-not-are_open-clause-asked : goal.returns-then-not-are_open-clause-asked
returns-then-not-are_open-clause-asked g c = λ count file asks. refused_alone _ _ (c.refuse_closed.ensures.refused _)

pub returns-then-not-are_open-clause-in_memory : goal.returns-then-not-are_open-clause-in_memory
returns-then-not-are_open-clause-in_memory g c = λ count asks rules are. c.refuse_closed.ensures.in_memory _ rules

pub returns-then-not-are_open-clause-closed : goal.returns-then-not-are_open-clause-closed
returns-then-not-are_open-clause-closed g c = λ is count file asks. c.refuse_closed.ensures.refused _

pub returns-then-not-are_open-clause-others : goal.returns-then-not-are_open-clause-others
returns-then-not-are_open-clause-others g c = λ none. absurd (none _ _ c.in-Ok.ensures.refused)

pub returns-else-not-are_open-clause-in_memory : goal.returns-else-not-are_open-clause-in_memory
returns-else-not-are_open-clause-in_memory g c = λ count asks. c.run_asked.ensures.in_memory (c.in-Ok.ensures.asked count None asks).1

pub returns-else-not-are_open-clause-closed : goal.returns-else-not-are_open-clause-closed
returns-else-not-are_open-clause-closed g c = λ is. let bad : true ≡ false = sym c.if-not-are_open.false ∙ is in absurd (cc)

pub returns-else-not-are_open-clause-others : goal.returns-else-not-are_open-clause-others
returns-else-not-are_open-clause-others g c = λ none. absurd (none _ _ c.in-Ok.ensures.refused)

pub returns-in-Err-clause-asked : goal.returns-in-Err-clause-asked
returns-in-Err-clause-asked g c = λ count file asks. absurd (c.in-Err.ensures.asked count file asks)

pub returns-in-Err-clause-in_memory : goal.returns-in-Err-clause-in_memory
returns-in-Err-clause-in_memory g c = λ count asks. absurd (c.in-Err.ensures.asked count None asks)

pub returns-in-Err-clause-closed : goal.returns-in-Err-clause-closed
returns-in-Err-clause-closed g c = λ is count file asks. absurd (c.in-Err.ensures.asked count file asks)

pub returns-in-Err-clause-others : goal.returns-in-Err-clause-others
returns-in-Err-clause-others g c = λ none. (refl, refl, c.told.ensures.status)

pub returns-else-not-are_open-clause-asked : goal.returns-else-not-are_open-clause-asked
returns-else-not-are_open-clause-asked g c = λ count file asks. c.run_asked.ensures.ends
