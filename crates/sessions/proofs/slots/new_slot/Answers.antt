use Rattle.ast.specs.declared.statement.AccessMode.TheVariants.{ReadWrite}
use Rattle.sessions.proofs.Holding.{shut_kept}
use Rattle.sessions.proofs.slots.new_slot.Goals as goal

pub returns-clause-kept : goal.returns-clause-kept
returns-clause-kept c =
    let both = shut_kept (record { mode = ReadWrite; cursors = c.new.result }) c.new.ensures.shut in
    λ i. record { mode = ReadWrite; declared = c.new.ensures.declared i; cursors = both.0 i; unnamed = both.1 i }

pub returns-clause-shut : goal.returns-clause-shut
returns-clause-shut c = c.new.ensures.shut
