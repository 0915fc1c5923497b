use Rattle.std.proofs.Common.{refl}
use Rattle.shell.proofs.Alone.{refused_in_memory}
use Rattle.shell.proofs.program.refuse_closed.Goals as goal

pub returns-clause-refused : goal.returns-clause-refused
returns-clause-refused g c = λ given. record { is_told = _; unread = refl; told = c.tell.ensures.tells; failed = refl }

pub returns-clause-in_memory : goal.returns-clause-in_memory
returns-clause-in_memory g c = λ given rules.
    refused_in_memory rules _ _ _ (c.databases_stay_good.ensures.new_world rules.check).last (record { is_told = _; unread = refl; told = c.tell.ensures.tells; failed = refl })
