use Rattle.scopes.proofs.Scopes.{frames-inside, frames-outermost}
use Rattle.table_types.proofs.checks.typed_check.Goals as goal

pub returns : goal.returns
returns c = rw (frames-inside _ _ _, frames-outermost, c.new.ensures) at c.checked_in.ensures
