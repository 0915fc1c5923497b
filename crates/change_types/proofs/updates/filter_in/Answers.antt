use Rattle.scopes.proofs.Scopes.{frames-inside, frames-outermost}
use Rattle.change_types.proofs.updates.filter_in.Goals as goal

pub returns : goal.returns
returns c = rw (frames-inside _ _ _, frames-outermost) at c.typed_filter.ensures
