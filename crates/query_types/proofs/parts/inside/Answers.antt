use Rattle.scopes.proofs.Scopes.{frames-inside}
use Rattle.query_types.proofs.parts.inside.Goals as goal

pub returns : goal.returns
returns c = frames-inside _ _ _
