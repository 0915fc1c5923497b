use Rattle.typing_laws.proofs.TypeStatements.{statements-safe}
use Rattle.typing_laws.proofs.type_laws.refusals_have_reasons.Goals as goal

pub returns : goal.returns
returns c tree schema = statements-safe tree schema
