use Rattle.session_laws.proofs.Serializable.{serializable}
use Rattle.session_laws.proofs.runs.runs_are_serializable.Goals as goal

pub returns : goal.returns
returns c = serializable
