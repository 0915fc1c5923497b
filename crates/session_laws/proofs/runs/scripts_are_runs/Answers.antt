use Rattle.session_laws.proofs.Played.{is_run}
use Rattle.session_laws.proofs.runs.scripts_are_runs.Goals as goal

pub returns : goal.returns
returns c = λ rules old new pieces printed played. is_run rules old pieces printed new played
