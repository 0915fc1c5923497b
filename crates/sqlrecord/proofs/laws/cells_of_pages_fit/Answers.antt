use Rattle.sqlrecord.proofs.FitLemmas.{sound_fit}
use Rattle.sqlrecord.proofs.laws.cells_of_pages_fit.Goals as goal

pub returns : goal.returns
returns c = sound_fit
