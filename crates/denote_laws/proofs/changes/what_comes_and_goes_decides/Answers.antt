use Rattle.denote_laws.proofs.Difference.{difference-violates_nothing}
use Rattle.denote_laws.proofs.changes.what_comes_and_goes_decides.Goals as goal

pub returns : goal.returns
returns c = λ reading old new name came gone good differs alone matched free.
    difference-violates_nothing old new name came gone differs reading good alone matched free
