use Rattle.database_versions.proofs.PlaceLemmas.{has_place}
use Rattle.database_versions.proofs.laws.each_page_has_its_place.Goals as goal

pub returns : goal.returns
returns c = λ version d n there. has_place version d n there
