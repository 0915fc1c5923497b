use Rattle.denote_laws.proofs.Missing.{unmatched-violated, missed-violated}
use Rattle.denote_laws.proofs.changes.what_is_not_matched_is_violated.Goals as goal

pub returns : goal.returns
returns c = record { came = unmatched-violated; went = missed-violated }
