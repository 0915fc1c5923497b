use Rattle.plan_laws.proofs.Plans.{matches-read}
use Rattle.plan_laws.proofs.laws.look_ups_read_what_matches.Goals as goal

pub returns : goal.returns
returns c = matches-read
