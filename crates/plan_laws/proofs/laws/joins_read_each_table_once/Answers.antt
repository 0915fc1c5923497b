use Rattle.plan_laws.proofs.Plans.{joins-read}
use Rattle.plan_laws.proofs.laws.joins_read_each_table_once.Goals as goal

pub returns : goal.returns
returns c = joins-read
