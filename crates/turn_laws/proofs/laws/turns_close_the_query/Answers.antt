use Rattle.turn_laws.proofs.Behind.{closed_after_refusal, closed_after_rows, told_closed}
use Rattle.turn_laws.proofs.laws.turns_close_the_query.Goals as goal

pub returns-clause-rows : goal.returns-clause-rows
returns-clause-rows c rules s text n start end turns rows = closed_after_rows rules s text n start end turns rows

pub returns-clause-refused : goal.returns-clause-refused
returns-clause-refused c rules s text n start end turns refusal =
    closed_after_refusal rules s text n start end turns refusal

pub returns-clause-closing : goal.returns-clause-closing
returns-clause-closing c rules s text n start end turns reply closing others =
    told_closed rules s text n start end turns reply closing others
