use Rattle.typing.proofs.KeptTexts.{only, again, stands, alone}
use Rattle.typing.proofs.laws.a_condition_has_one_text.Goals as goal

pub returns : goal.returns
returns c = record { tokens = only; again = again; stands = stands; alone = alone }
