use Rattle.typing_laws.proofs.Placing.{conditions-placed, expressions-placed, selects-placed}
use Rattle.typing_laws.proofs.Valued.{groups-valued}
use Rattle.typing_laws.proofs.set_function_laws.set_functions_stand_in_place.Goals as goal

pub returns : goal.returns
returns c = record { placed = selects-placed; expressions = expressions-placed; conditions = conditions-placed; valued = groups-valued }
