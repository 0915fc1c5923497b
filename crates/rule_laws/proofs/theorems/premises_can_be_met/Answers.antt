use Rattle.std.proofs.Common.{[], refl}
use Rattle.std.specs.FinMap.{empty}
use Rattle.session_definitions.specs.World.{new_world}
use Rattle.rule_laws.proofs.theorems.premises_can_be_met.Goals as goal

pub returns : goal.returns
returns c =
    let (rules, are) = c.there_are_rules.ensures in
    (rules, are, c.databases_stay_good.ensures.new_world rules.check, c.worlds_stay_sound.ensures.run rules empty [] new_world refl)
