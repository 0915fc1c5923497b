use Rattle.std.proofs.Common.{refl}
use Rattle.session_definitions.specs.Rules.{rules_of}
use Rattle.rule_laws.proofs.Reading.{reading, is_reading}
use Rattle.rule_laws.proofs.theorems.there_are_rules.Goals as goal

pub returns : goal.returns
returns c = (rules_of reading, record { statements = λ schema x. refl; checks = is_reading })
