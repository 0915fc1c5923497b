-- What is left of a part where something is made of it or not.
use Rattle.std.specs.Prelude.{true, false, Option, Some, None}
use Rattle.rule_steps.specs.declared.attempt.Attempt.{Attempt}

-- what is made; the part as it was where nothing is
abbrev pub attempt : {X : Type 0} → Option X → X → Attempt X
attempt (Some made) old = record { part = made; changed = true }
attempt None old = record { part = old; changed = false }
