-- Evaluations and changes that are not an empty failure.
use Rattle.std.specs.Prelude.{[], ◌∷◌}
use Rattle.denote.specs.Evaluation.{Env, Evaluation}
use Rattle.denote_laws.specs.Law.{IsSound}
use Rattle.denote.specs.Change.{Changed, Makes, Raises, Violates}

-- an expression or a condition that is a value or at least one fault at each row
abbrev pub IsSoundMeaning : {A : Type 0} → (Env → Evaluation A) → Type 0
IsSoundMeaning f = (env : Env) → IsSound (f env)

-- a database, or at least one fault, or at least one name
abbrev pub IsDecided : Changed → Type 0
IsDecided (Makes db count) = Unit {0}
IsDecided (Raises []) = ⊥
IsDecided (Raises (fault ∷ faults)) = Unit {0}
IsDecided (Violates []) = ⊥
IsDecided (Violates (name ∷ names)) = Unit {0}
