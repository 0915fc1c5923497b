-- What a statement is answered.
use Rattle.std.proofs.Common.{◌≡◌, refl, true, false, Result, Err, arith}
use Rattle.sqlval.specs.declared.schema.Schema.{Schema}
use Rattle.refusals.specs.declared.refusal.Refusal.{Refusal}
use Rattle.refusals.specs.declared.refusal.Refusal.TheVariants.{NotSupported}
use Rattle.ast.specs.declared.statement.Statement.{Statement}
use Rattle.typing.specs.declared.statement.Typed.{Typed}
use Rattle.typing.specs.Built.{is_built}
use Rattle.typing.specs.Finds.{Finds}
use Rattle.typing.specs.Statement.{answered_found, statement_found}

pub not_built : (schema : Schema) (s : Statement) → is_built s ≡ false → Finds {A = Typed} (Err NotSupported) (answered_found s schema)
not_built schema s h = rw h (record { ok = tt; err = (0, omega arith, refl) })

pub built_is : (schema : Schema) (s : Statement) (reply : Result Typed Refusal) → is_built s ≡ true → Finds reply (statement_found s schema) → Finds reply (answered_found s schema)
built_is schema s reply h f = rw h f

pub ruleset answer_steps = (not_built, built_is)
