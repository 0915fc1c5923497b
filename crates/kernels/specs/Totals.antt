-- Integers among values.
use Rattle.std.specs.Prelude.{ℤ, pos}
use Rattle.sqlval.specs.declared.value.Value.{Value}
use Rattle.sqlval.specs.declared.value.Value.TheVariants.{Null, Int, Text}

abbrev pub integer_in : Value → ℤ
integer_in (Int number) = number
integer_in Null = pos 0
integer_in (Text codes) = pos 0
