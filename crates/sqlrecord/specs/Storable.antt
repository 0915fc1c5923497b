-- Values that have a code: those of `Value` in the program. Our own choice.
use Rattle.std.specs.Prelude.{List, IsTrue, FitsSigned}
use Rattle.std.specs.Int.{w64}
use Rattle.std.specs.List.{AllByRecursion}
use Rattle.items.specs.Text.{is_text}
use Rattle.sqlval.specs.declared.value.Value.{Value}
use Rattle.sqlval.specs.declared.value.Value.TheVariants.{Null, Int, Text}

-- an integer of 64 bits, and a character string
abbrev pub IsStorable : Value → Type 0
IsStorable Null = Unit {0}
IsStorable (Int number) = FitsSigned w64 number
IsStorable (Text codes) = IsTrue (is_text codes)

abbrev pub AllStorable : List Value → Type 0
AllStorable row = AllByRecursion IsStorable row
