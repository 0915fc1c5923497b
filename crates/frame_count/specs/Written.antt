-- How a text writes a number of frames. All of this is our own choice.
use Rattle.std.specs.Prelude.{◌≡◌, ◌≤◌, ℕ, List}
use Rattle.std.specs.Str.Parse.{IsNumeral, digits_value, without_leading_plus}

-- decimal digits, perhaps behind a plus, from 16 to 4,096
pub record WritesFrames (text : List ℕ) (count : ℕ) : Type 0 where
  pub numeral : IsNumeral 10 (without_leading_plus text)
  pub value : digits_value 10 (without_leading_plus text) ≡ count
  pub enough : 16 ≤ count
  pub bounded : count ≤ 4096
