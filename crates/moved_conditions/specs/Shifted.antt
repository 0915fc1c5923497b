-- Where a column stands after a condition is moved.
use Rattle.std.specs.Prelude.{ℕ}
use Rattle.rules.specs.Columns.{Place, from_right, to_half}
use Rattle.moved_conditions.specs.declared.shift.Shift.{Shift}
use Rattle.moved_conditions.specs.declared.shift.Shift.TheVariants as shift

abbrev pub where_it_is : ℕ → ℕ → Place
where_it_is depth place = (depth, place)

-- where the left row has so many columns
abbrev pub shifted : Shift → ℕ → ℕ → ℕ → Place
shifted shift.Stay w = where_it_is
shifted shift.FromRight w = from_right w
shifted shift.ToHalf w = to_half w
