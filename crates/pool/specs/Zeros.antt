-- Zeros behind the header of page 0.
use Rattle.std.specs.Prelude.{◌≡◌, ◌==◌, ℕ, Bool, true, List, drop}
use Rattle.std.specs.List.{list_all}
use Rattle.pagefile.specs.Header.{header_size}

abbrev pub is_zero : ℕ → Bool
is_zero byte = byte == 0

-- from the place on where the header ends, each byte is zero
abbrev pub has_zeros : List ℕ → Bool
has_zeros page = list_all is_zero (drop header_size page)

abbrev pub EndsInZeros : List ℕ → Type 0
EndsInZeros page = has_zeros page ≡ true
