-- The numbers of tokens.
-- SQL-92, 5.3 <unsigned integer>: a sign is no part of one. The limit is our own choice.
use Rattle.std.specs.Prelude.{ℕ, nat_le, Option, Some, None, if◌then◌else◌}

-- 2 ^ 63 - 1
abbrev pub greatest_number : ℕ
greatest_number = 9223372036854775807

-- the number with this value, if it is within the limit
abbrev pub as_number : ℕ → Option ℕ
as_number n = if nat_le n greatest_number then Some n else None
