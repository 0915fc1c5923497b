-- Digests: numbers that alike rows share. What they are matters to no promise; rows that differ may
-- share one too.
use Rattle.std.specs.Prelude.{ℕ, ◌+◌, ◌*◌, ◌%◌, ◌^◌, List, fold, unsigned_abs}
use Rattle.sqlval.specs.declared.value.Value.{Value}
use Rattle.sqlval.specs.declared.value.Value.TheVariants.{Null, Int, Text}
use Rattle.sqlval.specs.Value.{Row}

-- a digest with one number more
abbrev pub mixed : ℕ → ℕ → ℕ
mixed digest part = (((digest * 31) % 2 ^ 64) + part) % 2 ^ 64

abbrev pub text_digest : List ℕ → ℕ
text_digest codes = fold mixed 1 codes

abbrev pub value_digest : Value → ℕ
value_digest Null = 0
value_digest (Int number) = unsigned_abs number
value_digest (Text codes) = text_digest codes

abbrev pub row_digest : Row → ℕ
row_digest row = fold (λ digest value. mixed digest (value_digest value)) 0 row
