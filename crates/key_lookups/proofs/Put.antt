-- The key of some columns, put together from the first on.
use Rattle.std.proofs.Common.{List, ◌++◌, Option}
use Rattle.std.specs.Option.{option_map}
use Rattle.sqlval.specs.declared.value.Value.{Value}

-- what stands before a key that is found
abbrev pub behind : List Value → Option (List Value) → Option (List Value)
behind made key = option_map (λ rest. made ++ rest) key
