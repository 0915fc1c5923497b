-- Why a row's key has no code. Our own choice.
use Rattle.std.specs.Prelude.{◌≡◌, ℕ, ◌+◌, ◌<◌, List}
use Rattle.sqlval.specs.CodedLength.{key_length}
use Rattle.sqlval.specs.Matching.{key_of}
use Rattle.sqlval.specs.Value.{Row}
use Rattle.page_space.specs.declared.error.SpaceError.TheVariants.{Memory}
use Rattle.index_trees.specs.declared.error.IndexError.{IndexError}
use Rattle.index_trees.specs.declared.error.IndexError.TheVariants.{Space, Key}

-- want of memory, or the key's length
abbrev pub IsOfKey : List ℕ → Row → IndexError → Type 0
IsOfKey columns row (Space fault) = fault ≡ Memory
IsOfKey columns row Key = 600 < key_length (key_of columns row) + 8
