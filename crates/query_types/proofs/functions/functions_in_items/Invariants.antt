use Rattle.std.proofs.Common.{map, take}
use Rattle.typing.specs.Finds.{Finds}
use Rattle.typing.specs.Known.{Known}
use Rattle.typing.specs.Part.{functions_of}
use Rattle.typing.specs.Typing.{item_part}
use Rattle.scopes.specs.Seen.{frames}
use Rattle.query_types.specs.Parts.{functions_in}
use Rattle.query_types.proofs.functions.functions_in_items.Given as goal

-- those of the items so far
abbrev pub invariant-loop-item : goal.invariant-loop-item
invariant-loop-item l = (k : Known) → Finds l.functions (functions_in (frames l.scope) (functions_of (map (item_part k) (take l.item-index l.items))))
