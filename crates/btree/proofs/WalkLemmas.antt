-- The first entry of a tree.
use Rattle.std.proofs.Common.{◌≡◌, List, [], ◌∷◌, Option, Some, None, refl}
use Rattle.btree_read.specs.declared.entry.Entry.{Entry}
use Rattle.btree_read.specs.declared.entry.Start.TheVariants.{At}
use Rattle.btree_read.specs.Sorted.{first_from}
use Rattle.btree_read.proofs.OrderLemmas.{empty_lowest}

abbrev pub first_of : List Entry → Option Entry
first_of [] = None
first_of (e ∷ es) = Some e

-- from the least key on all are found
pub from_least : (es : List Entry) → first_from At [] es ≡ first_of es
from_least [] = refl
from_least (e ∷ es) = rw (empty_lowest e.key) refl
