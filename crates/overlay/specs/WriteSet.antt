-- What a transaction's changes show.
use Rattle.pool.specs.Pages.{PageMap, over, pages_in}
use Rattle.overlay.specs.Undone.{Undone}
use Rattle.overlay.specs.declared.write_set.WriteSet.{WriteSet}

-- the pages written since the mark
abbrev pub fresh_of : WriteSet → PageMap
fresh_of c = pages_in c.fresh

-- the pages written before the mark
abbrev pub settled_of : WriteSet → PageMap
settled_of c = over (pages_in c.newer) (pages_in c.older)

-- the pages written at all: the newer over the older
abbrev pub private_of : WriteSet → PageMap
private_of c = over (fresh_of c) (settled_of c)

-- what is kept of the pages that were undone last
abbrev pub undone_of : WriteSet → Undone
undone_of c = record { size = c.undone_size; counts = c.undone_counts }
