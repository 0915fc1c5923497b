use Rattle.std.proofs.Common.{◌≡◌, take}
use Rattle.csvio.specs.Forms.{named_sources}
use Rattle.csvio.proofs.formed.named_sources.Given as goal

-- the sources so far
abbrev pub invariant-loop-column : goal.invariant-loop-column
invariant-loop-column l = l.sources ≡ named_sources l.plain l.names (take l.column-index l.columns)
