use Rattle.std.proofs.Common.{◌≡◌}
use Rattle.csvio.specs.Forms.{placed_sources}
use Rattle.csvio.proofs.formed.placed_sources.Given as goal

-- the sources so far
abbrev pub invariant-loop-place : goal.invariant-loop-place
invariant-loop-place l = l.sources ≡ placed_sources l.plain l.columns l.place
