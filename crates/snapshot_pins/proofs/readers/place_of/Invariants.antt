use Rattle.std.proofs.Common.{◌≡◌, drop}
use Rattle.snapshot_pins.specs.Listed.{reader_of}
use Rattle.snapshot_pins.proofs.readers.place_of.Given as goal

abbrev pub invariant-loop-place : goal.invariant-loop-place
invariant-loop-place l = reader_of l.reader (drop l.place l.readers) ≡ reader_of l.reader l.readers
