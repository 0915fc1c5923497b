use Rattle.std.proofs.Common.{◌≡◌, take}
use Rattle.pool.specs.Pins.{pins_at}
use Rattle.pool.proofs.pins.place_of.Given as goal

abbrev pub invariant-loop-place : goal.invariant-loop-place
invariant-loop-place l = pins_at (take l.place l.pins) l.number ≡ 0
