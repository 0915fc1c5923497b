use Rattle.std.proofs.Common.{◌≡◌, drop, None}
use Rattle.streams.specs.Numbers.{last_of}
use Rattle.streams.proofs.ranges.last_number.Given as goal

abbrev pub invariant-loop-number : goal.invariant-loop-number
invariant-loop-number l = last_of l.last (drop l.number-index l.numbers) ≡ last_of None l.numbers
