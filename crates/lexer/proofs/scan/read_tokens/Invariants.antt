use Rattle.std.proofs.Common.{◌≤◌, ◌-◌, length}
use Rattle.lexer.specs.Tokens.{AreTokensBetween}
use Rattle.lexer.proofs.scan.read_tokens.Given as goal

abbrev pub invariant-loop-found : goal.invariant-loop-found
invariant-loop-found l = record { within : l.last ≤ length l.text; before : AreTokensBetween l.text 0 l.found.items l.last }

abbrev pub decreases-loop-found : goal.decreases-loop-found
decreases-loop-found l = length l.text - l.last
