use Rattle.std.proofs.Common.{◌≡◌, length, map}
use Rattle.lexer.specs.Words.{supports}
use Rattle.lexer.proofs.words.supports.Given as goal

abbrev pub invariant-loop-table : goal.invariant-loop-table
invariant-loop-table l = supports (map (λ entry. (entry.0.now, entry.1, entry.2)) l.table) l.word ≡ supports (map (λ entry. (entry.0.now, entry.1, entry.2)) l.initial.table) l.word

abbrev pub decreases-loop-table : goal.decreases-loop-table
decreases-loop-table l = length l.table
