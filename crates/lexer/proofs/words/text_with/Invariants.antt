use Rattle.std.proofs.Common.{◌≡◌, length, map}
use Rattle.lexer.specs.Words.{text_with}
use Rattle.lexer.proofs.words.text_with.Given as goal

abbrev pub invariant-loop-table : goal.invariant-loop-table
invariant-loop-table l = text_with (map (λ entry. (entry.0.now, entry.1, entry.2)) l.table) l.word ≡ text_with (map (λ entry. (entry.0.now, entry.1, entry.2)) l.initial.table) l.word

abbrev pub decreases-loop-table : goal.decreases-loop-table
decreases-loop-table l = length l.table
