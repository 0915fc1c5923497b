use Rattle.std.proofs.Common.{◌≡◌, true, length, map}
use Rattle.lexer.specs.Words.{are_rising, word_with}
use Rattle.lexer.proofs.words.word_with.Given as goal

abbrev pub invariant-loop-table : goal.invariant-loop-table
invariant-loop-table l = (are_rising (map (λ entry. (entry.0.now, entry.1, entry.2)) l.table) ≡ true)
    × (word_with (map (λ entry. (entry.0.now, entry.1, entry.2)) l.table) l.text ≡ word_with (map (λ entry. (entry.0.now, entry.1, entry.2)) l.initial.table) l.text)

abbrev pub decreases-loop-table : goal.decreases-loop-table
decreases-loop-table l = length l.table
