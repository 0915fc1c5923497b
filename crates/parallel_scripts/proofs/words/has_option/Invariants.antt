use Rattle.std.proofs.Common.{◌≡◌, drop, map}
use Rattle.std.specs.List.{list_any}
use Rattle.parallel_scripts.specs.Words.{is_option}
use Rattle.parallel_scripts.proofs.words.has_option.Given as goal

abbrev pub invariant-loop-word : goal.invariant-loop-word
invariant-loop-word g l = list_any is_option (map g.S.AsStr.text (drop l.word-index l.words)) ≡ list_any is_option (map g.S.AsStr.text l.words)
