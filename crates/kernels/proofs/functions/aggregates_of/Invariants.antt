use Rattle.std.proofs.Common.{◌≡◌, map, take}
use Rattle.algebra.specs.declared.tree.Tree.{Tree-F}
use Rattle.algebra.specs.Meaning.{Layer, TreeMeaning, function_by}
use Rattle.kernels.specs.Aggregates.{kind_of}
use Rattle.kernels.proofs.functions.aggregates_of.Given as goal

abbrev pub invariant-loop-function : goal.invariant-loop-function
invariant-loop-function l = (step : Layer Tree-F → TreeMeaning) → l.aggregates ≡ map kind_of (map (function_by step) (take l.function-index l.functions))
