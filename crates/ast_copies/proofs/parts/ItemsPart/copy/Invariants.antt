use Rattle.std.proofs.Common.{◌≡◌, take}
use Rattle.ast_copies.proofs.parts.ItemsPart.copy.Given as goal

abbrev pub invariant-loop-part : goal.invariant-loop-part
invariant-loop-part g l = l.copied ≡ take l.part-index l.part-items
