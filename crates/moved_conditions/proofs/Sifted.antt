-- Conditions, parted by a test.
use Rattle.std.proofs.Common.{◌≡◌, Bool, List, ◌++◌, filter}
use Rattle.algebra.specs.declared.tree.Condition.{Condition}
use Rattle.rules.specs.Conjuncts.{others}

-- of all conditions those before the rest are parted
pub record Sifted (test : Condition → Bool) (passing staying rest all : List Condition) : Type 0 where
  pub passes : passing ++ filter test rest ≡ filter test all
  pub stays : staying ++ others test rest ≡ others test all
