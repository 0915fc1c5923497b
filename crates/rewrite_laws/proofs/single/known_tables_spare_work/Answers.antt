use Rattle.algebra.specs.OrderKeys.{column_of, handed_on}
use Rattle.algebra.specs.Sorted.{ascending}
use Rattle.rewrite_laws.proofs.LookupTrees.{q15}
use Rattle.rewrite_laws.proofs.OrderRuleLaws.{q12, keys-begin}
use Rattle.std.specs.Prelude.{map}
use Rattle.rewrite_laws.proofs.single.known_tables_spare_work.Goals as goal

pub returns : goal.returns
returns c =
    record {
      distinct = q12;
      sorted = λ keys items table columns e.
          q15 keys items table columns (keys-begin keys (handed_on (map column_of items) (ascending columns)) e);
    }
