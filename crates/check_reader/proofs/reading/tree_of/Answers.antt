use Rattle.check_reader.proofs.Conditions.{tree-found, tree-only}
use Rattle.check_reader.proofs.reading.tree_of.Goals as goal

pub returns-in-Ok : goal.returns-in-Ok
returns-in-Ok c = record {
  found = tree-found c.args.text.now c.in-Ok.tokens.items c.parse_condition.result c.in-Ok.ensures.found (rw c.as_slice.ensures.value at c.parse_condition.ensures.found);
  only = λ kinds tree spelled parsed nested.
      tree-only c.in-Ok.tokens.items spelled.tokens kinds tree c.parse_condition.result (c.in-Ok.ensures.only spelled.tokens spelled.are) spelled.kinds_are
      (rw c.as_slice.ensures.value at c.parse_condition.ensures.only) (λ e n. (rw c.as_slice.ensures.value at c.parse_condition.ensures.nesting).0 e n) parsed nested;
}

pub returns-in-Err : goal.returns-in-Err
returns-in-Err c = record {
  found = tt;
  only = λ kinds tree spelled parsed nested. c.in-Err.ensures.only spelled.tokens spelled.are;
}
