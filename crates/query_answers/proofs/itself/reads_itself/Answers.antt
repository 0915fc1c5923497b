use Rattle.std.proofs.Common.{sym, ◌∙◌}
use Rattle.query_answers.proofs.itself.reads_itself.Goals as goal

pub returns : goal.returns
returns c = λ goes. record {
  names = c.in-Some.names;
  scans = rw c.in-Some.is at c.in_ok-tables_scanned.ensures;
  distinct = sym (rw c.as_slice.ensures at c.are_distinct.ensures) ∙ goes;
  parts = sym c.in_ok-parts.ensures ∙ c.is_empty.ensures.0 c.if-not-is_empty.false;
}
