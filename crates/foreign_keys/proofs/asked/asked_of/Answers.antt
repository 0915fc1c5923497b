use Rattle.std.proofs.Common.{◌∙◌, sym, ap, subst, List, map, arith}
use Rattle.std.specs.Prelude.{Contains}
use Rattle.sqlval.specs.declared.schema.Table.{Table}
use Rattle.foreign_keys.specs.Asked.{question_of}
use Rattle.foreign_keys.proofs.Asking.{questions_over, tables-next, tables-end}
use Rattle.foreign_keys.proofs.asked.asked_of.Goals as goal

pub loop-table-preserved : goal.loop-table-preserved
loop-table-preserved c = (
  tables-next (map question_of c.loop-table.asked) _ c.args.name.now c.as_slice-table-items.result.now c.loop-table.table-index c.table-item.result c.loop-table-test.true c.table-item.is
      c.in_ok-put_questions.ensures.questions c.loop-table.invariant.0,
  c.in_ok-put_questions.ensures.ways
      (subst (λ (tables : List Table). Contains tables c.table-item.result) c.as_slice-table-items.ensures (c.loop-table.table-index, c.loop-table-test.true, sym c.table-item.is)) c.loop-table.invariant.1,
)

pub returns : goal.returns
returns c = record {
  questions = tables-end (map question_of c.loop-table.asked) c.args.name.now c.as_slice-table-items.result.now c.loop-table.table-index (omega arith) c.loop-table.invariant.0
      ∙ ap (questions_over c.args.name.now) c.as_slice-table-items.ensures;
  ways = c.loop-table.invariant.1;
}
