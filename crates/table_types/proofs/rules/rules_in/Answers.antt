use Rattle.std.proofs.Common.{◌∙◌, arith}
use Rattle.std.proofs.lemmas.Result.{err_from_is_err_and}
use Rattle.typing.specs.Known.{known}
use Rattle.table_types.specs.Checks.{without_key}
use Rattle.table_types.specs.ForeignKeys.{referencing_of}
use Rattle.table_types.specs.Tables.{element_rules}
use Rattle.table_types.proofs.RuleLists.{parts-done, parts-next, parts-refused, place-moves}
use Rattle.table_types.proofs.rules.rules_in.Goals as goal

pub returns-in_err-element_rules : goal.returns-in_err-element_rules
returns-in_err-element_rules c =
    let p = err_from_is_err_and c.from_residual.result c.from_residual.ensures.1 in
    rw (p.1, p.2) (parts-refused (element_rules (without_key c.args.frame.now) (referencing_of (known c.args.schema.now) c.args.tree.now c.args.definitions.now) c.args.definitions.now) c.args.tree.now.elements c.loop-element.element-index c.element-item.result c.loop-element.place
    (rw c.as_slice-element-items.ensures at c.loop-element-test.true) (rw c.as_slice-element-items.ensures at c.element-item.is) _ c.loop-element.rules _ c.loop-element.invariant.rest c.in_err-element_rules.ensures)

pub loop-element-preserved : goal.loop-element-preserved
loop-element-preserved c = record {
  rest = rw (c.in_ok-append.ensures.ok, c.next_place-place.ensures)
      (parts-next (element_rules (without_key c.args.frame.now) (referencing_of (known c.args.schema.now) c.args.tree.now c.args.definitions.now) c.args.definitions.now) c.args.tree.now.elements c.loop-element.element-index c.element-item.result c.loop-element.place
      (rw c.as_slice-element-items.ensures at c.loop-element-test.true) (rw c.as_slice-element-items.ensures at c.element-item.is) c.loop-element.rules c.in_ok-element_rules.field-0 c.in_ok-element_rules.ensures.ok ∙ c.loop-element.invariant.rest);
  places = rw c.next_place-place.ensures (omega (arith, place-moves c.loop-element.place c.element-item.result, c.loop-element.invariant.places));
}

pub returns : goal.returns
returns c =
    parts-done (element_rules (without_key c.args.frame.now) (referencing_of (known c.args.schema.now) c.args.tree.now c.args.definitions.now) c.args.definitions.now) c.args.tree.now.elements c.loop-element.element-index c.loop-element.place c.loop-element.rules _
    (rw c.as_slice-element-items.ensures at c.loop-element-test.false) c.loop-element.invariant.rest
