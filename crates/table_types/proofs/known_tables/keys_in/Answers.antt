use Rattle.std.proofs.Common.{◌∙◌, arith}
use Rattle.std.proofs.lemmas.Result.{err_from_is_err_and}
use Rattle.table_types.specs.ForeignKeys.{element_keys}
use Rattle.table_types.proofs.RuleLists.{parts-done, parts-next, parts-refused, place-moves}
use Rattle.table_types.proofs.known_tables.keys_in.Goals as goal

pub returns-in_err-keys_of_element : goal.returns-in_err-keys_of_element
returns-in_err-keys_of_element c =
    let p = err_from_is_err_and c.from_residual.result c.from_residual.ensures.1 in
    rw (p.1, p.2) (parts-refused (element_keys c.args.definitions.now) c.args.elements.now c.loop-element.element-index c.element-item.result c.loop-element.place
    c.loop-element-test.true c.element-item.is _ c.loop-element.keys _ c.loop-element.invariant.rest c.in_err-keys_of_element.ensures)

pub loop-element-preserved : goal.loop-element-preserved
loop-element-preserved c = record {
  rest = rw (c.in_ok-append.ensures.ok, c.next_place-place.ensures)
      (parts-next (element_keys c.args.definitions.now) c.args.elements.now c.loop-element.element-index c.element-item.result c.loop-element.place
      c.loop-element-test.true c.element-item.is c.loop-element.keys c.in_ok-keys_of_element.field-0 c.in_ok-keys_of_element.ensures.ok ∙ c.loop-element.invariant.rest);
  places = rw c.next_place-place.ensures (omega (arith, place-moves c.loop-element.place c.element-item.result, c.loop-element.invariant.places));
}

pub returns : goal.returns
returns c =
    parts-done (element_keys c.args.definitions.now) c.args.elements.now c.loop-element.element-index c.loop-element.place c.loop-element.keys _
    c.loop-element-test.false c.loop-element.invariant.rest
