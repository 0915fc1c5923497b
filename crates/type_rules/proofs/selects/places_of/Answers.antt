use Rattle.std.proofs.Common.{◌∙◌}
use Rattle.std.proofs.lemmas.Result.{err_from_is_err_and}
use Rattle.type_rules.proofs.FindsLemmas.{Finds-each_item, each-finds, each-next}
use Rattle.scopes.specs.Seen.{frames}
use Rattle.type_rules.specs.Selects.{own_place}
use Rattle.type_rules.proofs.selects.places_of.Goals as goal

pub returns-in_err-own_place : goal.returns-in_err-own_place
returns-in_err-own_place c =
    let p = err_from_is_err_and c.from_residual.result c.from_residual.ensures.1 in
    rw (p.1, p.2) (Finds-each_item _ (own_place (frames c.args.scope.now)) c.args.groups.now c.loop-column.column-index c.column-item.result c.loop-column-test.true c.column-item.is c.in_err-own_place.ensures)

pub loop-column-preserved : goal.loop-column-preserved
loop-column-preserved c =
    rw c.in_ok-push.ensures.ok
    (each-next (own_place (frames c.args.scope.now)) c.args.groups.now c.loop-column.column-index c.column-item.result c.loop-column.places c.in_ok-own_place.field-0 c.loop-column-test.true c.column-item.is c.in_ok-own_place.ensures.ok ∙ c.loop-column.invariant)

pub returns : goal.returns
returns c = each-finds (own_place (frames c.args.scope.now)) c.args.groups.now c.loop-column.column-index c.loop-column.places c.loop-column-test.false c.loop-column.invariant
