use Rattle.std.proofs.Common.{Some, ◌∙◌}
use Rattle.std.proofs.lemmas.Result.{err_from_is_err_and}
use Rattle.round_trip.proofs.Again.{readable_condition, condition_as_it_was}
use Rattle.round_trip.proofs.Inside.{where_it_stands}
use Rattle.round_trip.proofs.read_condition_again.Goals as goal

pub returns-in_err-found-clause-begins : goal.returns-in_err-found-clause-begins
returns-in_err-found-clause-begins c = λ kinds rest nested is.
    let has = c.in_ok-text.ensures.again in
    let memory = c.in_err-found.ensures.only has.tokens (rw c.as_slice.ensures has.are) in
    let p = err_from_is_err_and c.from_residual-in_err-found.result c.from_residual-in_err-found.ensures.1 in
    rw p.1 (p.2 ∙ memory)

pub returns-in_err-found-clause-inside : goal.returns-in_err-found-clause-inside
returns-in_err-found-clause-inside c = where_it_stands c.args.condition.now _ (returns-in_err-found-clause-begins c)

pub returns-clause-begins : goal.returns-clause-begins
returns-clause-begins c = λ kinds rest nested is.
    let has = c.in_ok-text.ensures.again in
    let same = c.in_ok-found.ensures.only has.tokens (rw c.as_slice.ensures has.are) in
    condition_as_it_was c.args.condition.now c.as_slice-2.result.now c.parse_condition.result
    (readable_condition c.args.condition.now c.in_ok-text.text kinds rest c.as_slice-2.result.now c.in_ok-text.ensures nested is (c.as_slice-2.ensures.value ∙ same))
    c.parse_condition.ensures.only c.parse_condition.ensures.nesting

pub returns-clause-inside : goal.returns-clause-inside
returns-clause-inside c = where_it_stands c.args.condition.now _ (returns-clause-begins c)
