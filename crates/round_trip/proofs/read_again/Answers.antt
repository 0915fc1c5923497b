use Rattle.std.proofs.Common.{Some, ◌∙◌}
use Rattle.std.proofs.lemmas.Result.{err_from_is_err_and}
use Rattle.round_trip.proofs.Again.{readable, as_it_was}
use Rattle.round_trip.proofs.read_again.Goals as goal

pub returns-in_err-found : goal.returns-in_err-found
returns-in_err-found c = λ kinds nested is.
    let has = c.in_ok-text.ensures.again in
    let memory = c.in_err-found.ensures.only has.tokens (rw c.as_slice.ensures has.are) in
    let p = err_from_is_err_and c.from_residual-in_err-found.result c.from_residual-in_err-found.ensures.1 in
    rw p.1 (p.2 ∙ memory)

pub returns : goal.returns
returns c = λ kinds nested is.
    let has = c.in_ok-text.ensures.again in
    let same = c.in_ok-found.ensures.only has.tokens (rw c.as_slice.ensures has.are) in
    as_it_was c.args.statement.now c.as_slice-2.result.now c.parse.result
    (readable c.args.statement.now c.in_ok-text.text kinds c.as_slice-2.result.now c.in_ok-text.ensures nested is (c.as_slice-2.ensures.value ∙ same))
    c.parse.ensures.only c.parse.ensures.nesting
