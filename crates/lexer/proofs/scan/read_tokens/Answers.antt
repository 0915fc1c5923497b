use Rattle.std.proofs.Common.{◌≡◌, arith}
use Rattle.std.proofs.lemmas.Result.{err_from_is_err_and}
use Rattle.lexer.specs.Reading.{Stop, Reads, next}
use Rattle.lexer.proofs.Whole.{no_token, a_token, a_fault, one_more}
use Rattle.lexer.proofs.scan.read_tokens.Goals as goal

pub returns-in_err-kind-clause-fault : goal.returns-in_err-kind-clause-fault
returns-in_err-kind-clause-fault c =
    let p = err_from_is_err_and c.from_residual.result c.from_residual.ensures.1 in
    rw (p.1, p.2) (λ other. a_fault c.args.text.now c.skip_gap-here.result.now c.loop-found.found.items c.loop-found.last c.loop-found.invariant.within
    c.skip_gap-here.ensures.value _ c.loop-found.invariant.before (c.in_err-kind.ensures.step other))

pub returns-in_default-clause-found : goal.returns-in_default-clause-found
returns-in_default-clause-found c =
    let ended : next c.skip_gap-here.result.now ≡ Stop = rw c.in_default.is at c.in_ok-kind.ensures.step in
    no_token c.args.text.now c.skip_gap-here.result.now c.loop-found.found.items c.loop-found.last c.loop-found.invariant.within
    c.skip_gap-here.ensures.value c.loop-found.invariant.before ended

pub loop-found-preserved : goal.loop-found-preserved
loop-found-preserved c =
    let reads : next c.skip_gap-here.result.now ≡ Reads c.in-Some.kind c.in-Some.rest.now = rw c.in-Some.is at c.in_ok-kind.ensures.step in
    let token = a_token c.args.text.now c.skip_gap-here.result.now c.loop-found.found.items c.loop-found.last c.loop-found.invariant.within
    c.skip_gap-here.ensures.value c.in-Some.rest.now c.in-Some.kind reads in
    record {
      within = omega arith;
      before = rw c.in_ok-push.ensures.items (one_more c.args.text.now c.loop-found.found.items _ 0 c.loop-found.last c.loop-found.invariant.before token);
    }
