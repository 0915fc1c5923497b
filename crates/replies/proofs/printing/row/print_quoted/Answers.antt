use Rattle.std.proofs.Common.{◌≤◌, ◌<◌, ◌+◌, length, drop, arith}
use Rattle.std.proofs.lemmas.List.{take_rest, length-drop}
use Rattle.std.proofs.lemmas.Result.{err_from_is_err_and}
use Rattle.replies.specs.Printed.{quotes_doubled}
use Rattle.replies.proofs.Written.{HasTaken, HasTaken-next, Writes-last, Writes-stop}
use Rattle.replies.proofs.Runs.{plain_text, run_taken}
use Rattle.replies.proofs.printing.row.print_quoted.Goals as goal

pub overflow_add-rest : goal.overflow_add-rest
overflow_add-rest g c =
    let within : c.in-Some.at < length c.loop-at.rest.now = c.in-Some.ensures.0.high in
    let few : length c.loop-at.rest.now ≤ length c.args.text.now = c.loop-at.invariant.0 in
    omega (arith, within, few, c.type_inv.text)

pub returns-in_err-put-clause-writes : goal.returns-in_err-put-clause-writes
returns-in_err-put-clause-writes g c =
    let p = err_from_is_err_and c.from_residual.result c.from_residual.ensures.1 in
    let found = c.in-Some.ensures in
    Writes-stop _ _ _ _ _ _ _ _ _ _ c.in_err-put.was p.1
    (run_taken _ _ _ c.loop-at.rest.now c.in-Some.at found.0.high found.0.before found.1 c.loop-at.invariant.1) c.put.ensures.writes

pub returns-in_err-put-2-clause-writes : goal.returns-in_err-put-2-clause-writes
returns-in_err-put-2-clause-writes g c =
    let p = err_from_is_err_and c.from_residual-in_err-put-2.result c.from_residual-in_err-put-2.ensures.1 in
    let found = c.in-Some.ensures in
    let run = run_taken _ _ _ c.loop-at.rest.now c.in-Some.at found.0.high found.0.before found.1 c.loop-at.invariant.1 in
    Writes-stop _ _ _ _ _ (quotes_doubled (drop (c.in-Some.at + 1) c.loop-at.rest.now)) _ _ _ _ c.in_err-put-2.was p.1
    (HasTaken-next _ _ _ _ _ _ _ _ c.in_ok-put.was run c.put.ensures.writes) c.put-in-Some.ensures.writes

pub loop-at-preserved : goal.loop-at-preserved
loop-at-preserved g c =
    let found = c.in-Some.ensures in
    let few = c.loop-at.invariant.0 in
    let run = run_taken _ _ _ c.loop-at.rest.now c.in-Some.at found.0.high found.0.before found.1 c.loop-at.invariant.1 in
    let left = quotes_doubled (drop (c.in-Some.at + 1) c.loop-at.rest.now) in
    let taken : HasTaken _ _ _ left = HasTaken-next _ _ _ _ _ left _ _ c.in_ok-put-2.was (HasTaken-next _ _ _ _ _ _ _ _ c.in_ok-put.was run c.put.ensures.writes) c.put-in-Some.ensures.writes in
    rw (take_rest c.loop-at.rest.now (c.in-Some.at + 1)) (omega (arith, few, length-drop (c.in-Some.at + 1) c.loop-at.rest.now), taken)

pub returns-clause-writes : goal.returns-clause-writes
returns-clause-writes g c =
    let plain = plain_text c.loop-at.rest.now c.in_default.ensures in
    Writes-last _ _ _ _ _ c.loop-at.rest.now (rw plain at c.loop-at.invariant.1) c.put-2.ensures.writes
