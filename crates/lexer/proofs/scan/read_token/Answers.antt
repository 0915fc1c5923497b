use Rattle.std.proofs.Common.{◌∙◌, ap, arith}
use Rattle.std.proofs.lemmas.Result.{err_from_is_err_and}
use Rattle.lexer.specs.Reading.{next}
use Rattle.lexer.proofs.Fronts.{split, shorter}
use Rattle.lexer.proofs.scan.read_token.Goals as goal

pub returns-in_err-found-clause-step : goal.returns-in_err-found-clause-step
returns-in_err-found-clause-step c =
    let p = err_from_is_err_and c.from_residual.result c.from_residual.ensures.1 in
    rw (p.1, p.2) (λ other. ap next (split c.args.here.now 0 c.in-len1-up.len_at_least) ∙ c.in_err-found.ensures.step other)

pub returns : goal.returns
returns c = record {
  step = ap next (split c.args.here.now 0 c.in-len1-up.len_at_least) ∙ c.in_ok-found.ensures.step;
  shorter = omega (arith, c.in_ok-found.ensures.shorter, shorter c.args.here.now);
}
