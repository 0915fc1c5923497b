use Rattle.std.proofs.Common.{refl, subst}
use Rattle.lexer.proofs.Fronts.{split}
use Rattle.lexer.proofs.Recognized.{IsAmong, among_none, among_others}
use Rattle.lexer.proofs.recognition.after_words.Goals as goal

pub returns-in_err-rest-clause-none : goal.returns-in_err-rest-clause-none
returns-in_err-rest-clause-none c = λ _. among_none c.args.words.now c.args.text.now _ _ c.loop-left.rest.now
    (subst (λ left. IsAmong c.args.words.now c.args.text.now left c.loop-left.rest.now) (split c.loop-left.left.now _ c.in-len1-up.len_at_least) c.loop-left.invariant)
    (c.in_err-rest.ensures.none refl)

pub loop-left-preserved : goal.loop-left-preserved
loop-left-preserved c = among_others c.args.words.now c.args.text.now _ _ c.loop-left.rest.now c.in_ok-rest.rest.now
    (subst (λ left. IsAmong c.args.words.now c.args.text.now left c.loop-left.rest.now) (split c.loop-left.left.now _ c.in-len1-up.len_at_least) c.loop-left.invariant)
    c.in_ok-rest.ensures.some
