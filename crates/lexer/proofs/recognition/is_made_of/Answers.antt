use Rattle.lexer.proofs.Recognized.{made_iff, unmade}
use Rattle.lexer.proofs.recognition.is_made_of.Goals as goal

pub returns-in-Some : goal.returns-in-Some
returns-in-Some c =
    let iff = made_iff c.args.text.now c.in-Some.rest.now c.args.words.now c.in-Some.ensures.some in
    (λ t. iff.0 (c.is_end.ensures.0 t), λ is. c.is_end.ensures.1 (iff.1 is))

pub returns-in-None : goal.returns-in-None
returns-in-None c = (λ t. cc t, λ is. absurd (unmade c.args.text.now c.args.words.now (λ rest. c.in-None.ensures.none (cc) rest) is))
