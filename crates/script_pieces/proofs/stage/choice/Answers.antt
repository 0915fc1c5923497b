use Rattle.std.proofs.Common.{sym, ◌∙◌}
use Rattle.std.proofs.lemmas.Bool.{true≢false}
use Rattle.script_pieces.proofs.Cutting.{end_of_choice, end_of_digits}
use Rattle.script_pieces.proofs.stage.choice.Goals as goal

pub returns-then-is_session : goal.returns-then-is_session
returns-then-is_session c place text tail call end =
    let bounds = c.is_session.ensures.0 c.if-is_session.true in
    end_of_choice place c.args.number text tail end bounds.0 bounds.1

pub returns-else-is_session : goal.returns-else-is_session
returns-else-is_session c place text tail call end =
    end_of_digits place c.args.number text tail end (λ least greatest. true≢false (sym (c.is_session.ensures.1 (least, greatest)) ∙ c.if-is_session.false))
