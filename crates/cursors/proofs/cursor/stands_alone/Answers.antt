use Rattle.std.proofs.Common.{sym, ◌∙◌}
use Rattle.cursors.proofs.cursor.stands_alone.Goals as goal

pub returns-in-Ok : goal.returns-in-Ok
returns-in-Ok c = (
  λ alone. sym c.in-Ok.ensures ∙ c.is_empty.ensures.0 alone,
  λ none. c.is_empty.ensures.1 (c.in-Ok.ensures ∙ none),
)
