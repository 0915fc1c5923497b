use Rattle.std.proofs.Common.{sym, ◌∙◌}
use Rattle.script_pieces.proofs.Cutting.{flush_goes_on}
use Rattle.script_pieces.proofs.stage.after_flush.Goals as goal

pub returns-then-goes_on_blank : goal.returns-then-goes_on_blank
returns-then-goes_on_blank c text = flush_goes_on c.args.place text c.args.byte (sym c.goes_on_blank.ensures ∙ c.if-goes_on_blank.true)
