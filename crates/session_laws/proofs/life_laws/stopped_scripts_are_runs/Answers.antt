use Rattle.std.proofs.Common.{refl}
use Rattle.session_definitions.specs.Script.{printed_replies}
use Rattle.session_laws.proofs.life_laws.stopped_scripts_are_runs.Goals as goal

pub returns : goal.returns
returns c = λ rules old new pieces written h.
    c.scripts_are_runs.ensures rules old new h.done (printed_replies h.replies)
    (record { scene = h.scene; replies = h.replies; carried_out = h.carried_out; text = refl; ended = h.ended })
