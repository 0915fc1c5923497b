use Rattle.std.proofs.Common.{◌++◌, List, ℕ, subst, sym}
use Rattle.script_pieces.specs.declared.stage.Stage.TheVariants.{Blank}
use Rattle.script_pieces.specs.PieceMeaning as meaning
use Rattle.script_pieces.specs.PieceMeaning.{text_of_call}
use Rattle.script_pieces.specs.Cutter.{WouldAsk}
use Rattle.script_pieces.proofs.Cutting.{at_stage, end_of_minus_at}
use Rattle.script_pieces.proofs.stage.request_after_minus.Goals as goal

pub returns-in-Blank : goal.returns-in-Blank
returns-in-Blank c tail end =
    let P : List ℕ → Type 0 = λ t. WouldAsk c.args.place Blank c.args.text.now tail (meaning.Calls (text_of_call (t ++ tail))) in
    at_stage c.args.stage Blank c.args.place c.args.text.now tail (meaning.Calls (text_of_call (c.push.new.self ++ tail))) c.in-Blank.is
    (subst P (sym c.push.ensures) (end_of_minus_at c.args.place c.args.text.now tail c.requires end))
