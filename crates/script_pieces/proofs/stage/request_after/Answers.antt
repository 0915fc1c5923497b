use Rattle.std.proofs.Common.{◌++◌, refl}
use Rattle.script_pieces.specs.declared.stage.Stage.TheVariants.{Blank, At, Digits, AfterFlush, BlankText, Wrong}
use Rattle.script_pieces.specs.PieceMeaning as meaning
use Rattle.script_pieces.specs.PieceMeaning.{text_of_call}
use Rattle.script_pieces.specs.Cutter.{asked}
use Rattle.script_pieces.proofs.Cutting.{at_stage, end_of_at, end_of_letters, end_of_blank, end_of_flush, end_of_session}
use Rattle.script_pieces.proofs.stage.request_after.Goals as goal

pub returns-in-Blank : goal.returns-in-Blank
returns-in-Blank c text tail end =
    at_stage c.args.stage Blank c.args.place text tail meaning.Nothing c.in-Blank.is (end_of_blank c.args.place text tail end c.requires)

pub returns-in-Digits : goal.returns-in-Digits
returns-in-Digits c text tail end =
    at_stage c.args.stage (Digits c.in-Digits.value) c.args.place text tail (asked c.choice.result (text_of_call (text ++ tail))) c.in-Digits.is
    (c.choice.ensures c.args.place text tail (text_of_call (text ++ tail)) end)

pub returns-in-AfterFlush : goal.returns-in-AfterFlush
returns-in-AfterFlush c text tail end =
    at_stage c.args.stage AfterFlush c.args.place text tail meaning.Flushes c.in-AfterFlush.is (end_of_flush c.args.place text tail end c.requires)

pub returns-in-BlankText : goal.returns-in-BlankText
returns-in-BlankText c text tail end =
    at_stage c.args.stage (BlankText c.in-BlankText.session) c.args.place text tail (meaning.Chooses c.in-BlankText.session) c.in-BlankText.is
    (end_of_session c.args.place c.in-BlankText.session text tail end c.requires)

pub returns-in-At : goal.returns-in-At
returns-in-At c text tail end =
    at_stage c.args.stage At c.args.place text tail meaning.Wrong c.in-At.is (end_of_at c.args.place text tail end)

pub returns-in-Flush : goal.returns-in-Flush
returns-in-Flush c text tail end =
    at_stage c.args.stage _ c.args.place text tail meaning.Wrong c.in-Flush.is (end_of_letters c.args.place _ text tail end)

pub returns-in-Wrong : goal.returns-in-Wrong
returns-in-Wrong c text tail end = at_stage c.args.stage Wrong c.args.place text tail meaning.Wrong c.in-Wrong.is refl
