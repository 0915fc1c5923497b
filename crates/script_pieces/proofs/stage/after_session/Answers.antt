use Rattle.std.proofs.Common.{ℕ, List, Some, sym, subst, ◌∙◌}
use Rattle.script_pieces.specs.declared.stage.Stage.TheVariants.{BlankText, Text}
use Rattle.script_pieces.specs.Cutter.{Steps}
use Rattle.script_pieces.proofs.Cutting.{text_goes_on, text_begins}
use Rattle.script_pieces.proofs.stage.after_session.Goals as goal

pub returns-then-goes_on_blank : goal.returns-then-goes_on_blank
returns-then-goes_on_blank c =
    let P : List ℕ → Type 0 = λ t. Steps c.args.place (BlankText c.args.session) c.args.text.now c.args.byte (BlankText c.args.session) t in
    subst P (sym c.push.ensures) (text_goes_on c.args.place c.args.session c.args.text.now c.args.byte (sym c.goes_on_blank.ensures ∙ c.if-goes_on_blank.true))

pub returns-else-goes_on_blank : goal.returns-else-goes_on_blank
returns-else-goes_on_blank c =
    let P : List ℕ → Type 0 = λ t. Steps c.args.place (BlankText c.args.session) c.args.text.now c.args.byte (Text (Some c.args.session)) t in
    subst P (sym c.push.ensures) (text_begins c.args.place c.args.session c.args.text.now c.args.byte c.requires (sym c.goes_on_blank.ensures ∙ c.if-goes_on_blank.false))
