use Rattle.std.proofs.Common.{ℕ, List, sym, subst}
use Rattle.script_pieces.specs.declared.stage.Stage.{Stage}
use Rattle.script_pieces.specs.declared.stage.Stage.TheVariants.{Text}
use Rattle.script_pieces.specs.Cutter.{Steps}
use Rattle.script_pieces.proofs.Cutting.{call_goes_on}
use Rattle.script_pieces.proofs.stage.stage_after.Goals as goal

pub returns-in-Flush : goal.returns-in-Flush
returns-in-Flush c =
    let P : Stage → Type 0 = λ s. Steps c.args.place s c.args.text.now c.args.byte c.after_letters.result c.args.text.now in
    subst P (sym c.in-Flush.is) (c.after_letters.ensures c.args.place c.args.text.now c.requires)

pub returns-in-Text : goal.returns-in-Text
returns-in-Text c =
    let P : Stage → Type 0 = λ s. Steps c.args.place s c.args.text.now c.args.byte (Text c.in-Text.session) c.push.new.self in
    let Q : List ℕ → Type 0 = λ t. Steps c.args.place (Text c.in-Text.session) c.args.text.now c.args.byte (Text c.in-Text.session) t in
    subst P (sym c.in-Text.is) (subst Q (sym c.push.ensures) (call_goes_on c.args.place c.in-Text.session c.args.text.now c.args.byte))
