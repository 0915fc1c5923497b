use Rattle.std.proofs.Common.{◌≡◌, ◌++◌, ◌∷◌, [], ℕ, List, None, sym, subst, ◌∙◌}
use Rattle.script_pieces.specs.declared.stage.Stage.TheVariants.{Blank, Text}
use Rattle.script_pieces.specs.Pieces.{minus}
use Rattle.script_pieces.specs.PieceMeaning.{text_of_call}
use Rattle.script_pieces.specs.Cutter.{Steps}
use Rattle.script_pieces.proofs.Cutting.{blank_goes_on, blank_at_any, blank_minus_at, blank_stops}
use Rattle.script_pieces.proofs.stage.after_blank.Goals as goal
use Rattle.script_pieces.proofs.stage.after_blank.Goals.{in-AfterMinus, in_default+else-byte-eq64}

pub returns-then-goes_on_blank : goal.returns-then-goes_on_blank
returns-then-goes_on_blank c = blank_goes_on c.args.place c.args.text.now c.args.byte (sym c.goes_on_blank.ensures ∙ c.if-goes_on_blank.true)

pub returns-in_default : goal.returns-in_default
returns-in_default c =
    blank_at_any c.args.place c.args.text.now c.args.byte (sym c.goes_on_blank.ensures ∙ c.if-goes_on_blank.false) c.if-byte-eq64.true c.in_default.not-AfterMinus

pub returns : goal.returns
returns c =
    let P : List ℕ → Type 0 = λ t. Steps c.args.place Blank c.args.text.now c.args.byte (Text None) t in
    elim c.match-place.branch [
      | in-AfterMinus w ↦
          let whole : c.push-2.new.self ≡ text_of_call (text_of_call (c.args.text.now ++ minus ∷ []) ++ c.args.byte ∷ []) = cc (c.push-2.ensures, w.push.ensures, w.text-is) in
          subst P (sym whole) (blank_minus_at c.args.place c.args.text.now c.args.byte w.in-AfterMinus.is c.requires (sym c.goes_on_blank.ensures ∙ c.if-goes_on_blank.false))
      | in_default+else-byte-eq64 w ↦
          let whole : c.push-2.new.self ≡ text_of_call (c.args.text.now ++ c.args.byte ∷ []) = cc (c.push-2.ensures, w.text-is) in
          subst P (sym whole) (blank_stops c.args.place c.args.text.now c.args.byte c.requires (sym c.goes_on_blank.ensures ∙ c.if-goes_on_blank.false) (λ _. w.if-byte-eq64.false) w.in_default.not-AfterMinus)
    ]
