use Rattle.std.proofs.Common.{◌≡◌, ap, ◌∙◌, take, Some}
use Rattle.items.specs.Text.{as_text}
use Rattle.plan_lines.proofs.Characters.{first_kept}
use Rattle.plan_lines.proofs.line.Line.into_text.Goals as goal

pub unreachable-requires : goal.unreachable-requires
unreachable-requires c =
    let kept : as_text (take 1000 c.self.inside.codes) ≡ Some (take 1000 c.self.inside.codes) = first_kept c.self.inside.codes c.self.invariant in
    let found : c.from_items.result ≡ Some (take 1000 c.self.inside.codes) = c.from_items.ensures ∙ ap as_text c.truncate.ensures ∙ kept in
    let none = c.in-None.is in
    cc

pub returns : goal.returns
returns c =
    let kept : as_text (take 1000 c.self.inside.codes) ≡ Some (take 1000 c.self.inside.codes) = first_kept c.self.inside.codes c.self.invariant in
    let found : c.from_items.result ≡ Some (take 1000 c.self.inside.codes) = c.from_items.ensures ∙ ap as_text c.truncate.ensures ∙ kept in
    let some = c.in-Some.is in
    let view = c.self.view_is in
    cc
