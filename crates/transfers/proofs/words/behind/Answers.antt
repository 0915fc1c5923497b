use Rattle.std.proofs.Common.{◌≡◌, ◌≢◌, ◌∙◌, map, refl, sym, ap, rules}
use Rattle.std.proofs.lemmas.List.{nil_from_length}
use Rattle.transfers.specs.Words.{StandsFirst}
use Rattle.transfers.proofs.words.behind.Goals.{in-Some+else-eq, in_default}
use Rattle.transfers.proofs.words.behind.Goals as goal

pub returns : goal.returns
returns g c = StandsFirst.absent refl refl (λ more is. elim c.match-split_first.branch [
  | in-Some+else-eq w ↦
      let text = g.S.AsStr.text in
      let words = ap (map text) w.in-Some.ensures.cases.0 in
      let same : text w.in-Some.word.now ≡ c.args.option.now = cc (sym words ∙ is) in
      let other : text w.in-Some.word.now ≢ c.args.option.now = search rules in
      other same
  | in_default w ↦
      let none = ap (map g.S.AsStr.text) (nil_from_length c.args.words.now w.in_default.ensures.cases) in
      absurd (cc (sym none ∙ is))
])
