use Rattle.std.proofs.Common.{◌≡◌, ◌∙◌, refl, sym, ap, ℕ, List, [], ◌∷◌, ◌++◌, append-nil}
use Rattle.std.specs.List.{zip}
use Rattle.std.proofs.lemmas.List.{nil_from_length}
use Rattle.sqlval.specs.Value.{Row}
use Rattle.store.specs.Contents.{Entry}
use Rattle.range_lookups.proofs.numbers.paired.Goals as goal

none-beside : (numbers : List ℕ) (rows : List Row) → rows ≡ [] → zip numbers rows ≡ []
none-beside [] rows e = refl
none-beside (n ∷ numbers) [] e = refl
none-beside (n ∷ numbers) (row ∷ rows) e = absurd (cc (e))

pub returns : goal.returns
returns c =
    let none = nil_from_length c.loop-row.row-iterator.rest.items
    (sym c.loop-row.row-iterator.rest.ok.0 ∙ c.in-None.ensures.steps.0) in
    sym (append-nil c.loop-row.entries)
    ∙ ap (λ (es : List Entry). c.loop-row.entries ++ es)
    (sym (none-beside c.loop-row.rest.now c.loop-row.row-iterator.rest.items none))
    ∙ c.loop-row.invariant
