use Rattle.std.proofs.Common.{◌∙◌, subst, Option, Some}
use Rattle.std.specs.FinMap.{get}
use Rattle.store.specs.declared.rows.NumberedRow.{NumberedRow}
use Rattle.store.specs.Indexes.{entries_of, entry_after}
use Rattle.store.specs.View.{IsEntry}
use Rattle.constraints.proofs.Said.{below-min, few-found, none-found}
use Rattle.constraints.proofs.foreseeing.are_few.Goals as goal

pub returns-in-Ok-Some-clause-few : goal.returns-in-Ok-Some-clause-few
returns-in-Ok-Some-clause-few g c = λ sound.
    let entries = entries_of (get (g.S.Store.shows c.args.store.now).working c.args.name.now) in
    let number = c.saturating_mul-number.result in
    c.is_above.ensures.above
    ∙ few-found c.args.count number c.in-Ok-Some.row entries c.saturating_mul-number.ensures c.is_above.ensures.fits
    (subst (λ (found : Option NumberedRow). IsEntry found (entry_after (Some number) entries)) c.in-Ok-Some.field-0-is (c.in-Ok-Some.ensures.row sound))

pub returns-in-Ok-None-clause-few : goal.returns-in-Ok-None-clause-few
returns-in-Ok-None-clause-few g c = λ sound.
    let entries = entries_of (get (g.S.Store.shows c.args.store.now).working c.args.name.now) in
    let number = c.saturating_mul-number.result in
    none-found c.args.count number entries (below-min number _ _ c.saturating_mul-number.ensures)
    (subst (λ (found : Option NumberedRow). IsEntry found (entry_after (Some number) entries)) c.in-Ok-None.field-0-is (c.in-Ok-None.ensures.row sound))
