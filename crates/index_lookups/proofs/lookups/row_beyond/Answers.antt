use Rattle.std.proofs.Common.{rules, ◌≡◌, ◌∙◌, ◌^◌, ◌<◌, ℕ, List, length, Some, ap, subst}
use Rattle.std.proofs.lemmas.Result.{IfOk-weaker}
use Rattle.sqlval.specs.declared.value.Value.{Value}
use Rattle.store.specs.View.{position_of}
use Rattle.sqlrecord.specs.Storable.{AllStorable}
use Rattle.sqlrecord.specs.Key.{index_key_code}
use Rattle.index_lookups.specs.Begun.{IsNextRow, IsRowBehind}
use Rattle.index_lookups.proofs.StandLemmas.{row_is_next, walk_kept}
use Rattle.index_lookups.proofs.lookups.row_beyond.Goals as goal

pub returns-in-Ok-clause-row : goal.returns-in-Ok-clause-row
returns-in-Ok-clause-row g c = λ rows h.
    let key = c.args.after.now.key in
    let number = c.args.after.now.number in
    let long : length key ≡ length c.args.place.now.columns = search rules in
    let small : number < 2 ^ 64 = search rules in
    let code : c.as_slice-in-Ok.result.now ≡ index_key_code key number = c.as_slice-in-Ok.ensures ∙ c.in-Ok.ensures.code ∙ ap (λ (k : List Value). index_key_code k number) c.as_slice.ensures in
    IfOk-weaker c.row_behind.result (IsRowBehind c.args.place.now.columns rows c.as_slice-in-Ok.result.now) (IsNextRow c.args.place.now.columns rows (Some (position_of c.args.after.now)))
    (λ found is. row_is_next c.args.place.now.columns rows key number found (subst AllStorable c.as_slice.ensures c.in-Ok.ensures.storable) long small (walk_kept (g.R.PageReader.pages c.args.space.now) c.args.place.now.root c.args.place.now.rows_root c.args.place.now.types c.args.place.now.columns rows h)
    (subst (λ (k : List ℕ). IsRowBehind c.args.place.now.columns rows k found) code is))
    (c.row_behind.ensures.row rows h)

pub returns-in-Ok-clause-typed : goal.returns-in-Ok-clause-typed
returns-in-Ok-clause-typed g c = c.row_behind.ensures.typed
