use Rattle.std.proofs.Common.{rules, ◌≡◌, ◌∙◌, ◌^◌, ◌<◌, List, length, IfOk, ap, subst}
use Rattle.sqlval.specs.declared.value.Value.{Value}
use Rattle.store.specs.Contents as stored
use Rattle.store.specs.View.{AreEntries}
use Rattle.sqlrecord.specs.Storable.{AllStorable}
use Rattle.sqlrecord.specs.Key.{index_key_code}
use Rattle.index_lookups.proofs.StandLemmas.{above_may_pass, block_is}
use Rattle.index_lookups.proofs.blocks.block_behind.Goals as goal

pub returns-in-Ok-clause-rows : goal.returns-in-Ok-clause-rows
returns-in-Ok-clause-rows g c = λ rows h.
    let key = c.args.after.now.key in
    let number = c.args.after.now.number in
    let long : length key ≡ length c.args.place.now.columns = search rules in
    let small : number < 2 ^ 64 = search rules in
    let code : c.as_slice-in-Ok.result.now ≡ index_key_code key number = c.as_slice-in-Ok.ensures ∙ c.in-Ok.ensures.code ∙ ap (λ (k : List Value). index_key_code k number) c.as_slice.ensures in
    subst (λ (xs : List stored.Entry). IfOk c.some_behind.result (λ found. AreEntries found xs)) (block_is c.args.low c.args.high c.args.after c.args.place.now.columns rows c.args.most)
    (c.some_behind.ensures.rows rows h (above_may_pass c.args.low c.args.high c.args.after c.args.place.now.columns c.as_slice-in-Ok.result.now (subst AllStorable c.as_slice.ensures c.in-Ok.ensures.storable) long small code))

pub returns-in-Ok-clause-typed : goal.returns-in-Ok-clause-typed
returns-in-Ok-clause-typed g c = c.some_behind.ensures.typed
