use Rattle.std.proofs.Common.{rules, ◌≡◌, ◌^◌, ◌<◌, ◌∙◌, List, length, IfOk, subst}
use Rattle.store.specs.Contents as stored
use Rattle.store.specs.View.{AreEntries}
use Rattle.sqlrecord.specs.Key.{index_key_code}
use Rattle.index_lookups.proofs.StandLemmas.{sought_above_is, key_above_may_pass}
use Rattle.index_lookups.proofs.blocks.sought_above.Goals as goal

pub returns-in-Ok-clause-rows : goal.returns-in-Ok-clause-rows
returns-in-Ok-clause-rows g c = λ rows h.
    let long : length c.args.key.now ≡ length c.args.place.now.columns = search rules in
    let small : c.args.number < 2 ^ 64 = search rules in
    let code : c.as_slice.result.now ≡ index_key_code c.args.key.now c.args.number = c.as_slice.ensures ∙ c.in-Ok.ensures.code in
    subst (λ (xs : List stored.Entry). IfOk c.some_behind.result (λ found. AreEntries found xs)) (sought_above_is c.args.key c.args.number c.args.place.now.columns rows c.args.most)
    (c.some_behind.ensures.rows rows h (key_above_may_pass c.args.key c.args.number c.args.place.now.columns c.as_slice.result.now c.in-Ok.ensures.storable long small code))

pub returns-in-Ok-clause-typed : goal.returns-in-Ok-clause-typed
returns-in-Ok-clause-typed g c = c.some_behind.ensures.typed
