use Rattle.std.proofs.Common.{◌≡◌, ◌∙◌, sym, ◌<◌, length, map, ◌∷◌, arith, rules}
use Rattle.algebra.specs.OrderKeys.{column_of, handed_on}
use Rattle.algebra.specs.Sorted.{ascending}
use Rattle.rules.specs.OrderRules.{keys_begin}
use Rattle.rule_steps.proofs.Bounded.{column-gone, columns-past, no-columns}
use Rattle.rule_steps.proofs.orders.keys_begin.Goals as goal

pub returns-in_default : goal.returns-in_default
returns-in_default c =
    let items = map column_of c.args.items.now in
    let within : c.loop-key.key-index < length c.args.keys.now = omega (arith, c.loop-key-test.true) in
    let past : length c.loop-key.columns.now ≡ 0 = search (rules) in
    columns-past c.args.keys.now c.loop-key.key-index items c.loop-key.columns.now
    (keys_begin c.args.keys.now (handed_on items (ascending c.args.columns.now))) within
    (no-columns c.loop-key.columns.now past) c.loop-key.invariant

pub returns-in_default-place_of : goal.returns-in_default-place_of
returns-in_default-place_of c =
    let items = map column_of c.args.items.now in
    let within : c.loop-key.key-index < length c.args.keys.now = omega (arith, c.loop-key-test.true) in
    let first : c.loop-key.columns.now ≡ c.in-Some.column.now ∷ c.in-Some.rest.now = search (rules) in
    column-gone c.args.keys.now c.loop-key.key-index items c.loop-key.columns.now c.in-Some.column.now c.in-Some.rest.now
    (keys_begin c.args.keys.now (handed_on items (ascending c.args.columns.now))) within first
    (sym c.place_of.ensures ∙ c.in_default-place_of.is) c.loop-key.invariant
