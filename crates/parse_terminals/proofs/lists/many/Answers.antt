use Rattle.std.proofs.Common.{rules, arith, ap, ◌≡◌, ◌∙◌, ◌-◌, true, false, length, refl}
use Rattle.parse_terminals.specs.Readers.{kinds, is_full}
use Rattle.parse_terminals.specs.Readers as read
use Rattle.parse_terminals.proofs.Places.{length_kinds}
use Rattle.parse_terminals.proofs.Turns.{one_more, turn_ends, turn_refuses, turn_goes_on}
use Rattle.parse_terminals.proofs.lists.many.Goals as goal

pub loop-turn-init : goal.loop-turn-init
loop-turn-init g c = λ begins reads b r.
    let count : length c.args.tokens.now ≡ length c.args.tokens.now - 0 = omega arith in
    ap (λ n. read.many_from c.args.limit begins reads n c.args.found (kinds c.args.tokens.now)) (length_kinds c.args.tokens.now ∙ count)

pub returns-in_default : goal.returns-in_default
returns-in_default g c = λ begins reads b r.
    one_more (λ n. read.many_from c.args.limit begins reads n c.loop-turn.found (kinds c.loop-turn.rest.now)) _ c.loop-turn._turn c.loop-turn-test.true (c.loop-turn.invariant begins reads b r)
    ∙ turn_ends c.args.limit begins reads _ c.loop-turn.found _ (rw c.in_default.is at (b c.loop-turn.rest c.begin.result c.begin.ensures))

pub returns-then-is_full : goal.returns-then-is_full
returns-then-is_full g c = λ begins reads b r _.
    let full : is_full c.args.limit (length c.loop-turn.found) ≡ true = search rules in
    one_more (λ n. read.many_from c.args.limit begins reads n c.loop-turn.found (kinds c.loop-turn.rest.now)) _ c.loop-turn._turn c.loop-turn-test.true (c.loop-turn.invariant begins reads b r)
    ∙ turn_refuses c.args.limit begins reads _ c.loop-turn.found _ _ (rw c.in-Some.is at (b c.loop-turn.rest c.begin.result c.begin.ensures)) full

pub returns-in_err-next : goal.returns-in_err-next
returns-in_err-next g c = λ begins reads b r.
    let room : is_full c.args.limit (length c.loop-turn.found) ≡ false = search rules in
    let next = r c.in-Some.before c.in-Some.after c.item.result c.item.ensures in
    rw (one_more (λ n. read.many_from c.args.limit begins reads n c.loop-turn.found (kinds c.loop-turn.rest.now)) _ c.loop-turn._turn c.loop-turn-test.true (c.loop-turn.invariant begins reads b r)
    ∙ turn_goes_on c.args.limit begins reads _ c.loop-turn.found _ _ (rw c.in-Some.is at (b c.loop-turn.rest c.begin.result c.begin.ensures)) room) (search rules)

pub loop-turn-preserved : goal.loop-turn-preserved
loop-turn-preserved g c = λ begins reads b r.
    let room : is_full c.args.limit (length c.loop-turn.found) ≡ false = search rules in
    let next = rw c.in_ok-next.was at (r c.in-Some.before c.in-Some.after c.item.result c.item.ensures) in
    one_more (λ n. read.many_from c.args.limit begins reads n c.loop-turn.found (kinds c.loop-turn.rest.now)) _ c.loop-turn._turn c.loop-turn-test.true (c.loop-turn.invariant begins reads b r)
    ∙ turn_goes_on c.args.limit begins reads _ c.loop-turn.found _ _ (rw c.in-Some.is at (b c.loop-turn.rest c.begin.result c.begin.ensures)) room
    ∙ rw (next, c.in_ok-push.ensures.ok) refl
