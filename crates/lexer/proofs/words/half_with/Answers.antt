use Rattle.std.proofs.Common.{◌≡◌, ◌<◌, ◌-◌, ◌/◌, ◌∙◌, length, take, drop, length-drop, ap, sym, arith}
use Rattle.std.proofs.lemmas.List.{take_rest}
use Rattle.lexer.proofs.Halves.{in_low, in_high}
use Rattle.lexer.proofs.words.half_with.Goals as goal

pub returns-in-Less-clause-rising : goal.returns-in-Less-clause-rising
returns-in-Less-clause-rising c =
    let within : length c.args.table.now / 2 < length c.args.table.now = omega (arith, c.requires.many) in
    (in_low c.args.table.now (length c.args.table.now / 2) _ c.args.text.now c.as_bytes.result.now within c.as_bytes.ensures.value
    (sym c.cmp.ensures ∙ c.in-Less.is) c.requires.rising).0

pub returns-in-Less-clause-same : goal.returns-in-Less-clause-same
returns-in-Less-clause-same c =
    let within : length c.args.table.now / 2 < length c.args.table.now = omega (arith, c.requires.many) in
    (in_low c.args.table.now (length c.args.table.now / 2) _ c.args.text.now c.as_bytes.result.now within c.as_bytes.ensures.value
    (sym c.cmp.ensures ∙ c.in-Less.is) c.requires.rising).1

pub returns-in_default-clause-rising : goal.returns-in_default-clause-rising
returns-in_default-clause-rising c =
    let within : length c.args.table.now / 2 < length c.args.table.now = omega (arith, c.requires.many) in
    (in_high c.args.table.now (length c.args.table.now / 2) _ c.args.text.now c.as_bytes.result.now within c.as_bytes.ensures.value
    (λ less. c.in_default.not-Less (c.cmp.ensures ∙ less)) c.requires.rising).0

pub returns-in_default-clause-same : goal.returns-in_default-clause-same
returns-in_default-clause-same c =
    let within : length c.args.table.now / 2 < length c.args.table.now = omega (arith, c.requires.many) in
    (in_high c.args.table.now (length c.args.table.now / 2) _ c.args.text.now c.as_bytes.result.now within c.as_bytes.ensures.value
    (λ less. c.in_default.not-Less (c.cmp.ensures ∙ less)) c.requires.rising).1

pub returns-in_default-clause-fewer : goal.returns-in_default-clause-fewer
returns-in_default-clause-fewer c =
    let lines = c.args.table.now in
    let size : length (take (length lines - length lines / 2) (drop (length lines / 2) lines)) ≡ length lines - length lines / 2 =
    ap length (take_rest lines (length lines / 2)) ∙ length-drop (length lines / 2) lines in
    omega (arith, size, c.requires.many)
