use Rattle.std.proofs.Common.{◌≡◌, [], Some, sym, ap, ◌∙◌, arith}
use Rattle.sqlrecord.specs.Key.{number_code}
use Rattle.tablestore.proofs.KeyLemmas.{number_in}
use Rattle.tablestore.proofs.decoding.number_of.Goals as goal

pub returns-then-number-ge-NUMBERS-clause-kept : goal.returns-then-number-ge-NUMBERS-clause-kept
returns-then-number-ge-NUMBERS-clause-kept c = λ n small is.
    let same : c.in_ok-number.number ≡ n = c.in_ok-number.ensures.some [] n (omega (arith, small)) is in
    absurd (omega (arith, same, small, c.if-number-ge-NUMBERS.true))

pub returns-clause-kept : goal.returns-clause-kept
returns-clause-kept c = λ n small is. ap Some (c.in_ok-number.ensures.some [] n (omega (arith, small)) is)

pub returns-clause-code : goal.returns-clause-code
returns-clause-code c =
    let one = number_in c.args.key.now c.if-key-ne-KEY_BYTES.false c.type_inv.key in
    one.code ∙ ap number_code (sym (c.in_ok-number.ensures.some [] one.number one.small one.code))
