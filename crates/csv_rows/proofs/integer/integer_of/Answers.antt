use Rattle.std.proofs.Common.{◌≡◌, sym, suc, ◌∙◌, subst, rules, arith}
use Rattle.std.specs.Str.{IsUtf8}
use Rattle.std.proofs.lemmas.Str.{IsUtf8-from_ascii}
use Rattle.std.proofs.lemmas.Str.Pattern.{strip_prefix_char}
use Rattle.itoa.proofs.Decimal.{IsAscii-signed_decimal}
use Rattle.csv_rows.proofs.Integers.{as_natural, as_below}
use Rattle.csv_rows.proofs.integer.integer_of.Goals as goal

pub returns-in_err-text-clause-again : goal.returns-in_err-text-clause-again
returns-in_err-text-clause-again c number fits e =
    let utf8 : IsUtf8 c.args.field.now = subst IsUtf8 e (IsUtf8-from_ascii _ (IsAscii-signed_decimal number fits)) in search rules

pub returns-in_err-natural_of-in-None-clause-again : goal.returns-in_err-natural_of-in-None-clause-again
returns-in_err-natural_of-in-None-clause-again c number fits e =
    let same : c.in_ok-text.text.now ≡ c.args.field.now = search rules in
    let plain = rw c.in-None.is at (strip_prefix_char 45 c.in_ok-text.text.now _ c.strip_prefix.ensures.cases (omega arith)) in
    let n = as_natural number c.in_ok-text.text.now fits plain (e ∙ sym same) in
    let found = c.natural_of.ensures.again n.0 (omega (arith, n.2)) n.3 in absurd (cc (found, c.in_err-natural_of-in-None.was))

pub returns-in_err-natural_of-in-Some-clause-again : goal.returns-in_err-natural_of-in-Some-clause-again
returns-in_err-natural_of-in-Some-clause-again c number fits e =
    let same : c.in_ok-text.text.now ≡ c.args.field.now = search rules in
    let minus = rw c.in-Some.is at (strip_prefix_char 45 c.in_ok-text.text.now _ c.strip_prefix.ensures.cases (omega arith)) in
    let n = as_below number c.in_ok-text.text.now _ fits minus (e ∙ sym same) in
    let found = c.natural_of-in-Some.ensures.again (suc n.0) (omega (arith, n.2)) n.3 in absurd (cc (found, c.in_err-natural_of-in-Some.was))

pub returns-in_ok-natural_of-in-None-clause-again : goal.returns-in_ok-natural_of-in-None-clause-again
returns-in_ok-natural_of-in-None-clause-again c number fits e =
    let same : c.in_ok-text.text.now ≡ c.args.field.now = search rules in
    let plain = rw c.in-None.is at (strip_prefix_char 45 c.in_ok-text.text.now _ c.strip_prefix.ensures.cases (omega arith)) in
    let n = as_natural number c.in_ok-text.text.now fits plain (e ∙ sym same) in
    let found = c.natural_of.ensures.again n.0 (omega (arith, n.2)) n.3 in
    let was = c.in_ok-natural_of-in-None.was in search rules
