use Rattle.std.proofs.Common.{◌≡◌, ◌-◌, take, drop, length}
use Rattle.std.proofs.lemmas.List.{take_rest}
use Rattle.sqlrecord.proofs.KeyLemmas.{has_key_text, no_key_text}
use Rattle.sqlrecord.proofs.key_check.text_length.Goals as goal

pub returns-clause-some : goal.returns-clause-some
returns-clause-some c =
    let all : take (length c.args.bytes.now - 1) (drop 1 c.args.bytes.now) ≡ drop 1 c.args.bytes.now = take_rest c.args.bytes.now 1 in
    let some = rw all at c.in-Some.ensures.some in
    has_key_text c.args.bytes.now c.in-Some.length _ c.requires some.0 some.1 c.is_text_of.ensures c.if-not-is_text_of.false

pub returns-then-not-is_text_of-clause-none : goal.returns-then-not-is_text_of-clause-none
returns-then-not-is_text_of-clause-none c is =
    let all : take (length c.args.bytes.now - 1) (drop 1 c.args.bytes.now) ≡ drop 1 c.args.bytes.now = take_rest c.args.bytes.now 1 in
    let some = rw all at c.in-Some.ensures.some in
    no_key_text c.args.bytes.now c.in-Some.length _ c.requires some.0 some.1 (rw all at c.in-Some.ensures.first) c.is_text_of.ensures c.if-not-is_text_of.true
