use Rattle.std.proofs.Common.{◌∙◌, ap, sym}
use Rattle.key_tables.specs.Among.{is_unknown}
use Rattle.key_tables.proofs.Deciding.{verdict, members-decide}
use Rattle.key_tables.proofs.members.Members.truth_of.Goals as goal

pub returns-then-contains : goal.returns-then-contains
returns-then-contains c = λ values has.
    let members = c.args.self.now in
    sym (members-decide members values (record { value = c.args.x }) has
    ∙ ap (λ b. verdict b (is_unknown c.args.x members.nulls members.integers members.texts)) (sym c.contains.ensures ∙ c.if-contains.true))

pub returns-then-is_unknown : goal.returns-then-is_unknown
returns-then-is_unknown c = λ values has.
    let none = sym c.contains.ensures ∙ c.if-contains.false in
    let unknown = sym c.is_unknown.ensures ∙ c.if-is_unknown.true in
    sym (members-decide c.args.self.now values (record { value = c.args.x }) has ∙ (λ i. verdict (none i) (unknown i)))

pub returns : goal.returns
returns c = λ values has.
    let none = sym c.contains.ensures ∙ c.if-contains.false in
    let known = sym c.is_unknown.ensures ∙ c.if-is_unknown.false in
    sym (members-decide c.args.self.now values (record { value = c.args.x }) has ∙ (λ i. verdict (none i) (known i)))
