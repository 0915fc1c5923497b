use Rattle.std.proofs.Common.{◌≡◌, sym, ◌∙◌, [], drop}
use Rattle.std.proofs.lemmas.List.{append-nil, drop_all}
use Rattle.table_types.proofs.KeyLists.{known-keys-are}
use Rattle.table_types.proofs.known_tables.known_keys.Goals as goal

pub returns : goal.returns
returns c =
    let none : drop c.loop-constraint.constraint-index c.args.constraints.now ≡ [] = drop_all c.loop-constraint.constraint-index c.args.constraints.now c.loop-constraint-test.false in
    sym (append-nil c.loop-constraint.keys) ∙ (rw none at c.loop-constraint.invariant) ∙ known-keys-are c.args.constraints.now
