use Rattle.table_types.proofs.rules.check_rule.Goals as goal

pub returns : goal.returns
returns c =
    rw c.in_ok-text.ensures at (c.kept.ensures _ (c.both-found.ensures _ _ (rw c.as_slice.ensures at c.few_characters.ensures) c.typed_check.ensures))
