use Rattle.table_types.proofs.constraints.typed_constraints.Goals as goal

pub returns : goal.returns
returns c =
    rw c.requires.defined
    (rw (c.as_slice.ensures, c.in_ok-frame.ensures, c.as_text.ensures.text, c.requires.defined) at (c.constraints_of.ensures _ (c.both.ensures _ _ c.names_in-names.ensures c.rules_in-rules.ensures)))
