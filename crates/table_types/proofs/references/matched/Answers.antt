use Rattle.table_types.proofs.references.matched.Goals as goal

pub returns : goal.returns
returns c =
    let key = rw (c.as_slice-others.ensures, c.as_slice.ensures) at c.key_listed-key.ensures in
    let count = rw c.as_slice-others.ensures at c.count_matches-count.ensures in
    let types = rw (c.as_slice-others.ensures, c.as_slice-2.ensures) at c.types_match-types.ensures in
    c.done.ensures _ (c.both-2.ensures _ _ key (c.both.ensures _ _ count types))
