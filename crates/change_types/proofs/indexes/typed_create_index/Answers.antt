use Rattle.change_types.proofs.indexes.typed_create_index.Goals as goal

pub returns : goal.returns
returns c =
    let key = c.both-key.ensures _ _ (rw c.as_slice-columns.ensures at c.few_columns.ensures) (rw c.as_slice-columns.ensures at c.distinct_names.ensures) in
    c.index_of.ensures _ (c.both.ensures _ _ (c.both-name.ensures _ _ (rw c.as_text.ensures.text at c.new_index.ensures) key) (rw c.as_slice-columns.ensures at c.places_in-places.ensures))
