use Rattle.std.proofs.Common.{sym, ap, ◌∙◌}
use Rattle.btree_read.specs.declared.entry.Entry.{Entry}
use Rattle.tablestore.proofs.decoding.row_of_entry.Goals as goal

pub returns-in-Ok-clause-kept : goal.returns-in-Ok-clause-kept
returns-in-Ok-clause-kept c = λ e kept fits is.
    c.in-Ok.ensures.kept e kept fits (c.as_slice.ensures ∙ ap (λ (x : Entry). x.key) is) (c.as_slice-2.ensures ∙ ap (λ (x : Entry). x.value) is)

pub returns-in-Err-clause-kept : goal.returns-in-Err-clause-kept
returns-in-Err-clause-kept c = λ e kept fits is.
    c.in-Err.ensures.kept e kept fits (c.as_slice.ensures ∙ ap (λ (x : Entry). x.key) is) (c.as_slice-2.ensures ∙ ap (λ (x : Entry). x.value) is)

pub returns-in-Ok-clause-numbered : goal.returns-in-Ok-clause-numbered
returns-in-Ok-clause-numbered c = record { below = c.in-Ok.ensures.below; code = sym c.as_slice.ensures ∙ c.in-Ok.ensures.code }
