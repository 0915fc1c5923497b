use Rattle.std.proofs.Common.{◌≡◌, Some, None, sym, ap, ◌∙◌}
use Rattle.sqlrecord.specs.Key.{number_code}
use Rattle.btree_read.proofs.AscendLemmas.{root_ascends}
use Rattle.tablestore.specs.Held.{entries_of}
use Rattle.tablestore.proofs.NumberLemmas.{next_of_none, next_of_last, past_none, past_last, last_of_rows}
use Rattle.tablestore.proofs.number.next_number.Goals as goal

pub returns-in_default-clause-found : goal.returns-in_default-clause-found
returns-in_default-clause-found g c = λ owned rows held. next_of_none rows (sym (c.in_ok-last.ensures.found owned (entries_of rows) held.tree) ∙ c.in_default.is)

pub returns-in_default-clause-past : goal.returns-in_default-clause-past
returns-in_default-clause-past g c = λ owned entries tree. past_none entries (sym (c.in_ok-last.ensures.found owned entries tree) ∙ c.in_default.is)

pub returns-in-Some-number_of-clause-found : goal.returns-in-Some-number_of-clause-found
returns-in-Some-number_of-clause-found g c = λ owned rows held.
    let key : c.in-Some.last ≡ number_code c.in-Some-number_of.number = sym c.as_slice.ensures ∙ c.in-Some-number_of.ensures.code in
    next_of_last rows c.in-Some-number_of.number c.in-Some-number_of.ensures.below held.kept (root_ascends _ _ owned (entries_of rows) held.tree)
    (sym (c.in_ok-last.ensures.found owned (entries_of rows) held.tree) ∙ c.in-Some.is ∙ ap Some key)

pub returns-in-Some-number_of-clause-past : goal.returns-in-Some-number_of-clause-past
returns-in-Some-number_of-clause-past g c = λ owned entries tree.
    let key : c.in-Some.last ≡ number_code c.in-Some-number_of.number = sym c.as_slice.ensures ∙ c.in-Some-number_of.ensures.code in
    past_last entries c.in-Some-number_of.number c.in-Some-number_of.ensures.below (root_ascends _ _ owned entries tree)
    (sym (c.in_ok-last.ensures.found owned entries tree) ∙ c.in-Some.is ∙ ap Some key)

pub returns-clause-refusal : goal.returns-clause-refusal
returns-clause-refusal g c = λ owned rows held.
    let last = last_of_rows rows c.in-Some.last held.kept (sym (c.in_ok-last.ensures.found owned (entries_of rows) held.tree) ∙ c.in-Some.is) in
    let bad : None ≡ Some last.number = c.in-None.ensures.kept last.number last.below (c.as_slice.ensures ∙ last.code) in
    absurd (cc)
