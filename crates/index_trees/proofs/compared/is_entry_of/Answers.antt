use Rattle.std.proofs.Common.{◌≡◌, ◌∙◌, true, false, sym, ap, subst}
use Rattle.btree_read.specs.declared.entry.Entry.{Entry}
use Rattle.sqlval.specs.Matching.{key_of}
use Rattle.sqlrecord.specs.Key.{index_key_code}
use Rattle.index_trees.specs.Refused.{IsOfKey}
use Rattle.index_trees.proofs.SameLemmas.{same_bytes, bytes_same, entry_is}
use Rattle.index_trees.proofs.compared.is_entry_of.Goals as goal

pub returns-then-not-is_nothing-clause-no : goal.returns-then-not-is_nothing-clause-no
returns-then-not-is_nothing-clause-no c = λ _ is.
    absurd (c.is_nothing.ensures.no c.if-not-is_nothing.true (c.as_slice.ensures ∙ ap (λ (x : Entry). x.value) is))

pub returns-in-Ok-clause-yes : goal.returns-in-Ok-clause-yes
returns-in-Ok-clause-yes c = λ is.
    entry_is c.args.entry.now (index_key_code (key_of c.args.columns.now c.args.found.now.row) c.args.found.now.number)
    (sym c.as_slice-in-Ok.ensures ∙ same_bytes c.as_slice-in-Ok.result.now c.as_slice-in-Ok-2.result.now (sym c.are_same.ensures ∙ is) ∙ c.as_slice-in-Ok-2.ensures ∙ c.in-Ok.ensures.code)
    (sym c.as_slice.ensures ∙ c.is_nothing.ensures.yes c.if-not-is_nothing.false)

pub returns-in-Ok-clause-no : goal.returns-in-Ok-clause-no
returns-in-Ok-clause-no c = λ isnt is.
    let same = bytes_same c.as_slice-in-Ok.result.now c.as_slice-in-Ok-2.result.now (c.as_slice-in-Ok.ensures ∙ ap (λ (x : Entry). x.key) is ∙ sym c.in-Ok.ensures.code ∙ sym c.as_slice-in-Ok-2.ensures) in
    let bad : true ≡ false = sym same ∙ sym c.are_same.ensures ∙ isnt in absurd (cc)

pub returns-in-Err-Key-clause-no : goal.returns-in-Err-Key-clause-no
returns-in-Err-Key-clause-no c = λ _ is. subst (IsOfKey c.args.columns.now c.args.found.now.row) c.in-Err-Key.field-0-is c.in-Err-Key.ensures.refusal
