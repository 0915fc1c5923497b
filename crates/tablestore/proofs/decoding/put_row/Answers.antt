use Rattle.std.proofs.Common.{◌++◌, ◌∷◌, [], ◌∙◌, ap, get_or, length, length-append}
use Rattle.store.specs.Contents as stored
use Rattle.btree_read.specs.declared.entry.Entry.{Entry}
use Rattle.btree_read.specs.Nodes.{entry_of}
use Rattle.btree_read.proofs.ListLemmas.{each_append}
use Rattle.tablestore.specs.Held.{RowFits}
use Rattle.tablestore.proofs.DecodeLemmas.{refused}
use Rattle.tablestore.proofs.LeftLemmas.{first_left}
use Rattle.tablestore.proofs.decoding.put_row.Goals as goal

pub returns-in_err-row-clause-kept : goal.returns-in_err-row-clause-kept
returns-in_err-row-clause-kept c = λ more all w.
    first_left c.args.columns.now c.args.found.now (entry_of (get_or c.args.leaf.now.cells c.args.place [])) more all _ w
    (λ one kept fits is on. refused _ c.in_err-row.field-0.0 _ c.from_residual.ensures.1
    (c.in_err-row.ensures.kept one kept fits (c.key.ensures ∙ ap (λ (x : Entry). x.key) is) (c.value.ensures.value ∙ ap (λ (x : Entry). x.value) is)))

pub returns-clause-kept : goal.returns-clause-kept
returns-clause-kept c = λ more all w.
    first_left c.args.columns.now c.args.found.now (entry_of (get_or c.args.leaf.now.cells c.args.place [])) more all _ w
    (λ one kept fits is on.
    let same = c.in_ok-row.ensures.kept one kept fits (c.key.ensures ∙ ap (λ (x : Entry). x.key) is) (c.value.ensures.value ∙ ap (λ (x : Entry). x.value) is) in
    on _ (c.in_ok-push.ensures.ok ∙ ap (λ (e : stored.Entry). c.args.found.now.numbers ++ e.0 ∷ []) same) (c.in_ok-push-2.ensures.ok ∙ ap (λ (e : stored.Entry). c.args.found.now.rows ++ e.1 ∷ []) same))

pub returns-clause-one : goal.returns-clause-one
returns-clause-one c = ap length c.in_ok-push-2.ensures.ok ∙ length-append c.args.found.now.rows (c.in_ok-row.row.row ∷ [])

pub returns-clause-typed : goal.returns-clause-typed
returns-clause-typed c = λ t. rw c.in_ok-push-2.ensures.ok (each_append (RowFits c.args.columns.now) c.args.found.now.rows (c.in_ok-row.row.row ∷ []) t (c.in_ok-row.ensures.typed, tt))
