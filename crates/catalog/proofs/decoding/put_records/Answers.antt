use Rattle.std.proofs.Common.{◌≡◌, ℕ, ◌+◌, ◌<◌, ◌++◌, ◌∷◌, [], ◌∙◌, List, map, drop, ap, subst, get_or, length, arith}
use Rattle.std.proofs.lemmas.List.{drop_all}
use Rattle.catalog_records.specs.declared.record.Record.{Record}
use Rattle.btree_read.specs.declared.entry.Entry.{Entry}
use Rattle.btree_read.specs.Nodes.{entry_of}
use Rattle.btree_read.proofs.EntryLemmas.{cells_from}
use Rattle.catalog.specs.Decoded.{AreLeft}
use Rattle.catalog.proofs.DecodeLemmas.{first_left, refused}
use Rattle.catalog.proofs.decoding.put_records.Goals as goal

pub loop-i-preserved : goal.loop-i-preserved
loop-i-preserved c = λ more all w.
    let cells = c.args.leaf.now.cells in
    let i = c.loop-i.i in
    first_left c.loop-i.records (entry_of (get_or cells i [])) (map entry_of (drop (i + 1) cells) ++ more) all _
    (subst (λ (es : List Entry). AreLeft c.loop-i.records (es ++ more) all) (cells_from cells i (omega arith)) (c.loop-i.invariant more all w))
    (λ one coded is on.
    let same = c.in_ok-record.ensures one coded (c.key.ensures ∙ ap (λ (x : Entry). x.key) is) (c.value.ensures.value ∙ ap (λ (x : Entry). x.value) is) in
    on _ (c.in_ok-push.ensures.ok ∙ ap (λ (r : Record). c.loop-i.records ++ r ∷ []) same))

pub returns-in_err-record : goal.returns-in_err-record
returns-in_err-record c = λ more all w.
    let cells = c.args.leaf.now.cells in
    let i = c.loop-i.i in
    first_left c.loop-i.records (entry_of (get_or cells i [])) (map entry_of (drop (i + 1) cells) ++ more) all _
    (subst (λ (es : List Entry). AreLeft c.loop-i.records (es ++ more) all) (cells_from cells i (omega arith)) (c.loop-i.invariant more all w))
    (λ one coded is on. refused _ c.in_err-record.field-0.0 _ c.from_residual.ensures.1
    (c.in_err-record.ensures one coded (c.key.ensures ∙ ap (λ (x : Entry). x.key) is) (c.value.ensures.value ∙ ap (λ (x : Entry). x.value) is)))

pub returns : goal.returns
returns c = λ more all w.
    subst (λ (cs : List (List ℕ)). AreLeft c.loop-i.records (map entry_of cs ++ more) all)
    (drop_all c.loop-i.i c.args.leaf.now.cells (omega (arith, c.loop-i-test.false, c.loop-i.auto.i-end, c.len-i-end.ensures.length))) (c.loop-i.invariant more all w)
