use Rattle.std.proofs.Common.{◌≡◌, ℕ, ◌+◌, ◌++◌, [], ◌∙◌, List, map, drop, sym, refl, ap, subst, length, arith}
use Rattle.std.proofs.lemmas.List.{drop_all}
use Rattle.catalog_records.proofs.Exits as exit
use Rattle.btree_read.specs.declared.entry.Entry.{Entry}
use Rattle.btree_read.specs.Nodes.{entry_of, entries_in}
use Rattle.btree_read.proofs.EntryLemmas.{leaves_from}
use Rattle.catalog.specs.Decoded.{AreLeft}
use Rattle.catalog.proofs.DecodeLemmas.{all_left, none_left}
use Rattle.catalog.proofs.decoding.records_of.Goals as goal

pub loop-leaf-init : goal.loop-leaf-init
loop-leaf-init c = λ all coded same. all_left _ _ all c.new-records.ensures coded (c.leaves-leaves.ensures ∙ same)

pub loop-leaf-preserved : goal.loop-leaf-preserved
loop-leaf-preserved c = λ all coded same.
    let leaves = c.leaves-leaves.result.now in
    let i = c.loop-leaf.leaf-index in
    let rest = entries_in (drop (i + 1) leaves) in
    c.in_ok-put_records.ensures rest all
    (subst (λ (es : List Entry). AreLeft c.loop-leaf.records es all)
    (leaves_from leaves i c.leaf-item.result c.loop-leaf-test.true c.leaf-item.is ∙ ap (λ (cs : List (List ℕ)). map entry_of cs ++ rest) (sym c.page-page.ensures))
    (c.loop-leaf.invariant all coded same))

pub returns-in_err-put_records : goal.returns-in_err-put_records
returns-in_err-put_records c = λ all coded same.
    let leaves = c.leaves-leaves.result.now in
    let i = c.loop-leaf.leaf-index in
    let rest = entries_in (drop (i + 1) leaves) in
    exit.refused _ c.in_err-put_records.field-0.0 all c.from_residual.ensures.1
    (c.in_err-put_records.ensures rest all
    (subst (λ (es : List Entry). AreLeft c.loop-leaf.records es all)
    (leaves_from leaves i c.leaf-item.result c.loop-leaf-test.true c.leaf-item.is ∙ ap (λ (cs : List (List ℕ)). map entry_of cs ++ rest) (sym c.page-page.ensures))
    (c.loop-leaf.invariant all coded same)))

pub returns : goal.returns
returns c = λ all coded same.
    none_left c.loop-leaf.records all
    (subst (λ (ls : List (List (List ℕ))). AreLeft c.loop-leaf.records (entries_in ls) all)
    (drop_all c.loop-leaf.leaf-index c.leaves-leaves.result.now (omega (arith, c.loop-leaf-test.false))) (c.loop-leaf.invariant all coded same))
