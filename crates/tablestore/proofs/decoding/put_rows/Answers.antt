use Rattle.std.proofs.Common.{ℕ, ◌+◌, ◌++◌, List, map, drop, subst, arith}
use Rattle.std.proofs.lemmas.List.{drop_all}
use Rattle.btree_read.specs.declared.entry.Entry.{Entry}
use Rattle.btree_read.specs.Nodes.{entry_of}
use Rattle.btree_read.proofs.EntryLemmas.{cells_from}
use Rattle.tablestore.specs.Held.{AreLeft}
use Rattle.tablestore.proofs.DecodeLemmas.{refused}
use Rattle.tablestore.proofs.decoding.put_rows.Goals as goal

pub loop-i-preserved : goal.loop-i-preserved
loop-i-preserved c =
    let cells = c.args.leaf.now.cells in
    let i = c.loop-i.i in
    record {
      left = λ more all w.
          c.in_ok-put_row.ensures.kept (map entry_of (drop (i + 1) cells) ++ more) all
          (subst (λ (es : List Entry). AreLeft c.args.columns.now c.loop-i.found (es ++ more) all) (cells_from cells i (omega arith)) (c.loop-i.invariant.left more all w));
      typed = λ t. c.in_ok-put_row.ensures.typed (c.loop-i.invariant.typed t);
    }

pub returns-in_err-put_row-clause-kept : goal.returns-in_err-put_row-clause-kept
returns-in_err-put_row-clause-kept c = λ more all w.
    let cells = c.args.leaf.now.cells in
    let i = c.loop-i.i in
    refused _ c.in_err-put_row.field-0.0 _ c.from_residual.ensures.1
    (c.in_err-put_row.ensures.kept (map entry_of (drop (i + 1) cells) ++ more) all
    (subst (λ (es : List Entry). AreLeft c.args.columns.now c.loop-i.found (es ++ more) all) (cells_from cells i (omega arith)) (c.loop-i.invariant.left more all w)))

pub returns-clause-kept : goal.returns-clause-kept
returns-clause-kept c = λ more all w.
    subst (λ (cs : List (List ℕ)). AreLeft c.args.columns.now c.loop-i.found (map entry_of cs ++ more) all)
    (drop_all c.loop-i.i c.args.leaf.now.cells (omega (arith, c.loop-i-test.false, c.loop-i.auto.i-end, c.len-i-end.ensures.length))) (c.loop-i.invariant.left more all w)
