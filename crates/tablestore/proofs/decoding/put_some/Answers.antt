use Rattle.std.proofs.Common.{ℕ, ◌+◌, ◌-◌, ◌++◌, [], ◌∙◌, List, map, take, drop, sym, ap, subst, get_or, length, arith}
use Rattle.std.proofs.lemmas.List.{drop_all}
use Rattle.btree_read.specs.declared.entry.Entry.{Entry}
use Rattle.btree_read.specs.Nodes.{entry_of}
use Rattle.btree_read.proofs.EntryLemmas.{cells_from}
use Rattle.tablestore.specs.Held.{AreLeft}
use Rattle.tablestore.proofs.DecodeLemmas.{refused}
use Rattle.tablestore.proofs.LeftLemmas.{drop_parts, one_taken, none_taken}
use Rattle.tablestore.proofs.decoding.put_some.Goals as goal

pub loop-i-init : goal.loop-i-init
loop-i-init c = record {
  left = λ more all w.
      subst (λ (es : List Entry). AreLeft c.args.columns.now c.args.found.now (take (c.args.most - length c.args.found.now.rows) es) all) (drop_parts c.args.passed c.args.leaf.now.cells more) w;
  typed = λ t. t;
}

pub loop-i-preserved : goal.loop-i-preserved
loop-i-preserved c =
    let cells = c.args.leaf.now.cells in
    let i = c.loop-i.i in
    let most = c.args.most in
    record {
      left = λ more all w.
          let rest : List Entry = map entry_of (drop (i + 1) cells) ++ drop (c.args.passed - length cells) more in
          subst (λ (n : ℕ). AreLeft c.args.columns.now c.put_row.new.found (take (most - n) rest) all) (sym c.in_ok-put_row.ensures.one)
          (c.in_ok-put_row.ensures.kept (take (most - (length c.loop-i.found.rows + 1)) rest) all
          (subst (λ (es : List Entry). AreLeft c.args.columns.now c.loop-i.found es all)
          (ap (λ (es : List Entry). take (most - length c.loop-i.found.rows) (es ++ drop (c.args.passed - length cells) more)) (cells_from cells i (omega arith))
          ∙ one_taken (length c.loop-i.found.rows) most (entry_of (get_or cells i [])) rest (omega arith))
          (c.loop-i.invariant.left more all w)));
      typed = λ t. c.in_ok-put_row.ensures.typed (c.loop-i.invariant.typed t);
    }

pub returns-in_err-put_row-clause-kept : goal.returns-in_err-put_row-clause-kept
returns-in_err-put_row-clause-kept c = λ more all w.
    let cells = c.args.leaf.now.cells in
    let i = c.loop-i.i in
    let most = c.args.most in
    let rest : List Entry = map entry_of (drop (i + 1) cells) ++ drop (c.args.passed - length cells) more in
    refused _ c.in_err-put_row.field-0.0 _ c.from_residual.ensures.1
    (c.in_err-put_row.ensures.kept (take (most - (length c.loop-i.found.rows + 1)) rest) all
    (subst (λ (es : List Entry). AreLeft c.args.columns.now c.loop-i.found es all)
    (ap (λ (es : List Entry). take (most - length c.loop-i.found.rows) (es ++ drop (c.args.passed - length cells) more)) (cells_from cells i (omega arith))
    ∙ one_taken (length c.loop-i.found.rows) most (entry_of (get_or cells i [])) rest (omega arith))
    (c.loop-i.invariant.left more all w)))

pub returns-then-len-most-clause-kept : goal.returns-then-len-most-clause-kept
returns-then-len-most-clause-kept c = λ more all w.
    let cells = c.args.leaf.now.cells in
    subst (λ (es : List Entry). AreLeft c.args.columns.now c.loop-i.found es all)
    (none_taken (length c.loop-i.found.rows) c.args.most (map entry_of (drop c.loop-i.i cells) ++ drop (c.args.passed - length cells) more) (drop (c.args.passed - length cells) more) (omega arith))
    (c.loop-i.invariant.left more all w)

pub returns-clause-kept : goal.returns-clause-kept
returns-clause-kept c = λ more all w.
    let cells = c.args.leaf.now.cells in
    subst (λ (cs : List (List ℕ)). AreLeft c.args.columns.now c.loop-i.found (take (c.args.most - length c.loop-i.found.rows) (map entry_of cs ++ drop (c.args.passed - length cells) more)) all)
    (drop_all c.loop-i.i cells (omega (arith, c.loop-i-test.false, c.loop-i.auto.i-end, c.len-i-end.ensures.length))) (c.loop-i.invariant.left more all w)
