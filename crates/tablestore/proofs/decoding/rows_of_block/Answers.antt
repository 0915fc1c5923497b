use Rattle.std.proofs.Common.{ℕ, ◌+◌, ◌-◌, ◌++◌, ◌∙◌, List, map, take, drop, sym, ap, subst, length, arith}
use Rattle.std.specs.List.{AllByRecursion}
use Rattle.std.proofs.lemmas.List.{drop_all}
use Rattle.sqlval.specs.Value.{Row}
use Rattle.btree_read.specs.declared.entry.Entry.{Entry}
use Rattle.btree_read.specs.Nodes.{entry_of, entries_in}
use Rattle.btree_read.proofs.EntryLemmas.{leaves_from}
use Rattle.tablestore.specs.Held.{AreLeft, RowFits}
use Rattle.tablestore.proofs.DecodeLemmas.{refused}
use Rattle.tablestore.proofs.LeftLemmas.{all_left, none_left, all_taken, nothing_taken}
use Rattle.tablestore.proofs.decoding.rows_of_block.Goals as goal

pub loop-leaf-init : goal.loop-leaf-init
loop-leaf-init c = record {
  left = λ all kept fits same.
      all_left c.args.columns.now _ _ all c.new.ensures c.new-2.ensures kept fits
      (all_taken _ c.args.most c.new-2.result (drop c.args.block.now.first (entries_in c.leaves-leaves.result.now)) c.new-2.ensures
      ∙ ap (λ (es : List Entry). take c.args.most (drop c.args.block.now.first es)) c.leaves-leaves.ensures ∙ same);
  typed = subst (λ (rs : List Row). AllByRecursion (RowFits c.args.columns.now) rs) (sym c.new-2.ensures) tt;
}

pub loop-leaf-preserved : goal.loop-leaf-preserved
loop-leaf-preserved c =
    let leaves = c.leaves-leaves.result.now in
    let i = c.loop-leaf.leaf-index in
    let rest = entries_in (drop (i + 1) leaves) in
    record {
      left = λ all kept fits same.
          subst (λ (n : ℕ). AreLeft c.args.columns.now c.put_some.new.found (take (c.args.most - length c.put_some.new.found.rows) (drop n rest)) all)
          (sym (c.saturating_sub-passed.ensures ∙ ap (λ (n : ℕ). c.loop-leaf.passed - n) c.len.ensures.length))
          (c.in_ok-put_some.ensures.kept rest all
          (subst (λ (es : List Entry). AreLeft c.args.columns.now c.loop-leaf.found (take (c.args.most - length c.loop-leaf.found.rows) (drop c.loop-leaf.passed es)) all)
          (leaves_from leaves i c.leaf-item.result c.loop-leaf-test.true c.leaf-item.is ∙ ap (λ (cs : List (List ℕ)). map entry_of cs ++ rest) (sym c.page-page.ensures))
          (c.loop-leaf.invariant.left all kept fits same)));
      typed = c.in_ok-put_some.ensures.typed c.loop-leaf.invariant.typed;
    }

pub returns-in_err-put_some-clause-kept : goal.returns-in_err-put_some-clause-kept
returns-in_err-put_some-clause-kept c = λ all kept fits same.
    let leaves = c.leaves-leaves.result.now in
    let i = c.loop-leaf.leaf-index in
    let rest = entries_in (drop (i + 1) leaves) in
    refused _ c.in_err-put_some.field-0.0 _ c.from_residual.ensures.1
    (c.in_err-put_some.ensures.kept rest all
    (subst (λ (es : List Entry). AreLeft c.args.columns.now c.loop-leaf.found (take (c.args.most - length c.loop-leaf.found.rows) (drop c.loop-leaf.passed es)) all)
    (leaves_from leaves i c.leaf-item.result c.loop-leaf-test.true c.leaf-item.is ∙ ap (λ (cs : List (List ℕ)). map entry_of cs ++ rest) (sym c.page-page.ensures))
    (c.loop-leaf.invariant.left all kept fits same)))

pub returns-clause-kept : goal.returns-clause-kept
returns-clause-kept c = λ all kept fits same.
    none_left c.args.columns.now c.loop-leaf.found all
    (subst (λ (es : List Entry). AreLeft c.args.columns.now c.loop-leaf.found es all)
    (ap (λ (ls : List (List (List ℕ))). take (c.args.most - length c.loop-leaf.found.rows) (drop c.loop-leaf.passed (entries_in ls)))
    (drop_all c.loop-leaf.leaf-index c.leaves-leaves.result.now (omega (arith, c.loop-leaf-test.false)))
    ∙ nothing_taken (c.args.most - length c.loop-leaf.found.rows) c.loop-leaf.passed)
    (c.loop-leaf.invariant.left all kept fits same))
