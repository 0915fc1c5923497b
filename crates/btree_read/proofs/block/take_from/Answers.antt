use Rattle.std.proofs.Common.{◌≤◌, ◌-◌, ◌++◌, ◌∷◌, [], ◌∙◌, ap, sym, subst, map, take, drop, length, length-append, slice_index_or, arith, List}
use Rattle.btree_read.specs.declared.entry.Entry.{Entry}
use Rattle.btree_read.specs.Nodes.{entry_of}
use Rattle.btree_read.proofs.BlockLemmas.{all_cells, all_room, cells_on, enough, from_place, more_taken, parts_of}
use Rattle.btree_read.proofs.block.take_from.Goals as goal

pub loop-i-preserved : goal.loop-i-preserved
loop-i-preserved c =
    let cells = c.args.leaf.now.cells in
    let first = c.first_place-first.result in
    let i = c.loop-i.i in
    let most = c.args.most in
    let one = entry_of (slice_index_or cells i []) ∷ [] in
    let longer = length-append c.loop-i.entries one in
    let pushed = c.in_ok-push.ensures.ok ∙ ap (λ (e : Entry). c.loop-i.entries ++ e ∷ []) c.in_ok-entry_at.ensures in
    let few : length (c.loop-i.entries ++ one) ≤ most = omega (arith, longer, c.if-len-most.false) in
    record {
      taken = more_taken most c.args.entries.now c.loop-i.entries c.push.new.self (map entry_of (take (i - first) (drop first cells))) one
          c.loop-i.invariant.taken (pushed ∙ sym (all_room most (c.loop-i.entries ++ one) few))
          ∙ ap (λ (zs : List Entry). take most (c.args.entries.now ++ zs)) (cells_on cells first i (omega (arith, c.loop-i.auto.i)) (omega arith));
      few = subst (λ (zs : List Entry). length zs ≤ most) (sym pushed) few;
    }

pub returns-then-len-most-clause-taken : goal.returns-then-len-most-clause-taken
returns-then-len-most-clause-taken c =
    let cells = c.args.leaf.now.cells in
    let first = c.first_place-first.result in
    let taken = take (c.loop-i.i - first) (drop first cells) in
    let left = drop (c.loop-i.i - first) (drop first cells) in
    enough c.args.most c.args.entries.now c.loop-i.entries (map entry_of taken) (map entry_of left) (omega (arith, c.if-len-most.true)) c.loop-i.invariant.taken
    ∙ ap (λ (zs : List Entry). take c.args.most (c.args.entries.now ++ zs))
    (parts_of (c.loop-i.i - first) (drop first cells) ∙ sym (from_place c.args.start c.args.key.now cells first c.first_place-first.ensures.before c.first_place-first.ensures.behind))

pub returns-clause-taken : goal.returns-clause-taken
returns-clause-taken c =
    let cells = c.args.leaf.now.cells in
    let first = c.first_place-first.result in
    c.loop-i.invariant.taken
    ∙ ap (λ (zs : List Entry). take c.args.most (c.args.entries.now ++ zs))
    (ap (map entry_of) (all_cells cells first c.loop-i.i (omega (arith, c.loop-i-test.false, c.loop-i.auto.i-end, c.len-i-end.ensures.length)))
    ∙ sym (from_place c.args.start c.args.key.now cells first c.first_place-first.ensures.before c.first_place-first.ensures.behind))
