use Rattle.std.proofs.Common.{◌∙◌, rules}
use Rattle.std.proofs.lemmas.Fn.{always_returns_same}
use Rattle.kernels.proofs.StableOrder.{less_by, keys_rank, is-sorted}
use Rattle.kernels.proofs.sorting.sorted_rows.Goals as goal

pub returns : goal.returns
returns c =
    c.from_vec.ensures ∙ is-sorted c.args.keys.now c.args.rows _
    (c.in_ok-sort_by.ensures.sorted (less_by c.args.keys.now) (keys_rank c.args.keys.now) (always_returns_same _ _ _ (λ a r k q. (search rules, search rules))))
    (rw c.into_vec-list.ensures at (c.in_ok-sort_by.ensures.stable (less_by c.args.keys.now) (keys_rank c.args.keys.now) (always_returns_same _ _ _ (λ a r k q. (search rules, search rules)))))
