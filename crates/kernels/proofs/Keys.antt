-- Keys that have the digests of their rows are equal where the rows are alike.
use Rattle.std.proofs.Common.{◌≡◌, refl, ap, sym, ◌∙◌, ℕ, Bool, true, false}
use Rattle.std.specs.Cmp.{eq_by_cmp_equiv, nat_cmp_total, Equal-is}
use Rattle.std.specs.Ordering.{is_eq, nat_cmp, ordering_then}
use Rattle.std.specs.declared.cmp.Ordering.{Ordering}
use Rattle.std.specs.declared.cmp.Ordering.TheVariants.{Less, Equal, Greater}
use Rattle.denote.specs.Bag.{are_alike}
use Rattle.kernels.specs.declared.row_key.RowKey.{RowKey}
use Rattle.kernels.specs.Counts.{key_order, IsKey}
use Rattle.kernels.specs.Digest.{row_digest}
use Rattle.kernels.specs.KeyOrder.{row_order}
use Rattle.kernels.proofs.Alike.{are_alike-ties, are_alike-Decides}

level : (x y : ℕ) → x ≡ y → nat_cmp x y ≡ Equal
level x y e = ap (nat_cmp x) (sym e) ∙ (Equal-is (nat_cmp x x)).0 ((eq_by_cmp_equiv nat_cmp_total).refl x)

pub key_ties : (a b : RowKey) → IsKey a → IsKey b → are_alike a.values.now b.values.now ≡ is_eq (key_order a b)
key_ties a b p q = go (are_alike a.values.now b.values.now) refl
  where
    by_rows : is_eq (row_order a.values.now b.values.now) ≡ are_alike a.values.now b.values.now
    by_rows = sym (are_alike-ties a.values.now b.values.now)

    go : (t : Bool) → are_alike a.values.now b.values.now ≡ t → are_alike a.values.now b.values.now ≡ is_eq (key_order a b)
    go true e =
        let same : a.digest ≡ b.digest = p ∙ ap row_digest ((are_alike-Decides a.values.now b.values.now).0 e) ∙ sym q in
        sym by_rows ∙ ap (λ (o : Ordering). is_eq (ordering_then o (row_order a.values.now b.values.now))) (sym (level a.digest b.digest same))
    go false e = e ∙ later (nat_cmp a.digest b.digest)
      where
        later : (o : Ordering) → false ≡ is_eq (ordering_then o (row_order a.values.now b.values.now))
        later Less = refl
        later Equal = sym e ∙ sym by_rows
        later Greater = refl
