-- A child and its neighbour, by their places.
use Rattle.std.proofs.Common.{◌≡◌, ℕ, zero, suc, ◌+◌, ◌-◌, ◌<◌, ◌≤◌, List, [], ◌∷◌, map, length, inl, inr, refl, sym, ap, ◌∙◌, subst, arith}
use Rattle.std.proofs.lemmas.List.{length-map}
use Rattle.btree_read.specs.declared.entry.Branch.{Branch}
use Rattle.btree_read.specs.Nodes.{branch_of}
use Rattle.btree_read.specs.Search.{child_at}
use Rattle.btree_remove.specs.Removed.{IsPairAt}

pub pair_first : (first : ℕ) (cells : List (List ℕ)) (at left right : ℕ) → at ≡ 0 → 0 < length cells → left ≡ child_at first (map branch_of cells) 0 → right ≡ child_at first (map branch_of cells) 1
    → IsPairAt first (map branch_of cells) at (record { place = 0; left = left; right = right; kept = right })
pair_first first cells at left right e some l r = record {
  within = omega (arith, some, length-map cells branch_of);
  left = l;
  right = r;
  kept = inl (e, refl);
}

pub pair_later : (first : ℕ) (cells : List (List ℕ)) (at place left right : ℕ) → (at ≡ 0 → ⊥) → place ≡ at - 1 → at ≤ length cells → left ≡ child_at first (map branch_of cells) place
    → right ≡ child_at first (map branch_of cells) at → IsPairAt first (map branch_of cells) at (record { place = place; left = left; right = right; kept = left })
pair_later first cells zero place left right nz p within l r = absurd (nz refl)
pair_later first cells (suc n) place left right nz p within l r =
    let e : suc n ≡ place + 1 = omega (arith, p) in
    record {
      within = omega (arith, within, p, length-map cells branch_of);
      left = l;
      right = r ∙ ap (child_at first (map branch_of cells)) e;
      kept = inr (e, refl);
    }
