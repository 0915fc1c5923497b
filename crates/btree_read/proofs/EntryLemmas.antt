-- Entries as they lie in leaves, from a place on.
use Rattle.std.proofs.Common.{◌≡◌, ℕ, zero, suc, ◌+◌, ◌<◌, List, [], ◌∷◌, ◌++◌, map, drop, length, get_or, refl, sym, ap, subst, ◌∙◌, add-one, arith}
use Rattle.std.proofs.lemmas.List.{flat_map_more}
use Rattle.btree_read.specs.declared.entry.Entry.{Entry}
use Rattle.btree_read.specs.Nodes.{entry_of, entries_in}

-- one leaf more
pub one_leaf_more : (old now : List (List (List ℕ))) (kept cells : List (List ℕ)) (was : List Entry) → now ≡ old ++ kept ∷ [] → kept ≡ cells → entries_in old ≡ was
    → entries_in now ≡ was ++ map entry_of cells
one_leaf_more old now kept cells was e same is =
    ap entries_in e ∙ sym (flat_map_more (λ (c : List (List ℕ)). map entry_of c) [] old kept) ∙ (λ i. is i ++ map entry_of (same i))

-- cells from a place on
from_cell : (cells : List (List ℕ)) (i : ℕ) → i < length cells → map entry_of (drop i cells) ≡ entry_of (get_or cells i []) ∷ map entry_of (drop (suc i) cells)
from_cell [] i h = absurd (omega (arith, h))
from_cell (c ∷ cells) zero h = refl
from_cell (c ∷ cells) (suc i) h = from_cell cells i (omega (arith, h))

pub cells_from : (cells : List (List ℕ)) (i : ℕ) → i < length cells → map entry_of (drop i cells) ≡ entry_of (get_or cells i []) ∷ map entry_of (drop (i + 1) cells)
cells_from cells i h = subst (λ (n : ℕ). map entry_of (drop i cells) ≡ entry_of (get_or cells i []) ∷ map entry_of (drop n cells)) (sym (add-one i)) (from_cell cells i h)

-- leaves from a place on
from_leaf : (leaves : List (List (List ℕ))) (i : ℕ) (leaf : List (List ℕ)) → i < length leaves → leaf ≡ get_or leaves i leaf
    → entries_in (drop i leaves) ≡ map entry_of leaf ++ entries_in (drop (suc i) leaves)
from_leaf [] i leaf h e = absurd (omega (arith, h))
from_leaf (x ∷ leaves) zero leaf h e = ap (λ (l : List (List ℕ)). map entry_of l ++ entries_in leaves) (sym e)
from_leaf (x ∷ leaves) (suc i) leaf h e = from_leaf leaves i leaf (omega (arith, h)) e

pub leaves_from : (leaves : List (List (List ℕ))) (i : ℕ) (leaf : List (List ℕ)) → i < length leaves → leaf ≡ get_or leaves i leaf
    → entries_in (drop i leaves) ≡ map entry_of leaf ++ entries_in (drop (i + 1) leaves)
leaves_from leaves i leaf h e = rw add-one (from_leaf leaves i leaf h e)
