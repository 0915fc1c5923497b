-- The last key of a tree lies under its last child.
use Rattle.std.proofs.Common.{◌≡◌, ℕ, zero, suc, ◌-◌, List, [], ◌∷◌, ◌++◌, map, length, refl, sym, ap, ◌∙◌, subst, Option, Some, Result, arith}
use Rattle.std.specs.Prelude.{slice_index_or}
use Rattle.std.specs.List.{flat_map}
use Rattle.std.proofs.lemmas.List.{append-nil as append_nil}
use Rattle.page_space.specs.declared.error.SpaceError.{SpaceError}
use Rattle.page_space.specs.Space.{PageMap}
use Rattle.sqlrecord.specs.declared.kind.PageKind.TheVariants.{Inner}
use Rattle.sqlrecord.specs.Page.{PageView, key_of}
use Rattle.btree_read.specs.declared.entry.Entry.{Entry}
use Rattle.btree_read.specs.Nodes.{Key, entry_of, branch_of}
use Rattle.btree_read.specs.Sorted.{last_key}
use Rattle.btree_read.specs.Tree.{Tree, kids, entries_of, nodes_of, Holds}
use Rattle.btree_read.specs.Search.{Sees, child_at, Answers}
use Rattle.btree_read.proofs.Kids.{kid_at}
use Rattle.btree_read.proofs.ListLemmas.{each_right, each_left}
use Rattle.btree_read.proofs.ChainLemmas.{flat}
use Rattle.btree_read.proofs.SearchLemmas.{if_ok, some_entries, as_many, no_leaf, child_found}

-- that of what stands last
last_append : (xs : List Entry) (y : Entry) (ys : List Entry) → last_key (xs ++ y ∷ ys) ≡ last_key (y ∷ ys)
last_append [] y ys = refl
last_append (x ∷ []) y ys = refl
last_append (x ∷ z ∷ xs) y ys = last_append (z ∷ xs) y ys

last_of_cells : (c : List ℕ) (cells : List (List ℕ)) → last_key (map entry_of (c ∷ cells)) ≡ Some (key_of (slice_index_or (c ∷ cells) (length cells) []))
last_of_cells c [] = refl
last_of_cells c (d ∷ cells) = last_of_cells d cells

less_one : (n : ℕ) → suc n - 1 ≡ n
less_one n = omega arith

pub last_cell : (cells : List (List ℕ)) → (cells ≡ [] → ⊥) → Some (key_of (slice_index_or cells (length cells - 1) [])) ≡ last_key (map entry_of cells)
last_cell [] some = absurd (some refl)
last_cell (c ∷ cells) some = ap (λ n. Some (key_of (slice_index_or (c ∷ cells) n []))) (less_one (length cells)) ∙ sym (last_of_cells c cells)

last_child : (pages : PageMap) (d : ℕ) (first : Tree d) (rest : List (Key × Tree d)) → Holds pages (flat_map (nodes_of d) (kids first rest))
    → last_key (flat d first rest) ≡ last_key (entries_of d (kid_at first rest (length rest)))
last_child pages d first [] h = ap last_key (append_nil (entries_of d first))
last_child pages d first (c ∷ rest) h =
    let others = each_right _ (nodes_of d first) _ h in
    let w = some_entries pages d c.1 (each_left _ (nodes_of d c.1) _ others) in
    let tail : List Entry = flat_map (entries_of d) (map (λ c. c.1) rest) in
    let behind : flat d c.1 rest ≡ w.0 ∷ (w.1 ++ tail) = ap (λ es. es ++ tail) w.2 in
    subst (λ es. last_key (entries_of d first ++ es) ≡ last_key es) (sym behind) (last_append (entries_of d first) w.0 (w.1 ++ tail))
    ∙ last_child pages d c.1 rest others

-- what lies under the last child is the answer
pub last_found : (pages mid : PageMap) (page : ℕ) (view : PageView) (child at : ℕ) (result : Result (Option Key) SpaceError)
    → mid ≡ pages → Sees pages page view → view.kind ≡ Inner → at ≡ length view.cells → child ≡ child_at view.link (map branch_of view.cells) at
    → Answers mid child last_key result → Answers pages page last_key result
last_found pages mid page view child at result e s kind l c g zero t lo hi u = absurd (no_leaf pages page view t lo hi s kind u)
last_found pages mid page view child at result e s kind l c g (suc d) t lo hi u =
    let m : at ≡ length t.rest = l ∙ as_many pages page view d t lo hi s kind u in
    if_ok (λ a. a ≡ last_key (entries_of d (kid_at t.first t.rest at))) (λ a. a ≡ last_key (entries_of (suc d) t)) result
    (λ a x. x ∙ ap (λ n. last_key (entries_of d (kid_at t.first t.rest n))) m ∙ sym (last_child pages d t.first t.rest u.holds.1))
    (subst (λ m. Answers m child last_key result) e g d (kid_at t.first t.rest at) _ _ (child_found pages page view child d t lo hi at s kind c u))
