-- What an index holds has a key that is not too long.
use Rattle.std.proofs.Common.{◌≡◌, ℕ, zero, suc, ◌+◌, ◌<◌, ◌≤◌, List, [], ◌∷◌, ◌++◌, length, map, inl, inr, ◌⊎◌, refl, sym, ap, subst, ◌∙◌, arith}
use Rattle.std.specs.List.{flat_map, AllByRecursion}
use Rattle.sqlval.specs.CodedLength.{key_length}
use Rattle.sqlval.specs.Matching.{key_of}
use Rattle.store.specs.Contents as stored
use Rattle.sqlrecord.proofs.OrderLemmas.{length_index_key}
use Rattle.page_space.specs.Space.{PageMap}
use Rattle.btree_read.specs.declared.entry.Entry.{Entry}
use Rattle.btree_read.specs.Nodes.{Key, IsSmall, HasNode}
use Rattle.btree_read.specs.Tree.{Tree, kids, entries_of, nodes_of, Holds, IsTree}
use Rattle.btree_read.proofs.ListLemmas.{each_append, each_left, each_right}
use Rattle.index_trees.specs.Indexed.{index_entry, Stands, IsRow, HoldsIndex}

small_all : (pages : PageMap) (d : ℕ) → ((t : Tree d) → Holds pages (nodes_of d t) → AllByRecursion IsSmall (entries_of d t)) → (ts : List (Tree d)) → Holds pages (flat_map (nodes_of d) ts)
    → AllByRecursion IsSmall (flat_map (entries_of d) ts)
small_all pages d each [] h = tt
small_all pages d each (t ∷ ts) h =
    each_append IsSmall (entries_of d t) (flat_map (entries_of d) ts) (each t (each_left _ (nodes_of d t) (flat_map (nodes_of d) ts) h))
    (small_all pages d each ts (each_right _ (nodes_of d t) (flat_map (nodes_of d) ts) h))

small_below : (pages : PageMap) (d : ℕ) (t : Tree d) → Holds pages (nodes_of d t) → AllByRecursion IsSmall (entries_of d t)
small_below pages zero t h = h.0.stocked.1
small_below pages (suc d) t h = small_all pages d (small_below pages d) (kids t.first t.rest) h.1

entries_small : (pages : PageMap) (root : ℕ) (owned : List ℕ) (entries : List Entry) → IsTree pages root owned entries → AllByRecursion IsSmall entries
entries_small pages zero owned entries w = subst (AllByRecursion IsSmall) (sym w.1) tt
entries_small pages (suc r) owned entries w = subst (AllByRecursion IsSmall) w.shows (small_below pages w.depth w.tree w.holds)

small_one : (entries : List Entry) (x : Entry) → AllByRecursion IsSmall entries → Stands x entries → IsSmall x
small_one [] x h g = absurd g
small_one (e ∷ entries) x h (inl g) = subst IsSmall (sym g) h.0
small_one (e ∷ entries) x h (inr g) = small_one entries x h.1 g

-- a row that an index holds
pub held_is_short : (pages : PageMap) (root : ℕ) (owned columns : List ℕ) (rows : List stored.Entry) (row : stored.Entry) → HoldsIndex pages root owned columns rows → IsRow row rows
    → 600 < key_length (key_of columns row.1) + 8 → ⊥
held_is_short pages root owned columns rows row h among long =
    let small = small_one h.entries (index_entry columns row) (entries_small pages root owned h.entries h.tree) (h.each row among) in
    let key = small.key in
    omega (arith, key, long, length_index_key (key_of columns row.1) row.0)
