-- Tables in pages: the pages of their trees are in use and apart, and tables stay where these pages
-- do.
use Rattle.std.proofs.Common.{◌≡◌, ℕ, zero, suc, List, [], ◌∷◌, ◌++◌, ◌⊎◌, inl, inr, IsSome, refl, sym, ap, subst, ◌∙◌, append_assoc}
use Rattle.std.specs.List.{AllByRecursion}
use Rattle.sqlval.specs.declared.schema.Table.{Table}
use Rattle.page_space.specs.Space.{PageMap}
use Rattle.btree_read.specs.declared.entry.Entry.{Entry}
use Rattle.btree_read.specs.Lists.{Has, Apart}
use Rattle.btree_read.specs.Tree.{IsTree}
use Rattle.btree_read.proofs.ListLemmas.{has_left, has_right, has_either}
use Rattle.catalog.specs.Held.{HoldsSchema}
use Rattle.catalog.proofs.OneLemmas.{schema_stays, schema_used}
use Rattle.tablestore.proofs.OneLemmas.{rows_kept, rows_used}
use Rattle.stored_tables.specs.Held.{TableAt, declared_of, owned_by, HoldsIts, HoldsTables}

-- each page of the trees of rows is in use
pub each_used : (pages : PageMap) (tables : List TableAt) → AllByRecursion (HoldsIts pages) tables → (n : ℕ) → Has n (owned_by tables) → IsSome (pages n)
each_used pages [] h n i = absurd i
each_used pages (t ∷ tables) h n i = by (has_either n t.owned (owned_by tables) i) (each_used pages tables h.1 n)
  where
    by : Has n t.owned ⊎ Has n (owned_by tables) → (Has n (owned_by tables) → IsSome (pages n)) → IsSome (pages n)
    by (inl own) others = rows_used pages t.declared.root t.owned t.rows h.0 n own
    by (inr other) others = others other

pub each_kept : (old new : PageMap) (tables : List TableAt) → ((n : ℕ) → Has n (owned_by tables) → new n ≡ old n) → AllByRecursion (HoldsIts old) tables → AllByRecursion (HoldsIts new) tables
each_kept old new [] same h = tt
each_kept old new (t ∷ tables) same h = (
  rows_kept old new t.declared.root t.owned t.rows (λ n i. same n (has_left n t.owned (owned_by tables) i)) h.0,
  each_kept old new tables (λ n i. same n (has_right n t.owned (owned_by tables) i)) h.1,
)

-- so is each page of all the trees
pub all_used : (pages : PageMap) (root : ℕ) (owned : List ℕ) (declared : List Table) (tables : List TableAt) → HoldsSchema pages root owned declared → AllByRecursion (HoldsIts pages) tables
    → (n : ℕ) → Has n (owned ++ owned_by tables) → IsSome (pages n)
all_used pages root owned declared tables schema rows n i = by (has_either n owned (owned_by tables) i)
  where
    by : Has n owned ⊎ Has n (owned_by tables) → IsSome (pages n)
    by (inl own) = schema_used pages root owned declared schema n own
    by (inr other) = each_used pages tables rows n other

pub stays : (old new : PageMap) (root : ℕ) (tables : List TableAt) → ((n : ℕ) → IsSome (old n) → new n ≡ old n) → HoldsTables old root tables → HoldsTables new root tables
stays old new root tables same h = record {
  owned = h.owned;
  schema = schema_stays old new root h.owned (declared_of tables) (λ n i. same n (schema_used old root h.owned (declared_of tables) h.schema n i)) h.schema;
  rows = each_kept old new tables (λ n i. same n (each_used old tables h.rows n i)) h.rows;
  fits = h.fits;
  apart = h.apart;
}

pub at_first : (pages : PageMap) → HoldsTables pages 0 []
at_first pages = record { owned = []; schema = record { tree = (refl, refl); range = tt; coded = tt; references = refl }; rows = tt; fits = tt; apart = tt }

-- the pages of a tree are apart
pub tree_apart : (pages : PageMap) (root : ℕ) (owned : List ℕ) (entries : List Entry) → IsTree pages root owned entries → Apart owned
tree_apart pages zero owned entries tree = subst Apart (sym tree.0) tt
tree_apart pages (suc r) owned entries tree = tree.apart

-- around one of the tables
pub owned_around : (before behind : List TableAt) (t : TableAt) → owned_by (before ++ t ∷ behind) ≡ owned_by before ++ (t.owned ++ owned_by behind)
owned_around [] behind t = refl
owned_around (b ∷ before) behind t = ap (λ ns. b.owned ++ ns) (owned_around before behind t) ∙ sym (append_assoc b.owned (owned_by before) (t.owned ++ owned_by behind))

pub all_around : (owned : List ℕ) (before behind : List TableAt) (t : TableAt) → owned ++ owned_by (before ++ t ∷ behind) ≡ (owned ++ owned_by before) ++ (t.owned ++ owned_by behind)
all_around owned before behind t = ap (λ ns. owned ++ ns) (owned_around before behind t) ∙ sym (append_assoc owned (owned_by before) (t.owned ++ owned_by behind))

pub declared_around : (before behind : List TableAt) (t : TableAt) → declared_of (before ++ t ∷ behind) ≡ declared_of before ++ t.declared ∷ declared_of behind
declared_around [] behind t = refl
declared_around (b ∷ before) behind t = ap (λ ts. b.declared ∷ ts) (declared_around before behind t)
