-- Records by their entries.
use Rattle.std.proofs.Common.{◌≡◌, ℕ, List, [], ◌∷◌, IsSome, refl, ap, ◌∙◌}
use Rattle.sqlval.specs.declared.schema.Table.{Table}
use Rattle.catalog_records.specs.declared.record.Record.{Record}
use Rattle.catalog_records.specs.Records.{schema_records}
use Rattle.catalog_records.proofs.ApartLemmas.{schema_same}
use Rattle.sqlrecord.proofs.OrderLemmas.{keys_apart, rows_apart}
use Rattle.page_space.specs.Space.{PageMap}
use Rattle.btree_read.specs.declared.entry.Entry.{Entry}
use Rattle.btree_read.specs.Lists.{Has}
use Rattle.btree.proofs.LawLemmas.{tree_stays, tree_used}
use Rattle.btree.proofs.OneLemmas.{one_tree}
use Rattle.catalog.specs.Held.{entry_of, entries_of, IsCoded, AreCoded, HoldsSchema}

record_same : (r s : Record) → IsCoded r → IsCoded s → entry_of r ≡ entry_of s → r ≡ s
record_same r s h g same =
    let keys = keys_apart r.key s.key h.key g.key (ap (λ (x : Entry). x.key) same) in
    let rows = rows_apart r.row s.row h.row g.row (ap (λ (x : Entry). x.value) same) in
    λ i. record { key = keys i; row = rows i }

records_same : (records others : List Record) → AreCoded records → AreCoded others → entries_of records ≡ entries_of others → records ≡ others
records_same [] [] h g e = refl
records_same [] (s ∷ others) h g e = absurd (cc)
records_same (r ∷ records) [] h g e = absurd (cc)
records_same (r ∷ records) (s ∷ others) h g e =
    let first : entry_of r ≡ entry_of s = cc in
    let rest : entries_of records ≡ entries_of others = cc in
    ap (λ z. z ∷ records) (record_same r s h.0 g.0 first) ∙ ap (λ zs. s ∷ zs) (records_same records others h.1 g.1 rest)

pub one_schema : (pages : PageMap) (root : ℕ) (owned also : List ℕ) (tables others : List Table) → HoldsSchema pages root owned tables → HoldsSchema pages root also others → tables ≡ others
one_schema pages root owned also tables others h g =
    schema_same tables others h.range g.range
    (records_same (schema_records tables) (schema_records others) h.coded g.coded (one_tree pages root owned also _ _ h.tree g.tree))

pub schema_stays : (old new : PageMap) (root : ℕ) (owned : List ℕ) (tables : List Table) → ((n : ℕ) → Has n owned → new n ≡ old n) → HoldsSchema old root owned tables → HoldsSchema new root owned tables
schema_stays old new root owned tables same h = record { tree = tree_stays old new root owned _ same h.tree; range = h.range; coded = h.coded; references = h.references }

pub schema_used : (pages : PageMap) (root : ℕ) (owned : List ℕ) (tables : List Table) → HoldsSchema pages root owned tables → (n : ℕ) → Has n owned → IsSome (pages n)
schema_used pages root owned tables h = tree_used pages root owned _ h.tree
