-- What a query's tree knows of its tables is so, and so are the indexes of a tree that reads no
-- others.
use Rattle.std.proofs.Common.{◌≡◌, ℕ, zero, suc, List, [], ◌∷◌, subst, arith}
use Rattle.std.specs.FinMap.{get}
use Rattle.std.specs.Prelude.{Contains}
use Rattle.sqlval.specs.declared.schema.Schema.{Schema}
use Rattle.typing.specs.declared.typed.OrderedQuery.{OrderedQuery}
use Rattle.algebra.specs.Described.{described_in}
use Rattle.algebra.specs.Translated.{tree_of_ordered}
use Rattle.algebra.specs.declared.tree.StoredTable.{StoredTable}
use Rattle.algebra.specs.declared.tree.Tree.{Tree}
use Rattle.denote.specs.Database.{CheckReading, Database, IsGood, rows_in}
use Rattle.denote.specs.SchemaOf.{IsSchemaOf}
use Rattle.operator_laws.specs.Same.{Every}
use Rattle.places.specs.Indexes.{HasIndexes, index_columns, sought_in}
use Rattle.rules.specs.Same.{AreAmong, Fits, HasTable}
use Rattle.rules.specs.Stored.{stored_in_tree}
use Rattle.store.specs.Contents.{Contents, database_of}
use Rattle.known_tables.proofs.Declared.{described-fits, described-indexes}
use Rattle.known_tables.proofs.Sought.{sought-stored}
use Rattle.known_tables.proofs.Told.{ordered-told}

every-there : {X : Type 0} (P : X → Type 0) (xs : List X) → Every P xs → (x : X) → Contains xs x → P x
every-there P [] h x among = absurd (omega (arith, among.1))
every-there P (y ∷ xs) h x (zero, below, is) = subst P is h.0
every-there P (y ∷ xs) h x (suc k, below, is) = every-there P xs h.1 x (k, omega (arith, below), is)

pub all-fit : (reading : CheckReading) (schema : Schema) (db : Database) (query : OrderedQuery) → IsGood reading db
    → IsSchemaOf schema db → Fits (rows_in db) (tree_of_ordered (described_in schema) query)
all-fit reading schema db query good of = every-there (HasTable (rows_in db))
    (stored_in_tree (tree_of_ordered (described_in schema) query))
    (ordered-told (described_in schema) (HasTable (rows_in db)) (λ name. described-fits reading schema db name good of) query)

pub all-indexed : (contents : Contents) (schema : Schema) (query : OrderedQuery) (plan : Tree)
    → IsSchemaOf schema (database_of contents)
    → AreAmong (stored_in_tree plan) (stored_in_tree (tree_of_ordered (described_in schema) query)) → HasIndexes contents plan
all-indexed contents schema query plan of within = λ table among.
    every-there (λ (known : StoredTable). index_columns (get contents known.name) ≡ known.indexes)
    (stored_in_tree (tree_of_ordered (described_in schema) query))
    (ordered-told (described_in schema) (λ (known : StoredTable). index_columns (get contents known.name) ≡ known.indexes)
    (λ name. described-indexes contents schema name of) query)
    table (within table (sought-stored plan table among))
