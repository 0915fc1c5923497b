-- The indexes that tables are made with: which constraint owns which.
use Rattle.std.specs.Prelude.{◌≡◌, ℕ, List, map, Option, Some, None}
use Rattle.std.specs.List.{filter_map, enumerate_from}
use Rattle.std.specs.Option.{option_map}
use Rattle.sqlval.specs.declared.schema.Constraint.{Constraint}
use Rattle.sqlval.specs.declared.schema.Index.{Index}
use Rattle.denote.specs.Change.{owned_index}
use Rattle.denote.specs.Database.{IndexDeclaration}
use Rattle.denote.specs.SchemaOf.{index_of}

-- the index that a PRIMARY KEY or a UNIQUE owns: our own choice
abbrev pub key_index : List ℕ → IndexDeclaration
key_index columns = record { name = None; columns = columns }

-- an index with the place of the constraint that owns it, if one does
abbrev pub with_owner : Index → Option ℕ × IndexDeclaration
with_owner index = (index.owner, index_of index)

-- the index that the constraint at this place owns: only a key owns one
abbrev pub owned_at : ℕ × Constraint → Option (Option ℕ × IndexDeclaration)
owned_at e = option_map (λ (index : IndexDeclaration). (Some e.0, index)) (owned_index e.1.rule)

-- Each PRIMARY KEY and each UNIQUE owns one of these indexes, in their order, without a name and of
-- the key's columns; no other index is there (our own choice).
abbrev pub AreOwned : List Constraint → List Index → Type 0
AreOwned constraints indexes = map with_owner indexes ≡ filter_map owned_at (enumerate_from 0 constraints)
