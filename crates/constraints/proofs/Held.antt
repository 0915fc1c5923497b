-- The tables that a store holds, and the database after a change of one.
use Rattle.std.proofs.Common.{◌≡◌, ◌∙◌, refl, sym, ap, Option, Some, None}
use Rattle.std.specs.Option.{option_map}
use Rattle.std.specs.FinMap.{get, insert}
use Rattle.denote.specs.Database.{Name, Table}
use Rattle.store.specs.Contents.{StoredTable, Contents, table_of, database_of, put_back, changed}
use Rattle.store.proofs.Databases.{database-get, database-insert}
use Rattle.constraints.proofs.Violations.{same_some}

-- a table of the database is held
pub held_as : (c : Contents) (name : Name) (table : Table) → get (database_of c) name ≡ Some table → (t : StoredTable) × (get c name ≡ Some t) × (table_of t ≡ table)
held_as c name table e = by (get c name) refl (sym (database-get c name) ∙ e)
  where
    by : (o : Option StoredTable) → get c name ≡ o → option_map table_of o ≡ Some table → (t : StoredTable) × (get c name ≡ Some t) × (table_of t ≡ table)
    by None is h = absurd (cc h)
    by (Some t) is h = (t, is, same_some (table_of t) table h)

pub none_held : (c : Contents) (name : Name) → get (database_of c) name ≡ None → get c name ≡ None
none_held c name e = by (get c name) refl
  where
    by : (o : Option StoredTable) → get c name ≡ o → get c name ≡ None
    by None is = is
    by (Some t) is = let there : get (database_of c) name ≡ Some (table_of t) = database-get c name ∙ ap (option_map table_of) is in absurd (cc (there, e))

-- a table in place of the one that is held
pub changed-database : (change : StoredTable → StoredTable) (c : Contents) (name : Name) (t : StoredTable) → get c name ≡ Some t
    → database_of (changed change c name) ≡ insert (database_of c) name (table_of (change t))
changed-database change c name t is = ap (λ o. database_of (put_back c name (option_map change o))) is ∙ database-insert c name (change t)
