-- What foreign keys that were asked say of the newest version, and tables at no end of one.
use Rattle.std.proofs.Common.{◌≡◌, ◌∙◌, sym, ap, subst, false, List, ◌++◌, Option, Some, None, Ok, Err, IfOk}
use Rattle.std.specs.Prelude.{Contains, IfNone, IfSome, Result}
use Rattle.std.specs.List.{list_any}
use Rattle.std.specs.FinMap.{get}
use Rattle.std.proofs.lemmas.List.Elements.{Contains-append_right}
use Rattle.sqlval.specs.declared.schema.Constraint.{Constraint}
use Rattle.sqlval.specs.declared.schema.Schema.{Schema}
use Rattle.sqlval.specs.declared.schema.Table as declared
use Rattle.sqlval.specs.Value.{Row}
use Rattle.denote.specs.Database.{Name, Database, Table, CheckReading, violated_in}
use Rattle.denote.specs.SchemaOf.{IsSchemaOf}
use Rattle.operator_laws.proofs.Permuting.{HasSame-permutes}
use Rattle.denote_laws.specs.Difference.{AreMatched, MayGo}
use Rattle.store.specs.Contents.{Contents, database_of}
use Rattle.store.specs.Stored.{Stored}
use Rattle.foreign_keys.specs.declared.asked.Asked.{Asked}
use Rattle.foreign_keys.specs.Asked.{AreAsked}
use Rattle.foreign_keys.proofs.Leading.{declared-at}
use Rattle.foreign_keys.proofs.Members.{none-of}
use Rattle.constraints.specs.Matched.{IsAtNoEnd, has_foreign_keys, is_end}
use Rattle.constraints.specs.Settled.{AreAmong}
use Rattle.constraints.proofs.Violations.{same_some}

-- what is asked of the schema is asked of the database
pub at-no-end : (c : Contents) (schema : Schema) (name : Name) → IsSchemaOf schema (database_of c)
    → list_any (λ (t : declared.Table). list_any (λ (k : Constraint). is_end name t.name k.rule) t.constraints) schema.tables ≡ false → IsAtNoEnd (database_of c) name
at-no-end c schema name of none other table there =
    let d = declared-at c schema of other table there in
    let one = none-of (λ (t : declared.Table). list_any (λ (k : Constraint). is_end name t.name k.rule) t.constraints) schema.tables d.0 none d.1 in
    (λ i. list_any (λ (k : Constraint). is_end name (sym d.2 i) k.rule) (sym d.3 i)) ∙ one

-- a table without foreign keys, as the schema declares it
pub without-keys : (c : Contents) (schema : Schema) (name : Name) (d : declared.Table) (table : Table) → IsSchemaOf schema (database_of c) → Contains schema.tables d → d.name ≡ name
    → get (database_of c) name ≡ Some table → has_foreign_keys d.constraints ≡ false → has_foreign_keys table.constraints ≡ false
without-keys c schema name d table of inside named there none =
    let found = of.tables d inside in
    let same : found.0 ≡ table = same_some found.0 table (sym found.1 ∙ ap (get (database_of c)) named ∙ there) in
    ap has_foreign_keys (sym (found.2.constraints ∙ ap (λ (t : Table). t.constraints) same)) ∙ none

-- rows that are among those of a table are some of it
some-of : (db : Database) (name : Name) (came : List Row) → AreAmong db name came → (table : Table) → get db name ≡ Some table → (row : Row) → Contains came row → Contains table.rows row
some-of db name came among table there row one =
    let same : among.table ≡ table = same_some among.table table (sym among.there ∙ there) in
    subst (λ (t : Table). Contains t.rows row) same ((HasSame-permutes (among.others ++ came) among.table.rows among.order row).0 (Contains-append_right among.others came row one))

schema-of : (old mid : Stored) (schema : Schema) → mid ≡ old → IsSchemaOf schema (database_of old.working) → IsSchemaOf schema (database_of mid.working)
schema-of old mid schema same = subst (λ (x : Stored). IsSchemaOf schema (database_of x.working)) (sym same)

module _ {E : Type 0} (old mid : Stored) (sound mid_sound : Type 0) (schema : Schema) (name : Name) (came gone : List Row) (asked : List Asked)
    (keeps : sound → mid_sound) (same : mid ≡ old) (of : sound → IsSchemaOf schema (database_of old.working)) (are : AreAsked schema name asked) where
  -- where none is violated
  pub none-told : (r : Result (Option Name) E)
      → IfOk r (λ found. IfNone found ((s : Schema) → mid_sound → IsSchemaOf s (database_of mid.working) → AreAsked s name asked
      → AreMatched (database_of mid.working) name came × MayGo (database_of mid.working) name gone))
      → IfOk r (λ found. IfNone found (sound → AreMatched (database_of old.working) name came × MayGo (database_of old.working) name gone))
  none-told (Err e) h = tt
  none-told (Ok (Some constraint)) h = tt
  none-told (Ok None) h = λ s.
      subst (λ (x : Stored). AreMatched (database_of x.working) name came × MayGo (database_of x.working) name gone) same (h schema (keeps s) (schema-of old mid schema same (of s)) are)

  -- and where one is
  pub some-told : (r : Result (Option Name) E)
      → IfOk r (λ found. IfSome found (λ constraint. (s : Schema) (reading : CheckReading) → mid_sound → IsSchemaOf s (database_of mid.working) → AreAsked s name asked
      → ((table : Table) → get (database_of mid.working) name ≡ Some table → (row : Row) → Contains came row → Contains table.rows row)
      → Contains (violated_in reading (database_of mid.working)) constraint))
      → IfOk r (λ found. IfSome found (λ constraint. (reading : CheckReading) → sound → AreAmong (database_of old.working) name came
      → Contains (violated_in reading (database_of old.working)) constraint))
  some-told (Err e) h = tt
  some-told (Ok None) h = tt
  some-told (Ok (Some constraint)) h = λ reading s among.
      let there = subst (λ (x : Stored). AreAmong (database_of x.working) name came) (sym same) among in
      subst (λ (x : Stored). Contains (violated_in reading (database_of x.working)) constraint) same
      (h schema reading (keeps s) (schema-of old mid schema same (of s)) are (some-of (database_of mid.working) name came there))
