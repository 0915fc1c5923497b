-- The table that a change names, in the schema and in the database.
use Rattle.std.proofs.Common.{◌≡◌, refl, ◌⊎◌, inl, inr, ◌∙◌, sym, subst, List, Some, Contains}
use Rattle.std.specs.FinMap.{get}
use Rattle.refusals.specs.declared.refusal.Refusal.{Refusal}
use Rattle.refusals.specs.declared.refusal.Refusal.TheVariants.{Memory, Disk, Damaged}
use Rattle.sqlval.specs.declared.schema.Column.{Column}
use Rattle.sqlval.specs.declared.schema.Constraint.{Constraint}
use Rattle.sqlval.specs.declared.schema.Schema.{Schema}
use Rattle.sqlval.specs.declared.schema.Table as declared
use Rattle.typing.specs.declared.typed.Condition as typed
use Rattle.algebra.specs.declared.tree.Condition.{Condition}
use Rattle.denote.specs.Database.{Name, Table, Database, CheckReading, checks_of, AreReadable, IsGood}
use Rattle.denote.specs.SchemaOf.{Declares, IsSchemaOf}
use Rattle.query_answers.specs.Sources.{AreChecksOf}
use Rattle.transactions.specs.Refused.{TellsNoLimit}
use Rattle.constraints.proofs.Declared.{table_there}
use Rattle.constraints.proofs.Violations.{same_some}
use Rattle.update_delete.specs.Checked.{AreChecksFor}
use Rattle.check_constraints.specs.declared.reading.CheckFault.{CheckFault}
use Rattle.check_constraints.specs.declared.reading.CheckFault.TheVariants as reads
use Rattle.check_constraints.specs.Conditions.{conditions_of}

pub there : (schema : Schema) (db : Database) (name : Name) (d : declared.Table) → IsSchemaOf schema db → Contains schema.tables d → d.name ≡ name → (table : Table) × (get db name ≡ Some table)
there schema db name d h inside e = let found = table_there schema db name d h inside e in (found.0, found.1)

-- the table that is declared is the one of the database
pub declares : (schema : Schema) (db : Database) (name : Name) (d : declared.Table) (table : Table) → IsSchemaOf schema db → Contains schema.tables d → d.name ≡ name → get db name ≡ Some table → Declares d table
declares schema db name d table h inside e is =
    let found = table_there schema db name d h inside e in
    subst (λ (t : Table). Declares d t) (same_some found.0 table (sym found.1 ∙ is)) found.2

-- trees of the CHECKs as they are declared are those of the table
pub decided : (reading : CheckReading) (schema : Schema) (db : Database) (name : Name) (d : declared.Table) (trees : List Condition) → IsSchemaOf schema db → Contains schema.tables d → d.name ≡ name
    → AreChecksOf (conditions_of reading d.name d.columns d.constraints) trees → AreChecksFor reading db name trees
decided reading schema db name d trees h inside e are = λ table is.
    let same = declares schema db name d table h inside e is in
    let conditions : conditions_of reading d.name d.columns d.constraints ≡ checks_of reading name table = λ i. conditions_of reading (e i) (same.columns i) (same.constraints i) in
    subst (λ (cs : List typed.Condition). AreChecksOf cs trees) conditions are

-- where the table is good, its CHECKs as they are declared can be read
pub readable : (reading : CheckReading) (schema : Schema) (db : Database) (name : Name) (d : declared.Table) → IsSchemaOf schema db → Contains schema.tables d → d.name ≡ name → IsGood reading db
    → AreReadable d.name d.columns d.constraints
readable reading schema db name d h inside e good =
    let found = table_there schema db name d h inside e in
    let same = found.2 in
    subst (λ (n : Name). AreReadable n d.columns d.constraints) (sym e)
    (subst (λ (columns : List Column). AreReadable name columns d.constraints) (sym same.columns)
    (subst (λ (constraints : List Constraint). AreReadable name found.0.columns constraints) (sym same.constraints) (good name found.0 found.1).alone.readable))

-- want of memory and damage are no refusal of the device
pub no_device : (refusal : Refusal) → (refusal ≡ Memory) ⊎ (refusal ≡ Damaged) → refusal ≡ Disk → ⊥
no_device refusal (inl e) is = absurd (cc (sym e ∙ is))
no_device refusal (inr e) is = absurd (cc (sym e ∙ is))

-- nor a limit of what a store counts
pub no_limit : (refusal : Refusal) → (refusal ≡ Memory) ⊎ (refusal ≡ Damaged) → TellsNoLimit refusal
no_limit refusal (inl e) = subst TellsNoLimit (sym e) tt
no_limit refusal (inr e) = subst TellsNoLimit (sym e) tt

module _ (fault : CheckFault) (refusal : Refusal) (memory : fault ≡ reads.Memory → refusal ≡ Memory) where
  -- a refusal that says why CHECKs are not read is one of two
  pub refused_as : (fault ≡ reads.Unreadable → refusal ≡ Damaged) → (refusal ≡ Memory) ⊎ (refusal ≡ Damaged)
  refused_as damaged = at fault refl
    where
      at : (f : CheckFault) → fault ≡ f → (refusal ≡ Memory) ⊎ (refusal ≡ Damaged)
      at reads.Memory e = inl (memory e)
      at reads.Unreadable e = inr (damaged e)

  -- where they can be read it is the one
  pub refused_good : (fault ≡ reads.Unreadable → ⊥) → refusal ≡ Memory
  refused_good readable = at fault refl
    where
      at : (f : CheckFault) → fault ≡ f → refusal ≡ Memory
      at reads.Memory e = memory e
      at reads.Unreadable e = absurd (readable e)
