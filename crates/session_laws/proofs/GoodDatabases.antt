-- A change that is accepted makes a good database of a good one.
use Rattle.std.proofs.Common.{◌≡◌, refl, ap, sym, ◌∙◌, subst, ℕ, true, List, [], ◌∷◌, length, Option, Some, None}
use Rattle.std.specs.List.{list_all}
use Rattle.std.specs.FinMap.{get}
use Rattle.sqlval.specs.declared.schema.Column.{Column}
use Rattle.sqlval.specs.declared.schema.Constraint.{Constraint}
use Rattle.sqlval.specs.declared.schema.Reference.{Reference}
use Rattle.sqlval.specs.declared.schema.Rule.{Rule}
use Rattle.sqlval.specs.declared.schema.Rule.TheVariants.{NotNull, PrimaryKey, Unique, Check, ForeignKey}
use Rattle.typing.specs.declared.statement.Change.{Change}
use Rattle.denote.specs.Change.{Changed, Makes, Raises, Violates, changed, IsAccepted}
use Rattle.denote.specs.Bag.{Permutes, nothing}
use Rattle.denote.specs.Database.{Name, Table, Database, rows_of, rows_in, unmatched_by, CheckReading, fits_columns, IndexDeclaration, AreReadable, are_places, constraint_columns, index_columns, HasReferenced, IsReferenceIn, AreReferencesIn, IsGoodTable, IsGoodIn, IsGood, IsSameTable, AreSame, IsSameDatabase}
use Rattle.denote_laws.proofs.Good.{changed-good}
use Rattle.operator_laws.proofs.Orders.{list_all-permutes}
use Rattle.denote_laws.proofs.Tables.{violated_by-same, unmatched_by-same}
use Rattle.denote_laws.specs.Changed.{DeclaresRightly}

module _ (reading : CheckReading) where
  same_table : (name : Name) (t u : Table) → IsSameTable t u → IsGoodTable reading name t → IsGoodTable reading name u
  same_table name t u same good = record {
    fitting = ap (λ (columns : List Column). list_all (fits_columns columns) u.rows) (sym same.columns)
        ∙ sym (list_all-permutes (fits_columns t.columns) t.rows u.rows same.rows) ∙ good.fitting;
    unviolated = sym (violated_by-same reading name t u same.columns same.constraints same.rows) ∙ good.unviolated;
    readable = subst (λ (columns : List Column). AreReadable name columns u.constraints) same.columns
        (subst (λ (constraints : List Constraint). AreReadable name t.columns constraints) same.constraints good.readable);
    named = record {
      in_constraints = subst (λ (columns : List Column). are_places (length columns) (constraint_columns u.constraints) ≡ true) same.columns
          (subst (λ (constraints : List Constraint). are_places (length t.columns) (constraint_columns constraints) ≡ true) same.constraints good.named.in_constraints);
      in_indexes = subst (λ (columns : List Column). are_places (length columns) (index_columns u.indexes) ≡ true) same.columns
          (subst (λ (indexes : List IndexDeclaration). are_places (length t.columns) (index_columns indexes) ≡ true) same.indexes good.named.in_indexes);
    };
  }

  same_rows : (found other : Option Table) → AreSame found other → Permutes (rows_of found) (rows_of other)
  same_rows None None h = nothing
  same_rows None (Some u) h = absurd h
  same_rows (Some t) None h = absurd h
  same_rows (Some t) (Some u) h = h.rows

  referenced_same : (db new : Database) → IsSameDatabase db new → (reference : Reference) → HasReferenced db reference → HasReferenced new reference
  referenced_same db new same reference h = at (get new reference.table) refl (subst (λ (found : Option Table). AreSame found (get new reference.table)) h.there (same reference.table))
    where
      at : (found : Option Table) → get new reference.table ≡ found → AreSame (Some h.table) (get new reference.table) → HasReferenced new reference
      at None is s = absurd (subst (AreSame (Some h.table)) is s)
      at (Some u) is s =
          let one : IsSameTable h.table u = subst (AreSame (Some h.table)) is s in
          record {
            table = u;
            there = is;
            places = subst (λ (columns : List Column). are_places (length columns) reference.referenced ≡ true) one.columns h.places;
            count = h.count;
          }

  rule_same : (db new : Database) → IsSameDatabase db new → (rule : Rule) → IsReferenceIn db rule → IsReferenceIn new rule
  rule_same db new same (NotNull column) h = tt
  rule_same db new same (PrimaryKey columns) h = tt
  rule_same db new same (Unique columns) h = tt
  rule_same db new same (Check text) h = tt
  rule_same db new same (ForeignKey reference) h = referenced_same db new same reference h

  rules_same : (db new : Database) → IsSameDatabase db new → (constraints : List Constraint) → AreReferencesIn db constraints → AreReferencesIn new constraints
  rules_same db new same [] h = tt
  rules_same db new same (c ∷ constraints) h = (rule_same db new same c.rule h.0, rules_same db new same constraints h.1)

  same_in : (db new : Database) (name : Name) (t u : Table) → IsSameDatabase db new → IsSameTable t u → IsGoodIn reading db name t → IsGoodIn reading new name u
  same_in db new name t u same one good = record {
    alone = same_table name t u one good.alone;
    referenced = subst (AreReferencesIn new) one.constraints (rules_same db new same t.constraints good.referenced);
    matched = subst (λ (constraints : List Constraint). unmatched_by (rows_in new) constraints u.rows ≡ []) one.constraints
        (sym (unmatched_by-same (rows_in db) (rows_in new) t.constraints t.rows u.rows (λ other. same_rows (get db other) (get new other) (same other)) one.rows) ∙ good.matched);
  }

  -- the order of rows does not matter
  same_database : (db new : Database) → IsSameDatabase db new → IsGood reading db → IsGood reading new
  same_database db new same good name table is = at (get db name) refl (subst (AreSame (get db name)) is (same name))
    where
      at : (found : Option Table) → get db name ≡ found → AreSame found (Some table) → IsGoodIn reading new name table
      at None e h = absurd h
      at (Some t) e h = same_in db new name t table same h (good name t e)

  pub accepted_good : (db new : Database) (change : Change) (count : Option ℕ) → DeclaresRightly db change → IsGood reading db → IsAccepted (changed reading db change) new count
      → IsGood reading new
  accepted_good db new change count rightly good accepted = at (changed reading db change) refl accepted
    where
      at : (c : Changed) → changed reading db change ≡ c → IsAccepted c new count → IsGood reading new
      at (Makes made n) e h = same_database made new h.0 (changed-good reading db made change n rightly good e)
      at (Raises faults) e h = absurd h
      at (Violates names) e h = absurd h
