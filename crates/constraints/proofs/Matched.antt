-- What a table violates its database violates; and a table without foreign keys matches every row.
use Rattle.std.proofs.Common.{◌≡◌, ◌∙◌, refl, sym, ap, Bool, true, false, cond, not, ◌||◌, List, [], ◌∷◌, map}
use Rattle.std.specs.Prelude.{filter}
use Rattle.std.specs.List.{list_all, list_any}
use Rattle.std.specs.FinMap.{get}
use Rattle.std.specs.Cmp.Lexicographic.{bytes_decides}
use Rattle.std.proofs.lemmas.List.Elements.{Contains-append_left}
use Rattle.refusals.specs.declared.refusal.Refusal.{Refusal}
use Rattle.sqlval.specs.declared.schema.Constraint.{Constraint}
use Rattle.sqlval.specs.declared.schema.Rule.{Rule}
use Rattle.sqlval.specs.declared.schema.Rule.TheVariants.{NotNull, PrimaryKey, Unique, Check, ForeignKey}
use Rattle.sqlval.specs.Schema.{same_name}
use Rattle.sqlval.specs.Value.{Row}
use Rattle.denote.specs.Database.{Name, Database, Table, CheckReading, rows_in, violated_by, is_unmatched, unmatched_by}
use Rattle.denote_laws.specs.Difference.{AreMatched, Differs, may_go, may_all_go, MayGo}
use Rattle.denote_laws.proofs.Violated.{violated-at}
use Rattle.constraints.specs.Matched.{BreaksAny, IsAtNoEnd, is_end, is_foreign_key, has_foreign_keys}
use Rattle.constraints.proofs.Violations.{same_some}
use Rattle.constraints.specs.Settled.{Breaks}

pub breaks-any : (reading : CheckReading) (db : Database) (name : Name) (refusal : Refusal) → Breaks reading db name refusal → BreaksAny reading db refusal
breaks-any reading db name refusal (Breaks.withheld reserved) = BreaksAny.withheld reserved
breaks-any reading db name refusal (Breaks.violates t constraint there says_so one) =
    BreaksAny.violates constraint says_so (violated-at reading db name t constraint there
    (Contains-append_left (violated_by reading name t) (unmatched_by (rows_in db) t.constraints t.rows) constraint one))

or-first : (a b : Bool) → (a || b) ≡ false → a ≡ false
or-first true b e = absurd (cc)
or-first false b e = refl

or-second : (a b : Bool) → (a || b) ≡ false → b ≡ false
or-second true b e = absurd (cc)
or-second false b e = e

no-key : (tables : Name → List Row) (rows : List Row) (rule : Rule) → is_foreign_key rule ≡ false → is_unmatched tables rows rule ≡ false
no-key tables rows (NotNull column) e = refl
no-key tables rows (PrimaryKey columns) e = refl
no-key tables rows (Unique columns) e = refl
no-key tables rows (Check text) e = refl
no-key tables rows (ForeignKey reference) e = absurd (cc)

pub no-keys : (tables : Name → List Row) (constraints : List Constraint) (rows : List Row) → has_foreign_keys constraints ≡ false → unmatched_by tables constraints rows ≡ []
no-keys tables [] rows e = refl
no-keys tables (c ∷ constraints) rows e =
    by (is_unmatched tables rows c.rule) (no-key tables rows c.rule (or-first (is_foreign_key c.rule) (has_foreign_keys constraints) e))
    (no-keys tables constraints rows (or-second (is_foreign_key c.rule) (has_foreign_keys constraints) e))
  where
    by : (b : Bool) → b ≡ false → unmatched_by tables constraints rows ≡ []
        → map (λ (k : Constraint). k.name) (cond b (c ∷ filter (λ k. is_unmatched tables rows k.rule) constraints) (filter (λ k. is_unmatched tables rows k.rule) constraints)) ≡ []
    by true e f = absurd (cc)
    by false e f = f

-- of no rows each may go
one-may-go : (name : Name) (others rows : List Row) (rule : Rule) → may_all_go name others [] rows rule ≡ true
one-may-go name others rows (NotNull column) = refl
one-may-go name others rows (PrimaryKey columns) = refl
one-may-go name others rows (Unique columns) = refl
one-may-go name others rows (Check text) = refl
one-may-go name others rows (ForeignKey reference) = by (same_name reference.table name)
  where
    by : (b : Bool) → (not b || true) ≡ true
    by true = refl
    by false = refl

pub none-may-go : (name : Name) (others rows : List Row) (constraints : List Constraint) → list_all (λ c. may_all_go name others [] rows c.rule) constraints ≡ true
none-may-go name others rows [] = refl
none-may-go name others rows (c ∷ constraints) = rw (one-may-go name others rows c.rule) (none-may-go name others rows constraints)

-- ---- a table at no end of a foreign key

itself : (name : Name) → same_name name name ≡ true
itself name = (bytes_decides name name).1 refl

module _ (name : Name) where
  own-end : (rule : Rule) → is_end name name rule ≡ false → is_foreign_key rule ≡ false
  own-end (NotNull column) e = refl
  own-end (PrimaryKey columns) e = refl
  own-end (Unique columns) e = refl
  own-end (Check text) e = refl
  own-end (ForeignKey reference) e = absurd (let own = itself name in let away : same_name name name ≡ false = or-first (same_name name name) (same_name reference.table name) e in cc)

  own-ends : (constraints : List Constraint) → list_any (λ c. is_end name name c.rule) constraints ≡ false → has_foreign_keys constraints ≡ false
  own-ends [] e = refl
  own-ends (c ∷ constraints) e =
      rw (own-end c.rule (or-first (is_end name name c.rule) (list_any (λ k. is_end name name k.rule) constraints) e))
      (own-ends constraints (or-second (is_end name name c.rule) (list_any (λ k. is_end name name k.rule) constraints) e))

  no-end : (other : Name) (others gone rows : List Row) (rule : Rule) → is_end name other rule ≡ false → may_all_go name others gone rows rule ≡ true
  no-end other others gone rows (NotNull column) e = refl
  no-end other others gone rows (PrimaryKey columns) e = refl
  no-end other others gone rows (Unique columns) e = refl
  no-end other others gone rows (Check text) e = refl
  no-end other others gone rows (ForeignKey reference) e =
      ap (λ b. not b || list_all (may_go reference others rows) gone) (or-second (same_name other name) (same_name reference.table name) e)

  no-ends : (other : Name) (others gone rows : List Row) (constraints : List Constraint) → list_any (λ c. is_end name other c.rule) constraints ≡ false
      → list_all (λ c. may_all_go name others gone rows c.rule) constraints ≡ true
  no-ends other others gone rows [] e = refl
  no-ends other others gone rows (c ∷ constraints) e =
      rw (no-end other others gone rows c.rule (or-first (is_end name other c.rule) (list_any (λ k. is_end name other k.rule) constraints) e))
      (no-ends other others gone rows constraints (or-second (is_end name other c.rule) (list_any (λ k. is_end name other k.rule) constraints) e))

  pub end-matched : (db : Database) (came : List Row) → IsAtNoEnd db name → AreMatched db name came
  end-matched db came none table there = no-keys (rows_in db) table.constraints came (own-ends table.constraints (none name table there))

  pub end-may-go : (db : Database) (gone : List Row) → IsAtNoEnd db name → MayGo db name gone
  end-may-go db gone none other table there = no-ends other (rows_in db name) gone table.rows table.constraints (none other table there)

  -- other rows make no difference
  pub still-at-no-end : (old new : Database) (came gone : List Row) → Differs old new name came gone → IsAtNoEnd old name → IsAtNoEnd new name
  still-at-no-end old new came gone d none other table there = by (same_name other name) refl
    where
      by : (b : Bool) → same_name other name ≡ b → list_any (λ c. is_end name other c.rule) table.constraints ≡ false
      by true same =
          let named : other ≡ name = (bytes_decides other name).0 same in
          let found : table ≡ d.now = same_some table d.now (sym there ∙ ap (get new) named ∙ d.there) in
          ap (λ (t : Table). list_any (λ c. is_end name other c.rule) t.constraints) found
          ∙ ap (λ (cs : List Constraint). list_any (λ c. is_end name other c.rule) cs) d.constraints
          ∙ ap (λ (n : Name). list_any (λ c. is_end name n c.rule) d.table.constraints) named ∙ none name d.table d.was_there
      by false same = none other table (sym (d.others other same) ∙ there)
