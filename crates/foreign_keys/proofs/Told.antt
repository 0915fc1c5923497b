-- What is said of a database by the foreign keys that were asked.
use Rattle.std.proofs.Common.{◌≡◌, refl, ap, sym, ◌∙◌, subst, Bool, true, false, not, ◌&&◌, ◌||◌, List, Option, Some, None, Ok, Err, IfOk}
use Rattle.std.specs.Prelude.{All, Contains, IfNone, IfSome, Result}
use Rattle.std.specs.List.{list_any, list_all}
use Rattle.std.specs.FinMap.{get}
use Rattle.std.specs.Cmp.Lexicographic.{bytes_decides}
use Rattle.sqlval.specs.declared.schema.Constraint.{Constraint}
use Rattle.sqlval.specs.declared.schema.Reference.{Reference}
use Rattle.sqlval.specs.declared.schema.Rule.{Rule}
use Rattle.sqlval.specs.declared.schema.Rule.TheVariants.{NotNull, PrimaryKey, Unique, Check, ForeignKey}
use Rattle.sqlval.specs.declared.schema.Schema.{Schema}
use Rattle.sqlval.specs.Schema.{same_name}
use Rattle.sqlval.specs.Value.{Row}
use Rattle.denote.specs.Database.{Name, Table, Database, CheckReading, rows_in, is_matched, has_unmatched, is_unmatched, violated_in}
use Rattle.denote.specs.Database.{rows_of as rows_found}
use Rattle.denote.specs.SchemaOf.{IsSchemaOf}
use Rattle.denote_laws.specs.Difference.{AreMatched, MayGo, may_go, may_all_go}
use Rattle.denote_laws.proofs.Difference.{each-none}
use Rattle.denote_laws.proofs.Good.{all-of_every}
use Rattle.denote_laws.proofs.Missing.{unmatched-violated, missed-violated}
use Rattle.denote_laws.proofs.Referring.{or_left, or_right}
use Rattle.store.specs.Contents.{database_of}
use Rattle.store.specs.View.{Shown}
use Rattle.foreign_keys.specs.declared.asked.Asked.{Asked}
use Rattle.foreign_keys.specs.Asked.{AreAsked, Question, question_of}
use Rattle.foreign_keys.specs.Sources.{Leads, has_missed, is_violated_by, rows_shown}
use Rattle.foreign_keys.proofs.Leading.{rows-held, leads-all, declared-at, asking, asked-for, asked-of}
use Rattle.foreign_keys.proofs.Members.{any-of, none-of, all-of-none, every-in}

or-first : (a b : Bool) → (a || b) ≡ false → a ≡ false
or-first true b e = absurd (cc)
or-first false b e = refl

or-second : (a b : Bool) → (a || b) ≡ false → b ≡ false
or-second true b e = absurd (cc)
or-second false b e = e

and-rest : (a b : Bool) → a ≡ true → (a && b) ≡ false → b ≡ false
and-rest true b e f = f
and-rest false b e f = absurd (cc)

and-both : (a b : Bool) → (a && b) ≡ true → (a ≡ true) × (b ≡ true)
and-both true b e = (refl, e)
and-both false b e = absurd (cc)

denied : (a : Bool) → not a ≡ true → a ≡ false
denied true e = absurd (cc)
denied false e = refl

-- whether a foreign key is violated by rows that came, or for want of rows that went
abbrev is_violated_at : Shown → Name → List Row → List Row → Question → Bool
is_violated_at shown name came gone q =
    (same_name q.table name && has_unmatched q.reference (rows_shown shown q.reference.table) came)
    || (same_name q.reference.table name && has_missed q.reference (rows_shown shown q.reference.table) (rows_shown shown q.table) gone)

-- the database that a reading shows
abbrev pub held : Shown → Database
held shown = database_of shown.contents

module _ (shown : Shown) (schema : Schema) (of : IsSchemaOf schema (held shown)) (name : Name) (came gone : List Row) (asked : List Asked) (are : AreAsked schema name asked)
    (none : list_any (is_violated_by shown name came gone) asked ≡ false) where
  -- a foreign key that was asked is not violated
  free : (one : Asked) (q : Question) → Contains asked one → question_of one ≡ q → is_violated_at shown name came gone q ≡ false
  free one q inside is = ap (is_violated_at shown name came gone) (sym is) ∙ none-of (is_violated_by shown name came gone) asked one none inside

  -- the rows that came are matched
  one-matched : (table : Table) → get (held shown) name ≡ Some table → (k : Constraint) → Contains table.constraints k → (rule : Rule) → k.rule ≡ rule → is_unmatched (rows_in (held shown)) came rule ≡ false
  one-matched table there k inside (NotNull column) is = refl
  one-matched table there k inside (PrimaryKey columns) is = refl
  one-matched table there k inside (Unique columns) is = refl
  one-matched table there k inside (Check text) is = refl
  one-matched table there k inside (ForeignKey reference) is =
      let d = declared-at shown.contents schema of name table there in
      let own : same_name d.0.name name ≡ true = (bytes_decides d.0.name name).1 d.2 in
      let one = asked-for schema name asked are.questions d.0 k reference d.1 (subst (λ (cs : List Constraint). Contains cs k) (sym d.3) inside) is
      (or_left (same_name d.0.name name) (same_name reference.table name) own) in
      let first = or-first (same_name d.0.name name && has_unmatched reference (rows_shown shown reference.table) came)
      (same_name reference.table name && has_missed reference (rows_shown shown reference.table) (rows_shown shown d.0.name) gone)
      (free one.0 (asking k.name d.0.name reference) one.1 one.2) in
      ap (λ rows. has_unmatched reference rows came) (rows-held shown reference.table)
      ∙ and-rest (same_name d.0.name name) (has_unmatched reference (rows_shown shown reference.table) came) own first

  pub all-matched : AreMatched (held shown) name came
  all-matched table there = each-none (λ (k : Constraint). is_unmatched (rows_in (held shown)) came k.rule) table.constraints
      (every-in (λ (k : Constraint). is_unmatched (rows_in (held shown)) came k.rule ≡ false) table.constraints (λ k inside. one-matched table there k inside k.rule refl))

  -- and those that went may go
  missed-none : (other : Name) (table : Table) → get (held shown) other ≡ Some table → (k : Constraint) → Contains table.constraints k → (reference : Reference) → k.rule ≡ ForeignKey reference
      → same_name reference.table name ≡ true → list_all (may_go reference (rows_in (held shown) name) table.rows) gone ≡ true
  missed-none other table there k inside reference is same =
      let d = declared-at shown.contents schema of other table there in
      let one = asked-for schema name asked are.questions d.0 k reference d.1 (subst (λ (cs : List Constraint). Contains cs k) (sym d.3) inside) is
      (or_right (same_name d.0.name name) (same_name reference.table name) same) in
      let second = or-second (same_name d.0.name name && has_unmatched reference (rows_shown shown reference.table) came)
      (same_name reference.table name && has_missed reference (rows_shown shown reference.table) (rows_shown shown d.0.name) gone)
      (free one.0 (asking k.name d.0.name reference) one.1 one.2) in
      let kept = and-rest (same_name reference.table name) (has_missed reference (rows_shown shown reference.table) (rows_shown shown d.0.name) gone) same second in
      let named : reference.table ≡ name = (bytes_decides reference.table name).0 same in
      let others : rows_in (held shown) name ≡ rows_shown shown reference.table = rows-held shown name ∙ sym (ap (rows_shown shown) named) in
      let rows : table.rows ≡ rows_shown shown d.0.name = sym (ap rows_found there) ∙ rows-held shown other ∙ sym (ap (rows_shown shown) d.2) in
      all-of-none (may_go reference (rows_in (held shown) name) table.rows) gone ((λ i. has_missed reference (others i) (rows i) gone) ∙ kept)

  one-free : (other : Name) (table : Table) → get (held shown) other ≡ Some table → (k : Constraint) → Contains table.constraints k → (rule : Rule) → k.rule ≡ rule
      → may_all_go name (rows_in (held shown) name) gone table.rows rule ≡ true
  one-free other table there k inside (NotNull column) is = refl
  one-free other table there k inside (PrimaryKey columns) is = refl
  one-free other table there k inside (Unique columns) is = refl
  one-free other table there k inside (Check text) is = refl
  one-free other table there k inside (ForeignKey reference) is = by (same_name reference.table name) refl
    where
      by : (b : Bool) → same_name reference.table name ≡ b → (not b || list_all (may_go reference (rows_in (held shown) name) table.rows) gone) ≡ true
      by true same = missed-none other table there k inside reference is same
      by false same = refl

  pub all-may-go : MayGo (held shown) name gone
  all-may-go other table there = all-of_every (λ (k : Constraint). may_all_go name (rows_in (held shown) name) gone table.rows k.rule) table.constraints
      (every-in (λ (k : Constraint). may_all_go name (rows_in (held shown) name) gone table.rows k.rule ≡ true) table.constraints (λ k inside. one-free other table there k inside k.rule refl))

module _ (shown : Shown) (schema : Schema) (of : IsSchemaOf schema (held shown)) (name : Name) (came gone : List Row) (asked : List Asked) (are : AreAsked schema name asked) where
  -- one that is violated is one of the database
  pub one-violated : (check : CheckReading) (one : Asked) → Contains asked one → is_violated_by shown name came gone one ≡ true
      → ((table : Table) → get (held shown) name ≡ Some table → (row : Row) → Contains came row → Contains table.rows row) → Contains (violated_in check (held shown)) one.constraint
  one-violated check one inside e among =
      let q = asked-of schema name asked are.questions one inside in
      let found = of.tables q.0 q.1 in
      let there : get (held shown) one.table ≡ Some found.0 = ap (get (held shown)) (sym q.6) ∙ found.1 in
      let own : Contains found.0.constraints q.2 = subst (λ (cs : List Constraint). Contains cs q.2) found.2.constraints q.3 in
      subst (Contains (violated_in check (held shown))) q.5
      (by found.0 q.2 there own q.4 (same_name one.table name && has_unmatched one.reference (rows_shown shown one.reference.table) came) refl e)
    where
      by : (table : Table) (k : Constraint) → get (held shown) one.table ≡ Some table → Contains table.constraints k → k.rule ≡ ForeignKey one.reference → (b : Bool)
          → (same_name one.table name && has_unmatched one.reference (rows_shown shown one.reference.table) came) ≡ b → (b || (same_name one.reference.table name && has_missed one.reference (rows_shown shown one.reference.table) (rows_shown shown one.table) gone)) ≡ true
          → Contains (violated_in check (held shown)) k.name
      by table k there own is true first e =
          let parts = and-both (same_name one.table name) (has_unmatched one.reference (rows_shown shown one.reference.table) came) first in
          let named : one.table ≡ name = (bytes_decides one.table name).0 parts.0 in
          let row = any-of (λ (r : Row). not (is_matched one.reference (rows_shown shown one.reference.table) r)) came parts.1 in
          let here : get (held shown) name ≡ Some table = ap (get (held shown)) (sym named) ∙ there in
          unmatched-violated check (held shown) name table k one.reference row.0 here own is (among table here row.0 row.1)
          (ap (λ rows. is_matched one.reference rows row.0) (rows-held shown one.reference.table) ∙ denied (is_matched one.reference (rows_shown shown one.reference.table) row.0) row.2)
      by table k there own is false first e =
          let parts = and-both (same_name one.reference.table name) (has_missed one.reference (rows_shown shown one.reference.table) (rows_shown shown one.table) gone) e in
          let row = any-of (λ (r : Row). not (may_go one.reference (rows_shown shown one.reference.table) (rows_shown shown one.table) r)) gone parts.1 in
          let rows : table.rows ≡ rows_shown shown one.table = sym (ap rows_found there) ∙ rows-held shown one.table in
          missed-violated check (held shown) one.table table k one.reference row.0 there own is
          ((λ i. may_go one.reference (rows-held shown one.reference.table i) (rows i) row.0) ∙ denied (may_go one.reference (rows_shown shown one.reference.table) (rows_shown shown one.table) row.0) row.2)

module _ {E : Type 0} (shown : Shown) (sound : Type 0) (name : Name) (came gone : List Row) (asked : List Asked) where
  -- where none is found to be violated
  pub nothing-told : (r : Result (Option Name) E)
      → IfOk r (λ found. IfNone found (sound → All (Leads shown) asked → list_any (is_violated_by shown name came gone) asked ≡ false))
      → IfOk r (λ found. IfNone found ((schema : Schema) → sound → IsSchemaOf schema (held shown) → AreAsked schema name asked → AreMatched (held shown) name came × MayGo (held shown) name gone))
  nothing-told (Err e) h = tt
  nothing-told (Ok (Some constraint)) h = tt
  nothing-told (Ok None) h = λ schema s of are.
      let none = h s (leads-all shown schema of asked are.ways) in
      (all-matched shown schema of name came gone asked are none, all-may-go shown schema of name came gone asked are none)

  -- and where one is
  pub something-told : (r : Result (Option Name) E)
      → IfOk r (λ found. IfSome found (λ constraint. sound → All (Leads shown) asked
      → (one : Asked) × Contains asked one × (one.constraint ≡ constraint) × (is_violated_by shown name came gone one ≡ true)))
      → IfOk r (λ found. IfSome found (λ constraint. (schema : Schema) (check : CheckReading) → sound → IsSchemaOf schema (held shown) → AreAsked schema name asked
      → ((table : Table) → get (held shown) name ≡ Some table → (row : Row) → Contains came row → Contains table.rows row) → Contains (violated_in check (held shown)) constraint))
  something-told (Err e) h = tt
  something-told (Ok None) h = tt
  something-told (Ok (Some constraint)) h = λ schema check s of are among.
      let one = h s (leads-all shown schema of asked are.ways) in
      subst (Contains (violated_in check (held shown))) one.2 (one-violated shown schema of name came gone asked are check one.0 one.1 one.3 among)
