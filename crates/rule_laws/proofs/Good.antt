-- What a good database is does not depend on the reading of the texts of CHECKs, and neither do the
-- conditions of its CHECKs.
use Rattle.std.proofs.Common.{◌≡◌, refl, sym, ap, ◌∙◌, ℕ, List, [], ◌∷◌, ◌++◌, map}
use Rattle.std.specs.Prelude.{filter}
use Rattle.std.specs.List.{All, list_any, filter_map, cons_option}
use Rattle.std.proofs.lemmas.List.Elements.{All-head, All-tail}
use Rattle.sqlval.specs.declared.schema.Constraint.{Constraint}
use Rattle.sqlval.specs.declared.schema.Rule.{Rule}
use Rattle.sqlval.specs.declared.schema.Rule.TheVariants as rule
use Rattle.typing.specs.Check.{IsCheckReading}
use Rattle.typing.specs.Kept.{text_in, kept_texts}
use Rattle.typing.specs.declared.typed.Condition.{Condition}
use Rattle.denote.specs.Database.{Name, Table, Database, CheckReading, IsReadable, AreReadable, IsGoodTable, IsGoodIn, IsGood, check_at, checks_of, is_check, is_false, is_violated, violated_by}

module _ (reading other : CheckReading) (reads : IsCheckReading reading) (also : IsCheckReading other) (name : Name) (table : Table) where
  abbrev AreRead : List (List ℕ) → Type 0
  AreRead texts = All (IsReadable name table.columns) texts

  same_text : (text : List ℕ) (texts : List (List ℕ)) → AreRead (text ∷ texts) → other name table.columns text ≡ reading name table.columns text
  same_text text texts h =
      let readable = All-head (IsReadable name table.columns) text texts h in
      also name table.columns text readable.condition readable.reads ∙ sym (reads name table.columns text readable.condition readable.reads)

  -- behind the texts of one rule
  others_read : (r : Rule) (texts : List (List ℕ)) → AreRead (text_in r ++ texts) → AreRead texts
  others_read (rule.NotNull column) texts h = h
  others_read (rule.PrimaryKey columns) texts h = h
  others_read (rule.Unique columns) texts h = h
  others_read (rule.Check text) texts h = All-tail (IsReadable name table.columns) text texts h
  others_read (rule.ForeignKey reference) texts h = h

  -- ---- the conditions of CHECKs

  one_more : (r : Rule) (texts read : List (List ℕ)) → AreRead (text_in r ++ texts) → map (other name table.columns) read ≡ map (reading name table.columns) read
      → map (other name table.columns) (cons_option (is_check r) read) ≡ map (reading name table.columns) (cons_option (is_check r) read)
  one_more (rule.NotNull column) texts read h k = k
  one_more (rule.PrimaryKey columns) texts read h k = k
  one_more (rule.Unique columns) texts read h k = k
  one_more (rule.Check text) texts read h k = rw (same_text text texts h, k) refl
  one_more (rule.ForeignKey reference) texts read h k = k

  same_conditions : (constraints : List Constraint) → AreRead (kept_texts constraints)
      → map (other name table.columns) (filter_map (λ c. is_check c.rule) constraints) ≡ map (reading name table.columns) (filter_map (λ c. is_check c.rule) constraints)
  same_conditions [] h = refl
  same_conditions (c ∷ cs) h =
      one_more c.rule (kept_texts cs) (filter_map (λ k. is_check k.rule) cs) h (same_conditions cs (others_read c.rule (kept_texts cs) h))

  pub same_checks : AreReadable name table.columns table.constraints → checks_of other name table ≡ checks_of reading name table
  same_checks h = same_conditions table.constraints h

  -- ---- what is violated

  same_violated : (r : Rule) (texts : List (List ℕ)) → AreRead (text_in r ++ texts) → is_violated other name table r ≡ is_violated reading name table r
  same_violated (rule.NotNull column) texts h = refl
  same_violated (rule.PrimaryKey columns) texts h = refl
  same_violated (rule.Unique columns) texts h = refl
  same_violated (rule.ForeignKey reference) texts h = refl
  same_violated (rule.Check text) texts h = ap (λ (c : Condition). list_any (λ row. is_false (check_at c row)) table.rows) (same_text text texts h)

  same_among : (constraints : List Constraint) → AreRead (kept_texts constraints)
      → filter (λ c. is_violated other name table c.rule) constraints ≡ filter (λ c. is_violated reading name table c.rule) constraints
  same_among [] h = refl
  same_among (c ∷ cs) h = rw (same_violated c.rule (kept_texts cs) h, same_among cs (others_read c.rule (kept_texts cs) h)) refl

  pub same_violations : AreReadable name table.columns table.constraints → violated_by other name table ≡ violated_by reading name table
  same_violations h = ap (map (λ (c : Constraint). c.name)) (same_among table.constraints h)

  good_table : IsGoodTable reading name table → IsGoodTable other name table
  good_table good = record {
    fitting = good.fitting;
    unviolated = same_violations good.readable ∙ good.unviolated;
    readable = good.readable;
    named = good.named;
  }

pub good_by_every : (reading other : CheckReading) (db : Database) → IsCheckReading reading → IsCheckReading other → IsGood reading db → IsGood other db
good_by_every reading other db reads also good name table is =
    let was : IsGoodIn reading db name table = good name table is in
    record { alone = good_table reading other reads also name table was.alone; referenced = was.referenced; matched = was.matched }
