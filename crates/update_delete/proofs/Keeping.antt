-- Changes of rows that keep the keys of each, and let in none that violates a constraint alone,
-- break no constraint of the table.
use Rattle.std.proofs.Common.{◌≡◌, ◌∙◌, refl, sym, ap, subst, ℕ, suc, ◌+◌, ◌<◌, ◌≤◌, Bool, true, false, cond, ◌&&◌, ◌||◌, List, [], ◌∷◌, map, drop, drop-cons, get_or, length, Some, arith}
use Rattle.std.specs.Prelude.{filter}
use Rattle.std.proofs.lemmas.List.{drop_all}
use Rattle.std.specs.List.{list_any}
use Rattle.std.specs.Cmp.Lexicographic.{pointwise}
use Rattle.std.specs.FinMap.{slice_cmp-IsAntisymmetric}
use Rattle.std.specs.Ordering.{is_eq}
use Rattle.std.specs.declared.cmp.Ordering.{Ordering}
use Rattle.std.specs.declared.cmp.Ordering.TheVariants.{Less, Equal, Greater}
use Rattle.sqlval.specs.declared.schema.Constraint.{Constraint}
use Rattle.sqlval.specs.declared.schema.Rule.{Rule}
use Rattle.sqlval.specs.declared.schema.Rule.TheVariants.{NotNull, PrimaryKey, Unique, Check, ForeignKey}
use Rattle.sqlval.specs.declared.schema.Table as declared
use Rattle.sqlval.specs.declared.value.Value.{Value}
use Rattle.sqlval.proofs.ValueOrderLaws.{value_order-level}
use Rattle.constraints.specs.Keys.{by_key}
use Rattle.sqlval.specs.Matching.{is_equal, key_of, matches}
use Rattle.sqlval.specs.Value.{Row, is_null}
use Rattle.denote.specs.Database.{Name, Table, CheckReading, table_of, check_at, is_false, has_null, has_twins, is_violated, violated_by}
use Rattle.constraints.specs.Foreseen.{columns_of_key}
use Rattle.update_delete.specs.declared.change.RowChange.{RowChange}
use Rattle.update_delete.specs.declared.change.RowChange.TheVariants.{Stays, Goes, Becomes}
use Rattle.update_delete.specs.RowChanges.{rows_left, spread_at, spread}
use Rattle.update_delete.specs.Kept.{Keeps, KeepsBy, KeepAll, keeps_key, keep_keys}

neither : (a b : Bool) → (a || b) ≡ false → (a ≡ false) × (b ≡ false)
neither true b e = absurd (cc e)
neither false b e = (refl, e)

or-none : (a b : Bool) → a ≡ false → b ≡ false → (a || b) ≡ false
or-none a b e f = λ i. e i || f i

-- ---- among all rows the others stay

pub keep-spread : (P : Row → Row → Type 0) (test : Row → Bool) (rows : List Row) (changes : List RowChange) → KeepAll P (filter test rows) changes → KeepAll P rows (spread test rows changes)
keep-spread P test [] changes h = tt
keep-spread P test (row ∷ rows) changes h = by (test row) changes h (λ cs. keep-spread P test rows cs)
  where
    by : (b : Bool) (changes : List RowChange) → KeepAll P (cond b (row ∷ filter test rows) (filter test rows)) changes
        → ((changes : List RowChange) → KeepAll P (filter test rows) changes → KeepAll P rows (spread test rows changes))
        → KeepAll P (row ∷ rows) (spread_at b (λ (others : List RowChange). spread test rows others) changes)
    by true [] h rest = (tt, rest [] (none (filter test rows)))
      where
        none : (rows : List Row) → KeepAll P rows []
        none [] = tt
        none (row ∷ rows) = tt
    by true (change ∷ changes) h rest = (h.0, rest changes h.1)
    by false changes h rest = (tt, rest changes h)

-- ---- rules

-- a test that no row passes, nor any that comes
any-left : (q : Row → Bool) (P : Row → Row → Type 0) → ((row new : Row) → P row new → q row ≡ false → q new ≡ false) → (rows : List Row) (changes : List RowChange) → KeepAll P rows changes
    → list_any q rows ≡ false → list_any q (rows_left rows changes) ≡ false
any-left q P one [] changes h e = refl
any-left q P one (row ∷ rows) [] h e = e
any-left q P one (row ∷ rows) (Stays ∷ changes) h e =
    let none = neither (q row) (list_any q rows) e in or-none (q row) (list_any q (rows_left rows changes)) none.0 (any-left q P one rows changes h.1 none.1)
any-left q P one (row ∷ rows) (Goes ∷ changes) h e = let none = neither (q row) (list_any q rows) e in any-left q P one rows changes h.1 none.1
any-left q P one (row ∷ rows) (Becomes new ∷ changes) h e =
    let none = neither (q row) (list_any q rows) e in or-none (q new) (list_any q (rows_left rows changes)) (one row new h.0 none.0) (any-left q P one rows changes h.1 none.1)

module _ (columns : List ℕ) (P : Row → Row → Type 0) (same : (row new : Row) → P row new → key_of columns row ≡ key_of columns new) where
  keys-left : (key : List Value) (rows : List Row) (changes : List RowChange) → KeepAll P rows changes → list_any (matches columns key) rows ≡ false
      → list_any (matches columns key) (rows_left rows changes) ≡ false
  keys-left key = any-left (matches columns key) P (λ row new h e. ap (λ (k : List Value). pointwise is_equal k key) (sym (same row new h)) ∙ e)

  twins-left : (rows : List Row) (changes : List RowChange) → KeepAll P rows changes → has_twins columns rows ≡ false → has_twins columns (rows_left rows changes) ≡ false
  twins-left [] changes h e = refl
  twins-left (row ∷ rows) [] h e = e
  twins-left (row ∷ rows) (Stays ∷ changes) h e =
      let none = neither (list_any (matches columns (key_of columns row)) rows) (has_twins columns rows) e in
      or-none (list_any (matches columns (key_of columns row)) (rows_left rows changes)) (has_twins columns (rows_left rows changes)) (keys-left (key_of columns row) rows changes h.1 none.0)
      (twins-left rows changes h.1 none.1)
  twins-left (row ∷ rows) (Goes ∷ changes) h e =
      let none = neither (list_any (matches columns (key_of columns row)) rows) (has_twins columns rows) e in twins-left rows changes h.1 none.1
  twins-left (row ∷ rows) (Becomes new ∷ changes) h e =
      let none = neither (list_any (matches columns (key_of columns row)) rows) (has_twins columns rows) e in
      or-none (list_any (matches columns (key_of columns new)) (rows_left rows changes)) (has_twins columns (rows_left rows changes))
      (ap (λ (k : List Value). list_any (matches columns k) (rows_left rows changes)) (sym (same row new h.0)) ∙ keys-left (key_of columns row) rows changes h.1 none.0)
      (twins-left rows changes h.1 none.1)

module _ (reading : CheckReading) (name : Name) (t : Table) where
  abbrev pub with_rows : List Row → Table
  with_rows rows = record t { rows = rows }

  first-none : (b : Bool) → (b || false) ≡ false → b ≡ false
  first-none true e = e
  first-none false e = refl

  -- what no row violates alone
  module _ (P : Row → Row → Type 0) (rows : List Row) (changes : List RowChange) (h : KeepAll P rows changes) where
    rule-left : (r : Rule) → ((row new : Row) → P row new → is_violated reading name (with_rows (new ∷ [])) r ≡ false)
        → ((columns : List ℕ) → columns_of_key r ≡ Some columns → (row new : Row) → P row new → key_of columns row ≡ key_of columns new)
        → is_violated reading name (with_rows rows) r ≡ false → is_violated reading name (with_rows (rows_left rows changes)) r ≡ false
    rule-left (NotNull column) alone keys e =
        any-left (λ (row : Row). list_any is_null (key_of (column ∷ []) row)) P (λ row new p _. first-none (list_any is_null (key_of (column ∷ []) new)) (alone row new p)) rows changes h e
    rule-left (PrimaryKey columns) alone keys e =
        let none = neither (has_null columns rows) (has_twins columns rows) e in
        or-none (has_null columns (rows_left rows changes)) (has_twins columns (rows_left rows changes))
        (any-left (λ (row : Row). list_any is_null (key_of columns row)) P
        (λ row new p _. first-none (list_any is_null (key_of columns new)) (neither (has_null columns (new ∷ [])) (has_twins columns (new ∷ [])) (alone row new p)).0) rows changes h none.0)
        (twins-left columns P (keys columns refl) rows changes h none.1)
    rule-left (Unique columns) alone keys e = twins-left columns P (keys columns refl) rows changes h e
    rule-left (ForeignKey reference) alone keys e = refl
    rule-left (Check text) alone keys e =
        any-left (λ (row : Row). is_false (check_at (reading name t.columns text) row)) P (λ row new p _. first-none (is_false (check_at (reading name t.columns text) new)) (alone row new p)) rows changes h e

-- ---- constraints

module _ (reading : CheckReading) (name : Name) (t : Table) (rows : List Row) (changes : List RowChange) (whole : List Constraint)
    (h : KeepAll (Keeps reading name t whole) rows changes) where
  abbrev names : List Row → List Constraint → List Name
  names rs cs = map (λ (c : Constraint). c.name) (filter (λ (c : Constraint). is_violated reading name (record t { rows = rs }) c.rule) cs)

  names-left : (cs : List Constraint)
      → ((row new : Row) → Keeps reading name t whole row new → Keeps reading name t cs row new) → names rows cs ≡ [] → names (rows_left rows changes) cs ≡ []
  names-left [] among e = refl
  names-left (c ∷ cs) among e = by (is_violated reading name (record t { rows = rows }) c.rule) refl e (names-left cs (λ row new p. (among row new p).1))
    where
      last : (b : Bool) → b ≡ false → names (rows_left rows changes) cs ≡ []
          → map (λ (c : Constraint). c.name) (cond b (c ∷ filter (λ (c : Constraint). is_violated reading name (record t { rows = rows_left rows changes }) c.rule) cs)
          (filter (λ (c : Constraint). is_violated reading name (record t { rows = rows_left rows changes }) c.rule) cs)) ≡ []
      last true is rest = absurd (cc is)
      last false is rest = rest

      by : (b : Bool) → is_violated reading name (record t { rows = rows }) c.rule ≡ b
          → map (λ (c : Constraint). c.name) (cond b (c ∷ filter (λ (c : Constraint). is_violated reading name (record t { rows = rows }) c.rule) cs)
          (filter (λ (c : Constraint). is_violated reading name (record t { rows = rows }) c.rule) cs)) ≡ []
          → (names rows cs ≡ [] → names (rows_left rows changes) cs ≡ []) → names (rows_left rows changes) (c ∷ cs) ≡ []
      by true is none rest = absurd (cc none)
      by false is none rest =
          last (is_violated reading name (record t { rows = rows_left rows changes }) c.rule)
          (rule-left reading name t (Keeps reading name t whole) rows changes h c.rule (λ row new p. (among row new p).0.alone) (λ columns asked row new p. (among row new p).0.keys columns asked) is)
          (rest none)

pub constraints-kept : (reading : CheckReading) (name : Name) (t : Table) (changes : List RowChange) → KeepAll (Keeps reading name t t.constraints) t.rows changes
    → violated_by reading name t ≡ [] → violated_by reading name (record t { rows = rows_left t.rows changes }) ≡ []
constraints-kept reading name t changes h e = names-left reading name t t.rows changes t.constraints h t.constraints (λ row new p. p) e

-- ---- what is tested

both : (a b : Bool) → (a && b) ≡ true → (a ≡ true) × (b ≡ true)
both true b e = (refl, e)
both false b e = absurd (cc e)

level : (r : Ordering) → is_eq r ≡ true → r ≡ Equal
level Less e = absurd (cc e)
level Equal e = refl
level Greater e = absurd (cc e)

same_some : {X : Type 0} (x y : X) → Some x ≡ Some y → x ≡ y
same_some x y e = cc

one-key : (own columns : List ℕ) (row new : Row) → is_eq (by_key own row new) ≡ true → own ≡ columns → key_of columns row ≡ key_of columns new
one-key own columns row new e is =
    subst (λ (cs : List ℕ). key_of cs row ≡ key_of cs new) is (slice_cmp-IsAntisymmetric value_order-level (key_of own row) (key_of own new) (level (by_key own row new) e))

same-keys : (r : Rule) (row new : Row) → keeps_key r row new ≡ true → (columns : List ℕ) → columns_of_key r ≡ Some columns → key_of columns row ≡ key_of columns new
same-keys (NotNull column) row new e columns asked = absurd (cc asked)
same-keys (PrimaryKey own) row new e columns asked = one-key own columns row new e (same_some own columns asked)
same-keys (Unique own) row new e columns asked = one-key own columns row new e (same_some own columns asked)
same-keys (Check text) row new e columns asked = absurd (cc asked)
same-keys (ForeignKey reference) row new e columns asked = absurd (cc asked)

module _ (reading : CheckReading) (name : Name) (d : declared.Table) (whole : List Row) (row new : Row) where
  tested : (cs : List Constraint) → keep_keys cs row new ≡ true
      → map (λ (c : Constraint). c.name) (filter (λ (c : Constraint). is_violated reading name (table_of d (new ∷ [])) c.rule) cs) ≡ [] → Keeps reading name (table_of d whole) cs row new
  tested [] e none = tt
  tested (c ∷ cs) e none = by (is_violated reading name (table_of d (new ∷ [])) c.rule) refl none (tested cs (both (keeps_key c.rule row new) (keep_keys cs row new) e).1)
    where
      by : (b : Bool) → is_violated reading name (table_of d (new ∷ [])) c.rule ≡ b
          → map (λ (c : Constraint). c.name) (cond b (c ∷ filter (λ (c : Constraint). is_violated reading name (table_of d (new ∷ [])) c.rule) cs)
          (filter (λ (c : Constraint). is_violated reading name (table_of d (new ∷ [])) c.rule) cs)) ≡ []
          → (map (λ (c : Constraint). c.name) (filter (λ (c : Constraint). is_violated reading name (table_of d (new ∷ [])) c.rule) cs) ≡ [] → Keeps reading name (table_of d whole) cs row new)
          → Keeps reading name (table_of d whole) (c ∷ cs) row new
      by true is found rest = absurd (cc found)
      by false is found rest =
          (record { alone = is; keys = same-keys c.rule row new (both (keeps_key c.rule row new) (keep_keys cs row new) e).0 }, rest found)

  pub keeps-tested : keep_keys d.constraints row new ≡ true → violated_by reading name (table_of d (new ∷ [])) ≡ [] → Keeps reading name (table_of d whole) d.constraints row new
  keeps-tested e none = tested d.constraints e none

-- one change after another
pub keep-next : (P : Row → Row → Type 0) (rows : List Row) (k : ℕ) (row : Row) (left others : List RowChange) (change : RowChange) → k < length rows → row ≡ get_or rows k row
    → left ≡ change ∷ others → KeepsBy P row change → KeepAll P (drop (k + 1) rows) others → KeepAll P (drop k rows) left
keep-next P rows k row left others change below is first keeps rest =
    let one : drop k rows ≡ row ∷ drop (suc k) rows = drop-cons rows k row below ∙ ap (λ (x : Row). x ∷ drop (suc k) rows) (sym is) in
    let more : suc k ≡ k + 1 = omega arith in
    let all : drop k rows ≡ row ∷ drop (k + 1) rows = one ∙ ap (λ (n : ℕ). row ∷ drop n rows) more in
    subst (λ (rs : List Row). KeepAll P rs left) (sym all) (subst (λ (cs : List RowChange). KeepAll P (row ∷ drop (k + 1) rows) cs) (sym first) (keeps, rest))

pub keep-none : (P : Row → Row → Type 0) (rows : List Row) (left : List RowChange) → left ≡ [] → KeepAll P rows left
keep-none P [] left e = tt
keep-none P (row ∷ rows) left e = subst (λ (cs : List RowChange). KeepAll P (row ∷ rows) cs) (sym e) tt

pub keep-past : (P : Row → Row → Type 0) (rows : List Row) (k : ℕ) (left : List RowChange) → length rows ≤ k → KeepAll P (drop k rows) left
keep-past P rows k left past = subst (λ (rs : List Row). KeepAll P rs left) (sym (drop_all k rows past)) tt
