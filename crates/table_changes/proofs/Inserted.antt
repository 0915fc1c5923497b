-- What an INSERT of rows that are given leaves of a store.
use Rattle.std.proofs.Common.{◌≡◌, ◌∙◌, refl, sym, ap, subst, ℕ, Bool, true, false, cond, List, [], ◌∷◌, ◌++◌, map, length, Option, Some, None, Ok, arith, append-nil}
use Rattle.std.proofs.lemmas.Cmp.{nat_list_cmp_total, tied_itself}
use Rattle.std.specs.Prelude.{Contains, IfSome, IfNone}
use Rattle.std.specs.Ordering.{is_eq}
use Rattle.std.specs.FinMap.{get, insert}
use Rattle.refusals.specs.declared.refusal.Refusal.{Refusal}
use Rattle.sqlval.specs.declared.schema.Column.{Column}
use Rattle.sqlval.specs.declared.schema.Constraint.{Constraint}
use Rattle.sqlval.specs.declared.value.Value.{Value}
use Rattle.sqlval.specs.Value.{Row}
use Rattle.typing.specs.declared.statement.Change.TheVariants as does
use Rattle.typing.specs.declared.statement.Insert.{Insert}
use Rattle.typing.specs.declared.statement.InsertSource.{InsertSource}
use Rattle.typing.specs.declared.statement.InsertSource.TheVariants as from
use Rattle.typing.specs.declared.typed.Condition.{Condition}
use Rattle.typing.specs.declared.typed.Expression.{Expression}
use Rattle.denote.specs.declared.fault.Fault.{Fault}
use Rattle.denote.specs.Bag.{Permutes, HasSame}
use Rattle.denote.specs.Change.{Changed, changed, on_table, insert_into, inserted_rows, unless_raised, unless_violated, with_rows, IsAccepted, IsNamed}
use Rattle.denote.specs.Change.Changed.{Makes}
use Rattle.denote.specs.Database.{Name, Table, Database, CheckReading, checks_of, rows_in, violated_in, IsSameTable, AreSame, IsSameDatabase}
use Rattle.denote.specs.Evaluation.{Evaluation, adding, together}
use Rattle.denote.specs.Meaning.{Tables, value_of, query_outcome}
use Rattle.denote.specs.StoredRow.{inserted_row, row_with}
use Rattle.replies.specs.declared.reply.Reply.{Reply}
use Rattle.session_definitions.specs.Refusals.{IsReserved}
use Rattle.session_definitions.specs.Statements.{counted}
use Rattle.store.specs.declared.error.StoreError.{StoreError}
use Rattle.store.specs.declared.error.StoreLimit.{StoreLimit}
use Rattle.store.specs.Contents.{database_of, appended}
use Rattle.store.specs.Errors.{MayFail, StoringReaches, HasLongKey, indexes_of}
use Rattle.store.specs.Stored.{Stored, SameButMark, marked_now, working_on, IsAlone, undone}
use Rattle.transactions.specs.Refused.{refused_by}
use Rattle.transactions.proofs.Tests.{reserved}
use Rattle.operator_laws.proofs.Orders.{length-permutes}
use Rattle.operator_laws.proofs.Permuting.{Permutes-refl, Permutes-append, HasSame-permutes}
use Rattle.denote_laws.proofs.Maps.{is_name, found-insert}
use Rattle.denote_laws.specs.Difference.{Differs}
use Rattle.denote_laws.proofs.ChangedLemmas.{violated_in-same}
use Rattle.denote_laws.proofs.Good.{other_name}
use Rattle.constraints.specs.Changed.{RefusesChange}
use Rattle.constraints.specs.Matched.{AllHold, BreaksAny, CameAll, has_foreign_keys}
use Rattle.constraints.specs.Settled.{AreAmong, Decided}
use Rattle.constraints.proofs.Held.{held_as}
use Rattle.constraints.proofs.Violations.{same_some}
use Rattle.constraints.proofs.Short.{Fits, given_each, admitted_fits, no_long_row, no_long_key}
use Rattle.table_changes.specs.Given.{AreGiven, HasMore, HasAccepted}
use Rattle.table_changes.proofs.Made.{appended-database, decided_still}

-- only the mark was set
pub marked_same : (old mid new : Stored) → mid ≡ marked_now old → new ≡ mid → SameButMark old new
marked_same old mid new m e = subst (λ (s : Stored). SameButMark old s) (sym (e ∙ m)) (record { commits = refl; last = refl; readers = refl; working = refl })

-- the mark was set, and a change that was made goes back to it
pub undone_same : (old mid looked made new : Stored) → mid ≡ marked_now old → looked ≡ mid → IsAlone looked made → new ≡ undone made → SameButMark old new
undone_same old mid looked made new m l alone e =
    let back : new ≡ undone (working_on (marked_now old) made.working) = e ∙ ap undone (alone ∙ ap (λ (s : Stored). working_on s made.working) (l ∙ m)) in
    subst (λ (s : Stored). SameButMark old s) (sym back) (record { commits = refl; last = refl; readers = refl; working = refl })

-- ---- the rows are short enough

no_faults : {A : Type 0} (faults : List Fault) (x : Evaluation A) (y : A) → adding faults x ≡ Ok y → x ≡ Ok y
no_faults [] x y e = e
no_faults (fault ∷ faults) x y e = absurd (cc e)

each_fits : (checks : List Condition) (tables : Tables) (table : Table) (places : List ℕ) (source : InsertSource) (rows : List Row) → inserted_rows checks tables table places source ≡ Ok rows
    → (row : Row) → Contains rows row → Fits table row
each_fits checks tables table places (from.Values sources) rows e row one =
    given_each (λ (sources : List Expression). inserted_row checks table places (map (λ source. value_of tables source []) sources)) (Fits table)
    (λ x r given. admitted_fits checks table (row_with table.columns places (map (λ source. value_of tables source []) x) []) r given) sources rows e one.0 row row one.1 one.2
each_fits checks tables table places (from.Query query) rows e row one =
    let o = query_outcome tables query [] in
    let all = no_faults o.faults (together (map (λ (row : Row). inserted_row checks table places (map (λ (x : Value). Ok x) row)) o.rows)) rows e in
    given_each (λ (row : Row). inserted_row checks table places (map (λ (x : Value). Ok x) row)) (Fits table)
    (λ x r given. admitted_fits checks table (row_with table.columns places (map (λ (x : Value). Ok x) x) []) r given) o.rows rows all one.0 row row one.1 one.2

-- ---- rows in another order

still_name : (name : Name) → is_name name name ≡ true
still_name name = ap is_eq (tied_itself nat_list_cmp_total name)

itself : (o : Option Table) → AreSame o o
itself None = tt
itself (Some t) = record { columns = refl; constraints = refl; indexes = refl; rows = Permutes-refl t.rows }

-- a table in place of another with the same rows in another order
put-same : (db : Database) (name : Name) (x y : Table) → IsSameTable x y → IsSameDatabase (insert db name x) (insert db name y)
put-same db name x y h = λ other. rw (found-insert db name x other, found-insert db name y other) (at (is_name other name) (get db other))
  where
    at : (b : Bool) (o : Option Table) → AreSame (cond b (Some x) o) (cond b (Some y) o)
    at true o = h
    at false o = itself o

is_named : (names : List Name) (db : Database) (count : ℕ) (name : Name) → Contains names name → IsNamed (unless_violated names db count) name
is_named [] db count name one = absurd (let below = one.1 in omega (arith, below))
is_named (n ∷ names) db count name one = one

empty_same : (names : List Name) → HasSame names [] → names ≡ []
empty_same [] h = refl
empty_same (name ∷ names) h = absurd (let below = ((h name).0 (0, omega arith, refl)).1 in omega (arith, below))

module _ (reading : CheckReading) (db : Database) (name : Name) (table : Table) (there : get db name ≡ Some table) (meant rows : List Row) (count : ℕ) (order : Permutes meant rows) where
  same_table : IsSameTable (record table { rows = table.rows ++ meant }) (record table { rows = table.rows ++ rows })
  same_table = record { columns = refl; constraints = refl; indexes = refl; rows = Permutes-append table.rows table.rows meant rows (Permutes-refl table.rows) order }

  -- the database as it is meant violates what the one with the stored rows does
  abbrev meant_there : Database
  meant_there = insert db name (record table { rows = table.rows ++ meant })

  same_made : IsSameDatabase meant_there (insert db name (record table { rows = table.rows ++ rows }))
  same_made = put-same db name (record table { rows = table.rows ++ meant }) (record table { rows = table.rows ++ rows }) same_table

  put_there : get (insert db name (record table { rows = table.rows ++ rows })) name ≡ Some (record table { rows = table.rows ++ rows })
  put_there = found-insert db name (record table { rows = table.rows ++ rows }) name ∙ ap (λ b. cond b (Some (record table { rows = table.rows ++ rows })) (get db name)) (still_name name)

  -- where nothing is violated, the change is accepted with the stored rows
  pub accepts : (made : Database) → made ≡ insert db name (record table { rows = table.rows ++ rows }) → AllHold reading made
      → IsAccepted (with_rows reading db name table (table.rows ++ meant) count) made (Some count)
  accepts made is holds =
      let none : violated_in reading meant_there ≡ [] = empty_same (violated_in reading meant_there)
      (subst (λ (names : List Name). HasSame (violated_in reading meant_there) names) (subst (λ (m : Database). AllHold reading m) is holds)
      (violated_in-same reading meant_there (insert db name (record table { rows = table.rows ++ rows })) same_made)) in
      let made_so : with_rows reading db name table (table.rows ++ meant) count ≡ Makes meant_there (Some count) =
      ap (λ names. unless_violated names meant_there count) none in
      subst (λ (c : Changed). IsAccepted c made (Some count)) (sym made_so) (
        subst (λ (m : Database). IsSameDatabase meant_there m) (sym is) same_made,
        refl,
      )

  -- and where a constraint is violated, it is with the rows as they are meant
  pub names_it : (made : Database) → made ≡ insert db name (record table { rows = table.rows ++ rows }) → (constraint : Name)
      → Contains (violated_in reading made) constraint → IsNamed (with_rows reading db name table (table.rows ++ meant) count) constraint
  names_it made is constraint one =
      is_named (violated_in reading meant_there) meant_there count constraint
      ((violated_in-same reading meant_there (insert db name (record table { rows = table.rows ++ rows })) same_made constraint).1
      (subst (λ (m : Database). Contains (violated_in reading m) constraint) is one))

  -- rows came to the table, and none went
  pub differs : Differs db (insert db name (record table { rows = table.rows ++ rows })) name rows []
  differs = record {
    table = table;
    was_there = there;
    now = record table { rows = table.rows ++ rows };
    there = put_there;
    constraints = refl;
    stay = table.rows;
    before = subst (λ (all : List Row). Permutes all table.rows) (sym (append-nil table.rows)) (Permutes-refl table.rows);
    after = Permutes-refl (table.rows ++ rows);
    others = λ other apart. found-insert db name (record table { rows = table.rows ++ rows }) other
        ∙ ap (λ b. cond b (Some (record table { rows = table.rows ++ rows })) (get db other)) (other_name other name apart);
  }

  pub among : AreAmong (insert db name (record table { rows = table.rows ++ rows })) name rows
  among = record { table = record table { rows = table.rows ++ rows }; there = put_there; others = table.rows; order = Permutes-refl (table.rows ++ rows) }

-- ---- the change

module _ (reading : CheckReading) (old mid : Stored) (i : Insert) (rows : List Row) (m : mid ≡ marked_now old) (g : AreGiven reading (database_of old.working) i rows) where
  changed_is : changed reading (database_of old.working) (does.Insert i) ≡ with_rows reading (database_of old.working) i.table g.table (g.table.rows ++ g.meant) (length g.meant)
  changed_is =
      ap (λ o. on_table (database_of old.working) o (insert_into reading (database_of old.working) i)) g.there
      ∙ ap (λ e. unless_raised e (λ rows. with_rows reading (database_of old.working) i.table g.table (g.table.rows ++ rows) (length rows))) g.given

  would_be : (made : Stored) → made ≡ working_on mid (appended mid.working i.table rows)
      → database_of made.working ≡ insert (database_of old.working) i.table (record g.table { rows = g.table.rows ++ rows })
  would_be made e =
      ap (λ (s : Stored). database_of s.working) (e ∙ ap (λ (s : Stored). working_on s (appended s.working i.table rows)) m)
      ∙ appended-database old.working i.table g.table rows g.there

  -- the table has the rows at its end
  pub more_there : (made : Stored) → made ≡ working_on mid (appended mid.working i.table rows) → HasMore (database_of mid.working) i.table rows (database_of made.working)
  more_there made e =
      subst (λ (s : Stored). HasMore (database_of s.working) i.table rows (database_of made.working)) (sym m) (record {
        table = g.table;
        there = g.there;
        more = ap (λ (db : Database). get db i.table) (would_be made e) ∙ put_there reading (database_of old.working) i.table g.table g.there g.meant rows (length g.meant) g.order;
      })

  -- what decides the CHECKs of the table still does
  pub decided_made : (decides : Name → List Column → List Constraint → Type 0) (made : Stored) → made ≡ working_on mid (appended mid.working i.table rows)
      → Decided decides (database_of old.working) i.table → Decided decides (database_of made.working) i.table
  decided_made decides made e = decided_still decides (database_of old.working) (database_of made.working) i.table g.table (g.table.rows ++ rows) (would_be made e) g.there

  -- the rows are stored
  pub inserted : (made new : Stored) (n : ℕ) (reply : Reply) → made ≡ working_on mid (appended mid.working i.table rows) → new ≡ made → AllHold reading (database_of made.working)
      → n ≡ length rows → reply ≡ counted (Some n) → HasAccepted reading old (does.Insert i) reply new
  inserted made new n reply e kept holds count says_so =
      let left : made ≡ record old { working = appended old.working i.table rows; marked = old.working } = e ∙ ap (λ (s : Stored). working_on s (appended s.working i.table rows)) m in
      let as_many : n ≡ length g.meant = count ∙ sym (length-permutes g.meant rows g.order) in
      record {
        contents = appended old.working i.table rows;
        marked = old.working;
        count = Some (length g.meant);
        accepted =
            subst (λ (c : Changed). IsAccepted c (database_of (appended old.working i.table rows)) (Some (length g.meant))) (sym changed_is)
            (accepts reading (database_of old.working) i.table g.table g.there g.meant rows (length g.meant) g.order (database_of (appended old.working i.table rows))
            (appended-database old.working i.table g.table rows g.there) (subst (λ (s : Stored). AllHold reading (database_of s.working)) left holds));
        says_so = says_so ∙ ap (λ (n : ℕ). counted (Some n)) as_many;
        leaves = kept ∙ left;
      }

  -- or a constraint is violated
  pub broken : (made : Stored) (refusal : Refusal) → made ≡ working_on mid (appended mid.working i.table rows) → BreaksAny reading (database_of made.working) refusal
      → RefusesChange reading (database_of old.working) (does.Insert i) refusal
  broken made refusal e (BreaksAny.withheld reserved) = RefusesChange.withheld reserved
  broken made refusal e (BreaksAny.violates constraint says_so one) =
      RefusesChange.violates constraint says_so
      (subst (λ (c : Changed). IsNamed c constraint) (sym changed_is)
      (names_it reading (database_of old.working) i.table g.table g.there g.meant rows (length g.meant) g.order (database_of made.working) (would_be made e) constraint one))

  -- rows came to the table alone, and these are some of its own
  pub differ : (made : Stored) → made ≡ working_on mid (appended mid.working i.table rows) → Differs (database_of old.working) (database_of made.working) i.table rows []
  differ made e = subst (λ (db : Database). Differs (database_of old.working) db i.table rows []) (sym (would_be made e))
      (differs reading (database_of old.working) i.table g.table g.there g.meant rows (length g.meant) g.order)

  pub are_among : (made : Stored) → made ≡ working_on mid (appended mid.working i.table rows) → AreAmong (database_of made.working) i.table rows
  are_among made e = subst (λ (db : Database). AreAmong db i.table rows) (sym (would_be made e))
      (among reading (database_of old.working) i.table g.table g.there g.meant rows (length g.meant) g.order)

  -- the copies of these rows are there, where the table has a foreign key
  pub came_all : (made : Stored) (copies : Option (List Row)) → made ≡ working_on mid (appended mid.working i.table rows)
      → IfSome copies (λ all. all ≡ rows)
      → IfNone copies ((t : Table) → get (database_of old.working) i.table ≡ Some t → has_foreign_keys t.constraints ≡ false)
      → CameAll (database_of made.working) i.table rows copies
  came_all made (Some all) e same none = same
  came_all made None e same none = λ t found.
      let now : t ≡ record g.table { rows = g.table.rows ++ rows } = same_some t (record g.table { rows = g.table.rows ++ rows })
      (sym found ∙ ap (λ (db : Database). get db i.table) (would_be made e)
      ∙ put_there reading (database_of old.working) i.table g.table g.there g.meant rows (length g.meant) g.order) in
      ap (λ (u : Table). has_foreign_keys u.constraints) now ∙ none g.table g.there

  keys_in : indexes_of (get mid.working i.table) ≡ g.table.indexes
  keys_in =
      let held = held_as old.working i.table g.table g.there in
      ap (λ (s : Stored). indexes_of (get s.working i.table)) m ∙ ap indexes_of held.1 ∙ ap (λ (t : Table). t.indexes) held.2

  -- a refusal of the store is none of a row's or a key's length
  pub withheld : (sound : Type 0) (k l : ℕ) (limited : StoreLimit → Type 0) (error : StoreError) → MayFail sound k l (StoringReaches limited (get mid.working i.table) rows) error → sound
      → IsReserved (refused_by error)
  withheld sound k l limited error h is =
      let all = each_fits (checks_of reading i.table g.table) (rows_in (database_of old.working)) g.table i.columns i.source g.meant g.given in
      let fits = λ (row : Row) (one : Contains rows row). all row ((HasSame-permutes g.meant rows g.order row).1 one) in
      reserved sound k l (StoringReaches limited (get mid.working i.table) rows) error h is (no_long_row g.table rows fits)
      (λ long. no_long_key g.table rows fits (subst (λ x. HasLongKey x rows) keys_in long))
