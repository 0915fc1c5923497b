-- What is left of a store once all changes of rows are made and the table was looked at.
use Rattle.std.proofs.Common.{◌≡◌, ◌∙◌, refl, sym, ap, subst, ℕ, false, cond, List, [], ◌++◌, map, Option, Some, None, IfSome, IfNone}
use Rattle.std.specs.FinMap.{get, insert}
use Rattle.refusals.specs.declared.refusal.Refusal.{Refusal}
use Rattle.operator_laws.specs.Same.{Every}
use Rattle.sqlval.specs.declared.schema.Column.{Column}
use Rattle.sqlval.specs.declared.schema.Constraint.{Constraint}
use Rattle.sqlval.specs.Value.{Row}
use Rattle.typing.specs.declared.statement.Change.{Change}
use Rattle.denote.specs.Bag.{Permutes}
use Rattle.denote.specs.Change.{changed}
use Rattle.denote.specs.Change.Changed.{Makes}
use Rattle.denote.specs.Database.{Name, Table, Database, CheckReading, IndexDeclaration, violated_by}
use Rattle.denote_laws.specs.Difference.{Differs}
use Rattle.denote_laws.proofs.Good.{other_name}
use Rattle.denote_laws.proofs.Maps.{found-insert}
use Rattle.replies.specs.declared.reply.Reply.{Reply}
use Rattle.replies.specs.declared.reply.Reply.TheVariants as says
use Rattle.session_definitions.specs.Statements.{counted}
use Rattle.store.specs.Contents.{Contents, StoredTable, Entry, Rises, database_of}
use Rattle.store.specs.Errors.{indexes_of}
use Rattle.store.specs.Indexes.{entries_of}
use Rattle.store.specs.Stored.{Stored, SameButMark, marked_now, undone, working_on}
use Rattle.constraints.specs.Changed.{HasChanged, RefusesChange}
use Rattle.constraints.specs.declared.matching.Moved.{Moved}
use Rattle.constraints.specs.Matched.{AllHold, BreaksAny, IsAtNoEnd, MovedAll}
use Rattle.constraints.proofs.Matched.{still-at-no-end}
use Rattle.constraints.specs.Settled.{AreAmong, Decided, Holds, OthersHold}
use Rattle.constraints.proofs.Held.{held_as}
use Rattle.constraints.proofs.Settling.{undone_all, makes, refuses}
use Rattle.update_delete.proofs.Made.{decided_still, found_still, holds_still, put_still}
use Rattle.update_delete.specs.RowChanges.{IsShort, rows_new}
use Rattle.update_delete.specs.declared.planned.Planned.{Planned}
use Rattle.update_delete.specs.Made.{all_made}
use Rattle.update_delete.specs.Plans.{IsMeant, LeavesGood, OthersGood}
use Rattle.update_delete.proofs.MadeTables.{made-all}

module _ (reading : CheckReading) (old mid : Stored) (change : Change) (name : Name) (planned : Planned) (m : mid ≡ marked_now old) (is : IsMeant reading old.working change name planned) where
  -- what the new rows are, is short enough for the table's indexes
  pub all_short : Every (IsShort (indexes_of (get mid.working name))) planned.changes
  all_short =
      let held = held_as old.working name is.table is.there in
      let same : is.table.indexes ≡ indexes_of (get mid.working name) =
      sym (ap (λ (s : Stored). indexes_of (get s.working name)) m ∙ ap indexes_of held.1 ∙ ap (λ (t : Table). t.indexes) held.2) in
      subst (λ (indexes : List IndexDeclaration). Every (IsShort indexes) planned.changes) same is.short

  module _ (made : Stored) (e : made ≡ working_on mid (all_made name planned.numbers planned.changes mid.working)) (rises : (t : StoredTable) → get old.working name ≡ Some t → Rises t.entries) where
    made_is : made ≡ record old { working = all_made name planned.numbers planned.changes old.working; marked = old.working }
    made_is = e ∙ ap (λ (s : Stored). working_on s (all_made name planned.numbers planned.changes s.working)) m

    would_be : database_of made.working ≡ insert (database_of old.working) name (record is.table { rows = is.left })
    would_be =
        ap (λ (s : Stored). database_of s.working) made_is
        ∙ ap database_of (is.made_so old.working)
        ∙ made-all old.working name is.table (map (λ (e : Entry). e.0) (entries_of (get old.working name))) is.all is.there refl rises
        ∙ ap (λ (rows : List Row). insert (database_of old.working) name (record is.table { rows = rows })) is.are.left_so

    -- the table that would be violates nothing where that is known
    pub holds_made : LeavesGood reading old.working change name planned is → Holds reading (database_of made.working) name
    holds_made good = holds_still reading (database_of old.working) (database_of made.working) name is.table is.left would_be good

    -- the new rows are some of its own, and where the others violate nothing, they do
    pub among_made : AreAmong (database_of made.working) name (rows_new planned.changes)
    among_made = record {
      table = record is.table { rows = is.left };
      there = put_still (database_of old.working) (database_of made.working) name is.table is.left would_be;
      others = is.others;
      order = is.among;
    }

    pub others_made : planned.harmless ≡ false → OthersGood reading old.working change name planned is → OthersHold reading (database_of made.working) name (rows_new planned.changes)
    others_made unsure good = found_still (database_of old.working) (database_of made.working) name is.table is.left would_be
        (λ (t : Table). (others : List Row) × Permutes (others ++ rows_new planned.changes) t.rows × (violated_by reading name (record t { rows = others }) ≡ [])) (is.others, is.among, good)

    -- what decides the CHECKs of the table still does
    pub decided_made : (decides : Name → List Column → List Constraint → Type 0) → Decided decides (database_of old.working) name → Decided decides (database_of made.working) name
    decided_made decides = decided_still decides (database_of old.working) (database_of made.working) name is.table is.left would_be is.there

    -- rows came to the table, and others went from it
    pub differ_made : Differs (database_of old.working) (database_of made.working) name (rows_new planned.changes) planned.gone
    differ_made = record {
      table = is.table;
      was_there = is.there;
      now = record is.table { rows = is.left };
      there = put_still (database_of old.working) (database_of made.working) name is.table is.left would_be;
      constraints = refl;
      stay = is.others;
      before = is.before;
      after = is.among;
      others = λ other apart. ap (λ (db : Database). get db other) would_be
          ∙ found-insert (database_of old.working) name (record is.table { rows = is.left }) other
          ∙ ap (λ b. cond b (Some (record is.table { rows = is.left })) (get (database_of old.working) other)) (other_name other name apart);
    }

    pub carried : (new : Stored) (n : ℕ) (reply : Reply) → new ≡ made → AllHold reading (database_of made.working) → n ≡ is.count → reply ≡ counted (Some n)
        → HasChanged reading old change reply new
    carried new n reply kept holds count says_so = record {
      contents = all_made name planned.numbers planned.changes old.working;
      marked = old.working;
      count = Some is.count;
      makes =
          is.means ∙ makes reading (database_of old.working) (database_of made.working) name is.table is.left is.count would_be holds
          ∙ ap (λ (s : Stored). Makes (database_of s.working) (Some is.count)) made_is;
      says_so = says_so ∙ ap (λ (n : ℕ). counted (Some n)) count;
      leaves = kept ∙ made_is;
    }

    pub broken : (refusal : Refusal) → BreaksAny reading (database_of made.working) refusal → RefusesChange reading (database_of old.working) change refusal
    broken refusal h = refuses reading (database_of old.working) (database_of made.working) name is.table is.left is.count would_be change refusal is.means h

-- what is so of the new rows is so of those that are looked up
pub where_new : (found : Option (List Row)) (planned : Planned) (P : List Row → Type 0) → IfSome found (λ (rows : List Row). (rows ≡ rows_new planned.changes) × (planned.harmless ≡ false))
    → (planned.harmless ≡ false → P (rows_new planned.changes)) → IfSome found P
where_new None planned P new h = tt
where_new (Some rows) planned P new h = subst P (sym new.0) (h new.1)

-- what moved is asked, where a foreign key has the table at an end
none_moved : (old new : Database) (name : Name) (planned : Planned) → Differs old new name (rows_new planned.changes) planned.gone → IsAtNoEnd old name → IsAtNoEnd new name
none_moved old new name planned d none = still-at-no-end name old new (rows_new planned.changes) planned.gone d none

pub moved_all : (old new : Database) (name : Name) (planned : Planned) (moved : Option Moved) → Differs old new name (rows_new planned.changes) planned.gone
    → IfSome moved (λ m. (m.came ≡ rows_new planned.changes) × (m.gone ≡ planned.gone)) → IfNone moved (IsAtNoEnd old name)
    → MovedAll new name (rows_new planned.changes) planned.gone moved
moved_all old new name planned (Some moved) d same none = same
moved_all old new name planned None d same none = none_moved old new name planned d none

pub none_before : {P Q : Type 0} (moved : Option Moved) → (P → Q) → IfNone moved P → IfNone moved Q
none_before None f h = f h
none_before (Some moved) f h = tt

pub some_among : (moved : Option Moved) (planned : Planned) (P : List Row → Type 0) → P (rows_new planned.changes)
    → IfSome moved (λ m. (m.came ≡ rows_new planned.changes) × (m.gone ≡ planned.gone)) → IfSome moved (λ m. P m.came)
some_among None planned P h same = tt
some_among (Some moved) planned P h same = subst P (sym same.0) h

-- what goes back to the mark
pub taken_back : (old mid made new : Stored) (c : Contents) → mid ≡ marked_now old → made ≡ working_on mid c → new ≡ undone made → SameButMark old new
taken_back old mid made new c m e back = undone_all old made new c (e ∙ ap (λ (s : Stored). working_on s c) m) back

pub taken_back_at_once : (old mid new : Stored) → mid ≡ marked_now old → new ≡ undone mid → SameButMark old new
taken_back_at_once old mid new m back = undone_all old mid new old.working m back

-- where nothing is planned, nothing changes
pub nothing : (reading : CheckReading) (old new : Stored) (change : Change) → changed reading (database_of old.working) change ≡ Makes (database_of old.working) (Some 0) → new ≡ old
    → HasChanged reading old change says.Unchanged new
nothing reading old new change e same = record { contents = old.working; marked = old.marked; count = Some 0; makes = e; says_so = refl; leaves = same }

-- a change of a store that is as it was is one of that store
pub of_same : (reading : CheckReading) (old mid new : Stored) (change : Change) (reply : Reply) → mid ≡ old → HasChanged reading mid change reply new → HasChanged reading old change reply new
of_same reading old mid new change reply e = subst (λ (s : Stored). HasChanged reading s change reply new) e
