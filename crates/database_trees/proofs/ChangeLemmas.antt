-- A table whose rows are changed, and its indexes not yet.
use Rattle.std.proofs.Common.{◌≡◌, ℕ, ◌+◌, ◌^◌, ◌<◌, Bool, true, false, List, [], ◌∷◌, ◌++◌, ◌⊎◌, inl, inr, length, map, ◌≤◌, Option, Some, None, IsSome, refl, sym, ap, subst, ◌∙◌, arith}
use Rattle.std.specs.Prelude.{not, if◌then◌else◌, Contains}
use Rattle.std.specs.Bool.{◌==◌}
use Rattle.std.specs.List.{AllByRecursion, enumerate_from}
use Rattle.sqlval.specs.declared.schema.Table.{Table}
use Rattle.sqlval.specs.CodedLength.{row_length}
use Rattle.sqlval.specs.Value.{Row}
use Rattle.store.specs.Contents.{Entry, next_number}
use Rattle.store.specs.Errors.{HasLongRow, HasLongKey}
use Rattle.denote.specs.Database.{IndexDeclaration}
use Rattle.store.specs.View.{AreEntries, entry_of}
use Rattle.store.specs.declared.rows.NumberedRow.{NumberedRow}
use Rattle.store.specs.declared.rows.Numbered.{Numbered}
use Rattle.page_space.specs.Space.{PageMap}
use Rattle.page_space.specs.declared.error.SpaceError.{SpaceError}
use Rattle.btree_read.specs.Lists.{Has}
use Rattle.btree_read.proofs.ListLemmas.{each_append}
use Rattle.btree_read.proofs.NodeLemmas.{not_fresh}
use Rattle.btree.proofs.RefusalLemmas.{change_refused}
use Rattle.tablestore.specs.declared.error.AppendError.{AppendError}
use Rattle.tablestore.specs.declared.error.AppendError.TheVariants as put
use Rattle.tablestore.specs.Held.{IsKept, AreKept}
use Rattle.tablestore.specs.Appended.{RowsWritten, MayRefuse, MayRefuseRow, NumbersEnd}
use Rattle.tablestore.specs.Rows.{RowsLeft, without_number, with_number}
use Rattle.btree.specs.Kept.{LosesNoPage}
use Rattle.btree.proofs.PageLossLemmas.{loses_left, loses_known}
use Rattle.database_trees.specs.declared.exchange.Exchange.{Exchange}
use Rattle.database_trees.specs.declared.error.DatabaseError.{DatabaseError}
use Rattle.database_trees.specs.Causes.{of_append}
use Rattle.database_trees.specs.Changed.{SpaceRefused, Reaches}
use Rattle.database_trees.specs.Trees.{IsMoved}
use Rattle.database_trees.specs.Exchanged.{IsLeft, AreMore, Exchanges, AreSameRows, IsUnsettled, IsTableOf, IsAppendable, IsExchangeableAt, HasRow}
use Rattle.database_trees.specs.Named.{row_numbered}
use Rattle.database_trees.proofs.RowLemmas.{each_row, numbered, numbered_is, more_apart, rows_enumerated, taken_from, without_other, with_there, one_with, exchanged_same, same_rows}
use Rattle.database_trees.proofs.DatabaseLemmas.{unsettled, rows_of_it, table_in}

-- ---- rows put behind the others

abbrev pub append_unsettled : {alone : Bool} (old mid : PageMap) (root top : ℕ) (table : Table) (exchange : Exchange) → (h : IsAppendable alone old root table exchange)
    → RowsWritten old mid h.its.at.owned (h.its.at.rows ++ enumerate_from (next_number h.its.at.rows) exchange.put.rows) top → LosesNoPage old mid table.root top → IsUnsettled alone mid root table top exchange
append_unsettled old mid root top table exchange h w keeps =
    unsettled old root table h.its mid top w.now_owned (h.its.at.rows ++ enumerate_from (next_number h.its.at.rows) exchange.put.rows) h.its.at.rows (enumerate_from (next_number h.its.at.rows) exchange.put.rows) exchange w.holds
    (record { own = w.own; others = w.others }) (loses_known _ _ _ _ h.its.at.owned w.now_owned _ _ keeps (rows_of_it old root table h.its).tree w.holds.tree)
    (record {
      taken = subst (λ (o : Option NumberedRow). IsLeft o h.its.at.rows h.its.at.rows) (sym h.none) refl;
      put = record { numbers = h.numbers; rows = rows_enumerated exchange.put.rows (next_number h.its.at.rows) };
      apart = more_apart (enumerate_from (next_number h.its.at.rows) exchange.put.rows) h.its.at.rows w.holds.kept (numbered mid top w.now_owned _ w.holds);
    })
    (record { to = λ row g. g; back = λ row g. g })

-- ---- a row taken out

pub left_moved : (old mid : PageMap) (owned : List ℕ) (rows : List Entry) (top : ℕ) → (w : RowsLeft old mid owned rows top) → IsMoved old mid owned w.now_owned
left_moved old mid owned rows top w = record { own = w.own; others = λ n h u. w.others n h (λ g. foreign n h u (w.own n g)) }
  where
    foreign : (n : ℕ) → (Has n owned → ⊥) → IsSome (old n) → Has n owned ⊎ (old n ≡ None) → ⊥
    foreign n h u (inl g) = h g
    foreign n h u (inr g) = not_fresh old n u g

abbrev pub delete_unsettled : {alone : Bool} (old mid : PageMap) (root top number : ℕ) (table : Table) (exchange : Exchange) → (h : IsExchangeableAt alone old root table number exchange [])
    → RowsLeft old mid h.its.at.owned (without_number number h.its.at.rows) top → IsUnsettled alone mid root table top exchange
delete_unsettled old mid root top number table exchange h w =
    unsettled old root table h.its mid top w.now_owned (without_number number h.its.at.rows) (without_number number h.its.at.rows) [] exchange w.holds
    (left_moved old mid h.its.at.owned (without_number number h.its.at.rows) top w) (loses_left old mid h.its.at.owned w.now_owned w.gone w.others)
    (record {
      taken = subst (λ (o : Option NumberedRow). IsLeft o h.its.at.rows (without_number number h.its.at.rows)) (sym h.taken)
          (taken_from number h.its.at.rows (entry_of h.one) (rows_of_it old root table h.its).kept (numbered old table.root h.its.at.owned h.its.at.rows (rows_of_it old root table h.its)) h.found);
      put = h.put;
      apart = tt;
    })
    (same_rows (without_number number h.its.at.rows))

-- ---- a row replaced

without_kept : (number : ℕ) (rows : List Entry) → AreKept rows → AreKept (without_number number rows)
without_kept number [] h = tt
without_kept number (e ∷ rows) h = by (e.0 == number) (without_kept number rows h.1)
  where
    by : (b : Bool) → AreKept (without_number number rows) → AreKept (if not b then e ∷ without_number number rows else without_number number rows)
    by true again = again
    by false again = (h.0, again)

pub one_more : {alone : Bool} (old mid : PageMap) (root top : ℕ) (table : Table) (found : NumberedRow) (row : Row) → (h : HasRow alone old root table found) → RowsWritten old mid h.its.at.owned (with_number found.number row h.its.at.rows) top
    → AreMore ((found.number, row) ∷ []) (without_number found.number h.its.at.rows)
one_more old mid root top table found row h w = (
  one_with (without_number found.number h.its.at.rows) (found.number, row)
      (each_append IsKept (without_number found.number h.its.at.rows) ((found.number, row) ∷ []) (without_kept found.number h.its.at.rows (rows_of_it old root table h.its).kept)
      (each_row IsKept (found.number, row) (with_number found.number row h.its.at.rows) w.holds.kept (with_there found.number row h.its.at.rows (entry_of found) h.found), tt))
      (λ e g same. without_other found.number e h.its.at.rows g same),
  tt,
)

abbrev pub replace_unsettled : {alone : Bool} (old mid : PageMap) (root top : ℕ) (table : Table) (found : NumberedRow) (row : Row) (put : Numbered) → AreEntries put ((found.number, row) ∷ []) → (h : HasRow alone old root table found)
    → RowsWritten old mid h.its.at.owned (with_number found.number row h.its.at.rows) top → LosesNoPage old mid table.root top → IsUnsettled alone mid root table top (record { taken = Some found; put = put })
replace_unsettled old mid root top table found row put are h w keeps =
    unsettled old root table h.its mid top w.now_owned (with_number found.number row h.its.at.rows) (without_number found.number h.its.at.rows) ((found.number, row) ∷ []) (record { taken = Some found; put = put }) w.holds
    (record { own = w.own; others = w.others }) (loses_known _ _ _ _ h.its.at.owned w.now_owned _ _ keeps (rows_of_it old root table h.its).tree w.holds.tree)
    (record {
      taken = taken_from found.number h.its.at.rows (entry_of found) (rows_of_it old root table h.its).kept (numbered old table.root h.its.at.owned h.its.at.rows (rows_of_it old root table h.its)) h.found;
      put = are;
      apart = one_more old mid root top table found row h w;
    })
    (exchanged_same found.number row h.its.at.rows (entry_of found) h.found)

-- ---- refusals

pub append_refused : (e : AppendError) (r : DatabaseError) (A : SpaceError → Type 0) (H G : Type 0) (k b m : ℕ) (rows : List Row) → r ≡ of_append e → (H → G) → k ≤ b → MayRefuse A H b m rows e → SpaceRefused A G k m r
append_refused (put.Space f) r A H G k b m rows is more rises h = rw is (change_refused A H G k b m f rises more h)
append_refused put.Record r A H G k b m rows is more rises h = rw is tt
append_refused put.Number r A H G k b m rows is more rises h = rw is tt

-- how many rows there were is known where they are
pub append_reaches : (e : AppendError) (r : DatabaseError) (A : SpaceError → Type 0) (H K Known : Type 0) (k m : ℕ) (given rows : List Row) (held : Known → List Entry) → r ≡ of_append e → given ≡ rows → MayRefuse A H k m given e
    → ((h : Known) → NumbersEnd (held h) (length given) e) → Reaches (HasLongRow rows) K ((h : Known) → 2 ^ 63 < next_number (held h) + length rows) r
append_reaches (put.Space f) r A H K Known k m given rows held is same h g = rw is tt
append_reaches put.Record r A H K Known k m given rows held is same h g = rw is (subst (λ (rs : List Row). HasLongRow rs) same h)
append_reaches put.Number r A H K Known k m given rows held is same h g = rw is (λ known. subst (λ (rs : List Row). 2 ^ 63 < next_number (held known) + length rs) same (g known))

pub row_refused : (e : AppendError) (r : DatabaseError) (A : SpaceError → Type 0) (H G : Type 0) (k b m : ℕ) (row : Row) → r ≡ of_append e → (H → G) → k ≤ b → MayRefuseRow A H b m row e → SpaceRefused A G k m r
row_refused (put.Space f) r A H G k b m row is more rises h = rw is (change_refused A H G k b m f rises more h)
row_refused put.Record r A H G k b m row is more rises h = rw is tt
row_refused put.Number r A H G k b m row is more rises h = rw is tt

pub row_reaches : (e : AppendError) (r : DatabaseError) (A : SpaceError → Type 0) (H K : Type 0) (k m : ℕ) (row : Row) → r ≡ of_append e → MayRefuseRow A H k m row e → Reaches (HasLongRow (row ∷ [])) K ⊥ r
row_reaches (put.Space f) r A H K k m row is h = rw is tt
row_reaches put.Record r A H K k m row is h = rw is (record { row = row; one = (0, omega arith, refl); long = h })
row_reaches put.Number r A H K k m row is h = absurd h

-- no row is stored
pub no_long_key : (indexes : List IndexDeclaration) (rows : List Row) → rows ≡ [] → HasLongKey indexes rows → ⊥
no_long_key indexes rows none h = empty (subst (λ (rs : List Row). Contains rs h.row) none h.one)
  where
    empty : {row : Row} → Contains {X = Row} [] row → ⊥
    empty inside = let less = inside.1 in omega (arith, less)

-- rows with their numbers, to be put behind those of a table
abbrev pub to_append : {alone : Bool} (old mid : PageMap) (root first : ℕ) (table : Table) (numbers : List ℕ) (given rows : List Row) → mid ≡ old → given ≡ rows → numbers ≡ map (λ (e : Entry). e.0) (enumerate_from first given)
    → (h : IsTableOf alone old root table) → first ≡ next_number h.at.rows → IsAppendable alone mid root table (record { taken = None; put = record { numbers = numbers; rows = rows } })
to_append old mid root first table numbers given rows same is are h begins = record {
  its = table_in old mid root table same h;
  none = refl;
  numbers = are ∙ ap (λ (k : ℕ). map (λ (e : Entry). e.0) (enumerate_from k given)) begins ∙ ap (λ (rs : List Row). map (λ (e : Entry). e.0) (enumerate_from (next_number h.at.rows) rs)) is;
}

pub numbers_end : (first : ℕ) (given rows : List Row) (held : List Entry) → given ≡ rows → first ≡ next_number held → 2 ^ 63 < first + length given → 2 ^ 63 < next_number held + length rows
numbers_end first given rows held is begins h = let l : length given ≡ length rows = ap length is in omega (arith, begins, l, h)

abbrev pub to_exchange_at : {alone : Bool} (old mid : PageMap) (root number : ℕ) (table : Table) (exchange : Exchange) (one : NumberedRow) (more : List Entry) → mid ≡ old → exchange.taken ≡ Some one → AreEntries exchange.put more → (h : IsTableOf alone old root table)
    → row_numbered number h.at.rows ≡ Some (entry_of one) → IsExchangeableAt alone mid root table number exchange more
to_exchange_at old mid root number table exchange one more same taken put h found = record { its = table_in old mid root table same h; one = one; taken = taken; found = found; put = put }

abbrev pub to_row : {alone : Bool} (old mid : PageMap) (root number : ℕ) (table : Table) (one : NumberedRow) → mid ≡ old → (h : IsTableOf alone old root table) → row_numbered number h.at.rows ≡ Some (entry_of one) → HasRow alone mid root table one
to_row old mid root number table one same h found = record {
  its = table_in old mid root table same h;
  found = subst (λ (n : ℕ). row_numbered n h.at.rows ≡ Some (entry_of one)) (sym (numbered_is number h.at.rows (entry_of one) found).1) found;
}
