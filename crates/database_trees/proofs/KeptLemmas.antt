-- An index that has the entry of a row already.
use Rattle.std.proofs.Common.{◌≡◌, ℕ, List, [], ◌∷◌, ◌++◌, length, map, ◌⊎◌, inl, inr, Option, Some, None, refl, sym, ap, subst, ◌∙◌, arith}
use Rattle.std.specs.Prelude.{slice_index_or}
use Rattle.sqlval.specs.Matching.{key_of}
use Rattle.sqlval.specs.Value.{Row}
use Rattle.store.specs.Contents.{Entry, rows_of}
use Rattle.store.specs.View.{entry_of, AreEntries}
use Rattle.store.specs.declared.rows.Numbered.{Numbered}
use Rattle.store.specs.declared.rows.NumberedRow.{NumberedRow}
use Rattle.sqlrecord.specs.Key.{index_key_code}
use Rattle.page_space.specs.Space.{PageMap}
use Rattle.btree_read.specs.declared.entry.Entry.{Entry as Stored}
use Rattle.index_trees.specs.Indexed.{index_entry, Stands, IsRow, IsOfRow, HoldsIndex, AreWith, IndexWritten}
use Rattle.database_trees.specs.declared.exchange.Exchange.{Exchange}
use Rattle.database_trees.specs.Exchanged.{IsLeft, Exchanges, IsExchangeable}
use Rattle.database_trees.specs.Kept.{IsPutBack}

-- ---- rows with one more behind them

row_behind : (x e : Entry) (rows : List Entry) → IsRow x (rows ++ e ∷ []) → IsRow x rows ⊎ (x ≡ e)
row_behind x e [] (inl h) = inr h
row_behind x e [] (inr h) = absurd h
row_behind x e (r ∷ rows) (inl h) = inl (inl h)
row_behind x e (r ∷ rows) (inr h) = on (row_behind x e rows h)
  where
    on : IsRow x rows ⊎ (x ≡ e) → IsRow x (r ∷ rows) ⊎ (x ≡ e)
    on (inl g) = inl (inr g)
    on (inr g) = inr g

row_before : (x e : Entry) (rows : List Entry) → IsRow x rows → IsRow x (rows ++ e ∷ [])
row_before x e [] h = absurd h
row_before x e (r ∷ rows) (inl h) = inl h
row_before x e (r ∷ rows) (inr h) = inr (row_before x e rows h)

row_last : (e : Entry) (rows : List Entry) → IsRow e (rows ++ e ∷ [])
row_last e [] = inl refl
row_last e (r ∷ rows) = inr (row_last e rows)

-- an index of rows is one of the others and of another row that has the entry of the one
put_back : (pages : PageMap) (root : ℕ) (owned columns : List ℕ) (one new : Entry) (others rows : List Entry) → AreWith one others rows → index_entry columns new ≡ index_entry columns one
    → HoldsIndex pages root owned columns rows → HoldsIndex pages root owned columns (others ++ new ∷ [])
put_back pages root owned columns one new others rows are same h = record {
  entries = h.entries;
  tree = h.tree;
  each = λ row among. by row (row_behind row new others among);
  only = λ x stands. of x (h.only x stands);
}
  where
    by : (row : Entry) → IsRow row others ⊎ (row ≡ new) → Stands (index_entry columns row) h.entries
    by row (inl among) = h.each row (are.kept row among)
    by row (inr is) = subst (λ (x : Stored). Stands x h.entries) (sym (ap (index_entry columns) is ∙ same)) (h.each one are.there)

    among_new : (x : Stored) (row : Entry) → x ≡ index_entry columns row → IsRow row others ⊎ (row ≡ one) → IsOfRow columns (others ++ new ∷ []) x
    among_new x row is (inl among) = record { row = row; among = row_before row new others among; is = is }
    among_new x row is (inr e) = record { row = new; among = row_last new others; is = is ∙ ap (index_entry columns) e ∙ sym same }

    of : (x : Stored) → IsOfRow columns rows x → IsOfRow columns (others ++ new ∷ []) x
    of x known = among_new x known.row known.is (are.all known.row known.among)

-- ---- one row that is put

only_one : (more : List Entry) (row : Row) → row ∷ [] ≡ rows_of more → more ≡ (slice_index_or (map (λ (e : Entry). e.0) more) 0 0, row) ∷ []
only_one [] row h = absurd (omega (arith, ap length h))
only_one (e ∷ []) row h = let r : row ≡ e.1 = ap (λ (rows : List Row). slice_index_or rows 0 []) h in λ i. (e.0, sym r i) ∷ []
only_one (e ∷ f ∷ more) row h = absurd (omega (arith, ap length h))

entry_alike : (columns : List ℕ) (number : ℕ) (row other : Row) → key_of columns row ≡ key_of columns other → index_entry columns (number, row) ≡ index_entry columns (number, other)
entry_alike columns number row other key = λ i. record { key = index_key_code (key i) number; value = [] }

-- an index is as it should be before such an exchange
pub stays_put_back : (pages : PageMap) (root : ℕ) (columns : List ℕ) (exchange : Exchange) → IsPutBack columns exchange → (h : IsExchangeable pages root columns exchange)
    → IndexWritten pages pages h.owned columns (h.left ++ h.more) root
stays_put_back pages root columns exchange back h =
    let are : AreWith (entry_of back.one) h.left h.held = subst (λ (o : Option NumberedRow). IsLeft o h.held h.left) back.taken h.exchanges.taken in
    let new : Entry = (back.one.number, back.put.row) in
    let number : slice_index_or (map (λ (e : Entry). e.0) h.more) 0 0 ≡ back.one.number = ap (λ (ns : List ℕ). slice_index_or ns 0 0) (sym h.exchanges.put.numbers) ∙ back.put.number in
    let more : h.more ≡ new ∷ [] = only_one h.more back.put.row (sym back.put.rows ∙ h.exchanges.put.rows) ∙ ap (λ (n : ℕ). (n, back.put.row) ∷ []) number in
    let holds = put_back pages root h.owned columns (entry_of back.one) new h.left h.held are (entry_alike columns back.one.number back.put.row back.one.row back.put.key) h.index in
    record {
      now_owned = h.owned;
      holds = subst (λ (es : List Entry). HoldsIndex pages root h.owned columns (h.left ++ es)) (sym more) holds;
      own = λ n has. inl has;
      others = λ n none there. refl;
    }
