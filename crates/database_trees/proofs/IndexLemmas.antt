-- Rows exchanged in one index.
use Rattle.std.proofs.Common.{◌≡◌, ℕ, zero, suc, ◌+◌, ◌<◌, ◌≤◌, List, [], ◌∷◌, ◌++◌, length, map, take, get_or, Option, Some, None, IsSome, Result, Ok, Err, IfOk, IfErr, refl, sym, ap, subst, ◌∙◌, arith, append_assoc, add-one}
use Rattle.std.specs.Prelude.{slice_index_or, Contains}
use Rattle.std.proofs.lemmas.List.{append-nil as append_nil}
use Rattle.std.proofs.Math.Seq.{take-length}
use Rattle.sqlval.specs.CodedLength.{key_length}
use Rattle.sqlval.specs.Matching.{key_of}
use Rattle.sqlval.specs.Value.{Row}
use Rattle.store.specs.Contents.{Entry, rows_of}
use Rattle.store.specs.View.{entry_of, AreEntries}
use Rattle.store.specs.declared.rows.NumberedRow.{NumberedRow}
use Rattle.store.specs.declared.rows.Numbered.{Numbered}
use Rattle.page_space.specs.Space.{PageMap}
use Rattle.index_trees.specs.Indexed.{HoldsIndex, AreWith, IndexWritten}
use Rattle.database_trees.specs.Trees.{IsMoved}
use Rattle.database_trees.specs.declared.error.DatabaseError.{DatabaseError}
use Rattle.database_trees.specs.declared.exchange.Exchange.{Exchange}
use Rattle.database_trees.specs.Exchanged.{IsLeft, AreMore, Exchanges, HasLongKeyIn, IsOpen, HasTaken, IsExchangeable}
use Rattle.database_trees.proofs.TreeLemmas.{moved_none, moved_on}

pub index_moved : (old new : PageMap) (owned columns : List ℕ) (rows : List Entry) (root : ℕ) → (w : IndexWritten old new owned columns rows root) → IsMoved old new owned w.now_owned
index_moved old new owned columns rows root w = record { own = w.own; others = w.others }

pub index_none : (old : PageMap) (owned columns : List ℕ) (rows : List Entry) (root : ℕ) → HoldsIndex old root owned columns rows → IndexWritten old old owned columns rows root
index_none old owned columns rows root h = let m = moved_none old owned in record { now_owned = owned; holds = h; own = m.own; others = m.others }

pub index_on : (old mid new : PageMap) (owned columns : List ℕ) (first second : List Entry) (root next : ℕ) → (w : IndexWritten old mid owned columns first root)
    → IndexWritten mid new w.now_owned columns second next → IndexWritten old new owned columns second next
index_on old mid new owned columns first second root next w v =
    let m = moved_on old mid new owned w.now_owned v.now_owned (index_moved old mid owned columns first root w) (index_moved mid new w.now_owned columns second next v) in
    record { now_owned = v.now_owned; holds = v.holds; own = m.own; others = m.others }

-- ---- one row taken

pub taken_none : (pages : PageMap) (root : ℕ) (columns : List ℕ) (taken : Option NumberedRow) → taken ≡ None → (h : HasTaken pages root columns taken) → IndexWritten pages pages h.owned columns h.left root
taken_none pages root columns taken is h =
    let e : h.held ≡ h.left = subst (λ (o : Option NumberedRow). IsLeft o h.held h.left) is h.leaves in
    index_none pages h.owned columns h.left root (subst (HoldsIndex pages root h.owned columns) e h.index)

pub with_taken : (pages : PageMap) (root : ℕ) (columns : List ℕ) (taken : Option NumberedRow) (found : NumberedRow) → taken ≡ Some found → (h : HasTaken pages root columns taken) → AreWith (entry_of found) h.left h.held
with_taken pages root columns taken found is h = subst (λ (o : Option NumberedRow). IsLeft o h.held h.left) is h.leaves

-- ---- several put in

more_at : (more rows : List Entry) (i : ℕ) (d : Entry) → i < length more → AreMore more rows → AreWith (slice_index_or more i d) (rows ++ take i more) (rows ++ take (suc i) more)
more_at [] rows i d below h = absurd (omega (arith, below))
more_at (e ∷ more) rows zero d below h = subst (λ (xs : List Entry). AreWith e xs (rows ++ e ∷ [])) (sym (append_nil rows)) h.0
more_at (e ∷ more) rows (suc i) d below h =
    subst (λ (ys : List Entry). AreWith (slice_index_or more i d) (rows ++ e ∷ take i more) ys) (append_assoc rows (e ∷ []) (take (suc i) more))
    (subst (λ (xs : List Entry). AreWith (slice_index_or more i d) xs ((rows ++ e ∷ []) ++ take (suc i) more)) (append_assoc rows (e ∷ []) (take i more))
    (more_at more (rows ++ e ∷ []) i d (omega (arith, below)) h.1))

number_is : (more : List Entry) (i k : ℕ) (d : Entry) → i < length more → slice_index_or (map (λ (e : Entry). e.0) more) i k ≡ (slice_index_or more i d).0
number_is [] i k d below = absurd (omega (arith, below))
number_is (e ∷ more) zero k d below = refl
number_is (e ∷ more) (suc i) k d below = number_is more i k d (omega (arith, below))

row_is : (more : List Entry) (i : ℕ) (r : Row) (d : Entry) → i < length more → slice_index_or (rows_of more) i r ≡ (slice_index_or more i d).1
row_is [] i r d below = absurd (omega (arith, below))
row_is (e ∷ more) zero r d below = refl
row_is (e ∷ more) (suc i) r d below = row_is more i r d (omega (arith, below))

rows_length : (more : List Entry) → length (rows_of more) ≡ length more
rows_length [] = refl
rows_length (e ∷ more) = ap suc (rows_length more)

-- of the rows that are to be put in, the first ones are
abbrev pub ArePut : PageMap → PageMap → ℕ → List ℕ → Numbered → ℕ → ℕ → Type 0
ArePut old now root columns put i top = (h : IsOpen old root columns put) → IndexWritten old now h.owned columns (h.held ++ take i h.more) top

pub put_first : (old : PageMap) (root : ℕ) (columns : List ℕ) (put : Numbered) → ArePut old old root columns put 0 root
put_first old root columns put h = index_none old h.owned columns (h.held ++ []) root (subst (HoldsIndex old root h.owned columns) (sym (append_nil h.held)) h.index)

pub put_next : (old mid new : PageMap) (root top next i number : ℕ) (columns : List ℕ) (put : Numbered) (row : Row) → i < length put.rows → number ≡ slice_index_or put.numbers i 0 → row ≡ slice_index_or put.rows i row
    → ArePut old mid root columns put i top
    → ((owned : List ℕ) (others rows : List Entry) → HoldsIndex mid top owned columns others → AreWith (number, row) others rows → IndexWritten mid new owned columns rows next)
    → ArePut old new root columns put (i + 1) next
put_next old mid new root top next i number columns put row below is_number is_row known one h =
    let d : Entry = (number, row) in
    let l : length put.rows ≡ length h.more = ap length h.entries.rows ∙ rows_length h.more in
    let inside : i < length h.more = omega (arith, below, l) in
    let a : number ≡ (slice_index_or h.more i d).0 = is_number ∙ ap (λ (ns : List ℕ). slice_index_or ns i 0) h.entries.numbers ∙ number_is h.more i 0 d inside in
    let b : row ≡ (slice_index_or h.more i d).1 = is_row ∙ ap (λ (rs : List Row). slice_index_or rs i row) h.entries.rows ∙ row_is h.more i row d inside in
    let same : slice_index_or h.more i d ≡ d = λ j. (sym a j, sym b j) in
    let w = known h in
    let more = more_at h.more h.held i d inside h.apart in
    index_on old mid new h.owned columns (h.held ++ take i h.more) (h.held ++ take (i + 1) h.more) top next w
    (subst (λ (k : ℕ). IndexWritten mid new w.now_owned columns (h.held ++ take k h.more) next) (sym (add-one i))
    (one w.now_owned (h.held ++ take i h.more) (h.held ++ take (suc i) h.more) w.holds (subst (λ (e : Entry). AreWith e (h.held ++ take i h.more) (h.held ++ take (suc i) h.more)) same more)))

pub put_all : (old new : PageMap) (root top i : ℕ) (columns : List ℕ) (put : Numbered) → i ≡ length put.rows → ArePut old new root columns put i top
    → (h : IsOpen old root columns put) → IndexWritten old new h.owned columns (h.held ++ h.more) top
put_all old new root top i columns put is known h =
    let l : length put.rows ≡ length h.more = ap length h.entries.rows ∙ rows_length h.more in
    let all : take i h.more ≡ h.more = ap (λ k. take k h.more) (is ∙ l) ∙ take-length h.more in
    subst (λ (xs : List Entry). IndexWritten old new h.owned columns (h.held ++ xs) top) all (known h)

pub long_at : (columns : List ℕ) (rows : List Row) (row : Row) (i : ℕ) → i < length rows → row ≡ slice_index_or rows i row → 600 < key_length (key_of columns row) + 8 → HasLongKeyIn columns rows
long_at columns rows row i below is long = record { row = row; one = (i, below, sym is); long = long }

-- ---- one taken, and several put in

abbrev pub to_take : (pages : PageMap) (root : ℕ) (columns : List ℕ) (exchange : Exchange) → IsExchangeable pages root columns exchange → HasTaken pages root columns exchange.taken
to_take pages root columns exchange h = record { owned = h.owned; held = h.held; left = h.left; index = h.index; leaves = h.exchanges.taken }

abbrev pub to_put : (old mid : PageMap) (root top : ℕ) (columns : List ℕ) (exchange : Exchange) → (h : IsExchangeable old root columns exchange) → IndexWritten old mid h.owned columns h.left top → IsOpen mid top columns exchange.put
to_put old mid root top columns exchange h w = record { owned = w.now_owned; held = h.left; more = h.more; index = w.holds; entries = h.exchanges.put; apart = h.exchanges.apart }

pub index_on_by : {E : Type 0} (result : Result ℕ E) (old mid new : PageMap) (owned columns : List ℕ) (first second : List Entry) (root : ℕ) → (w : IndexWritten old mid owned columns first root)
    → IfOk result (IndexWritten mid new w.now_owned columns second) → IfOk result (IndexWritten old new owned columns second)
index_on_by (Err e) old mid new owned columns first second root w h = tt
index_on_by (Ok next) old mid new owned columns first second root w h = index_on old mid new owned columns first second root next w h
