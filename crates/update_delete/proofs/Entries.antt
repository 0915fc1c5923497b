-- Changes of the rows of a stored table, one after another by their numbers.
use Rattle.std.proofs.Common.{◌≡◌, ◌∙◌, refl, sym, ap, subst, ℕ, suc, ◌+◌, ◌<◌, eqb, Bool, false, cond, not, List, [], ◌∷◌, ◌++◌, map, slice_index_or, append_assoc, arith}
use Rattle.std.specs.Prelude.{filter, if◌then◌else◌}
use Rattle.std.proofs.lemmas.Bool.{eqb-false, eq-eqb, ne_eqb}
use Rattle.std.proofs.lemmas.List.{map-append}
use Rattle.std.proofs.lemmas.List.Elements.{filter-append}
use Rattle.sqlval.specs.Value.{Row}
use Rattle.store.specs.Contents.{Entry, StoredTable, Rises, rows_of, with_row, without_row}
use Rattle.update_delete.specs.declared.change.RowChange.{RowChange}
use Rattle.update_delete.specs.declared.change.RowChange.TheVariants.{Stays, Goes, Becomes}
use Rattle.update_delete.specs.RowChanges.{left_of, rows_left}

-- ---- numbers

-- no entry has this number
abbrev pub Other : ℕ → List Entry → Type 0
Other n [] = Unit {0}
Other n (e ∷ es) = (eqb e.0 n ≡ false) × Other n es

-- no two have the same
abbrev pub Distinct : List Entry → Type 0
Distinct [] = Unit {0}
Distinct (e ∷ es) = Other e.0 es × Distinct es

-- none of the later ones has the number of an earlier one
abbrev pub Clear : List Entry → List Entry → Type 0
Clear pre [] = Unit {0}
Clear pre (e ∷ es) = Other e.0 pre × Clear pre es

abbrev pub Above : ℕ → List Entry → Type 0
Above n [] = Unit {0}
Above n (e ∷ es) = (n < e.0) × Above n es

above_less : (n m : ℕ) (es : List Entry) → n < m → Above m es → Above n es
above_less n m [] below h = tt
above_less n m (e ∷ es) below h = let first = h.0 in (omega (arith, below, first), above_less n m es below h.1)

rises_later : (e : Entry) (es : List Entry) → Rises (e ∷ es) → Rises es
rises_later e es h = λ k d below.
    subst (λ (n : ℕ). (slice_index_or (e ∷ es) (suc k) d).0 < (slice_index_or (e ∷ es) n d).0) (one_on k) (h (suc k) d (omega (arith, below)))
  where
    one_on : (k : ℕ) → suc k + 1 ≡ suc (k + 1)
    one_on k = omega arith

rises_above : (e : Entry) (es : List Entry) → Rises (e ∷ es) → Above e.0 es
rises_above e [] h = tt
rises_above e (f ∷ es) h =
    let first : e.0 < f.0 = h 0 e (omega arith) in
    (first, above_less e.0 f.0 es first (rises_above f es (rises_later e (f ∷ es) h)))

above_other : (n : ℕ) (es : List Entry) → Above n es → Other n es
above_other n [] h = tt
above_other n (e ∷ es) h = let more = h.0 in (ne_eqb e.0 n (λ same. omega (arith, more, same)), above_other n es h.1)

pub rises_distinct : (es : List Entry) → Rises es → Distinct es
rises_distinct [] h = tt
rises_distinct (e ∷ es) h = (above_other e.0 es (rises_above e es h), rises_distinct es (rises_later e es h))

clear_none : (es : List Entry) → Clear [] es
clear_none [] = tt
clear_none (e ∷ es) = (tt, clear_none es)

swapped : (a b : ℕ) → eqb a b ≡ false → eqb b a ≡ false
swapped a b e = ne_eqb b a (λ same. eqb-false a b e (sym same))

other_more : (n : ℕ) (pre : List Entry) (f : Entry) → Other n pre → eqb f.0 n ≡ false → Other n (pre ++ f ∷ [])
other_more n [] f h e = (e, tt)
other_more n (p ∷ pre) f h e = (h.0, other_more n pre f h.1 e)

clear_more : (pre : List Entry) (f : Entry) (es : List Entry) → Clear pre es → Other f.0 es → Clear (pre ++ f ∷ []) es
clear_more pre f [] c o = tt
clear_more pre f (e ∷ es) c o = (other_more e.0 pre f c.0 (swapped e.0 f.0 o.0), clear_more pre f es c.1 o.1)

-- ---- one change

abbrev pub put_at : ℕ → Row → Entry → Entry
put_at n row e = if eqb e.0 n then (n, row) else e

abbrev pub stays_at : ℕ → Entry → Bool
stays_at n e = not (eqb e.0 n)

map_other : (n : ℕ) (row : Row) (es : List Entry) → Other n es → map (put_at n row) es ≡ es
map_other n row [] h = refl
map_other n row (e ∷ es) h = rw h.0 (ap (λ more. e ∷ more) (map_other n row es h.1))

filter_other : (n : ℕ) (es : List Entry) → Other n es → filter (stays_at n) es ≡ es
filter_other n [] h = refl
filter_other n (e ∷ es) h = rw h.0 (ap (λ more. e ∷ more) (filter_other n es h.1))

put_here : (e : Entry) (row : Row) → put_at e.0 row e ≡ (e.0, row)
put_here e row = ap (λ b. cond b (e.0, row) e) (eq-eqb e.0 e.0 refl)

map_step : (row : Row) (e : Entry) (pre es : List Entry) → Other e.0 pre → Other e.0 es → map (put_at e.0 row) (pre ++ e ∷ es) ≡ (pre ++ (e.0, row) ∷ []) ++ es
map_step row e pre es before after =
    map-append (put_at e.0 row) pre (e ∷ es)
    ∙ (λ i. map_other e.0 row pre before i ++ put_here e row i ∷ map_other e.0 row es after i)
    ∙ sym (append_assoc pre ((e.0, row) ∷ []) es)

filter_here : (e : Entry) (es : List Entry) → filter (stays_at e.0) (e ∷ es) ≡ filter (stays_at e.0) es
filter_here e es = ap (λ b. cond (not b) (e ∷ filter (stays_at e.0) es) (filter (stays_at e.0) es)) (eq-eqb e.0 e.0 refl)

filter_step : (e : Entry) (pre es : List Entry) → Other e.0 pre → Other e.0 es → filter (stays_at e.0) (pre ++ e ∷ es) ≡ pre ++ es
filter_step e pre es before after =
    filter-append (stays_at e.0) pre (e ∷ es)
    ∙ (λ i. filter_other e.0 pre before i ++ (filter_here e es ∙ filter_other e.0 es after) i)

-- ---- all changes

abbrev pub entry_left : Entry → RowChange → List Entry
entry_left e Stays = e ∷ []
entry_left e Goes = []
entry_left e (Becomes row) = (e.0, row) ∷ []

abbrev pub entries_left : List Entry → List RowChange → List Entry
entries_left [] changes = []
entries_left (e ∷ es) [] = e ∷ es
entries_left (e ∷ es) (change ∷ changes) = entry_left e change ++ entries_left es changes

abbrev pub changed_one : ℕ → RowChange → StoredTable → StoredTable
changed_one n Stays t = t
changed_one n Goes t = without_row n t
changed_one n (Becomes row) t = with_row n row t

abbrev pub changed_all : List ℕ → List RowChange → StoredTable → StoredTable
changed_all [] changes t = t
changed_all (n ∷ numbers) [] t = t
changed_all (n ∷ numbers) (change ∷ changes) t = changed_all numbers changes (changed_one n change t)

with_entries : (t : StoredTable) (es : List Entry) → t.entries ≡ es → t ≡ record t { entries = es }
with_entries t es e = λ i. record { columns = t.columns; constraints = t.constraints; indexes = t.indexes; entries = e i }

after_all : (es pre : List Entry) (changes : List RowChange) (t : StoredTable) → t.entries ≡ pre ++ es → Clear pre es → Distinct es
    → changed_all (map (λ (e : Entry). e.0) es) changes t ≡ record t { entries = pre ++ entries_left es changes }
after_all [] pre changes t is c d = with_entries t (pre ++ []) is
after_all (e ∷ es) pre [] t is c d = with_entries t (pre ++ e ∷ es) is
after_all (e ∷ es) pre (Stays ∷ changes) t is c d =
    after_all es (pre ++ e ∷ []) changes t (is ∙ sym (append_assoc pre (e ∷ []) es)) (clear_more pre e es c.1 d.0) d.1
    ∙ ap (λ found. record t { entries = found }) (append_assoc pre (e ∷ []) (entries_left es changes))
after_all (e ∷ es) pre (Goes ∷ changes) t is c d =
    after_all es pre changes (without_row e.0 t) (ap (filter (stays_at e.0)) is ∙ filter_step e pre es c.0 d.0) c.1 d.1
after_all (e ∷ es) pre (Becomes row ∷ changes) t is c d =
    after_all es (pre ++ (e.0, row) ∷ []) changes (with_row e.0 row t) (ap (map (put_at e.0 row)) is ∙ map_step row e pre es c.0 d.0) (clear_more pre (e.0, row) es c.1 d.0) d.1
    ∙ ap (λ found. record t { entries = found }) (append_assoc pre ((e.0, row) ∷ []) (entries_left es changes))

-- the entries that are left, each by its own change
pub all_changed : (t : StoredTable) (changes : List RowChange) → Rises t.entries
    → changed_all (map (λ (e : Entry). e.0) t.entries) changes t ≡ record t { entries = entries_left t.entries changes }
all_changed t changes h = after_all t.entries [] changes t refl (clear_none t.entries) (rises_distinct t.entries h)

one_left : (e : Entry) (change : RowChange) (es : List Entry) → rows_of (entry_left e change ++ es) ≡ left_of e.1 change ++ rows_of es
one_left e Stays es = refl
one_left e Goes es = refl
one_left e (Becomes row) es = refl

-- and their rows
pub rows-left : (es : List Entry) (changes : List RowChange) → rows_of (entries_left es changes) ≡ rows_left (rows_of es) changes
rows-left [] changes = refl
rows-left (e ∷ es) [] = refl
rows-left (e ∷ es) (change ∷ changes) = one_left e change (entries_left es changes) ∙ ap (λ rows. left_of e.1 change ++ rows) (rows-left es changes)
