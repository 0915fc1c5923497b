-- The rows that are left by changes are those that stay and those that come.
use Rattle.std.proofs.Common.{◌≡◌, ◌∙◌, refl, sym, ap, subst, suc, ◌≤◌, Bool, true, false, cond, List, [], ◌∷◌, ◌++◌, map, length, Result, Ok, Err, IfOk, arith}
use Rattle.std.specs.Prelude.{filter}
use Rattle.sqlval.specs.Value.{Row}
use Rattle.denote.specs.declared.fault.Stop.{Stop}
use Rattle.denote.specs.Bag.{Permutes}
use Rattle.denote.specs.Bag.Permutes.{nothing, keeps, goes_on}
use Rattle.denote.specs.Database.{Name, Table, CheckReading, violated_by}
use Rattle.denote.specs.Evaluation.{Evaluation, joined, together}
use Rattle.denote.specs.Stop.{Gives}
use Rattle.operator_laws.proofs.Permuting.{Permutes-sym, Permutes-pass}
use Rattle.update_delete.specs.declared.change.RowChange.{RowChange}
use Rattle.update_delete.specs.declared.change.RowChange.TheVariants.{Stays, Goes, Becomes}
use Rattle.update_delete.specs.RowChanges.{rows_gone, rows_left, rows_new, spread_at, spread}
use Rattle.update_delete.specs.Kept.{Keeps, KeepAll}
use Rattle.update_delete.proofs.Keeping.{constraints-kept}

-- a change, but that what becomes another row goes
abbrev pub gone : RowChange → RowChange
gone Stays = Stays
gone Goes = Goes
gone (Becomes row) = Goes

-- the rows that stay
abbrev pub staying : List Row → List RowChange → List Row
staying rows changes = rows_left rows (map gone changes)

none-come : (P : Row → Row → Type 0) (rows : List Row) (changes : List RowChange) → KeepAll P rows (map gone changes)
none-come P [] changes = tt
none-come P (row ∷ rows) [] = tt
none-come P (row ∷ rows) (Stays ∷ changes) = (tt, none-come P rows changes)
none-come P (row ∷ rows) (Goes ∷ changes) = (tt, none-come P rows changes)
none-come P (row ∷ rows) (Becomes new ∷ changes) = (tt, none-come P rows changes)

-- they violate nothing where all do not
pub staying-hold : (reading : CheckReading) (name : Name) (t : Table) (changes : List RowChange) → violated_by reading name t ≡ []
    → violated_by reading name (record t { rows = staying t.rows changes }) ≡ []
staying-hold reading name t changes e = constraints-kept reading name t (map gone changes) (none-come (Keeps reading name t t.constraints) t.rows changes) e

same_ok : {A : Type 0} (x y : List A) → ◌≡◌ {A = Evaluation (List A)} (Ok x) (Ok y) → x ≡ y
same_ok x y e = cc

none-over : {X : Type 0} (xs : List X) → length xs ≤ 0 → xs ≡ []
none-over [] e = refl
none-over (x ∷ xs) e = absurd (omega (arith, e))

-- changes of no more rows than pass a test
pub left-permutes : (test : Row → Bool) (rows : List Row) (changes : List RowChange) → length changes ≤ length (filter test rows)
    → Permutes (staying rows (spread test rows changes) ++ rows_new changes) (rows_left rows (spread test rows changes))
left-permutes test [] changes few = let none : changes ≡ [] = none-over changes few in subst (λ (cs : List RowChange). Permutes (rows_new cs) []) (sym none) nothing
left-permutes test (row ∷ rows) changes few = by (test row) changes few (λ cs. left-permutes test rows cs)
  where
    by : (b : Bool) (changes : List RowChange) → length changes ≤ length (cond b (row ∷ filter test rows) (filter test rows))
        → ((cs : List RowChange) → length cs ≤ length (filter test rows)
        → Permutes (staying rows (spread test rows cs) ++ rows_new cs) (rows_left rows (spread test rows cs)))
        → Permutes (staying (row ∷ rows) (spread_at b (λ (others : List RowChange). spread test rows others) changes) ++ rows_new changes)
        (rows_left (row ∷ rows) (spread_at b (λ (others : List RowChange). spread test rows others) changes))
    by false changes few rest = keeps row (rest changes few)
    by true [] few rest = keeps row (rest [] (omega arith))
    by true (Stays ∷ changes) few rest = keeps row (rest changes (omega (arith, few)))
    by true (Goes ∷ changes) few rest = rest changes (omega (arith, few))
    by true (Becomes new ∷ changes) few rest =
        goes_on (Permutes-sym (new ∷ (staying rows (spread test rows changes) ++ rows_new changes)) (staying rows (spread test rows changes) ++ (new ∷ rows_new changes))
        (Permutes-pass new (staying rows (spread test rows changes)) (rows_new changes)))
        (keeps new (rest changes (omega (arith, few))))

none-gone : (rows : List Row) → rows_gone rows [] ≡ []
none-gone [] = refl
none-gone (row ∷ rows) = refl

-- the rows of a table are those that stay and those that go
pub gone-permutes : (test : Row → Bool) (rows : List Row) (changes : List RowChange)
    → Permutes (staying rows (spread test rows changes) ++ rows_gone (filter test rows) changes) rows
gone-permutes test [] changes = nothing
gone-permutes test (row ∷ rows) changes = by (test row) changes (λ cs. gone-permutes test rows cs)
  where
    by : (b : Bool) (changes : List RowChange)
        → ((cs : List RowChange) → Permutes (staying rows (spread test rows cs) ++ rows_gone (filter test rows) cs) rows)
        → Permutes (staying (row ∷ rows) (spread_at b (λ (others : List RowChange). spread test rows others) changes) ++ rows_gone (cond b (row ∷ filter test rows) (filter test rows)) changes)
        (row ∷ rows)
    by false changes rest = keeps row (rest changes)
    by true [] rest = keeps row (subst (λ (gs : List Row). Permutes (staying rows (spread test rows []) ++ gs) rows) (none-gone (filter test rows)) (rest []))
    by true (Stays ∷ changes) rest = keeps row (rest changes)
    by true (Goes ∷ changes) rest =
        goes_on (Permutes-sym (row ∷ (staying rows (spread test rows changes) ++ rows_gone (filter test rows) changes)) (staying rows (spread test rows changes) ++ (row ∷ rows_gone (filter test rows) changes))
        (Permutes-pass row (staying rows (spread test rows changes)) (rows_gone (filter test rows) changes)))
        (keeps row (rest changes))
    by true (Becomes new ∷ changes) rest =
        goes_on (Permutes-sym (row ∷ (staying rows (spread test rows changes) ++ rows_gone (filter test rows) changes)) (staying rows (spread test rows changes) ++ (row ∷ rows_gone (filter test rows) changes))
        (Permutes-pass row (staying rows (spread test rows changes)) (rows_gone (filter test rows) changes)))
        (keeps row (rest changes))

pub few-in : (changes : List RowChange) (rows passing : List Row) → length changes ≡ length rows → rows ≡ passing → length changes ≤ length passing
few-in changes rows passing many is = subst (λ (rs : List Row). length changes ≤ length rs) is (omega (arith, many))

-- ---- as many as rows

together-many : {X A : Type 0} (f : X → Evaluation A) (xs : List X) (ys : List A) → together (map f xs) ≡ Ok ys → length ys ≡ length xs
together-many {A = A} f [] ys e = ap length (sym (same_ok [] ys e))
together-many {A = A} f (x ∷ xs) ys e = by (f x) (together (map f xs)) e (together-many f xs)
  where
    by : (one : Evaluation A) (more : Evaluation (List A)) → joined one more ≡ Ok ys → ((zs : List A) → more ≡ Ok zs → length zs ≡ length xs) → length ys ≡ suc (length xs)
    by (Ok y) (Ok zs) e rest = ap length (sym (same_ok (y ∷ zs) ys e)) ∙ ap suc (rest zs refl)
    by (Ok y) (Err faults) e rest = absurd (cc e)
    by (Err faults) more e rest = absurd (cc e)

pub gives-many : {X A : Type 0} (f : X → Evaluation A) (xs : List X) (reply : Result (List A) Stop) → Gives reply (together (map f xs)) → IfOk reply (λ ys. length ys ≡ length xs)
gives-many f xs (Ok ys) h = together-many f xs ys h.ok
gives-many f xs (Err stop) h = tt
