-- Steps of a walk along an index.
use Rattle.std.proofs.Common.{◌≡◌, ◌∙◌, refl, sym, ap, subst, ℕ, ◌<◌, Bool, true, false, List, [], ◌∷◌, ◌++◌, map, Some, None, inl, inr, arith}
use Rattle.std.specs.Prelude.{◌==◌, filter, slice_get, if◌then◌else◌, cond}
use Rattle.std.specs.List.{AllByRecursion}
use Rattle.std.specs.Option.{option_map}
use Rattle.std.proofs.lemmas.Bool.{eqb-true, eq-eqb}
use Rattle.store.specs.Contents as stored
use Rattle.btree_read.specs.declared.entry.Start.{Start}
use Rattle.btree_read.specs.declared.entry.Start.TheVariants.{Behind}
use Rattle.btree_read.specs.Nodes.{precedes}
use Rattle.btree_read.specs.Sorted.{is_from, first_from}
use Rattle.btree_read.proofs.ListLemmas.{each_right}
use Rattle.btree_read.proofs.OrderLemmas.{not_self, not_both}
use Rattle.index_trees.specs.Indexed.{index_entry, IsRow}
use Rattle.database_trees.specs.Named.{row_numbered}
use Rattle.database_trees.proofs.NumberLemmas.{AreRising}
use Rattle.index_lookups.proofs.CodeOrder.{code_of}
use Rattle.index_lookups.proofs.WalkLemmas.{AreCoded}

-- ---- filters

pub filter_front : {X : Type 0} (f : X → Bool) (front left : List X) → AllByRecursion (λ x. f x ≡ false) front → filter f left ≡ filter f (front ++ left)
filter_front f [] left h = refl
filter_front f (x ∷ front) left h = filter_front f front left h.1 ∙ sym (ap (λ b. if b then x ∷ filter f (front ++ left) else filter f (front ++ left)) h.0)

pub filter_none : {X : Type 0} (f : X → Bool) (xs : List X) → AllByRecursion (λ x. f x ≡ false) xs → filter f xs ≡ []
filter_none f [] h = refl
filter_none f (x ∷ xs) h = ap (λ b. if b then x ∷ filter f xs else filter f xs) h.0 ∙ filter_none f xs h.1

pub filter_each : {X : Type 0} (f g : X → Bool) (xs : List X) → AllByRecursion (λ x. f x ≡ g x) xs → filter f xs ≡ filter g xs
filter_each f g [] h = refl
filter_each f g (x ∷ xs) h = ap (λ b. if b then x ∷ filter f xs else filter f xs) h.0 ∙ ap (λ ys. if g x then x ∷ ys else ys) (filter_each f g xs h.1)

pub filter_step : {X : Type 0} (f : X → Bool) (x : X) (xs : List X) → (if f x then x ∷ [] else []) ++ filter f xs ≡ filter f (x ∷ xs)
filter_step f x xs = by (f x)
  where
    by : (b : Bool) → (if b then x ∷ [] else []) ++ filter f xs ≡ (if b then x ∷ filter f xs else filter f xs)
    by true = refl
    by false = refl

-- ---- what is left from a start on

module _ (start : Start) (code columns : List ℕ) where
  pub record IsFrom (rows : List stored.Entry) : Type 0 where
    pub front : List stored.Entry
    pub left : List stored.Entry
    pub whole : rows ≡ front ++ left
    pub first : first_from start code (map (index_entry columns) rows) ≡ option_map (index_entry columns) (slice_get left 0)
    pub head : slice_get left 0 ≡ slice_get (filter (λ (e : stored.Entry). is_from start code (code_of columns e)) rows) 0
    pub passed : AllByRecursion (λ (e : stored.Entry). is_from start code (code_of columns e) ≡ false) front

  pub from_on : (rows : List stored.Entry) → IsFrom rows
  from_on [] = record { front = []; left = []; whole = refl; first = refl; head = refl; passed = tt }
  from_on (e ∷ rows) = by (is_from start code (code_of columns e)) refl (from_on rows)
    where
      by : (b : Bool) → is_from start code (code_of columns e) ≡ b → IsFrom rows → IsFrom (e ∷ rows)
      by true h again = record {
        front = [];
        left = e ∷ rows;
        whole = refl;
        first = ap (λ b. if b then Some (index_entry columns e) else first_from start code (map (index_entry columns) rows)) h;
        head = sym (ap (λ b. slice_get (if b then e ∷ filter (λ (x : stored.Entry). is_from start code (code_of columns x)) rows else filter (λ (x : stored.Entry). is_from start code (code_of columns x)) rows) 0) h);
        passed = tt;
      }
      by false h again = record {
        front = e ∷ again.front;
        left = again.left;
        whole = ap (λ xs. e ∷ xs) again.whole;
        first = ap (λ b. if b then Some (index_entry columns e) else first_from start code (map (index_entry columns) rows)) h ∙ again.first;
        head = again.head ∙ sym (ap (λ b. slice_get (if b then e ∷ filter (λ (x : stored.Entry). is_from start code (code_of columns x)) rows else filter (λ (x : stored.Entry). is_from start code (code_of columns x)) rows) 0) h);
        passed = (h, again.passed);
      }

-- ---- one entry on

module _ (columns : List ℕ) where
  coded_right : (front left : List stored.Entry) → AreCoded columns (front ++ left) → AreCoded columns left
  coded_right [] left h = h
  coded_right (x ∷ front) left h = coded_right front left h.1

  pub coded_left : (rows front left : List stored.Entry) → rows ≡ front ++ left → AreCoded columns rows → AreCoded columns left
  coded_left rows front left e h = coded_right front left (subst (AreCoded columns) e h)

  pub next_entry_of : (front rest : List stored.Entry) (e : stored.Entry) → AreCoded columns (front ++ e ∷ rest) → first_from Behind (code_of columns e) (map (index_entry columns) (front ++ e ∷ rest)) ≡ option_map (index_entry columns) (slice_get rest 0)
  next_entry_of [] [] e h = ap (λ b. if b then Some (index_entry columns e) else None) (not_self (code_of columns e))
  next_entry_of [] (r ∷ rest) e h =
      ap (λ b. if b then Some (index_entry columns e) else first_from Behind (code_of columns e) (map (index_entry columns) (r ∷ rest))) (not_self (code_of columns e))
      ∙ ap (λ b. if b then Some (index_entry columns r) else first_from Behind (code_of columns e) (map (index_entry columns) rest)) h.0.0
  next_entry_of (f ∷ front) rest e h =
      let before : precedes (code_of columns f) (code_of columns e) ≡ true = (each_right (λ (y : stored.Entry). precedes (code_of columns f) (code_of columns y) ≡ true) front (e ∷ rest) h.0).0 in
      ap (λ b. if b then Some (index_entry columns f) else first_from Behind (code_of columns e) (map (index_entry columns) (front ++ e ∷ rest))) (not_both (code_of columns f) (code_of columns e) before)
      ∙ next_entry_of front rest e h.1

-- ---- the row of an entry

numbered_on : (e r : stored.Entry) (rows : List stored.Entry) → e.0 < r.0 → row_numbered r.0 rows ≡ Some r → row_numbered r.0 (e ∷ rows) ≡ Some r
numbered_on e r rows less found = ap (λ b. cond b (Some e) (row_numbered r.0 rows)) (apart (e.0 == r.0) refl) ∙ found
  where
    apart : (b : Bool) → (e.0 == r.0) ≡ b → b ≡ false
    apart true h = let same = eqb-true e.0 r.0 h in absurd (omega (arith, same, less))
    apart false h = refl

row_above : (n : ℕ) (r : stored.Entry) (rows : List stored.Entry) → AllByRecursion (λ (f : stored.Entry). n < f.0) rows → IsRow r rows → n < r.0
row_above n r [] h g = absurd g
row_above n r (x ∷ rows) h (inl e) = subst (λ (y : stored.Entry). n < y.0) (sym e) h.0
row_above n r (x ∷ rows) h (inr g) = row_above n r rows h.1 g

pub row_is_there : (r : stored.Entry) (rows : List stored.Entry) → AreRising rows → IsRow r rows → row_numbered r.0 rows ≡ Some r
row_is_there r [] rise h = absurd h
row_is_there r (x ∷ rows) rise (inl e) = subst (λ (y : stored.Entry). row_numbered y.0 (x ∷ rows) ≡ Some y) (sym e) (ap (λ b. cond b (Some x) (row_numbered x.0 rows)) (eq-eqb x.0 x.0 refl))
row_is_there r (x ∷ rows) rise (inr h) = numbered_on x r rows (row_above x.0 r rows rise.0 h) (row_is_there r rows rise.1 h)

pub row_middle : (front left : List stored.Entry) (e : stored.Entry) → IsRow e (front ++ e ∷ left)
row_middle [] left e = inl refl
row_middle (x ∷ front) left e = inr (row_middle front left e)
