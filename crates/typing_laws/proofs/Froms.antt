-- What is found of a FROM gives rows of the types of the columns that it offers.
use Rattle.std.proofs.Common.{◌≡◌, refl, ap, sym, subst, ℕ, suc, List, [], ◌∷◌, ◌++◌, map, length, Ok, Err, Option, Some, None, IfOk}
use Rattle.std.specs.List.{AllByRecursion}
use Rattle.sqlval.specs.declared.schema.Column.{Column as Stored}
use Rattle.typing.specs.declared.typed.Condition.{Condition}
use Rattle.typing.specs.declared.typed.Source.{Source}
use Rattle.typing.specs.declared.typed.Source.TheVariants as source
use Rattle.typing.specs.declared.scope.Offer.{Offer}
use Rattle.typing.specs.declared.scope.ResultColumn.{ResultColumn}
use Rattle.typing.specs.declared.scope.Sides.{Sides}
use Rattle.typing.specs.declared.scope.TypedQuery.{TypedQuery}
use Rattle.typing.specs.Finding.{Finding, ◌>>=◌, also}
use Rattle.typing.specs.From.{From, all_crossed, crossed, derived_table, from_of, frame_over, inner_join, joined_by, joined_on, left_join, result_offer, stored_table}
use Rattle.typing.specs.Known.{Known}
use Rattle.typing.specs.declared.known.KnownTable.{KnownTable}
use Rattle.typing.specs.Part.{Part, Plain}
use Rattle.typing.specs.Scope.{Scope}
use Rattle.typing.specs.SetOperator.{types_of}
use Rattle.typing.specs.Table.{as_found, offer_of, table_found, type_in}
use Rattle.typing_laws.specs.Scopes.{AreRowsOf, offered_types}
use Rattle.typing_laws.specs.WellTyped.{HasColumns, IsWellTyped, Rows, column_types}
use Rattle.typing_laws.specs.WellTyped as typed
use Rattle.typing_laws.proofs.ColumnFitting.{IsResult}
use Rattle.typing_laws.proofs.ColumnParts.{IsTyped, IsTypedQuery}

-- where both are found, they stand so to one another
abbrev pub IfBoth : {A B : Type 0} → (A → B → Type 0) → Finding A → Finding B → Type 0
IfBoth R (Ok a) (Ok b) = R a b
IfBoth R (Ok a) (Err reasons) = Unit {0}
IfBoth R (Err reasons) y = Unit {0}

-- ---- the types of what is offered

pub stored_types : (shown : List ℕ) (columns : List Stored) → offered_types (map (offer_of shown) columns) ≡ column_types columns
stored_types shown [] = refl
stored_types shown (column ∷ columns) = ap (λ l. type_in column.column_type ∷ l) (stored_types shown columns)

result_types : (shown : List ℕ) (columns : List ResultColumn) → offered_types (map (result_offer shown) columns) ≡ types_of columns
result_types shown [] = refl
result_types shown (column ∷ columns) = ap (λ l. column.value_type ∷ l) (result_types shown columns)

joined_types : (xs ys : List Offer) → offered_types xs ++ offered_types ys ≡ offered_types (xs ++ ys)
joined_types [] ys = refl
joined_types (x ∷ xs) ys = ap (λ l. x.value_type ∷ l) (joined_types xs ys)

offered_count : (xs : List Offer) → length xs ≡ length (offered_types xs)
offered_count [] = refl
offered_count (x ∷ xs) = ap suc (offered_count xs)

module _ (known : Known) where
  abbrev pub Offers : Rows → List Offer → Source → Type 0
  Offers rows columns s = HasColumns known rows s (offered_types columns)

  abbrev pub Asks : Rows → Condition → Type 0
  Asks rows c = IsWellTyped known rows c

  abbrev pub IsTypedFrom : From → Type 0
  IsTypedFrom from = (outer : Scope) (rows : Rows) → AreRowsOf outer rows → IfBoth (Offers rows) (from.columns outer) (from.source outer)

  -- ---- tables

  pub stored-typed : (name shown : List ℕ) → IsTypedFrom (stored_table (λ n. table_found known n >>= (λ table. Ok table.columns)) name shown)
  stored-typed name shown outer rows are = at (known.table name) refl
    where
      at : (o : Option KnownTable) → known.table name ≡ o
          → IfBoth (Offers rows) (as_found o >>= (λ table. Ok table.columns) >>= (λ columns. Ok (map (offer_of shown) columns))) (as_found o >>= (λ table. Ok table.columns) >>= (λ columns. Ok (source.Table name)))
      at None is = tt
      at (Some table) is = subst (HasColumns known rows (source.Table name)) (sym (stored_types shown table.columns)) (typed.table name table is)

  pub derived-typed : (query : Scope → Finding TypedQuery) (shown : List ℕ) → IsTypedQuery known query → IsTypedFrom (derived_table query shown)
  derived-typed query shown h outer rows are = at (query outer) (h outer rows are)
    where
      at : (x : Finding TypedQuery) → IfOk x (IsResult known rows) → IfBoth (Offers rows) (x >>= (λ q. Ok (map (result_offer shown) q.columns))) (x >>= (λ q. Ok (source.Derived q.query)))
      at (Ok q) k = subst (HasColumns known rows (source.Derived q.query)) (sym (result_types shown q.columns)) (typed.derived k)
      at (Err reasons) k = tt

  -- ---- joins

  both_sides : (rows : Rows) (lc rc : Finding (List Offer)) (ls rs : Finding Source) → IfBoth (Offers rows) lc ls → IfBoth (Offers rows) rc rs
      → IfBoth (Offers rows) (also lc rc >>= (λ p. Ok (p.0 ++ p.1))) (also ls rs >>= (λ p. Ok (source.Product p.0 p.1)))
  both_sides rows (Ok a) (Ok b) (Ok s) (Ok t) h k = subst (HasColumns known rows (source.Product s t)) (joined_types a b) (typed.product h k)
  both_sides rows (Ok a) (Ok b) (Ok s) (Err reasons) h k = tt
  both_sides rows (Ok a) (Ok b) (Err reasons) rs h k = tt
  both_sides rows (Ok a) (Err reasons) ls rs h k = tt
  both_sides rows (Err reasons) rc ls rs h k = tt

  pub crossed-typed : (left right : From) → IsTypedFrom left → IsTypedFrom right → IsTypedFrom (crossed left right)
  crossed-typed left right h k outer rows are = both_sides rows (left.columns outer) (right.columns outer) (left.source outer) (right.source outer) (h outer rows are) (k outer rows are)

  -- what a join makes of its sides and of its ON
  abbrev pub Joins : (Sides → Source) → Type 0
  Joins joined = (rows : Rows) (a b : List Offer) (s t : Source) (on : Condition) → Offers rows a s → Offers rows b t → IsWellTyped known (offered_types (a ++ b) ∷ rows) on
      → Offers rows (a ++ b) (joined (record { left = s; right = t; right_width = length b; on = on }))

  on_sides : (joined : Sides → Source) → Joins joined → (rows : Rows) (a b : List Offer) (s t : Source) (on : Finding Condition) → Offers rows a s → Offers rows b t → IfOk on (Asks (offered_types (a ++ b) ∷ rows))
      → IfBoth (Offers rows) (Ok (a ++ b)) (also (also (Ok s) (Ok t)) (also (Ok b) on) >>= (λ p. Ok (record { left = (p.0).0; right = (p.0).1; right_width = length (p.1).0; on = (p.1).1 })) >>= (λ sides. Ok (joined sides)))
  on_sides joined good rows a b s t (Ok on) h k m = good rows a b s t on h k m
  on_sides joined good rows a b s t (Err reasons) h k m = tt

  sides : (joined : Sides → Source) → Joins joined → (rows : Rows) (lc rc : Finding (List Offer)) (ls rs : Finding Source) (on : List Offer → Finding Condition) → IfBoth (Offers rows) lc ls → IfBoth (Offers rows) rc rs
      → ((columns : List Offer) → IfOk (on columns) (Asks (offered_types columns ∷ rows)))
      → IfBoth (Offers rows) (also lc rc >>= (λ p. Ok (p.0 ++ p.1)))
      (also (also ls rs) (also rc (also lc rc >>= (λ p. Ok (p.0 ++ p.1)) >>= on)) >>= (λ p. Ok (record { left = (p.0).0; right = (p.0).1; right_width = length (p.1).0; on = (p.1).1 })) >>= (λ sides. Ok (joined sides)))
  sides joined good rows (Ok a) (Ok b) (Ok s) (Ok t) on h k m = on_sides joined good rows a b s t (on (a ++ b)) h k (m (a ++ b))
  sides joined good rows (Ok a) (Ok b) (Ok s) (Err reasons) on h k m = tt
  sides joined good rows (Ok a) (Ok b) (Err reasons) rs on h k m = tt
  sides joined good rows (Ok a) (Err reasons) ls rs on h k m = tt
  sides joined good rows (Err reasons) rc ls rs on h k m = tt

  pub joined-typed : (joined : Sides → Source) → Joins joined → (on : Part Condition) (left right : From) → IsTyped known Asks on → IsTypedFrom left → IsTypedFrom right → IsTypedFrom (joined_on joined on left right)
  joined-typed joined good on left right o h k outer rows are =
      sides joined good rows (left.columns outer) (right.columns outer) (left.source outer) (right.source outer)
      (λ columns. on.found (record { scope = frame_over (left.names ++ right.names) columns ∷ outer; clause = Plain })) (h outer rows are) (k outer rows are)
      (λ columns. o.found (record { scope = frame_over (left.names ++ right.names) columns ∷ outer; clause = Plain }) (offered_types columns ∷ rows) (refl, are) tt)

  split_on : (rows : Rows) (a b : List Offer) (on : Condition) → IsWellTyped known (offered_types (a ++ b) ∷ rows) on → IsWellTyped known ((offered_types a ++ offered_types b) ∷ rows) on
  split_on rows a b on h = subst (λ l. IsWellTyped known (l ∷ rows) on) (sym (joined_types a b)) h

  pub inner-joins : Joins inner_join
  inner-joins rows a b s t on h k m = subst (HasColumns known rows (source.Inner on s t)) (joined_types a b) (typed.inner h k (split_on rows a b on m))

  pub left-joins : Joins left_join
  left-joins rows a b s t on h k m = subst (HasColumns known rows (source.Left on s t (length b))) (joined_types a b) (typed.left h k (split_on rows a b on m) (length b) (offered_count b))

  abbrev pub IsTypedJoin : (From → From) → Type 0
  IsTypedJoin join = (left : From) → IsTypedFrom left → IsTypedFrom (join left)

  pub joined_by-typed : (joins : List (From → From)) (from : From) → AllByRecursion IsTypedJoin joins → IsTypedFrom from → IsTypedFrom (joined_by joins from)
  joined_by-typed [] from h k = k
  joined_by-typed (join ∷ joins) from h k = joined_by-typed joins (join from) h.1 (h.0 from k)

  all_crossed-typed : (others : List From) (from : From) → AllByRecursion IsTypedFrom others → IsTypedFrom from → IsTypedFrom (all_crossed others from)
  all_crossed-typed [] from h k = k
  all_crossed-typed (other ∷ others) from h k = all_crossed-typed others (crossed from other) h.1 (crossed-typed from other k h.0)

  pub from-typed : (references : List From) → AllByRecursion IsTypedFrom references → IsTypedFrom (from_of references)
  from-typed [] h = λ outer rows are. tt
  from-typed (first ∷ others) h = all_crossed-typed others first h.1 h.0
