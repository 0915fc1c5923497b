-- Parts of a text that are well typed wherever they stand, with the types of their set functions,
-- and what is put together of them one after the other.
use Rattle.std.proofs.Common.{◌≡◌, refl, ap, ap₂, sym, ◌∙◌, subst, ℕ, suc, ◌+◌, List, [], ◌∷◌, ◌++◌, map, length, length-append, append_assoc, Ok, Err, Option, Some, None, IfOk, slice_get, arith}
use Rattle.std.specs.Prelude.{Bool}
use Rattle.std.specs.List.{AllByRecursion, zip}
use Rattle.std.proofs.lemmas.Option.{none-some, same_Some}
use Rattle.sqlval.specs.declared.value.ValueType.{ValueType}
use Rattle.sqlval.specs.declared.value.ValueType.TheVariants.{Integer}
use Rattle.ast.specs.declared.operator.Column.{Column}
use Rattle.ast.specs.declared.operator.Quantifier.{Quantifier}
use Rattle.ast.specs.declared.operator.SetFunction.{SetFunction as Written}
use Rattle.ast.specs.declared.operator.SetFunction.TheVariants as written
use Rattle.ast.specs.declared.operator.Sign.{Sign}
use Rattle.typing.specs.declared.scope.Frame.{Frame}
use Rattle.typing.specs.declared.scope.TypedExpression.{TypedExpression}
use Rattle.typing.specs.declared.scope.TypedQuery.{TypedQuery}
use Rattle.typing.specs.Expression.{must_be, signed}
use Rattle.typing.specs.Finding.{Finding, ◌>>=◌}
use Rattle.typing.specs.Known.{Known}
use Rattle.typing.specs.Part.{Clause, Shown, Plain, Argument, Checked, FunctionFinding, Part, View, functions_of, if_chain, if_written, in_turn, moved, of_all, of_none, of_one, of_three, of_two, past}
use Rattle.typing.specs.Scope.{Scope, column_at, ungrouped}
use Rattle.typing.specs.SetFunction.{Aggregate, aggregate_found, aggregate_of, aggregate_part, column_part, column_seen, count_rows, is_distinct, query_part, query_seen, value_seen}
use Rattle.typing.specs.Typing.{in_parentheses, with_sign}
use Rattle.typing_laws.specs.Scopes.{AreRowsOf}
use Rattle.typing_laws.specs.WellTyped.{FunctionHasType, FunctionsHaveTypes, HasResult, HasType, Rows}
use Rattle.typing_laws.specs.WellTyped as typed
use Rattle.typing_laws.proofs.Columns.{Gives, IsUngrouped, columns-typed, own-typed}
use Rattle.typing_laws.proofs.ColumnFindings.{goes_on}
use Rattle.typing_laws.proofs.ColumnFitting.{IsResult, must, sign-typed}

-- ---- the values of set functions in the row that is seen

-- this column of the first row has this type
abbrev pub IsColumn : Rows → ℕ → ValueType → Type 0
IsColumn rows place type = (row : List ValueType) × (slice_get rows 0 ≡ Some row) × (slice_get row place ≡ Some type)

-- from this place on the first row has these types
abbrev pub StandFrom : ℕ → List ValueType → Rows → Type 0
StandFrom first [] rows = Unit {0}
StandFrom first (type ∷ types) rows = IsColumn rows first type × StandFrom (first + 1) types rows

stand-split : (first : ℕ) (xs ys : List ValueType) (rows : Rows) → StandFrom first (xs ++ ys) rows → StandFrom first xs rows × StandFrom (first + length xs) ys rows
stand-split first [] ys rows h = let e : first ≡ first + 0 = omega arith in (tt, subst (λ n. StandFrom n ys rows) e h)
stand-split first (x ∷ xs) ys rows h =
    let e : (first + 1) + length xs ≡ first + suc (length xs) = omega arith in
    let both = stand-split (first + 1) xs ys rows h.1 in
    ((h.0, both.0), subst (λ n. StandFrom n ys rows) e both.1)

-- what is known where a part stands in such a clause: in a select list or HAVING the values of its
-- set functions stand from a place on; the argument of a set function sees no groups
abbrev pub MayStand : Clause → Scope → List ValueType → Rows → Type 0
MayStand (Shown first) scope types rows = StandFrom first types rows
MayStand Plain scope types rows = Unit {0}
MayStand Argument scope types rows = IsUngrouped scope
MayStand Checked scope types rows = Unit {0}

split : (clause : Clause) (scope : Scope) (n : ℕ) (xs ys : List ValueType) (rows : Rows) → length xs ≡ n → MayStand clause scope (xs ++ ys) rows
    → MayStand clause scope xs rows × MayStand (moved n clause) scope ys rows
split (Shown first) scope n xs ys rows is h = let both = stand-split first xs ys rows h in (both.0, subst (λ m. StandFrom (first + m) ys rows) is both.1)
split Plain scope n xs ys rows is h = (tt, tt)
split Argument scope n xs ys rows is h = (h, h)
split Checked scope n xs ys rows is h = (tt, tt)

plain-frame : (scope : Scope) → IsUngrouped (ungrouped scope)
plain-frame [] frame e = absurd (none-some frame e)
plain-frame (f ∷ outer) frame e = ap (λ (g : Frame). g.key) (sym (same_Some (record { tables = f.tables; columns = f.columns; key = None }) frame e))

module _ (known : Known) where
  -- set functions have these types, each where it is found
  abbrev pub AreFunctions : Rows → Scope → List FunctionFinding → List ValueType → Type 0
  AreFunctions rows scope [] [] = Unit {0}
  AreFunctions rows scope (f ∷ fs) (type ∷ types) = IfOk (f scope) (λ x. FunctionHasType known rows x type) × AreFunctions rows scope fs types
  AreFunctions rows scope _ _ = ⊥

  are-appended : (rows : Rows) (scope : Scope) (fs gs : List FunctionFinding) (xs ys : List ValueType) → AreFunctions rows scope fs xs → AreFunctions rows scope gs ys → AreFunctions rows scope (fs ++ gs) (xs ++ ys)
  are-appended rows scope [] gs [] ys h k = k
  are-appended rows scope [] gs (x ∷ xs) ys h k = absurd h
  are-appended rows scope (f ∷ fs) gs [] ys h k = absurd h
  are-appended rows scope (f ∷ fs) gs (x ∷ xs) ys h k = (h.0, are-appended rows scope fs gs xs ys h.1 k)

  -- A part that is well typed wherever it stands: in rows of the types of what is seen there.
  pub record IsTyped {A : Type 0} (Is : Rows → A → Type 0) (x : Part A) : Type 0 where
    pub types : Scope → List ValueType
    pub count : (scope : Scope) → length (types scope) ≡ length x.functions
    pub functions : (scope : Scope) (rows : Rows) → AreRowsOf (ungrouped scope) rows → AreFunctions rows scope x.functions (types (ungrouped scope))
    pub found : (view : View) (rows : Rows) → AreRowsOf view.scope rows → MayStand view.clause view.scope (types (ungrouped view.scope)) rows → IfOk (x.found view) (Is rows)

  -- ---- parts put together

  pub none : {A : Type 0} (Is : Rows → A → Type 0) (found : View → Finding A) → ((view : View) (rows : Rows) → AreRowsOf view.scope rows → IfOk (found view) (Is rows)) → IsTyped Is (of_none found)
  none Is found h = record { types = λ scope. []; count = λ scope. refl; functions = λ scope rows k. tt; found = λ view rows k m. h view rows k }

  pub one : {A B : Type 0} (Is : Rows → A → Type 0) (IsMade : Rows → B → Type 0) (made : Finding A → Finding B) (x : Part A)
      → ((rows : Rows) (f : Finding A) → IfOk f (Is rows) → IfOk (made f) (IsMade rows)) → IsTyped Is x → IsTyped IsMade (of_one made x)
  one Is IsMade made x good h = record {
    types = h.types;
    count = h.count;
    functions = h.functions;
    found = λ view rows k m. good rows (x.found view) (h.found view rows k m);
  }

  -- what follows from a part
  pub followed : {A B : Type 0} (Is : Rows → A → Type 0) (IsMade : Rows → B → Type 0) (next : A → Finding B) (x : Part A)
      → ((rows : Rows) (a : A) → Is rows a → IfOk (next a) (IsMade rows)) → IsTyped Is x → IsTyped IsMade (of_one (λ found. found >>= next) x)
  followed Is IsMade next x good h = one Is IsMade (λ found. found >>= next) x (λ rows f k. goes_on (Is rows) (IsMade rows) f next k (good rows)) h

  pub two : {A B C : Type 0} (Is : Rows → A → Type 0) (IsOther : Rows → B → Type 0) (IsMade : Rows → C → Type 0) (made : Finding A → Finding B → Finding C) (x : Part A) (y : Part B)
      → ((rows : Rows) (f : Finding A) (g : Finding B) → IfOk f (Is rows) → IfOk g (IsOther rows) → IfOk (made f g) (IsMade rows)) → IsTyped Is x → IsTyped IsOther y → IsTyped IsMade (of_two made x y)
  two Is IsOther IsMade made x y good h k = record {
    types = λ scope. h.types scope ++ k.types scope;
    count = λ scope. length-append (h.types scope) (k.types scope) ∙ ap₂ (λ m n. m + n) (h.count scope) (k.count scope) ∙ sym (length-append x.functions y.functions);
    functions = λ scope rows are. are-appended rows scope x.functions y.functions (h.types (ungrouped scope)) (k.types (ungrouped scope)) (h.functions scope rows are) (k.functions scope rows are);
    found = λ view rows are may.
        let both = split view.clause view.scope (length x.functions) (h.types (ungrouped view.scope)) (k.types (ungrouped view.scope)) rows (h.count (ungrouped view.scope)) may in
        good rows (x.found view) (y.found (past x view)) (h.found view rows are both.0) (k.found (past x view) rows are both.1);
  }

  pub three : {A B C D : Type 0} (Is : Rows → A → Type 0) (IsOther : Rows → B → Type 0) (IsThird : Rows → C → Type 0) (IsMade : Rows → D → Type 0)
      (made : Finding A → Finding B → Finding C → Finding D) (x : Part A) (y : Part B) (z : Part C)
      → ((rows : Rows) (f : Finding A) (g : Finding B) (i : Finding C) → IfOk f (Is rows) → IfOk g (IsOther rows) → IfOk i (IsThird rows) → IfOk (made f g i) (IsMade rows))
      → IsTyped Is x → IsTyped IsOther y → IsTyped IsThird z → IsTyped IsMade (of_three made x y z)
  three Is IsOther IsThird IsMade made x y z good h k l = record {
    types = λ scope. h.types scope ++ (k.types scope ++ l.types scope);
    count = λ scope.
        let a = length-append (h.types scope) (k.types scope ++ l.types scope) in
        let b = length-append (k.types scope) (l.types scope) in
        let c = length-append (x.functions ++ y.functions) z.functions in
        let d = length-append x.functions y.functions in
        omega (arith, a, b, c, d, h.count scope, k.count scope, l.count scope);
    functions = λ scope rows are.
        let s = ungrouped scope in
        subst (AreFunctions rows scope (x.functions ++ y.functions ++ z.functions)) (append_assoc (h.types s) (k.types s) (l.types s))
        (are-appended rows scope (x.functions ++ y.functions) z.functions (h.types s ++ k.types s) (l.types s)
        (are-appended rows scope x.functions y.functions (h.types s) (k.types s) (h.functions scope rows are) (k.functions scope rows are)) (l.functions scope rows are));
    found = λ view rows are may.
        let s = ungrouped view.scope in
        let some = split view.clause view.scope (length x.functions) (h.types s) (k.types s ++ l.types s) rows (h.count s) may in
        let rest = split (moved (length x.functions) view.clause) view.scope (length y.functions) (k.types s) (l.types s) rows (k.count s) some.1 in
        good rows (x.found view) (y.found (past x view)) (z.found (past y (past x view))) (h.found view rows are some.0) (k.found (past x view) rows are rest.0) (l.found (past y (past x view)) rows are rest.1);
  }

  -- ---- parts one after the other

  module _ {A : Type 0} (Is : Rows → A → Type 0) where
    abbrev types_all : (xs : List (Part A)) → AllByRecursion (IsTyped Is) xs → Scope → List ValueType
    types_all [] h scope = []
    types_all (x ∷ xs) h scope = h.0.types scope ++ types_all xs h.1 scope

    count_all : (xs : List (Part A)) (h : AllByRecursion (IsTyped Is) xs) (scope : Scope) → length (types_all xs h scope) ≡ length (functions_of xs)
    count_all [] h scope = refl
    count_all (x ∷ xs) h scope =
        length-append (h.0.types scope) (types_all xs h.1 scope) ∙ ap₂ (λ m n. m + n) (h.0.count scope) (count_all xs h.1 scope) ∙ sym (length-append x.functions (functions_of xs))

    functions_all : (xs : List (Part A)) (h : AllByRecursion (IsTyped Is) xs) (scope : Scope) (rows : Rows) → AreRowsOf (ungrouped scope) rows → AreFunctions rows scope (functions_of xs) (types_all xs h (ungrouped scope))
    functions_all [] h scope rows are = tt
    functions_all (x ∷ xs) h scope rows are =
        are-appended rows scope x.functions (functions_of xs) (h.0.types (ungrouped scope)) (types_all xs h.1 (ungrouped scope)) (h.0.functions scope rows are) (functions_all xs h.1 scope rows are)

    turns_all : (xs : List (Part A)) (h : AllByRecursion (IsTyped Is) xs) (view : View) (rows : Rows) → AreRowsOf view.scope rows → MayStand view.clause view.scope (types_all xs h (ungrouped view.scope)) rows
        → AllByRecursion (λ f. IfOk f (Is rows)) (in_turn xs view)
    turns_all [] h view rows are may = tt
    turns_all (x ∷ xs) h view rows are may =
        let s = ungrouped view.scope in
        let both = split view.clause view.scope (length x.functions) (h.0.types s) (types_all xs h.1 s) rows (h.0.count s) may in
        (h.0.found view rows are both.0, turns_all xs h.1 (past x view) rows are both.1)

    pub every : {B : Type 0} (IsMade : Rows → B → Type 0) (made : List (Finding A) → Finding B)
        → ((rows : Rows) (found : List (Finding A)) → AllByRecursion (λ f. IfOk f (Is rows)) found → IfOk (made found) (IsMade rows)) → (xs : List (Part A)) → AllByRecursion (IsTyped Is) xs → IsTyped IsMade (of_all made xs)
    every IsMade made good xs h = record {
      types = types_all xs h;
      count = count_all xs h;
      functions = functions_all xs h;
      found = λ view rows are may. good rows (in_turn xs view) (turns_all xs h view rows are may);
    }

    -- ---- chains

    abbrev pub IsTypedOperand : {O : Type 0} → O × Part A → Type 0
    IsTypedOperand operand = IsTyped Is operand.1

    operands_typed : {O : Type 0} (others : List (O × Part A)) → AllByRecursion IsTypedOperand others → AllByRecursion (IsTyped Is) (map (λ other. other.1) others)
    operands_typed [] h = tt
    operands_typed (other ∷ others) h = (h.0, operands_typed others h.1)

    zipped : {O : Type 0} (rows : Rows) (os : List O) (found : List (Finding A)) → AllByRecursion (λ f. IfOk f (Is rows)) found → AllByRecursion (λ (o : O × Finding A). IfOk o.1 (Is rows)) (zip os found)
    zipped rows [] found h = tt
    zipped rows (o ∷ os) [] h = tt
    zipped rows (o ∷ os) (f ∷ found) h = (h.0, zipped rows os found h.1)

    pub chain : {O : Type 0} (made : Finding A → List (O × Finding A) → Finding A)
        → ((rows : Rows) (first : Finding A) (others : List (O × Finding A)) → IfOk first (Is rows) → AllByRecursion (λ (o : O × Finding A). IfOk o.1 (Is rows)) others → IfOk (made first others) (Is rows))
        → (first : Part A) (others : List (O × Part A)) → IsTyped Is first → AllByRecursion IsTypedOperand others → IsTyped Is (if_chain made first others)
    chain made good first [] h k = h
    chain {O = O} made good first (other ∷ others) h k =
        let parts : List (Part A) = map (λ (o : O × Part A). o.1) (other ∷ others) in
        let signs : List O = map (λ (o : O × Part A). o.0) (other ∷ others) in
        let all : AllByRecursion (IsTyped Is) parts = operands_typed (other ∷ others) k in
        record {
          types = λ scope. h.types scope ++ types_all parts all scope;
          count = λ scope. length-append (h.types scope) (types_all parts all scope) ∙ ap₂ (λ m n. m + n) (h.count scope) (count_all parts all scope) ∙ sym (length-append first.functions (functions_of parts));
          functions = λ scope rows are.
              are-appended rows scope first.functions (functions_of parts) (h.types (ungrouped scope)) (types_all parts all (ungrouped scope)) (h.functions scope rows are) (functions_all parts all scope rows are);
          found = λ view rows are may.
              let s = ungrouped view.scope in
              let both = split view.clause view.scope (length first.functions) (h.types s) (types_all parts all s) rows (h.count s) may in
              good rows (first.found view) (zip signs (in_turn parts (past first view))) (h.found view rows are both.0) (zipped rows signs (in_turn parts (past first view)) (turns_all parts all (past first view) rows are both.1));
        }

  -- ---- parts that may be left out, signs, parentheses

  abbrev pub IfThere : {A : Type 0} → (Rows → A → Type 0) → Rows → Option A → Type 0
  IfThere {A} Is rows x = (a : A) → x ≡ Some a → Is rows a

  abbrev pub IfWritten : {A : Type 0} → (Rows → A → Type 0) → Option (Part A) → Type 0
  IfWritten Is None = Unit {0}
  IfWritten Is (Some x) = IsTyped Is x

  pub written-typed : {A : Type 0} (Is : Rows → A → Type 0) (x : Option (Part A)) → IfWritten Is x → IsTyped (IfThere Is) (if_written x)
  written-typed Is None h = none (IfThere Is) (λ view. Ok None) (λ view rows k. λ a e. absurd (none-some a e))
  written-typed Is (Some x) h = followed Is (IfThere Is) (λ a. Ok (Some a)) x (λ rows a k b e. subst (Is rows) (same_Some a b e) k) h

  pub with_its_sign : (sign : Option Sign) (x : Part TypedExpression) → IsTyped (Gives known) x → IsTyped (Gives known) (with_sign x sign)
  with_its_sign None x h = h
  with_its_sign (Some s) x h = one (Gives known) (Gives known) (λ found. found >>= signed (Some s)) x (λ rows f k. sign-typed known rows s f k) h

  pub parenthesized : (x : Part TypedExpression) → IsTyped (Gives known) x → IsTyped (Gives known) (in_parentheses x)
  parenthesized x h = record { types = h.types; count = h.count; functions = h.functions; found = h.found }

  -- ---- columns, and queries inside

  column_seen-typed : (clause : Clause) (column : Column) (scope : Scope) (rows : Rows) → AreRowsOf scope rows → MayStand clause scope [] rows → IfOk (column_seen clause column scope) (Gives known rows)
  column_seen-typed Argument column scope rows are plain = own-typed known column scope rows are plain
  column_seen-typed (Shown first) column scope rows are may = columns-typed known column scope rows are
  column_seen-typed Plain column scope rows are may = columns-typed known column scope rows are
  column_seen-typed Checked column scope rows are may = columns-typed known column scope rows are

  pub column-typed : (column : Column) → IsTyped (Gives known) (column_part column)
  column-typed column = record {
    types = λ scope. [];
    count = λ scope. refl;
    functions = λ scope rows are. tt;
    found = λ view rows are may. column_seen-typed view.clause column view.scope rows are may;
  }

  abbrev pub IsTypedQuery : (Scope → Finding TypedQuery) → Type 0
  IsTypedQuery query = (scope : Scope) (rows : Rows) → AreRowsOf scope rows → IfOk (query scope) (IsResult known rows)

  query_seen-typed : (rows : Rows) (clause : Clause) (query : Finding TypedQuery) → IfOk query (IsResult known rows) → IfOk (query_seen clause query) (IsResult known rows)
  query_seen-typed rows (Shown first) query h = h
  query_seen-typed rows Plain query h = h
  query_seen-typed rows Argument query h = tt
  query_seen-typed rows Checked query h = tt

  pub query-typed : {B : Type 0} (Is : Rows → B → Type 0) (made : Finding TypedQuery → Finding B) (query : Scope → Finding TypedQuery)
      → ((rows : Rows) (q : Finding TypedQuery) → IfOk q (IsResult known rows) → IfOk (made q) (Is rows)) → IsTypedQuery query → IsTyped Is (query_part made query)
  query-typed Is made query good h =
      none Is (λ view. made (query_seen view.clause (query view.scope))) (λ view rows are. good rows (query_seen view.clause (query view.scope)) (query_seen-typed rows view.clause (query view.scope) (h view.scope rows are)))

  -- ---- set functions

  abbrev IsAggregate : Rows → Aggregate → Type 0
  IsAggregate rows a = FunctionHasType known rows a.0 a.1

  aggregate_of-typed : (rows : Rows) (function : Written) (is_distinct : Bool) (x : TypedExpression) → Gives known rows x → IfOk (aggregate_of function is_distinct x) (IsAggregate rows)
  aggregate_of-typed rows written.Count d x h = typed.count d h
  aggregate_of-typed rows written.Sum d x h = goes_on (λ a. HasType known rows a Integer) (IsAggregate rows) (must_be Integer x) _ (must known rows Integer x h) (λ a k. typed.sum d k)
  aggregate_of-typed rows written.Avg d x h = goes_on (λ a. HasType known rows a Integer) (IsAggregate rows) (must_be Integer x) _ (must known rows Integer x h) (λ a k. typed.average d k)
  aggregate_of-typed rows written.Min d x h = typed.minimum d h
  aggregate_of-typed rows written.Max d x h = typed.maximum d h

  abbrev aggregate_type : Finding Aggregate → ValueType
  aggregate_type (Ok a) = a.1
  aggregate_type (Err reasons) = Integer

  function_found : (rows : Rows) (x : Finding Aggregate) → IfOk x (IsAggregate rows) → IfOk (x >>= (λ a. Ok a.0)) (λ f. FunctionHasType known rows f (aggregate_type x))
  function_found rows (Ok a) h = h
  function_found rows (Err reasons) h = tt

  value_at : (rows : Rows) (first : ℕ) (x : Finding Aggregate) → IsColumn rows first (aggregate_type x) → IfOk (x >>= (λ a. Ok (column_at a.1 0 first))) (Gives known rows)
  value_at rows first (Ok a) (row, there, has) = typed.column 0 first row there has
  value_at rows first (Err reasons) h = tt

  value-typed : (clause : Clause) (scope : Scope) (rows : Rows) (x : Finding Aggregate) → MayStand clause scope (aggregate_type x ∷ []) rows → IfOk (value_seen clause x) (Gives known rows)
  value-typed (Shown first) scope rows x may = value_at rows first x may.0
  value-typed Plain scope rows x may = tt
  value-typed Argument scope rows x may = tt
  value-typed Checked scope rows x may = tt

  pub count_rows-typed : IsTyped (Gives known) (aggregate_part count_rows)
  count_rows-typed = record {
    types = λ scope. Integer ∷ [];
    count = λ scope. refl;
    functions = λ scope rows are. (typed.count_rows, tt);
    found = λ view rows are may. value-typed view.clause view.scope rows (count_rows view.scope) may;
  }

  abbrev over_rows : Written → Option Quantifier → Part TypedExpression → Scope → Finding Aggregate
  over_rows function quantifier argument scope = argument.found (record { scope = scope; clause = Argument }) >>= aggregate_of function (is_distinct quantifier)

  over_rows-typed : (function : Written) (quantifier : Option Quantifier) (argument : Part TypedExpression) → IsTyped (Gives known) argument → (scope : Scope) (rows : Rows) → AreRowsOf (ungrouped scope) rows
      → IfOk (over_rows function quantifier argument (ungrouped scope)) (IsAggregate rows)
  over_rows-typed function quantifier argument h scope rows are =
      goes_on (Gives known rows) (IsAggregate rows) (argument.found (record { scope = ungrouped scope; clause = Argument })) (aggregate_of function (is_distinct quantifier))
      (h.found (record { scope = ungrouped scope; clause = Argument }) rows are (plain-frame scope)) (aggregate_of-typed rows function (is_distinct quantifier))

  pub aggregate-typed : (function : Written) (quantifier : Option Quantifier) (argument : Part TypedExpression) → IsTyped (Gives known) argument → IsTyped (Gives known) (aggregate_part (aggregate_found function quantifier argument))
  aggregate-typed function quantifier argument h = record {
    types = λ scope. aggregate_type (over_rows function quantifier argument scope) ∷ [];
    count = λ scope. refl;
    functions = λ scope rows are. (function_found rows (over_rows function quantifier argument (ungrouped scope)) (over_rows-typed function quantifier argument h scope rows are), tt);
    found = λ view rows are may. value-typed view.clause view.scope rows (over_rows function quantifier argument (ungrouped view.scope)) may;
  }
