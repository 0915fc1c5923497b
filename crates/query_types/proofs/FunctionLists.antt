-- The set functions of the parts of a node, in the order of the text.
use Rattle.std.proofs.Common.{◌≡◌, refl, sym, ap, ◌∙◌, ℕ, zero, suc, ◌+◌, ◌<◌, ◌≤◌, List, [], ◌∷◌, ◌++◌, map, length, take, get_or, Option, Some, None, Result, Ok, Err, Bool, true, false, not, nat_lt, ◌==◌, arith, add-one, append_assoc}
use Rattle.std.specs.Option.{is_some}
use Rattle.std.proofs.lemmas.Bool.{eqb-true, lt-ltb}
use Rattle.std.proofs.lemmas.List.{append-nil, map-append, take_all}
use Rattle.refusals.specs.declared.refusal.Refusal.{Refusal}
use Rattle.ast.specs.declared.operator.Column.{Column}
use Rattle.ast.specs.declared.operator.Comparison.{Comparison}
use Rattle.ast.specs.declared.operator.Literal.{Literal}
use Rattle.ast.specs.declared.operator.Quantifier.{Quantifier}
use Rattle.ast.specs.declared.operator.SetFunction.{SetFunction}
use Rattle.ast.specs.declared.operator.Sign.{Sign}
use Rattle.ast.specs.declared.tree.Condition.{Condition, out-Condition}
use Rattle.ast.specs.declared.tree.Conjunction.{Conjunction, out-Conjunction}
use Rattle.ast.specs.declared.tree.Expression.{Expression, out-Expression}
use Rattle.ast.specs.declared.tree.Factor.{Factor, out-Factor}
use Rattle.ast.specs.declared.tree.Negation.{Negation, out-Negation}
use Rattle.ast.specs.declared.tree.Predicate.TheVariants as p
use Rattle.ast.specs.declared.tree.Primary.{Primary}
use Rattle.ast.specs.declared.tree.Primary.TheVariants as primary
use Rattle.ast.specs.declared.tree.Query.{Query}
use Rattle.ast.specs.declared.tree.SelectItem.{SelectItem, out-SelectItem}
use Rattle.ast.specs.declared.tree.Term.{Term, out-Term}
use Rattle.ast.specs.declared.tree.Test.{out-Test}
use Rattle.ast.specs.declared.tree.Select.{Select, out-Select}
use Rattle.typing.specs.Finding.{Finding, also, before, each, reasons_in}
use Rattle.typing.specs.Finds.{Finds}
use Rattle.typing.specs.declared.typed.SetFunction.{SetFunction as Typed}
use Rattle.typing.specs.Expression.{sum_chain, product_chain}
use Rattle.typing.specs.Known.{Known}
use Rattle.typing.specs.Part.{FunctionFinding, Part, functions_of, if_chain}
use Rattle.typing.specs.Scope.{Scope}
use Rattle.typing.specs.SetFunction.{aggregate_found, count_rows}
use Rattle.typing.specs.Typing.{condition_part, conjunction_part, expression_part, factor_part, item_part, negation_part, predicate_part, primary_part, term_part, with_sign, ExpressionPart}
use Rattle.typing.proofs.Nodes as node
use Rattle.typing.specs.Select.{is_grouped}
use Rattle.scopes.specs.Seen.{capped, count_of}
use Rattle.query_types.specs.Parts.{appended, factor_after, function_in, function_of, functions_in, term_after}
use Rattle.query_types.specs.Selects.{clauses_of, list_part}

-- ---- lists one behind the other

append-first : {A : Type 0} (x : Finding A) (xs ys : Finding (List A)) → before x (appended (also xs ys)) ≡ appended (also (before x xs) ys)
append-first (Ok x) (Ok xs) (Ok ys) = refl
append-first (Ok x) (Ok xs) (Err reasons) = refl
append-first (Ok x) (Err reasons) ys = refl
append-first (Err reasons) (Ok xs) (Ok ys) = ap Err (sym (append-nil (reasons ++ [])))
append-first (Err reasons) (Ok xs) (Err others) = ap (λ r. Err (r ++ others)) (sym (append-nil reasons))
append-first (Err reasons) (Err others) ys = ap Err (sym (append_assoc reasons others (reasons_in ys)))

append-none : {A : Type 0} (ys : Finding (List A)) → ys ≡ appended (also (Ok []) ys)
append-none (Ok ys) = refl
append-none (Err reasons) = refl

pub each-append : {A : Type 0} (xs ys : List (Finding A)) → each (xs ++ ys) ≡ appended (also (each xs) (each ys))
each-append [] ys = append-none (each ys)
each-append (x ∷ xs) ys = ap (before x) (each-append xs ys) ∙ append-first x (each xs) (each ys)

-- ---- whether a SELECT has groups

counted-any : (n count : ℕ) → n ≡ capped count → nat_lt 0 n ≡ not (count == 0)
counted-any n zero e = rw e refl
counted-any zero (suc count) e = absurd (omega (arith, e))
counted-any (suc n) (suc count) e = lt-ltb 0 (suc n) (omega arith) ∙ ap not (sym (by (suc count == 0) refl))
  where
    by : (b : Bool) → (suc count == 0) ≡ b → (suc count == 0) ≡ false
    by true e = absurd (omega (arith, eqb-true (suc count) 0 e))
    by false e = e

pub none-of : {A : Type 0} (o : Option A) → is_some o ≡ false → o ≡ None
none-of None e = refl
none-of (Some x) e = absurd (cc e)

pub grouped-alone : (k : Known) (tree : Select) (n : ℕ) → (out-Select tree).groups ≡ [] → (out-Select tree).having ≡ None → n ≡ capped (count_of (list_part k (out-Select tree).items)) →
    nat_lt 0 n ≡ is_grouped (clauses_of k tree)
grouped-alone k tree n e f g =
    counted-any n (count_of (list_part k (out-Select tree).items)) g
    ∙ ap (λ functions. not (length functions == 0)) (sym (append-nil (list_part k (out-Select tree).items).functions))
    ∙ rw (e, f) refl

-- ---- the set functions of a list of parts

module _ (reply : Result (List Typed) Refusal) (scope : Scope) where
  pub found-joined : (fs gs : List FunctionFinding) → Finds reply (each (map (function_in scope) fs ++ map (function_in scope) gs)) → Finds reply (functions_in scope (fs ++ gs))
  found-joined fs gs h = rw (map-append (function_in scope) fs gs) h

  pub found-same : (fs gs : List FunctionFinding) → fs ≡ gs → Finds reply (functions_in scope gs) → Finds reply (functions_in scope fs)
  found-same fs gs e h = rw e h

  pub found-first : (fs : List FunctionFinding) → Finds reply (functions_in scope fs) → Finds reply (functions_in scope (fs ++ []))
  found-first fs h = found-same (fs ++ []) fs (append-nil fs) h

pub found-none : (list : List Typed) (scope : Scope) (fs : List FunctionFinding) → list ≡ [] → fs ≡ [] → Finds (Ok list) (functions_in scope fs)
found-none list scope fs e f = rw (e, f) (record { ok = refl; err = tt })

module _ {X A : Type 0} (f : X → Part A) where
  pub functions-next : (xs : List X) (i : ℕ) (x : X) → i < length xs → x ≡ get_or xs i x → functions_of (map f (take (i + 1) xs)) ≡ functions_of (map f (take i xs)) ++ (f x).functions
  functions-next xs i x below is = rw add-one (go xs i below is)
    where
      go : (xs : List X) (i : ℕ) → i < length xs → x ≡ get_or xs i x → functions_of (map f (take (suc i) xs)) ≡ functions_of (map f (take i xs)) ++ (f x).functions
      go [] i below is = absurd (omega arith)
      go (y ∷ ys) zero below is = append-nil (f y).functions ∙ ap (λ z. (f z).functions) (sym is)
      go (y ∷ ys) (suc i) below is =
          ap (λ rest. (f y).functions ++ rest) (go ys i (omega arith) is)
          ∙ sym (append_assoc (f y).functions (functions_of (map f (take i ys))) (f x).functions)

  -- those of one more part, after those of a first one
  pub functions-more : (first : List FunctionFinding) (xs : List X) (i : ℕ) (x : X) → i < length xs → x ≡ get_or xs i x →
      first ++ functions_of (map f (take (i + 1) xs)) ≡ (first ++ functions_of (map f (take i xs))) ++ (f x).functions
  functions-more first xs i x below is =
      ap (λ rest. first ++ rest) (functions-next xs i x below is) ∙ sym (append_assoc first (functions_of (map f (take i xs))) (f x).functions)

  pub functions-all : (xs : List X) (i : ℕ) → length xs ≤ i → functions_of (map f (take i xs)) ≡ functions_of (map f xs)
  functions-all xs i past-end = ap (λ ys. functions_of (map f ys)) (take_all i xs past-end)

-- ---- nodes

seconds : {O X A : Type 0} (f : X → Part A) (others : List (O × X)) → map {B = Part A} (λ o. o.1) (map {B = O × Part A} (λ o. (o.0, f o.1)) others) ≡ map (λ o. f o.1) others
seconds f [] = refl
seconds f (o ∷ others) = ap (λ rest. f o.1 ∷ rest) (seconds f others)

chain-functions : {O X A : Type 0} (made : Finding A → List (O × Finding A) → Finding A) (first : Part A) (f : X → Part A) (others : List (O × X)) →
    (if_chain made first (map (λ o. (o.0, f o.1)) others)).functions ≡ first.functions ++ functions_of (map (λ o. f o.1) others)
chain-functions made first f [] = sym (append-nil first.functions)
chain-functions made first f (o ∷ others) = ap (λ parts. first.functions ++ functions_of parts) (seconds f (o ∷ others))

signed-functions : (x : ExpressionPart) (sign : Option Sign) → (with_sign x sign).functions ≡ x.functions
signed-functions x None = refl
signed-functions x (Some sign) = refl

module _ (k : Known) where
  pub expression-functions : (tree : Expression) → (expression_part k tree).functions ≡ (term_part k (out-Expression tree).first).functions ++ functions_of (map (term_after k) (out-Expression tree).others)
  expression-functions tree = ap (λ part. part.functions) (node.expression_is k tree) ∙ chain-functions sum_chain (term_part k (out-Expression tree).first) (term_part k) (out-Expression tree).others

  pub term-functions : (tree : Term) → (term_part k tree).functions ≡ (factor_part k (out-Term tree).first).functions ++ functions_of (map (factor_after k) (out-Term tree).others)
  term-functions tree = ap (λ part. part.functions) (node.term_is k tree) ∙ chain-functions product_chain (factor_part k (out-Term tree).first) (factor_part k) (out-Term tree).others

  factor-functions : (tree : Factor) (x : Primary) → (out-Factor tree).primary ≡ x → (factor_part k tree).functions ≡ (primary_part k x (out-Factor tree).sign).functions
  factor-functions tree x e = ap (λ part. part.functions) (node.factor_is k tree) ∙ rw e refl

  pub rows-functions : (tree : Factor) → (out-Factor tree).primary ≡ primary.CountRows → (factor_part k tree).functions ≡ (λ scope. function_of (count_rows scope)) ∷ []
  rows-functions tree e = factor-functions tree _ e ∙ ap (λ part. part.functions) (node.primary_count_rows k (out-Factor tree).sign) ∙ signed-functions _ (out-Factor tree).sign

  pub aggregate-functions : (tree : Factor) (f : SetFunction) (q : Option Quantifier) (x : Expression) → (out-Factor tree).primary ≡ primary.Aggregate f q x →
      (factor_part k tree).functions ≡ (λ scope. function_of (aggregate_found f q (expression_part k x) scope)) ∷ []
  aggregate-functions tree f q x e = factor-functions tree _ e ∙ ap (λ part. part.functions) (node.primary_aggregate k (out-Factor tree).sign f q x) ∙ signed-functions _ (out-Factor tree).sign

  pub inner-functions : (tree : Factor) (x : Expression) → (out-Factor tree).primary ≡ primary.Parenthesized x → (factor_part k tree).functions ≡ (expression_part k x).functions
  inner-functions tree x e = factor-functions tree _ e ∙ ap (λ part. part.functions) (node.primary_parenthesized k (out-Factor tree).sign x) ∙ signed-functions _ (out-Factor tree).sign

  pub number-functions : (tree : Factor) (n : ℕ) → (out-Factor tree).primary ≡ primary.Number n → (factor_part k tree).functions ≡ []
  number-functions tree n e = factor-functions tree _ e ∙ ap (λ part. part.functions) (node.primary_number k (out-Factor tree).sign n)

  pub text-functions : (tree : Factor) (codes : List ℕ) → (out-Factor tree).primary ≡ primary.Text codes → (factor_part k tree).functions ≡ []
  text-functions tree codes e = factor-functions tree _ e ∙ ap (λ part. part.functions) (node.primary_text k (out-Factor tree).sign codes) ∙ signed-functions _ (out-Factor tree).sign

  pub column-functions : (tree : Factor) (c : Column) → (out-Factor tree).primary ≡ primary.Column c → (factor_part k tree).functions ≡ []
  column-functions tree c e = factor-functions tree _ e ∙ ap (λ part. part.functions) (node.primary_column k (out-Factor tree).sign c) ∙ signed-functions _ (out-Factor tree).sign

  pub query-functions : (tree : Factor) (q : Query) → (out-Factor tree).primary ≡ primary.Subquery q → (factor_part k tree).functions ≡ []
  query-functions tree q e = factor-functions tree _ e ∙ ap (λ part. part.functions) (node.primary_subquery k (out-Factor tree).sign q) ∙ signed-functions _ (out-Factor tree).sign

  -- ---- conditions

  pub condition-functions : (tree : Condition) → (condition_part k tree).functions ≡ (conjunction_part k (out-Condition tree).first).functions ++ functions_of (map (conjunction_part k) (out-Condition tree).others)
  condition-functions tree = ap (λ part. part.functions) (node.condition_is k tree)

  pub conjunction-functions : (tree : Conjunction) → (conjunction_part k tree).functions ≡ (negation_part k (out-Conjunction tree).first).functions ++ functions_of (map (negation_part k) (out-Conjunction tree).others)
  conjunction-functions tree = ap (λ part. part.functions) (node.conjunction_is k tree)

  pub negation-functions : (tree : Negation) → (negation_part k tree).functions ≡ (predicate_part k (out-Test (out-Negation tree).test).predicate).functions
  negation-functions tree = ap (λ part. part.functions) (node.negation_is k tree) ∙ ap (λ part. part.functions) (node.test_is k (out-Negation tree).test)

  pub nested-functions : (c : Condition) → (predicate_part k (p.Nested c)).functions ≡ (condition_part k c).functions
  nested-functions c = ap (λ part. part.functions) (node.predicate_nested k c)

  abbrev pub of : Expression → List FunctionFinding
  of x = (expression_part k x).functions

  pub compare-functions : (x : Expression) (operator : Comparison) (y : Expression) → (predicate_part k (p.Compare x operator y)).functions ≡ of x ++ of y
  compare-functions x operator y = ap (λ part. part.functions) (node.predicate_compare k x operator y)

  pub between-functions : (x : Expression) (n : Bool) (low high : Expression) → (predicate_part k (p.Between x n low high)).functions ≡ (of x ++ of low) ++ of high
  between-functions x n low high = ap (λ part. part.functions) (node.predicate_between k x n low high)

  pub like-functions : (x : Expression) (n : Bool) (y : Expression) → (predicate_part k (p.Like x n y)).functions ≡ of x ++ of y
  like-functions x n y = ap (λ part. part.functions) (node.predicate_like k x n y)

  pub in_list-functions : (x : Expression) (n : Bool) (literals : List Literal) → (predicate_part k (p.InList x n literals)).functions ≡ of x
  in_list-functions x n literals = ap (λ part. part.functions) (node.predicate_in_list k x n literals)

  pub in_query-functions : (x : Expression) (n : Bool) (q : Query) → (predicate_part k (p.InQuery x n q)).functions ≡ of x
  in_query-functions x n q = ap (λ part. part.functions) (node.predicate_in_query k x n q) ∙ append-nil (of x)

  pub is_null-functions : (x : Expression) (n : Bool) → (predicate_part k (p.IsNull x n)).functions ≡ of x
  is_null-functions x n = ap (λ part. part.functions) (node.predicate_is_null k x n)

  pub exists-functions : (q : Query) → (predicate_part k (p.Exists q)).functions ≡ []
  exists-functions q = ap (λ part. part.functions) (node.predicate_exists k q)

  pub item-functions : (item : SelectItem) → (item_part k item).functions ≡ of (out-SelectItem item).value
  item-functions item = ap (λ part. part.functions) (node.item_is k item)
