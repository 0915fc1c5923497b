-- How many set functions the parts of a node have.
use Rattle.std.proofs.Common.{◌≡◌, refl, sym, ap, ◌∙◌, ℕ, zero, suc, ◌+◌, ◌-◌, ◌^◌, ◌<◌, ◌≤◌, min, Bool, List, [], ◌∷◌, ◌++◌, map, length, take, get_or, Option, Some, None, arith, add-one, add-zero, zero-add, length-append, add_assoc}
use Rattle.std.specs.Prelude.{Result, Ok, Err, IfOk}
use Rattle.std.specs.Option.{option_map}
use Rattle.refusals.specs.declared.refusal.Refusal.{Refusal}
use Rattle.std.proofs.lemmas.List.{take_all}
use Rattle.ast.specs.declared.operator.Column.{Column}
use Rattle.ast.specs.declared.operator.Comparison.{Comparison}
use Rattle.ast.specs.declared.operator.Literal.{Literal}
use Rattle.ast.specs.declared.operator.Quantifier.{Quantifier}
use Rattle.ast.specs.declared.operator.SetFunction.{SetFunction}
use Rattle.ast.specs.declared.operator.Sign.{Sign}
use Rattle.ast.specs.declared.tree.Condition.{Condition, out-Condition}
use Rattle.ast.specs.declared.tree.Conjunction.{Conjunction, out-Conjunction}
use Rattle.ast.specs.declared.tree.Expression.{Expression, out-Expression}
use Rattle.ast.specs.declared.tree.Factor.{Factor, out-Factor}
use Rattle.ast.specs.declared.tree.Negation.{Negation, out-Negation}
use Rattle.ast.specs.declared.tree.Predicate.{Predicate}
use Rattle.ast.specs.declared.tree.Predicate.TheVariants as p
use Rattle.ast.specs.declared.tree.Primary.{Primary}
use Rattle.ast.specs.declared.tree.Primary.TheVariants as primary
use Rattle.ast.specs.declared.tree.Query.{Query}
use Rattle.ast.specs.declared.tree.SelectItem.{SelectItem, out-SelectItem}
use Rattle.ast.specs.declared.tree.Term.{Term, out-Term}
use Rattle.ast.specs.declared.tree.Test.{out-Test}
use Rattle.typing.specs.Finding.{Finding}
use Rattle.typing.specs.Expression.{sum_chain, product_chain}
use Rattle.typing.specs.Known.{Known}
use Rattle.typing.specs.Part.{Part, View as Seen, functions_of, if_chain, moved, past, Shown, Plain, Argument, Checked}
use Rattle.typing.specs.Select.{select_list}
use Rattle.typing.specs.Typing.{condition_part, conjunction_part, expression_part, factor_part, item_part, negation_part, predicate_part, primary_part, term_part, with_sign, ExpressionPart}
use Rattle.typing.proofs.Nodes as node
use Rattle.scopes.specs.declared.view.View.{View}
use Rattle.scopes.specs.declared.view.Clause.{Clause}
use Rattle.scopes.specs.declared.view.Clause.TheVariants as clause
use Rattle.scopes.specs.Seen.{capped, count_of, moved_on, moved_in, seen, clause_in, scope_in, frames}

-- of all these parts
abbrev pub counted : {X A : Type 0} → (X → Part A) → List X → ℕ
counted f xs = length (functions_of (map f xs))

pub counted-next : {X A : Type 0} (f : X → Part A) (xs : List X) (i : ℕ) (x : X) → i < length xs → x ≡ get_or xs i x → counted f (take (i + 1) xs) ≡ counted f (take i xs) + count_of (f x)
counted-next {X = X} f xs i x below is = rw add-one (go xs i below is)
  where
    go : (xs : List X) (i : ℕ) → i < length xs → x ≡ get_or xs i x → counted f (take (suc i) xs) ≡ counted f (take i xs) + count_of (f x)
    go [] i below is = absurd (omega arith)
    go (y ∷ ys) zero below is =
        length-append (f y).functions [] ∙ add-zero (count_of (f y)) ∙ ap (λ z. count_of (f z)) (sym is) ∙ sym (zero-add (count_of (f x)))
    go (y ∷ ys) (suc i) below is =
        length-append (f y).functions (functions_of (map f (take (suc i) ys)))
        ∙ ap (λ n. count_of (f y) + n) (go ys i (omega arith) is)
        ∙ sym (add_assoc (count_of (f y)) (counted f (take i ys)) (count_of (f x)))
        ∙ ap (λ n. n + count_of (f x)) (sym (length-append (f y).functions (functions_of (map f (take i ys)))))

pub counted-all : {X A : Type 0} (f : X → Part A) (xs : List X) (i : ℕ) → length xs ≤ i → counted f (take i xs) ≡ counted f xs
counted-all f xs i past = ap (counted f) (take_all i xs past)

-- ---- nodes

seconds : {O X A : Type 0} (f : X → Part A) (others : List (O × X)) → map {B = Part A} (λ o. o.1) (map {B = O × Part A} (λ o. (o.0, f o.1)) others) ≡ map (λ o. f o.1) others
seconds f [] = refl
seconds f (o ∷ others) = ap (λ rest. f o.1 ∷ rest) (seconds f others)

pub chain-count : {O X A : Type 0} (made : Finding A → List (O × Finding A) → Finding A) (first : Part A) (f : X → Part A) (others : List (O × X)) →
    count_of (if_chain made first (map (λ o. (o.0, f o.1)) others)) ≡ count_of first + counted (λ o. f o.1) others
chain-count made first f [] = sym (add-zero (count_of first))
chain-count {O = O} {A = A} made first f (o ∷ others) =
    length-append first.functions (functions_of (map {B = Part A} (λ r. r.1) (map {B = O × Part A} (λ q. (q.0, f q.1)) (o ∷ others))))
    ∙ ap (λ parts. count_of first + length (functions_of parts)) (seconds f (o ∷ others))

signed-count : (x : ExpressionPart) (sign : Option Sign) → count_of (with_sign x sign) ≡ count_of x
signed-count x None = refl
signed-count x (Some sign) = refl

module _ (k : Known) where
  pub expression-count : (tree : Expression) → count_of (expression_part k tree) ≡ count_of (term_part k (out-Expression tree).first) + counted (λ o. term_part k o.1) (out-Expression tree).others
  expression-count tree = ap count_of (node.expression_is k tree) ∙ chain-count sum_chain (term_part k (out-Expression tree).first) (term_part k) (out-Expression tree).others

  pub term-count : (tree : Term) → count_of (term_part k tree) ≡ count_of (factor_part k (out-Term tree).first) + counted (λ o. factor_part k o.1) (out-Term tree).others
  term-count tree = ap count_of (node.term_is k tree) ∙ chain-count product_chain (factor_part k (out-Term tree).first) (factor_part k) (out-Term tree).others

  abbrev in_primary : Primary → Option Sign → ℕ
  in_primary x sign = count_of (primary_part k x sign)

  pub rows-count : (tree : Factor) → (out-Factor tree).primary ≡ primary.CountRows → count_of (factor_part k tree) ≡ 1
  rows-count tree e = ap count_of (node.factor_is k tree) ∙ rw e (ap count_of (node.primary_count_rows k (out-Factor tree).sign) ∙ signed-count _ (out-Factor tree).sign)

  pub aggregate-count : (tree : Factor) (f : SetFunction) (q : Option Quantifier) (x : Expression) → (out-Factor tree).primary ≡ primary.Aggregate f q x → count_of (factor_part k tree) ≡ 1
  aggregate-count tree f q x e = ap count_of (node.factor_is k tree) ∙ rw e (ap count_of (node.primary_aggregate k (out-Factor tree).sign f q x) ∙ signed-count _ (out-Factor tree).sign)

  pub inner-count : (tree : Factor) (x : Expression) → (out-Factor tree).primary ≡ primary.Parenthesized x → count_of (factor_part k tree) ≡ count_of (expression_part k x)
  inner-count tree x e = ap count_of (node.factor_is k tree) ∙ rw e (ap count_of (node.primary_parenthesized k (out-Factor tree).sign x) ∙ signed-count _ (out-Factor tree).sign)

  pub number-count : (tree : Factor) (n : ℕ) → (out-Factor tree).primary ≡ primary.Number n → count_of (factor_part k tree) ≡ 0
  number-count tree n e = ap count_of (node.factor_is k tree) ∙ rw e (ap count_of (node.primary_number k (out-Factor tree).sign n))

  pub text-count : (tree : Factor) (codes : List ℕ) → (out-Factor tree).primary ≡ primary.Text codes → count_of (factor_part k tree) ≡ 0
  text-count tree codes e = ap count_of (node.factor_is k tree) ∙ rw e (ap count_of (node.primary_text k (out-Factor tree).sign codes) ∙ signed-count _ (out-Factor tree).sign)

  pub column-count : (tree : Factor) (c : Column) → (out-Factor tree).primary ≡ primary.Column c → count_of (factor_part k tree) ≡ 0
  column-count tree c e = ap count_of (node.factor_is k tree) ∙ rw e (ap count_of (node.primary_column k (out-Factor tree).sign c) ∙ signed-count _ (out-Factor tree).sign)

  pub query-count : (tree : Factor) (q : Query) → (out-Factor tree).primary ≡ primary.Subquery q → count_of (factor_part k tree) ≡ 0
  query-count tree q e = ap count_of (node.factor_is k tree) ∙ rw e (ap count_of (node.primary_subquery k (out-Factor tree).sign q) ∙ signed-count _ (out-Factor tree).sign)

  -- ---- conditions

  pub condition-count : (tree : Condition) → count_of (condition_part k tree) ≡ count_of (conjunction_part k (out-Condition tree).first) + counted (conjunction_part k) (out-Condition tree).others
  condition-count tree = ap count_of (node.condition_is k tree) ∙ length-append (conjunction_part k (out-Condition tree).first).functions (functions_of (map (conjunction_part k) (out-Condition tree).others))

  pub conjunction-count : (tree : Conjunction) → count_of (conjunction_part k tree) ≡ count_of (negation_part k (out-Conjunction tree).first) + counted (negation_part k) (out-Conjunction tree).others
  conjunction-count tree = ap count_of (node.conjunction_is k tree) ∙ length-append (negation_part k (out-Conjunction tree).first).functions (functions_of (map (negation_part k) (out-Conjunction tree).others))

  pub negation-count : (tree : Negation) → count_of (negation_part k tree) ≡ count_of (predicate_part k (out-Test (out-Negation tree).test).predicate)
  negation-count tree = ap count_of (node.negation_is k tree) ∙ ap count_of (node.test_is k (out-Negation tree).test)

  abbrev of : Expression → ℕ
  of x = count_of (expression_part k x)

  pub nested-count : (c : Condition) → count_of (predicate_part k (p.Nested c)) ≡ count_of (condition_part k c)
  nested-count c = ap count_of (node.predicate_nested k c)

  pub compare-count : (x : Expression) (operator : Comparison) (y : Expression) → count_of (predicate_part k (p.Compare x operator y)) ≡ of x + of y
  compare-count x operator y = ap count_of (node.predicate_compare k x operator y) ∙ length-append (expression_part k x).functions (expression_part k y).functions

  pub between-count : (x : Expression) (n : Bool) (low high : Expression) → count_of (predicate_part k (p.Between x n low high)) ≡ of x + of low + of high
  between-count x n low high =
      ap count_of (node.predicate_between k x n low high)
      ∙ length-append ((expression_part k x).functions ++ (expression_part k low).functions) (expression_part k high).functions
      ∙ ap (λ m. m + of high) (length-append (expression_part k x).functions (expression_part k low).functions)

  pub like-count : (x : Expression) (n : Bool) (y : Expression) → count_of (predicate_part k (p.Like x n y)) ≡ of x + of y
  like-count x n y = ap count_of (node.predicate_like k x n y) ∙ length-append (expression_part k x).functions (expression_part k y).functions

  pub in_list-count : (x : Expression) (n : Bool) (literals : List Literal) → count_of (predicate_part k (p.InList x n literals)) ≡ of x
  in_list-count x n literals = ap count_of (node.predicate_in_list k x n literals)

  pub in_query-count : (x : Expression) (n : Bool) (q : Query) → count_of (predicate_part k (p.InQuery x n q)) ≡ of x
  in_query-count x n q = ap count_of (node.predicate_in_query k x n q) ∙ length-append (expression_part k x).functions [] ∙ add-zero (of x)

  pub is_null-count : (x : Expression) (n : Bool) → count_of (predicate_part k (p.IsNull x n)) ≡ of x
  is_null-count x n = ap count_of (node.predicate_is_null k x n)

  pub exists-count : (q : Query) → count_of (predicate_part k (p.Exists q)) ≡ 0
  exists-count q = ap count_of (node.predicate_exists k q)

  pub item-count : (item : SelectItem) → count_of (item_part k item) ≡ of (out-SelectItem item).value
  item-count item = ap count_of (node.item_is k item)

  pub list-count : (items : List SelectItem) → count_of (select_list (option_map (map (item_part k)) (Some items))) ≡ counted (item_part k) items
  list-count items = refl

-- ---- sums that stop

pub capped-more : (a b c d e : ℕ) → a ≡ capped (c + d) → b ≡ capped e → capped (a + b) ≡ capped (c + (d + e))
capped-more a b c d e f g = omega (arith, f, g)

pub capped-sum : (a b d e : ℕ) → a ≡ capped d → b ≡ capped e → capped (a + b) ≡ capped (d + e)
capped-sum a b d e f g = omega (arith, f, g)

-- ---- the view after a part

clause-moved : (n : ℕ) (c : Clause) → clause_in (moved_in n c) ≡ moved n (clause_in c)
clause-moved n (clause.Shown first) = refl
clause-moved n clause.Plain = refl
clause-moved n clause.Argument = refl
clause-moved n clause.Checked = refl

scope-moved : (n : ℕ) (c : Clause) (scope : _) → scope_in (moved_in n c) scope ≡ scope_in c scope
scope-moved n (clause.Shown first) scope = refl
scope-moved n clause.Plain scope = refl
scope-moved n clause.Argument scope = refl
scope-moved n clause.Checked scope = refl

pub seen-moved : (n : ℕ) (view : View) → seen (moved_on n view) ≡ record (seen view) { clause = moved n (seen view).clause }
seen-moved n view = rw (clause-moved n view.clause, scope-moved n view.clause (frames view.scope.now)) refl

-- a part with so many set functions has been passed
pub seen-past : {A : Type 0} (part : Part A) (n : ℕ) (view next : View) → n < 2 ^ 64 - 1 → n ≡ capped (count_of part) → next ≡ moved_on n view → seen next ≡ past part (seen view)
seen-past part n view next below e is =
    let exact : n ≡ count_of part = omega (arith, e) in
    rw (is, exact) (seen-moved (count_of part) view)

pub past-ok : {A : Type 0} (r : Result View Refusal) (part : Part A) (n : ℕ) (view : View) → IfOk r (λ next. n < 2 ^ 64 - 1 × next ≡ moved_on n view) → n ≡ capped (count_of part) →
    IfOk r (λ next. seen next ≡ past part (seen view))
past-ok (Ok next) part n view h e = seen-past part n view next h.0 e h.1
past-ok (Err refusal) part n view h e = tt
