-- What is found at the nodes of a condition, wherever it is seen, and loops over the operands of
-- AND and OR.
use Rattle.std.proofs.Common.{◌≡◌, ℕ, suc, ◌+◌, ◌<◌, ◌≤◌, Bool, List, [], ◌∷◌, ◌++◌, map, length, get_or, drop, drop-cons, add-one, append_assoc, Ok, Err, refl, sym, ◌∙◌, ap}
use Rattle.std.specs.Prelude.{flat_map}
use Rattle.std.proofs.lemmas.List.{append-nil, drop_all}
use Rattle.refusals.specs.declared.refusal.Refusal.{Refusal}
use Rattle.ast.specs.declared.operator.Comparison.{Comparison}
use Rattle.ast.specs.declared.operator.Literal.{Literal}
use Rattle.ast.specs.declared.tree.Condition.{Condition as Tree, out-Condition}
use Rattle.ast.specs.declared.tree.Conjunction.{Conjunction, out-Conjunction}
use Rattle.ast.specs.declared.tree.Expression.{Expression}
use Rattle.ast.specs.declared.tree.Negation.{Negation, out-Negation}
use Rattle.ast.specs.declared.tree.Predicate.TheVariants as p
use Rattle.ast.specs.declared.tree.Query.{Query}
use Rattle.ast.specs.declared.tree.Test.{out-Test}
use Rattle.typing.specs.declared.typed.Condition.{Condition}
use Rattle.typing.specs.Finding.{Finding, ◌>>=◌, before, each}
use Rattle.typing.specs.Finds.{Finds}
use Rattle.typing.specs.Known.{Known}
use Rattle.typing.specs.Part.{Argument, Checked, Clause, Part, Plain, Shown, View, in_turn, moved, past}
use Rattle.typing.specs.Condition.{between, compared, conjunction, disjunction, in_list, like, null_test}
use Rattle.typing.specs.SetFunction.{query_seen}
use Rattle.typing.specs.SetOperator.{exists, in_query, of_one_column}
use Rattle.typing.specs.Typing.{condition_part, conjunction_part, expression_part, negation_part, predicate_part, query_found}
use Rattle.typing.proofs.Nodes as node
use Rattle.type_rules.proofs.Covers.{then-only}
use Rattle.type_rules.proofs.FindsLemmas.{Finds-then_err, Finds-before_first}
use Rattle.query_types.specs.Parts.{as_found, in_order, negation_of, not_of}

pub turned : {X A : Type 0} (f : X → Part A) (xs : List X) (v : View) → in_turn (map f xs) v ≡ in_order f as_found xs v
turned f [] v = refl
turned f (x ∷ xs) v = ap (λ rest. (f x).found v ∷ rest) (turned f xs (past (f x) v))

-- where a query may stand has nothing to do with how many set functions stand before it
unmoved : {A : Type 0} (n : ℕ) (clause : Clause) (query : Finding A) → query_seen (moved n clause) query ≡ query_seen clause query
unmoved n (Shown first) query = refl
unmoved n Plain query = refl
unmoved n Argument query = refl
unmoved n Checked query = refl

-- ---- the nodes

module _ (k : Known) (v : View) where
  pub condition_at : (tree : Tree) →
      (condition_part k tree).found v ≡ disjunction ((conjunction_part k (out-Condition tree).first).found v ∷ in_order (conjunction_part k) as_found (out-Condition tree).others (past (conjunction_part k (out-Condition tree).first) v))
  condition_at tree =
      ap (λ part. part.found v) (node.condition_is k tree)
      ∙ ap (λ rest. disjunction ((conjunction_part k (out-Condition tree).first).found v ∷ rest)) (turned (conjunction_part k) (out-Condition tree).others (past (conjunction_part k (out-Condition tree).first) v))

  pub conjunction_at : (tree : Conjunction) →
      (conjunction_part k tree).found v ≡ conjunction ((negation_part k (out-Conjunction tree).first).found v ∷ in_order (negation_part k) as_found (out-Conjunction tree).others (past (negation_part k (out-Conjunction tree).first) v))
  conjunction_at tree =
      ap (λ part. part.found v) (node.conjunction_is k tree)
      ∙ ap (λ rest. conjunction ((negation_part k (out-Conjunction tree).first).found v ∷ rest)) (turned (negation_part k) (out-Conjunction tree).others (past (negation_part k (out-Conjunction tree).first) v))

  pub negation_at : (tree : Negation) →
      (negation_part k tree).found v ≡ negation_of (out-Negation tree).is_negated (out-Test (out-Negation tree).test).truth ((predicate_part k (out-Test (out-Negation tree).test).predicate).found v)
  negation_at tree =
      ap (λ part. part.found v) (node.negation_is k tree)
      ∙ ap (λ part. not_of (out-Negation tree).is_negated (part.found v)) (node.test_is k (out-Negation tree).test)

  pub predicate_nested : (c : Tree) → (predicate_part k (p.Nested c)).found v ≡ (condition_part k c).found v
  predicate_nested c = ap (λ part. part.found v) (node.predicate_nested k c)

  pub predicate_compare : (x : Expression) (operator : Comparison) (y : Expression) →
      (predicate_part k (p.Compare x operator y)).found v ≡ compared operator ((expression_part k x).found v) ((expression_part k y).found (past (expression_part k x) v))
  predicate_compare x operator y = ap (λ part. part.found v) (node.predicate_compare k x operator y)

  pub predicate_between : (x : Expression) (n : Bool) (low high : Expression) →
      (predicate_part k (p.Between x n low high)).found v
      ≡ between n ((expression_part k x).found v) ((expression_part k low).found (past (expression_part k x) v)) ((expression_part k high).found (past (expression_part k low) (past (expression_part k x) v)))
  predicate_between x n low high = ap (λ part. part.found v) (node.predicate_between k x n low high)

  pub predicate_in_list : (x : Expression) (n : Bool) (literals : List Literal) → (predicate_part k (p.InList x n literals)).found v ≡ in_list n ((expression_part k x).found v) literals
  predicate_in_list x n literals = ap (λ part. part.found v) (node.predicate_in_list k x n literals)

  pub predicate_in_query : (x : Expression) (n : Bool) (query : Query) →
      (predicate_part k (p.InQuery x n query)).found v ≡ in_query n ((expression_part k x).found v) (of_one_column (query_seen v.clause (query_found k query v.scope)))
  predicate_in_query x n query =
      ap (λ part. part.found v) (node.predicate_in_query k x n query)
      ∙ ap (λ found. in_query n ((expression_part k x).found v) (of_one_column found)) (unmoved (length (expression_part k x).functions) v.clause (query_found k query v.scope))

  pub predicate_like : (x : Expression) (n : Bool) (pattern : Expression) →
      (predicate_part k (p.Like x n pattern)).found v ≡ like n ((expression_part k x).found v) ((expression_part k pattern).found (past (expression_part k x) v))
  predicate_like x n pattern = ap (λ part. part.found v) (node.predicate_like k x n pattern)

  pub predicate_is_null : (x : Expression) (n : Bool) → (predicate_part k (p.IsNull x n)).found v ≡ null_test n ((expression_part k x).found v)
  predicate_is_null x n = ap (λ part. part.found v) (node.predicate_is_null k x n)

  pub predicate_exists : (query : Query) → (predicate_part k (p.Exists query)).found v ≡ exists (query_seen v.clause (query_found k query v.scope))
  predicate_exists query = ap (λ part. part.found v) (node.predicate_exists k query)

-- ---- AND and OR

-- the parts found so far, and then those of the rest
abbrev pub flattened : (Condition → List Condition) → List Condition → Finding (List Condition) → Finding (List Condition)
flattened parts done found = found >>= (λ cs. Ok (done ++ flat_map parts cs))

flattened-before : (parts : Condition → List Condition) (done : List Condition) (c : Condition) (rest : Finding (List Condition)) →
    flattened parts (done ++ parts c) rest ≡ flattened parts done (before (Ok c) rest)
flattened-before parts done c (Ok cs) = ap Ok (append_assoc done (parts c) (flat_map parts cs))
flattened-before parts done c (Err reasons) = refl

pub flattened-start : (parts : Condition → List Condition) (first : Condition) (rest : Finding (List Condition)) → flattened parts (parts first) rest ≡ flattened parts [] (before (Ok first) rest)
flattened-start parts first rest = flattened-before parts [] first rest

-- an operator over all parts
over_parts : (parts : Condition → List Condition) (made : List Condition → Condition) (found : Finding (List Condition)) →
    (found >>= (λ cs. Ok (made (flat_map parts cs)))) ≡ (flattened parts [] found >>= (λ all. Ok (made all)))
over_parts parts made (Ok cs) = refl
over_parts parts made (Err reasons) = refl

module _ {X : Type 0} (parts : Condition → List Condition) (f : X → Part Condition) (items : List X) (i : ℕ) where
  split : (item : X) → i < length items → item ≡ get_or items i item → drop i items ≡ item ∷ drop (suc i) items
  split item below is = drop-cons items i item below ∙ ap (λ x. x ∷ drop (suc i) items) (sym is)

  pub flattened-next : (item : X) (done : List Condition) (c : Condition) (v : View) → i < length items → item ≡ get_or items i item → (f item).found v ≡ Ok c →
      flattened parts (done ++ parts c) (each (in_order f as_found (drop (i + 1) items) (past (f item) v))) ≡ flattened parts done (each (in_order f as_found (drop i items) v))
  flattened-next item done c v below is e =
      rw (split item below is, add-one, e) (flattened-before parts done c (each (in_order f as_found (drop (suc i) items) (past (f item) v))))

  -- an operand is refused
  pub flattened-refused : (made : List Condition → Condition) (item : X) (r : Refusal) (done : List Condition) (v : View) (all : Finding (List Condition)) → i < length items → item ≡ get_or items i item →
      flattened parts done (each (in_order f as_found (drop i items) v)) ≡ flattened parts [] all → Finds {A = Condition} (Err r) ((f item).found v) →
      Finds {A = Condition} (Err r) (all >>= (λ cs. Ok (made (flat_map parts cs))))
  flattened-refused made item r done v all below is e h =
      let rest : Finds {A = List Condition} (Err r) (each (in_order f as_found (drop i items) v)) =
      rw (split item below is) (Finds-before_first r ((f item).found v) (each (in_order f as_found (drop (suc i) items) (past (f item) v))) h) in
      let whole : Finds {A = List Condition} (Err r) (flattened parts [] all) = rw (sym e) (Finds-then_err r (each (in_order f as_found (drop i items) v)) (λ cs. Ok (done ++ flat_map parts cs)) rest) in
      Finds-then_err r all (λ cs. Ok (made (flat_map parts cs))) (then-only r all (λ cs. [] ++ flat_map parts cs) whole)

  pub flattened-done : (made : List Condition → Condition) (done : List Condition) (v : View) (all : Finding (List Condition)) → length items ≤ i →
      flattened parts done (each (in_order f as_found (drop i items) v)) ≡ flattened parts [] all → (all >>= (λ cs. Ok (made (flat_map parts cs)))) ≡ Ok (made done)
  flattened-done made done v all past-end e =
      let none : drop i items ≡ [] = drop_all i items past-end in
      let whole : flattened parts [] all ≡ Ok done = sym (rw none at e) ∙ ap Ok (append-nil done) in
      rw (over_parts parts made all, whole) refl

-- the first operand is refused
pub first_refused : (parts : Condition → List Condition) (made : List Condition → Condition) (r : Refusal) (first : Finding Condition) (rest : List (Finding Condition)) → Finds {A = Condition} (Err r) first →
    Finds {A = Condition} (Err r) (each (first ∷ rest) >>= (λ found. Ok (made (flat_map parts found))))
first_refused parts made r first rest h = Finds-then_err r (each (first ∷ rest)) (λ found. Ok (made (flat_map parts found))) (Finds-before_first r first (each rest) h)
