-- What the definitions say of the set functions of a node, and of its parts.
use Rattle.std.proofs.Common.{◌≡◌, refl, sym, ap, ◌∙◌, true, not, List, [], ◌∷◌, ◌++◌, map, Option, Some, None, append-nil, append_assoc}
use Rattle.std.specs.Prelude.{flat_map}
use Rattle.ast.specs.declared.operator.Sign.{Sign}
use Rattle.ast.specs.declared.tree.Predicate.{Predicate, Predicate-F, out-Predicate, map-Predicate, fold_out-Predicate}
use Rattle.ast.specs.declared.tree.Primary.{Primary, Primary-F, out-Primary, map-Primary, fold_out-Primary}
use Rattle.ast.specs.declared.tree.Condition.{out-Condition}
use Rattle.ast.specs.declared.tree.Conjunction.{out-Conjunction}
use Rattle.ast.specs.declared.tree.Expression.{out-Expression}
use Rattle.ast.specs.declared.tree.Factor.{Factor, out-Factor}
use Rattle.ast.specs.declared.tree.Negation.{out-Negation}
use Rattle.ast.specs.declared.tree.SelectItem.{out-SelectItem}
use Rattle.ast.specs.declared.tree.Term.{out-Term}
use Rattle.ast.specs.declared.tree.Test.{out-Test}
use Rattle.ast.specs.Layers.{PredicateLayer, PrimaryLayer}
use Rattle.ast.specs.Parts.{Node, parts, predicate_parts as parts_of_predicate, primary_parts as parts_of_primary}
use Rattle.ast.specs.Parts as node
use Rattle.typing.specs.declared.scope.ShownItem.{ShownItem}
use Rattle.typing.specs.Finding.{Finding}
use Rattle.typing.specs.Known.{Known}
use Rattle.typing.specs.Part.{FunctionFinding, Part, functions_of, if_chain}
use Rattle.typing.specs.Expression.{sum_chain, product_chain}
use Rattle.typing.specs.Typing.{Layer, ConditionPart, ExpressionPart, SignedPart, with_sign, join_step, operand_step, predicate_step, primary_step, source_step, addend_step, condition_step, conjunction_step, expression_step, factor_step, negation_step, query_step, select_step, item_step, reference_step, term_step, test_step, join_part, operand_found, predicate_part, primary_part, source_part, addend_found, condition_part, conjunction_part, expression_part, factor_part, negation_part, query_found, select_found, item_part, reference_part, term_part, test_part}
use Rattle.typing.proofs.Nodes.{factor_is, term_is, expression_is, test_is, negation_is, conjunction_is, condition_is, item_is}
use Rattle.typing_laws.specs.Listed.{Lists, is_set_function, is_looked_into}
use Rattle.typing_laws.specs.Listed as lists
use Rattle.typing_laws.specs.Numbered.{function_meant}

-- ---- nodes that are enums

module _ (k : Known) where
  abbrev pub predicate_meant : PredicateLayer → Layer Predicate-F
  predicate_meant d = map-Predicate _ _ _ _ _ _ _ _ _ _ _ _ _ _ _ _ _ _ _ _ _ _ _ _ _ _ _ _ _ _ _ _ _ _ (join_part k) (operand_found k) (predicate_part k) (primary_part k) (source_part k) (addend_found k) (condition_part k) (conjunction_part k) (expression_part k) (factor_part k) (negation_part k) (query_found k) (select_found k) (item_part k) (reference_part k) (term_part k) (test_part k) d

  pub predicate_is : (x : Predicate) → predicate_part k x ≡ predicate_step (predicate_meant (out-Predicate x))
  unfolding join_part operand_found predicate_part primary_part source_part addend_found condition_part conjunction_part expression_part factor_part negation_part query_found select_found item_part reference_part term_part test_part
  predicate_is x = fold_out-Predicate _ _ _ _ _ _ _ _ _ _ _ _ _ _ _ _ _ join_step operand_step predicate_step primary_step (source_step k) addend_step condition_step conjunction_step expression_step factor_step negation_step query_step select_step item_step reference_step term_step test_step x

  abbrev pub primary_meant : PrimaryLayer → Layer Primary-F
  primary_meant d = map-Primary _ _ _ _ _ _ _ _ _ _ _ _ _ _ _ _ _ _ _ _ _ _ _ _ _ _ _ _ _ _ _ _ _ _ (join_part k) (operand_found k) (predicate_part k) (primary_part k) (source_part k) (addend_found k) (condition_part k) (conjunction_part k) (expression_part k) (factor_part k) (negation_part k) (query_found k) (select_found k) (item_part k) (reference_part k) (term_part k) (test_part k) d

  pub primary_is : (x : Primary) → primary_part k x ≡ primary_step (primary_meant (out-Primary x))
  unfolding join_part operand_found predicate_part primary_part source_part addend_found condition_part conjunction_part expression_part factor_part negation_part query_found select_found item_part reference_part term_part test_part
  primary_is x = fold_out-Primary _ _ _ _ _ _ _ _ _ _ _ _ _ _ _ _ _ join_step operand_step predicate_step primary_step (source_step k) addend_step condition_step conjunction_step expression_step factor_step negation_step query_step select_step item_step reference_step term_step test_step x

  -- ---- the set functions of a node

  abbrev pub functions_at : Node → List FunctionFinding
  functions_at (node.select_item x) = (item_part k x).functions
  functions_at (node.condition x) = (condition_part k x).functions
  functions_at (node.conjunction x) = (conjunction_part k x).functions
  functions_at (node.negation x) = (negation_part k x).functions
  functions_at (node.test x) = (test_part k x).functions
  functions_at (node.predicate x) = (predicate_part k x).functions
  functions_at (node.expression x) = (expression_part k x).functions
  functions_at (node.term x) = (term_part k x).functions
  functions_at (node.factor x) = (factor_part k x).functions
  functions_at (node.primary x) = (primary_part k x None).functions
  functions_at _ = []

  abbrev pub all_at : List Node → List FunctionFinding
  all_at nodes = flat_map functions_at nodes

  pub all_append : (xs ys : List Node) → all_at (xs ++ ys) ≡ all_at xs ++ all_at ys
  all_append [] ys = refl
  all_append (x ∷ xs) ys = ap (λ r. functions_at x ++ r) (all_append xs ys) ∙ sym (append_assoc (functions_at x) (all_at xs) (all_at ys))

  module _ {T A : Type 0} (at : T → Node) (f : T → Part A) (same : (t : T) → functions_at (at t) ≡ (f t).functions) where
    pub all_mapped : (ts : List T) → functions_of (map f ts) ≡ all_at (map at ts)
    all_mapped [] = refl
    all_mapped (t ∷ ts) = ap (λ r. r ++ functions_of (map f ts)) (sym (same t)) ∙ ap (λ r. functions_at (at t) ++ r) (all_mapped ts)

    operands_mapped : {O : Type 0} (others : List (O × T)) → functions_of (map (λ o. o.1) (map {B = O × Part A} (λ o. (o.0, f o.1)) others)) ≡ all_at (map (λ o. at o.1) others)
    operands_mapped [] = refl
    operands_mapped {O = O} (o ∷ others) = ap (λ r. r ++ functions_of (map (λ o. o.1) (map {B = O × Part A} (λ o. (o.0, f o.1)) others))) (sym (same o.1)) ∙ ap (λ r. functions_at (at o.1) ++ r) (operands_mapped others)

    pub chained : {O : Type 0} (made : Finding A → List (O × Finding A) → Finding A) (first : T) (others : List (O × T))
        → (if_chain made (f first) (map {B = O × Part A} (λ o. (o.0, f o.1)) others)).functions ≡ all_at (at first ∷ map (λ o. at o.1) others)
    chained made first [] = sym (same first) ∙ sym (append-nil (functions_at (at first)))
    chained {O = O} made first (o ∷ others) =
        ap (λ r. r ++ functions_of (map (λ o. o.1) (map {B = O × Part A} (λ o. (o.0, f o.1)) (o ∷ others)))) (sym (same first))
        ∙ ap (λ r. functions_at (at first) ++ r) (operands_mapped (o ∷ others))

  one_part : (x : Node) → functions_at x ≡ all_at (x ∷ [])
  one_part x = sym (append-nil (functions_at x))

  two_parts : (x y : Node) → functions_at x ++ functions_at y ≡ all_at (x ∷ y ∷ [])
  two_parts x y = ap (λ r. functions_at x ++ r) (one_part y)

  three_parts : (x y z : Node) → functions_at x ++ functions_at y ++ functions_at z ≡ all_at (x ∷ y ∷ z ∷ [])
  three_parts x y z = append_assoc (functions_at x) (functions_at y) (functions_at z) ∙ ap (λ r. functions_at x ++ r) (two_parts y z)

  -- ---- a node that is looked into has those of its parts

  predicate_parted : (d : PredicateLayer) → (predicate_step (predicate_meant d)).functions ≡ all_at (parts_of_predicate d)
  predicate_parted (Predicate-F.Nested c) = one_part (node.condition c)
  predicate_parted (Predicate-F.Compare x operator y) = two_parts (node.expression x) (node.expression y)
  predicate_parted (Predicate-F.Between x is_negated low high) = three_parts (node.expression x) (node.expression low) (node.expression high)
  predicate_parted (Predicate-F.InList x is_negated literals) = one_part (node.expression x)
  predicate_parted (Predicate-F.InQuery x is_negated query) = refl
  predicate_parted (Predicate-F.Like x is_negated pattern) = two_parts (node.expression x) (node.expression pattern)
  predicate_parted (Predicate-F.IsNull x is_negated) = one_part (node.expression x)
  predicate_parted (Predicate-F.Exists query) = refl

  -- a sign has no set functions
  signed : (x : ExpressionPart) (s : Option Sign) → (with_sign x s).functions ≡ x.functions
  signed x None = refl
  signed x (Some s) = refl

  primary_signed : (d : PrimaryLayer) (s : Option Sign) → (primary_step (primary_meant d) s).functions ≡ (primary_step (primary_meant d) None).functions
  primary_signed (Primary-F.Number number) s = refl
  primary_signed (Primary-F.Text codes) s = signed _ s
  primary_signed (Primary-F.Column column) s = signed _ s
  primary_signed Primary-F.CountRows s = signed _ s
  primary_signed (Primary-F.Aggregate function quantifier x) s = signed _ s
  primary_signed (Primary-F.Parenthesized x) s = signed _ s
  primary_signed (Primary-F.Subquery query) s = signed _ s

  primary_parted : (d : PrimaryLayer) → not (is_set_function d) ≡ true → (primary_step (primary_meant d) None).functions ≡ all_at (parts_of_primary d)
  primary_parted (Primary-F.Number number) e = refl
  primary_parted (Primary-F.Text codes) e = refl
  primary_parted (Primary-F.Column column) e = refl
  primary_parted Primary-F.CountRows e = absurd (cc (e))
  primary_parted (Primary-F.Aggregate function quantifier x) e = absurd (cc (e))
  primary_parted (Primary-F.Parenthesized x) e = one_part (node.expression x)
  primary_parted (Primary-F.Subquery query) e = refl

  factor_parted : (x : Factor) → (factor_part k x).functions ≡ all_at (node.primary (out-Factor x).primary ∷ [])
  factor_parted x =
      ap (λ (p : ExpressionPart). p.functions) (factor_is k x)
      ∙ ap (λ (f : SignedPart). (f (out-Factor x).sign).functions) (primary_is (out-Factor x).primary)
      ∙ primary_signed (out-Primary (out-Factor x).primary) (out-Factor x).sign
      ∙ sym (ap (λ (f : SignedPart). (f None).functions) (primary_is (out-Factor x).primary))
      ∙ one_part (node.primary (out-Factor x).primary)

  parted : (x : Node) → is_looked_into x ≡ true → functions_at x ≡ all_at (parts x)
  parted (node.select_item x) e = ap (λ (p : Part ShownItem). p.functions) (item_is k x) ∙ one_part (node.expression (out-SelectItem x).value)
  parted (node.condition x) e = ap (λ (p : ConditionPart). p.functions) (condition_is k x) ∙ all_mapped node.conjunction (conjunction_part k) (λ t. refl) ((out-Condition x).first ∷ (out-Condition x).others)
  parted (node.conjunction x) e = ap (λ (p : ConditionPart). p.functions) (conjunction_is k x) ∙ all_mapped node.negation (negation_part k) (λ t. refl) ((out-Conjunction x).first ∷ (out-Conjunction x).others)
  parted (node.negation x) e = ap (λ (p : ConditionPart). p.functions) (negation_is k x) ∙ one_part (node.test (out-Negation x).test)
  parted (node.test x) e = ap (λ (p : ConditionPart). p.functions) (test_is k x) ∙ one_part (node.predicate (out-Test x).predicate)
  parted (node.predicate x) e = ap (λ (p : ConditionPart). p.functions) (predicate_is x) ∙ predicate_parted (out-Predicate x)
  parted (node.expression x) e = ap (λ (p : ExpressionPart). p.functions) (expression_is k x) ∙ chained node.term (term_part k) (λ t. refl) sum_chain (out-Expression x).first (out-Expression x).others
  parted (node.term x) e = ap (λ (p : ExpressionPart). p.functions) (term_is k x) ∙ chained node.factor (factor_part k) (λ t. refl) product_chain (out-Term x).first (out-Term x).others
  parted (node.factor x) e = factor_parted x
  parted (node.primary x) e = ap (λ (f : SignedPart). (f None).functions) (primary_is x) ∙ primary_parted (out-Primary x) e
  parted (node.statement x) e = absurd (cc (e))
  parted (node.query x) e = absurd (cc (e))
  parted (node.addend x) e = absurd (cc (e))
  parted (node.operand x) e = absurd (cc (e))
  parted (node.select x) e = absurd (cc (e))
  parted (node.table_reference x) e = absurd (cc (e))
  parted (node.join x) e = absurd (cc (e))
  parted (node.table_source x) e = absurd (cc (e))

  -- ---- a set function is what is found of it

  found_one : (d : PrimaryLayer) → is_set_function d ≡ true → (primary_step (primary_meant d) None).functions ≡ function_meant k d ∷ []
  found_one (Primary-F.Number number) e = absurd (cc (e))
  found_one (Primary-F.Text codes) e = absurd (cc (e))
  found_one (Primary-F.Column column) e = absurd (cc (e))
  found_one Primary-F.CountRows e = refl
  found_one (Primary-F.Aggregate function quantifier x) e = refl
  found_one (Primary-F.Parenthesized x) e = absurd (cc (e))
  found_one (Primary-F.Subquery query) e = absurd (cc (e))

  -- those that are listed are those of the definitions, in their order
  pub listed-are : (nodes : List Node) (found : List Primary) → Lists nodes found → all_at nodes ≡ map (λ (x : Primary). function_meant k (out-Primary x)) found
  listed-are _ _ lists.none = refl
  listed-are _ _ (lists.one x nodes found e h) =
      ap (λ r. r ++ all_at nodes) (ap (λ (f : SignedPart). (f None).functions) (primary_is x) ∙ found_one (out-Primary x) e)
      ∙ ap (λ r. function_meant k (out-Primary x) ∷ r) (listed-are nodes found h)
  listed-are _ _ (lists.passed x nodes found h) = listed-are nodes found h
  listed-are _ _ (lists.parted x nodes found e h) =
      ap (λ r. r ++ all_at nodes) (parted x e) ∙ sym (all_append (parts x) nodes) ∙ listed-are (parts x ++ nodes) found h
