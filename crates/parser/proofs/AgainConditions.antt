-- Conditions: what is in the grammar is read again.
use Rattle.std.proofs.Common.{◌≡◌, ℕ, Bool, true, false, List, [], ◌∷◌, Option, Some, None, refl, ap, sym as flip, ◌∙◌, subst, inl, inr}
use Rattle.std.specs.Prelude.{◌||◌, ◌&&◌}
use Rattle.lexer.specs.declared.kinds.Kind.TheVariants as kind
use Rattle.lexer.specs.declared.kinds.Symbol.TheVariants as s
use Rattle.lexer.specs.declared.words.Word.{Word}
use Rattle.lexer.specs.declared.words.Word.TheVariants as w
use Rattle.ast.specs.declared.operator.Comparison.{Comparison}
use Rattle.ast.specs.declared.operator.Comparison.TheVariants as cmp
use Rattle.ast.specs.declared.operator.Literal.{Literal}
use Rattle.ast.specs.declared.operator.Literal.TheVariants as literal_of
use Rattle.ast.specs.declared.operator.Sign.TheVariants as sign_of
use Rattle.ast.specs.declared.operator.TruthTest.{TruthTest}
use Rattle.ast.specs.declared.operator.TruthValue.{TruthValue}
use Rattle.ast.specs.declared.operator.TruthValue.TheVariants as truth
use Rattle.ast.specs.declared.tree.Condition.{Condition, roll-Condition, out-Condition, roll-out-Condition}
use Rattle.ast.specs.declared.tree.Conjunction.{Conjunction, roll-Conjunction, out-Conjunction, roll-out-Conjunction}
use Rattle.ast.specs.declared.tree.Expression.{Expression}
use Rattle.ast.specs.declared.tree.Negation.{Negation, roll-Negation, out-Negation}
use Rattle.ast.specs.declared.tree.Predicate.{Predicate, Predicate-F, roll-Predicate, out-Predicate, roll-out-Predicate}
use Rattle.ast.specs.declared.tree.Predicate.TheVariants as predicate_of
use Rattle.ast.specs.declared.tree.Predicate.TheVariants.{rolls-Nested, rolls-Compare, rolls-Between, rolls-InList, rolls-InQuery, rolls-Like, rolls-IsNull, rolls-Exists}
use Rattle.ast.specs.declared.tree.Query.{Query}
use Rattle.ast.specs.declared.tree.Test.{Test, out-Test}
use Rattle.ast.specs.Layers.{PredicateLayer}
use Rattle.ast.specs.Notation.{Tokens, ◌⨾◌, ◌⊳◌, ◌⊲◌, Parenthesized, Maybe, Written, Listed}
use Rattle.ast.specs.Terminals.{IsComparison, IsLiteral, IsTruthTest, IsTruthValue}
use Rattle.ast.specs.Words.{AND, BETWEEN, IN, IS, LEFT_PARENTHESIS, LIKE, NOT, NULL}
use Rattle.ast.specs.Expressions.{Nested, IsExpression, IsPredicate, IsPredicateLayer, IsTest, IsNegation, IsConjunction, IsCondition}
use Rattle.parse_terminals.specs.Readers.{next_is, is_symbol, is_word, rest_of, skip, word, symbol, eat_word, both, after, before, written, listed}
use Rattle.parse_terminals.specs.ReadTerminals.{comparison, literal, is_set_word, is_operator, is_predicate_word, begins_query, goes_on, opens_subquery, opens_condition}
use Rattle.parse_expressions.specs.ReadExpressions.{Inner, expression, compare, is_null, between, is_in, like, range_list_or_pattern, after_operand, exists, nested, predicate, test_, negation, conjunction, condition}
use Rattle.parser.specs.Shallow.{is_shallow}
use Rattle.parser.proofs.Steps.{not_word, no_word, word_again}
use Rattle.parser.proofs.Passes.{Passes, onward, one, shallow_after, skip_past}
use Rattle.parser.proofs.Again.{Stops, never, nothing_stops, Again, both_again, after_word_again, before_word_again, parenthesized_again, made_again, may_be_again, opened_by_word, chain_again, listed_again, inside}
use Rattle.parser.proofs.Follow.{or, stops_left, stops_right, expression_goes_on, predicate_goes_on, test_goes_on, conjunction_goes_on, condition_goes_on, no_expression}
use Rattle.parser.proofs.AgainTerminals.{comparison_again, truth_test_again, literal_again}
use Rattle.parser.proofs.AgainExpressions.{Known, Behind, expression_again, expression_begins}

-- ---- what follows the first operand of a predicate, and what begins a list

comparison_begins : (ts : Tokens) (o : Comparison) (rest : Tokens) → IsComparison ts o rest → (next_is is_operator ts ≡ true) × Stops expression_goes_on ts
comparison_begins ts cmp.Equal rest h = rw h (refl, refl)
comparison_begins ts cmp.NotEqual rest h = rw h (refl, refl)
comparison_begins ts cmp.Less rest h = rw h (refl, refl)
comparison_begins ts cmp.Greater rest h = rw h (refl, refl)
comparison_begins ts cmp.LessOrEqual rest h = rw h (refl, refl)
comparison_begins ts cmp.GreaterOrEqual rest h = rw h (refl, refl)

-- what begins no query in parentheses
abbrev Lists : Tokens → Type 0
Lists ts = (next_is (is_word w.Select) ts || next_is (is_symbol s.LeftParenthesis) ts) ≡ false

literal_begins : (ts : Tokens) (x : Literal) (rest : Tokens) → IsLiteral ts x rest → Lists ts
literal_begins ts (literal_of.Number None n) rest h = rw (h.1, h.2) refl
literal_begins ts (literal_of.Number (Some sign_of.Plus) n) rest h = rw h.1 refl
literal_begins ts (literal_of.Number (Some sign_of.Minus) n) rest h = rw h.1 refl
literal_begins ts (literal_of.Text x) rest h = rw h refl

literals_begin : (ts : Tokens) (xs : List Literal) (rest : Tokens) → Listed IsLiteral ts xs rest → Lists ts
literals_begin ts [] rest h = absurd h
literals_begin ts (x ∷ xs) rest h = literal_begins ts x h.0 h.1

either_opens : (a b c : Bool) → (a || (b && c)) ≡ true → (a || b) ≡ true
either_opens true b c h = refl
either_opens false true c h = refl
either_opens false false c h = h

opens_a_query : (ts : Tokens) → begins_query ts ≡ true → opens_subquery (LEFT_PARENTHESIS ∷ ts) ≡ true
unfolding opens_subquery
opens_a_query ts h =
    either_opens (next_is (is_word w.Select) ts) (next_is (is_symbol s.LeftParenthesis) ts) (next_is is_set_word (skip (rest_of ts) 0)) h

opens_a_list : (ts : Tokens) → Lists ts → opens_subquery (LEFT_PARENTHESIS ∷ ts) ≡ false
unfolding opens_subquery
opens_a_list ts h = h

operator_goes_on : (ts : Tokens) → next_is is_operator ts ≡ true → goes_on ts ≡ true
unfolding goes_on
operator_goes_on ts h = rw h refl

is_no_condition : (ts rest : Tokens) → Behind ts rest → goes_on rest ≡ true → opens_condition ts ≡ false
unfolding opens_condition
is_no_condition ts rest b on =
    elim (next_is (is_symbol s.LeftParenthesis) ts) as (λ o. next_is (is_symbol s.LeftParenthesis) ts ≡ o → opens_condition ts ≡ false) [
      | false ↦ λ e. rw e refl
      | true ↦ λ e. elim (b e) [
        | inl k ↦ rw (e, k, on) refl
        | inr k ↦ rw (e, operator_goes_on _ k) refl
      ]
    ] refl

-- ---- NOT, where it may stand before BETWEEN, IN and LIKE

negated_goes_on : (v : Word) (ts : Tokens) (not : Bool) (after : Tokens) → is_predicate_word (kind.Word v) ≡ true → Written NOT ts not (kind.Word v ∷ after)
    → (goes_on ts ≡ true) × Stops expression_goes_on ts
unfolding goes_on
negated_goes_on v ts true after p h = rw h (refl, refl)
negated_goes_on v ts false after p h = rw (h, p) (refl, refl)

no_such_word : (v u : Word) (ts : Tokens) → is_word u (kind.Word v) ≡ false → word u (kind.Word v ∷ ts) ≡ None
unfolding word
no_such_word v u ts h = rw h refl

comparison_is_none : (v : Word) (ts : Tokens) → comparison (kind.Word v ∷ ts) ≡ None
unfolding comparison symbol
comparison_is_none v ts = refl

eaten_not : (v : Word) (ts : Tokens) → is_word w.Not (kind.Word v) ≡ false → eat_word w.Not (kind.Word v ∷ ts) ≡ (false, kind.Word v ∷ ts)
unfolding eat_word
eaten_not v ts h = rw h refl

eaten_after_not : (ts : Tokens) → eat_word w.Not (NOT ∷ ts) ≡ (true, ts)
unfolding eat_word
eaten_after_not ts = refl

-- ---- what is no test for a truth value and begins no test for NULL

tested : (ts : Tokens) (not : Bool) (value : TruthValue) (mid rest : Tokens) → Written NOT ts not mid → IsTruthValue mid value rest
    → (goes_on (IS ∷ ts) ≡ false) × Stops predicate_goes_on (IS ∷ ts)
unfolding goes_on eat_word
tested ts true truth.True mid rest h k = rw (h, k) (refl, refl)
tested ts true truth.False mid rest h k = rw (h, k) (refl, refl)
tested ts true truth.Unknown mid rest h k = rw (h, k) (refl, refl)
tested ts false truth.True mid rest h k = rw (h, k) (refl, refl)
tested ts false truth.False mid rest h k = rw (h, k) (refl, refl)
tested ts false truth.Unknown mid rest h k = rw (h, k) (refl, refl)

ends_there : (ts : Tokens) → Stops test_goes_on ts → (goes_on ts ≡ false) × Stops predicate_goes_on ts
unfolding goes_on
ends_there ts h =
    let no_is = stops_left (is_word w.Is) predicate_goes_on ts h in
    let none = stops_right (is_word w.Is) predicate_goes_on ts h in
    let no_operator = stops_left is_operator (or is_predicate_word expression_goes_on) ts none in
    let no_predicate = stops_left is_predicate_word expression_goes_on ts (stops_right is_operator (or is_predicate_word expression_goes_on) ts none) in
    (rw (no_operator, no_predicate, no_is) refl, none)

test_ends : (ts : Tokens) (x : Option TruthTest) (rest : Tokens) → Maybe IsTruthTest ts x rest → Stops test_goes_on rest
    → (goes_on ts ≡ false) × Stops predicate_goes_on ts
test_ends ts None rest h stops = rw h (ends_there rest stops)
test_ends ts (Some x) rest h stops = rw h.1.1 (tested h.1.0 x.is_negated x.value h.0 rest h.1.2 h.2)

null_test_goes_on : (ts : Tokens) (not : Bool) (after rest : Tokens) → ts ≡ IS ∷ after → Written NOT after not (NULL ∷ rest)
    → (goes_on ts ≡ true) × Stops expression_goes_on ts
unfolding goes_on eat_word
null_test_goes_on ts true after rest e h = rw (e, h) (refl, refl)
null_test_goes_on ts false after rest e h = rw (e, h) (refl, refl)

module _ (limit : Option ℕ) {d : ℕ} {I : Inner} {N : Nested} (known : Known d I N) where
  expression_passes : (ts : Tokens) (x : Expression) (rest : Tokens) → IsExpression limit N ts x rest → Passes ts rest
  expression_passes = (expression_again limit known).passes

  -- ---- predicates

  -- the first operand, where a predicate goes on with it
  operand_at : (ts : Tokens) (x : Expression) (u : Tokens) → IsExpression limit N ts x u → is_shallow ts d ≡ true → goes_on u ≡ true
      → Stops expression_goes_on u
      → predicate limit I ts ≡ after_operand limit I x u
  unfolding predicate
  operand_at ts x u h shallow on stops =
      let b = expression_begins limit known ts x u h in
      rw (is_no_condition ts u b.1 on, no_word no_expression w.Exists refl ts b.0, (expression_again limit known).at ts x u h shallow stops) refl

  -- the words after it
  negatable_at : (v : Word) (x : Expression) (u : Tokens) (not : Bool) (after : Tokens) → is_word w.Is (kind.Word v) ≡ false
      → is_word w.Not (kind.Word v) ≡ false
      → Written NOT u not (kind.Word v ∷ after) → after_operand limit I x u ≡ range_list_or_pattern limit I x not (kind.Word v ∷ after)
  unfolding after_operand
  negatable_at v x u true after is isnt h =
      rw (h, comparison_is_none w.Not (kind.Word v ∷ after), no_such_word w.Not w.Is (kind.Word v ∷ after) refl, eaten_after_not (kind.Word v ∷ after)) refl
  negatable_at v x u false after is isnt h =
      rw (h, comparison_is_none v after, no_such_word v w.Is after is, eaten_not v after isnt) refl

  range_at : (x : Expression) (not : Bool) (ts : Tokens) → range_list_or_pattern limit I x not (BETWEEN ∷ ts) ≡ between limit I x not ts
  unfolding range_list_or_pattern word
  range_at x not ts = refl

  list_at : (x : Expression) (not : Bool) (ts : Tokens) → range_list_or_pattern limit I x not (IN ∷ ts) ≡ is_in limit I x not ts
  unfolding range_list_or_pattern word
  list_at x not ts = refl

  pattern_at : (x : Expression) (not : Bool) (ts : Tokens) → range_list_or_pattern limit I x not (LIKE ∷ ts) ≡ like limit I x not (LIKE ∷ ts)
  unfolding range_list_or_pattern word
  pattern_at x not ts = refl

  bounds : Again (Expression × Expression) d expression_goes_on (both (expression limit I) (after (word w.And) (expression limit I)))
      (IsExpression limit N ⨾ AND ⊳ IsExpression limit N)
  bounds = both_again (expression_again limit known) (after_word_again w.And (expression_again limit known)) (λ ts x rest h _. rw h.1 refl)

  literals : Again (List Literal) d (is_symbol s.Comma) (listed literal) (Listed IsLiteral)
  literals = listed_again (is_symbol s.Comma) literal_again refl refl (λ rest _. nothing_stops rest)

  null_test : Again Bool d never (before (written w.Not) (word w.Null)) (Written NOT ⊲ NULL)
  null_test = before_word_again w.Null never refl (may_be_again w.Not)

  compared : (x : Expression) (o : Comparison) (u : Tokens) (y : Expression) (v rest : Tokens) → IsComparison u o v → IsExpression limit N v y rest
      → is_shallow u d ≡ true
      → Stops expression_goes_on rest → after_operand limit I x u ≡ Some (predicate_of.Compare x o y, rest)
  unfolding after_operand compare
  compared x o u y v rest h k shallow stops =
      let a = (comparison_again {d = d}).at u o v h shallow (nothing_stops v) in
      let b = (expression_again limit known).at v y rest k (shallow_after ((comparison_again {d = d}).passes u o v h) d shallow) stops in
      rw (a, b) refl

  null_tested : (x : Expression) (not : Bool) (u rest : Tokens) → (Written NOT ⊲ NULL) u not rest → is_shallow u d ≡ true
      → after_operand limit I x (IS ∷ u) ≡ Some (predicate_of.IsNull x not, rest)
  unfolding after_operand is_null
  null_tested x not u rest h shallow =
      rw (comparison_is_none w.Is u, word_again w.Is u, null_test.at u not rest h shallow (nothing_stops rest)) refl

  ranged : (x : Expression) (not : Bool) (ts : Tokens) (y z : Expression) (rest : Tokens)
      → (IsExpression limit N ⨾ AND ⊳ IsExpression limit N) ts (y, z) rest → is_shallow ts d ≡ true
      → Stops expression_goes_on rest → between limit I x not ts ≡ Some (predicate_of.Between x not y z, rest)
  unfolding between
  ranged x not ts y z rest h shallow stops = rw (bounds.at ts (y, z) rest h shallow stops) refl

  in_query : (x : Expression) (not : Bool) (ts : Tokens) (q : Query) (rest : Tokens) → Parenthesized N.query ts q rest → is_shallow ts d ≡ true
      → is_in limit I x not ts ≡ Some (predicate_of.InQuery x not q, rest)
  unfolding is_in
  in_query x not ts q rest h shallow =
      let opens = subst (λ ts. opens_subquery ts ≡ true) (flip h.1) (opens_a_query h.0 (known.query_is_one h.0 q _ h.2)) in
      rw (opens, (parenthesized_again never known.query).at ts q rest h shallow (nothing_stops rest)) refl

  in_list : (x : Expression) (not : Bool) (ts : Tokens) (xs : List Literal) (rest : Tokens) → Parenthesized (Listed IsLiteral) ts xs rest
      → is_shallow ts d ≡ true
      → is_in limit I x not ts ≡ Some (predicate_of.InList x not xs, rest)
  unfolding is_in
  in_list x not ts xs rest h shallow =
      let opens = subst (λ ts. opens_subquery ts ≡ false) (flip h.1) (opens_a_list h.0 (literals_begin h.0 xs _ h.2)) in
      rw (opens, (parenthesized_again never (inside refl literals)).at ts xs rest h shallow (nothing_stops rest)) refl

  patterned : (x : Expression) (not : Bool) (ts : Tokens) (y : Expression) (rest : Tokens) → IsExpression limit N ts y rest → is_shallow ts d ≡ true
      → Stops expression_goes_on rest → like limit I x not (LIKE ∷ ts) ≡ Some (predicate_of.Like x not y, rest)
  unfolding like
  patterned x not ts y rest h shallow stops = rw (word_again w.Like ts, (expression_again limit known).at ts y rest h shallow stops) refl

  exists_at : (a : Tokens) → predicate limit I (kind.Word w.Exists ∷ a) ≡ exists limit I a
  unfolding predicate opens_condition word
  exists_at a = refl

  existing : (ts : Tokens) (q : Query) (rest : Tokens) → Parenthesized N.query ts q rest → is_shallow ts d ≡ true
      → exists limit I ts ≡ Some (predicate_of.Exists q, rest)
  unfolding exists
  existing ts q rest h shallow = rw ((parenthesized_again never known.query).at ts q rest h shallow (nothing_stops rest)) refl

  nested_at_parenthesis : (a : Tokens) → goes_on (skip a 0) ≡ false → predicate limit I (LEFT_PARENTHESIS ∷ a) ≡ nested limit I (LEFT_PARENTHESIS ∷ a)
  unfolding predicate opens_condition
  nested_at_parenthesis a e = rw e refl

  nesting : (ts : Tokens) (c : Condition) (rest : Tokens) → Parenthesized N.condition ts c rest → is_shallow ts d ≡ true → goes_on rest ≡ false
      → predicate limit I ts ≡ Some (predicate_of.Nested c, rest)
  unfolding nested
  nesting ts c rest h shallow end =
      let read = (parenthesized_again never known.condition).at ts c rest h shallow (nothing_stops rest) in
      let first = nested_at_parenthesis h.0 (rw (skip_past (known.condition.passes h.0 c _ h.2) 0) end) in
      subst (λ ts. predicate limit I ts ≡ nested limit I ts) (flip h.1) first ∙ rw read refl

  not_passes : (ts : Tokens) (not : Bool) (rest : Tokens) → Written NOT ts not rest → Passes ts rest
  not_passes = (may_be_again {d = d} w.Not).passes

  predicate_layer_passes : (ts : Tokens) (l : PredicateLayer) (rest : Tokens) → IsPredicateLayer limit N ts l rest → Passes ts rest
  predicate_layer_passes ts (Predicate-F.Nested x) rest h = (parenthesized_again never known.condition).passes ts x rest h
  predicate_layer_passes ts (Predicate-F.Compare x o y) rest h =
      onward (expression_passes ts x h.0 h.1) (onward ((comparison_again {d = d}).passes h.0 o h.2.0 h.2.1) (expression_passes h.2.0 y rest h.2.2))
  predicate_layer_passes ts (Predicate-F.Between x not y z) rest h =
      onward (expression_passes ts x h.0 h.1) (onward (not_passes h.0 not h.2.0 h.2.1)
      (onward (one refl refl h.2.2.1.1) (bounds.passes h.2.2.1.0 (y, z) rest (h.2.2.0, h.2.2.1.2, h.2.2.2))))
  predicate_layer_passes ts (Predicate-F.InList x not xs) rest h =
      onward (expression_passes ts x h.0 h.1) (onward (not_passes h.0 not h.2.0 h.2.1)
      (onward (one refl refl h.2.2.1) ((parenthesized_again never (inside refl literals)).passes h.2.2.0 xs rest h.2.2.2)))
  predicate_layer_passes ts (Predicate-F.InQuery x not q) rest h =
      onward (expression_passes ts x h.0 h.1) (onward (not_passes h.0 not h.2.0 h.2.1)
      (onward (one refl refl h.2.2.1) ((parenthesized_again never known.query).passes h.2.2.0 q rest h.2.2.2)))
  predicate_layer_passes ts (Predicate-F.Like x not y) rest h =
      onward (expression_passes ts x h.0 h.1) (onward (not_passes h.0 not h.2.0 h.2.1) (onward (one refl refl h.2.2.1) (expression_passes h.2.2.0 y rest h.2.2.2)))
  predicate_layer_passes ts (Predicate-F.IsNull x not) rest h =
      onward (expression_passes ts x h.0 h.1) (onward (one refl refl h.2.1) (null_test.passes h.2.0 not rest h.2.2))
  predicate_layer_passes ts (Predicate-F.Exists q) rest h = onward (one refl refl h.1) ((parenthesized_again never known.query).passes h.0 q rest h.2)

  -- how a predicate with a first operand is read
  after_word_at : (v : Word) (ts : Tokens) (x : Expression) (u : Tokens) (not : Bool) (v' after rest : Tokens) (p : Predicate)
      → is_predicate_word (kind.Word v) ≡ true → is_word w.Is (kind.Word v) ≡ false → is_word w.Not (kind.Word v) ≡ false → is_shallow ts d ≡ true
      → IsExpression limit N ts x u → Written NOT u not v' → v' ≡ kind.Word v ∷ after
      → (is_shallow after d ≡ true → range_list_or_pattern limit I x not (kind.Word v ∷ after) ≡ Some (p, rest))
      → predicate limit I ts ≡ Some (p, rest)
  after_word_at v ts x u not v' after rest p goes is isnt shallow h n e f =
      let n' : Written NOT u not (kind.Word v ∷ after) = subst (Written NOT u not) e n in
      let b = negated_goes_on v u not after goes n' in
      let shallow_a = shallow_after (expression_passes ts x u h) d shallow in
      let shallow_b = shallow_after (onward (not_passes u not v' n) (one refl refl e)) d shallow_a in
      operand_at ts x u h shallow b.0 b.1 ∙ (negatable_at v x u not after is isnt n' ∙ f shallow_b)

  predicate_layer_again : (ts : Tokens) (l : PredicateLayer) (rest : Tokens) → IsPredicateLayer limit N ts l rest → is_shallow ts d ≡ true
      → goes_on rest ≡ false
      → Stops expression_goes_on rest → predicate limit I ts ≡ Some (roll-Predicate l, rest)
  predicate_layer_again ts (Predicate-F.Nested x) rest h shallow end stops = rw rolls-Nested (nesting ts x rest h shallow end)
  predicate_layer_again ts (Predicate-F.Compare x o y) rest h shallow end stops =
      let b = comparison_begins h.0 o h.2.0 h.2.1 in
      let shallow_a = shallow_after (expression_passes ts x h.0 h.1) d shallow in
      operand_at ts x h.0 h.1 shallow (operator_goes_on h.0 b.0) b.1 ∙ rw rolls-Compare (compared x o h.0 y h.2.0 rest h.2.1 h.2.2 shallow_a stops)
  predicate_layer_again ts (Predicate-F.Between x not y z) rest h shallow end stops =
      after_word_at w.Between ts x h.0 not h.2.0 h.2.2.1.0 rest _ refl refl refl shallow h.1 h.2.1 h.2.2.1.1
      (λ s. range_at x not h.2.2.1.0 ∙ rw rolls-Between (ranged x not h.2.2.1.0 y z rest (h.2.2.0, h.2.2.1.2, h.2.2.2) s stops))
  predicate_layer_again ts (Predicate-F.InList x not xs) rest h shallow end stops =
      after_word_at w.In ts x h.0 not h.2.0 h.2.2.0 rest _ refl refl refl shallow h.1 h.2.1 h.2.2.1
      (λ s. list_at x not h.2.2.0 ∙ rw rolls-InList (in_list x not h.2.2.0 xs rest h.2.2.2 s))
  predicate_layer_again ts (Predicate-F.InQuery x not q) rest h shallow end stops =
      after_word_at w.In ts x h.0 not h.2.0 h.2.2.0 rest _ refl refl refl shallow h.1 h.2.1 h.2.2.1
      (λ s. list_at x not h.2.2.0 ∙ rw rolls-InQuery (in_query x not h.2.2.0 q rest h.2.2.2 s))
  predicate_layer_again ts (Predicate-F.Like x not y) rest h shallow end stops =
      after_word_at w.Like ts x h.0 not h.2.0 h.2.2.0 rest _ refl refl refl shallow h.1 h.2.1 h.2.2.1
      (λ s. pattern_at x not h.2.2.0 ∙ rw rolls-Like (patterned x not h.2.2.0 y rest h.2.2.2 s stops))
  predicate_layer_again ts (Predicate-F.IsNull x not) rest h shallow end stops =
      let shallow_a = shallow_after (onward (expression_passes ts x h.0 h.1) (one refl refl h.2.1)) d shallow in
      let b = null_test_goes_on h.0 not h.2.0 rest h.2.1 h.2.2 in
      operand_at ts x h.0 h.1 shallow b.0 b.1 ∙ rw (h.2.1, rolls-IsNull) (null_tested x not h.2.0 rest h.2.2 shallow_a)
  predicate_layer_again ts (Predicate-F.Exists q) rest h shallow end stops =
      let shallow_a = shallow_after (one refl refl h.1) d shallow in
      rw (h.1, rolls-Exists) (exists_at h.0 ∙ existing h.0 q rest h.2 shallow_a)

  -- ---- tests and what is made of them

  predicate_begins : (ts : Tokens) (l : PredicateLayer) (rest : Tokens) → IsPredicateLayer limit N ts l rest → next_is (is_word w.Not) ts ≡ false
  predicate_begins ts (Predicate-F.Nested x) rest h = rw h.1 refl
  predicate_begins ts (Predicate-F.Compare x o y) rest h = not_word no_expression w.Not refl ts (expression_begins limit known ts x h.0 h.1).0
  predicate_begins ts (Predicate-F.Between x not y z) rest h = not_word no_expression w.Not refl ts (expression_begins limit known ts x h.0 h.1).0
  predicate_begins ts (Predicate-F.InList x not xs) rest h = not_word no_expression w.Not refl ts (expression_begins limit known ts x h.0 h.1).0
  predicate_begins ts (Predicate-F.InQuery x not q) rest h = not_word no_expression w.Not refl ts (expression_begins limit known ts x h.0 h.1).0
  predicate_begins ts (Predicate-F.Like x not y) rest h = not_word no_expression w.Not refl ts (expression_begins limit known ts x h.0 h.1).0
  predicate_begins ts (Predicate-F.IsNull x not) rest h = not_word no_expression w.Not refl ts (expression_begins limit known ts x h.0 h.1).0
  predicate_begins ts (Predicate-F.Exists q) rest h = rw h.1 refl

  predicate_again : (ts : Tokens) (x : Predicate) (rest : Tokens) → IsPredicate limit N ts x rest → is_shallow ts d ≡ true → goes_on rest ≡ false
      → Stops expression_goes_on rest → predicate limit I ts ≡ Some (x, rest)
  predicate_again ts x rest h shallow end stops =
      predicate_layer_again ts (out-Predicate x) rest h.is shallow end stops ∙ ap (λ p. Some (p, rest)) (roll-out-Predicate x)

  test_again : Again Test d test_goes_on (test_ limit I) (IsTest limit N)
  unfolding test_
  test_again = record {
    passes = λ ts x rest h.
        onward (predicate_layer_passes ts (out-Predicate (out-Test x).predicate) h.is.0 h.is.1.is)
        ((truth_test_again {d = d}).passes h.is.0 (out-Test x).truth rest h.is.2);
    at = λ ts x rest h shallow stops.
        let end = test_ends h.is.0 (out-Test x).truth rest h.is.2 stops in
        let stops_a = stops_right is_predicate_word expression_goes_on h.is.0 (stops_right is_operator (or is_predicate_word expression_goes_on) h.is.0 end.1) in
        let a = predicate_again ts (out-Test x).predicate h.is.0 h.is.1 shallow end.0 stops_a in
        let later = shallow_after (predicate_layer_passes ts (out-Predicate (out-Test x).predicate) h.is.0 h.is.1.is) d shallow in
        let b = truth_test_again.at h.is.0 (out-Test x).truth rest h.is.2 later (stops_left (is_word w.Is) predicate_goes_on rest stops) in
        rw (a, b) refl;
  }

  negation_again : Again Negation d test_goes_on (negation limit I) (IsNegation limit N)
  unfolding negation
  negation_again = made_again (λ x. roll-Negation (record { is_negated = x.0; test = x.1 })) (λ y. ((out-Negation y).is_negated, (out-Negation y).test))
      (both_again (may_be_again w.Not) test_again (λ ts x rest h _. predicate_begins ts (out-Predicate (out-Test x).predicate) h.is.0 h.is.1.is))
      (λ ts x rest h. h.is) (λ x. refl)

  conjunction_again : Again Conjunction d conjunction_goes_on (conjunction limit I) (IsConjunction limit N)
  unfolding conjunction
  conjunction_again = made_again (λ x. roll-Conjunction (record { first = x.0; others = x.1 })) (λ y. ((out-Conjunction y).first, (out-Conjunction y).others))
      (chain_again limit negation_again (opened_by_word w.And conjunction_goes_on negation_again refl refl (stops_right (is_word w.And) test_goes_on)))
      (λ ts x rest h. h.is) (λ x. roll-out-Conjunction x)

  pub condition_again : Again Condition d condition_goes_on (condition limit I) (IsCondition limit N)
  unfolding condition
  condition_again = made_again (λ x. roll-Condition (record { first = x.0; others = x.1 })) (λ y. ((out-Condition y).first, (out-Condition y).others))
      (chain_again limit conjunction_again (opened_by_word w.Or condition_goes_on conjunction_again refl refl (stops_right (is_word w.Or) conjunction_goes_on)))
      (λ ts x rest h. h.is) (λ x. roll-out-Condition x)
