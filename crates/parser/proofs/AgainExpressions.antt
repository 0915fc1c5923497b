-- Expressions: what is in the grammar is read again.
use Rattle.std.proofs.Common.{◌≡◌, ℕ, zero, suc, Bool, true, false, List, [], ◌∷◌, Option, Some, None, refl, ap, sym as flip, ◌∙◌, subst, inl, inr}
use Rattle.std.specs.Prelude.{◌⊎◌}
use Rattle.lexer.specs.declared.kinds.Kind.{Kind}
use Rattle.lexer.specs.declared.kinds.Kind.TheVariants as kind
use Rattle.lexer.specs.declared.kinds.Symbol.TheVariants as s
use Rattle.lexer.specs.declared.words.Word.TheVariants as w
use Rattle.ast.specs.declared.operator.AddOperator.{AddOperator}
use Rattle.ast.specs.declared.operator.AddOperator.TheVariants as add
use Rattle.ast.specs.declared.operator.MultiplyOperator.{MultiplyOperator}
use Rattle.ast.specs.declared.operator.MultiplyOperator.TheVariants as multiply
use Rattle.ast.specs.declared.operator.Quantifier.{Quantifier}
use Rattle.ast.specs.declared.operator.Quantifier.TheVariants as quantifier_of
use Rattle.ast.specs.declared.operator.SetFunction.{SetFunction}
use Rattle.ast.specs.declared.operator.SetFunction.TheVariants as function
use Rattle.ast.specs.declared.operator.Sign.{Sign}
use Rattle.ast.specs.declared.operator.Sign.TheVariants as sign_of
use Rattle.ast.specs.declared.tree.Condition.{Condition}
use Rattle.ast.specs.declared.tree.Expression.{Expression, roll-Expression, out-Expression, roll-out-Expression}
use Rattle.ast.specs.declared.tree.Factor.{Factor, roll-Factor, out-Factor}
use Rattle.ast.specs.declared.tree.Primary.{Primary, Primary-F, roll-Primary, out-Primary, roll-out-Primary}
use Rattle.ast.specs.declared.tree.Primary.TheVariants as primary_of
use Rattle.ast.specs.declared.tree.Primary.TheVariants.{rolls-Number, rolls-Text, rolls-Column, rolls-CountRows, rolls-Aggregate, rolls-Parenthesized, rolls-Subquery}
use Rattle.ast.specs.declared.tree.Query.{Query}
use Rattle.ast.specs.declared.tree.Term.{Term, roll-Term, out-Term, roll-out-Term}
use Rattle.ast.specs.Layers.{PrimaryLayer}
use Rattle.ast.specs.Notation.{Tokens, Rule, ◌⨾◌, ◌⊲◌, Parenthesized, Maybe, Many}
use Rattle.ast.specs.Terminals.{IsName, IsAddOperator, IsMultiplyOperator, IsQuantifier, IsSetFunction, IsSign}
use Rattle.ast.specs.Words.{LEFT_PARENTHESIS, RIGHT_PARENTHESIS}
use Rattle.ast.specs.Expressions.{Nested, IsPrimary, IsPrimaryLayer, IsFactor, IsTerm, IsExpression}
use Rattle.parse_terminals.specs.Readers.{next_is, is_symbol, rest_of, skip, word, symbol, after, parenthesized, made, optional}
use Rattle.parse_terminals.specs.ReadTerminals.{quantifier, set_function, count_rows, column, is_set_word, is_operator, begins_query, opens_query}
use Rattle.parse_expressions.specs.ReadExpressions.{Inner, argument, aggregate, in_parentheses, constant_or_column, primary, factor, multiplied, term, added, expression}
use Rattle.parser.specs.Shallow.{is_shallow}
use Rattle.parser.proofs.Steps.{not_word, not_symbol}
use Rattle.parser.proofs.Passes.{Passes, here, past, around, onward, one, shallow_after, shallow_inside, skip_past}
use Rattle.parser.proofs.Again.{Stops, never, nothing_stops, Again, Inside, both_again, parenthesized_again, made_again, optional_again, opened_by, chain_again}
use Rattle.parser.proofs.Follow.{or, stops_left, stops_right, multiplies, adds, term_goes_on, expression_goes_on, no_expression, no_query}
use Rattle.parser.proofs.AgainTerminals.{add_operator_again, multiply_operator_again, sign_again, quantifier_again, set_function_again, column_again, add_operator_first, multiply_operator_first, no_sign, no_add_operator, no_multiply_operator, no_quantifier}

-- What is known of the rules of what stands between parentheses, where d levels are left around
-- them.
pub record Known (d : ℕ) (I : Inner) (N : Nested) : Type 0 where
  pub expression : Inside Expression d I.expression N.expression
  pub condition : Inside Condition d I.condition N.condition
  pub query : Inside Query d I.query N.query
  pub expression_begins : (ts : Tokens) (x : Expression) (rest : Tokens) → N.expression ts x rest → Stops no_expression ts
  pub expression_is_none : (ts : Tokens) (x : Expression) (rest : Tokens) → N.expression ts x (RIGHT_PARENTHESIS ∷ rest) → begins_query ts ≡ false
  pub query_begins : (ts : Tokens) (x : Query) (rest : Tokens) → N.query ts x rest → Stops no_query ts
  pub query_is_one : (ts : Tokens) (x : Query) (rest : Tokens) → N.query ts x rest → begins_query ts ≡ true

-- ---- first tokens

-- what begins an expression but is no sign
abbrev no_primary : Kind → Bool
no_primary = or no_expression (or (is_symbol s.Plus) (is_symbol s.Minus))

column_name : (ts : Tokens) (table : Option (List ℕ)) (n : List ℕ) (rest : Tokens) → (Maybe (IsName ⊲ kind.Symbol s.Period) ⨾ IsName) ts (table, n) rest
    → (m : List ℕ) × (u : Tokens) × (ts ≡ kind.Name m ∷ u)
column_name ts None n rest h = (n, rest, h.1 ∙ h.2)
column_name ts (Some m) n rest h = (m, _, h.1)

function_begins : (ts : Tokens) (f : SetFunction) (rest : Tokens) → IsSetFunction ts f rest
    → (Stops no_primary ts) × (next_is (is_symbol s.LeftParenthesis) ts ≡ false)
function_begins ts function.Count rest h = rw h (refl, refl)
function_begins ts function.Sum rest h = rw h (refl, refl)
function_begins ts function.Avg rest h = rw h (refl, refl)
function_begins ts function.Min rest h = rw h (refl, refl)
function_begins ts function.Max rest h = rw h (refl, refl)

add_operates : (ts : Tokens) (o : AddOperator) (rest : Tokens) → IsAddOperator ts o rest → next_is is_operator ts ≡ true
add_operates ts add.Plus rest h = rw h refl
add_operates ts add.Minus rest h = rw h refl
add_operates ts add.Concatenate rest h = rw h refl

multiply_operates : (ts : Tokens) (o : MultiplyOperator) (rest : Tokens) → IsMultiplyOperator ts o rest → next_is is_operator ts ≡ true
multiply_operates ts multiply.Times rest h = rw h refl
multiply_operates ts multiply.Divide rest h = rw h refl

shallow_behind : (a b : Tokens) → Passes a b → (d : ℕ) → is_shallow (LEFT_PARENTHESIS ∷ a) d ≡ true → is_shallow (LEFT_PARENTHESIS ∷ b) d ≡ true
shallow_behind a b p zero h = cc
shallow_behind a b p (suc d) h = shallow_after p d h

-- ---- behind the parentheses that begin an expression stands an operator, or what follows the
-- expression

-- what follows the parentheses at the front of these tokens, where there are any, goes on with an
-- expression or is the rest
abbrev pub Behind : Tokens → Tokens → Type 0
Behind ts rest = next_is (is_symbol s.LeftParenthesis) ts ≡ true → (skip (rest_of ts) 0 ≡ rest) ⊎ (next_is is_operator (skip (rest_of ts) 0) ≡ true)

behind_others : {O A : Type 0} (Op : Rule O) (Item : Rule A) → ((ts : Tokens) (o : O) (rest : Tokens) → Op ts o rest → next_is is_operator ts ≡ true)
    → (ts mid : Tokens) (xs : List (O × A)) (rest : Tokens) → Many (Op ⨾ Item) mid xs rest → Behind ts mid → Behind ts rest
behind_others Op Item operates ts mid [] rest h b = λ o. elim (b o) [
  | inl e ↦ inl (e ∙ h)
  | inr e ↦ inr e
]
behind_others Op Item operates ts mid (x ∷ xs) rest h b = λ o. elim (b o) [
  | inl e ↦ inr (rw e (operates mid x.0 h.1.0 h.1.1))
  | inr e ↦ inr e
]

no_set_word : (ts : Tokens) → next_is is_operator ts ≡ true → next_is is_set_word ts ≡ false
no_set_word [] h = cc
no_set_word (kind.Symbol _ ∷ ts) h = refl
no_set_word (_ ∷ ts) h = cc

is_no_query : (ts rest : Tokens) → Stops no_expression ts → Behind ts (RIGHT_PARENTHESIS ∷ rest) → begins_query ts ≡ false
is_no_query ts rest h b =
    let no_select = not_word no_expression w.Select refl ts h in
    elim (next_is (is_symbol s.LeftParenthesis) ts) as (λ o. next_is (is_symbol s.LeftParenthesis) ts ≡ o → begins_query ts ≡ false) [
      | false ↦ λ e. rw (no_select, e) refl
      | true ↦ λ e. elim (b e) [
        | inl k ↦ rw (no_select, e, k) refl
        | inr k ↦ rw (no_select, e) (no_set_word _ k)
      ]
    ] refl

count_rows_is : (rest : Tokens) → count_rows (kind.Word w.Count ∷ LEFT_PARENTHESIS ∷ kind.Symbol s.Asterisk ∷ RIGHT_PARENTHESIS ∷ rest) ≡ Some (tt, rest)
unfolding count_rows word symbol
count_rows_is rest = refl

no_count_rows : (ts : Tokens) (f : SetFunction) (after : Tokens) → IsSetFunction ts f (LEFT_PARENTHESIS ∷ after)
    → next_is (is_symbol s.Asterisk) after ≡ false → count_rows ts ≡ None
unfolding count_rows word symbol
no_count_rows ts function.Count after h a = rw (h, a) refl
no_count_rows ts function.Sum after h a = rw h refl
no_count_rows ts function.Avg after h a = rw h refl
no_count_rows ts function.Min after h a = rw h refl
no_count_rows ts function.Max after h a = rw h refl

quantifier_begins : (ts : Tokens) (x : Quantifier) (rest : Tokens) → IsQuantifier ts x rest → next_is (is_symbol s.Asterisk) ts ≡ false
quantifier_begins ts quantifier_of.All rest h = rw h refl
quantifier_begins ts quantifier_of.Distinct rest h = rw h refl

module _ (limit : Option ℕ) {d : ℕ} {I : Inner} {N : Nested} (known : Known d I N) where
  -- ---- a primary

  argument_begins : (ts : Tokens) (x : Option Quantifier) (mid : Tokens) (y : Expression) (rest : Tokens) → Maybe IsQuantifier ts x mid
      → N.expression mid y rest
      → next_is (is_symbol s.Asterisk) ts ≡ false
  argument_begins ts None mid y rest h k = rw h (not_symbol no_expression s.Asterisk refl mid (known.expression_begins mid y rest k))
  argument_begins ts (Some x) mid y rest h k = quantifier_begins ts x mid h

  may_quantify : (l : ℕ) → Again (Option Quantifier) l no_expression (optional quantifier) (Maybe IsQuantifier)
  may_quantify l = optional_again no_expression quantifier_again (no_quantifier no_expression refl refl) (λ rest _. nothing_stops rest)

  argument_inside : Inside (Option Quantifier × Expression) d (argument limit I) (Maybe IsQuantifier ⨾ N.expression)
  unfolding argument
  argument_inside = record {
    passes = λ ts x rest h. onward ((may_quantify d).passes ts x.0 h.0 h.1) (known.expression.passes h.0 x.1 rest h.2);
    at = λ ts x rest h shallow.
        let a = (may_quantify d).at ts x.0 h.0 h.1 (shallow_inside ts d shallow) (known.expression_begins h.0 x.1 _ h.2) in
        let b = known.expression.at h.0 x.1 rest h.2 (shallow_behind ts h.0 ((may_quantify d).passes ts x.0 h.0 h.1) d shallow) in
        rw (a, b) refl;
  }

  layer_begins : (ts : Tokens) (l : PrimaryLayer) (rest : Tokens) → IsPrimaryLayer limit N ts l rest → Stops no_primary ts
  layer_begins ts (Primary-F.Number x) rest h = rw h refl
  layer_begins ts (Primary-F.Text x) rest h = rw h refl
  layer_begins ts (Primary-F.Column x) rest h = rw (column_name ts x.table x.name rest h).2 refl
  layer_begins ts Primary-F.CountRows rest h = rw h refl
  layer_begins ts (Primary-F.Aggregate f q x) rest h = (function_begins ts f h.0 h.1).0
  layer_begins ts (Primary-F.Parenthesized x) rest h = rw h.1 refl
  layer_begins ts (Primary-F.Subquery x) rest h = rw h.1 refl

  layer_passes : (ts : Tokens) (l : PrimaryLayer) (rest : Tokens) → IsPrimaryLayer limit N ts l rest → Passes ts rest
  layer_passes ts (Primary-F.Number x) rest h = one refl refl h
  layer_passes ts (Primary-F.Text x) rest h = one refl refl h
  layer_passes ts (Primary-F.Column x) rest h = (column_again {d = d}).passes ts x rest h
  layer_passes ts Primary-F.CountRows rest h = subst (λ ts. Passes ts rest) (flip h) (past refl refl (around (past refl refl here) here))
  layer_passes ts (Primary-F.Aggregate f q x) rest h =
      onward ((set_function_again {d = d}).passes ts f h.0 h.1) ((parenthesized_again never argument_inside).passes h.0 (q, x) rest h.2)
  layer_passes ts (Primary-F.Parenthesized x) rest h = (parenthesized_again never known.expression).passes ts x rest h
  layer_passes ts (Primary-F.Subquery x) rest h = (parenthesized_again never known.query).passes ts x rest h

  layer_behind : (ts : Tokens) (l : PrimaryLayer) (rest : Tokens) → IsPrimaryLayer limit N ts l rest → next_is (is_symbol s.LeftParenthesis) ts ≡ true
      → skip (rest_of ts) 0 ≡ rest
  layer_behind ts (Primary-F.Number x) rest h o = absurd (let k = rw h at o in cc)
  layer_behind ts (Primary-F.Text x) rest h o = absurd (let k = rw h at o in cc)
  layer_behind ts (Primary-F.Column x) rest h o = absurd (let k = rw (column_name ts x.table x.name rest h).2 at o in cc)
  layer_behind ts Primary-F.CountRows rest h o = absurd (let k = rw h at o in cc)
  layer_behind ts (Primary-F.Aggregate f q x) rest h o = absurd (let k = (function_begins ts f h.0 h.1).1 in cc)
  layer_behind ts (Primary-F.Parenthesized x) rest h o = rw h.1 (skip_past (known.expression.passes h.0 x _ h.2) 0)
  layer_behind ts (Primary-F.Subquery x) rest h o = rw h.1 (skip_past (known.query.passes h.0 x _ h.2) 0)

  -- how a primary is read, by its first token
  at_name : (n : List ℕ) (u : Tokens) → primary limit I (kind.Name n ∷ u) ≡ made primary_of.Column column (kind.Name n ∷ u)
  unfolding primary constant_or_column count_rows set_function word symbol
  at_name n u = refl

  at_query : (a : Tokens) → begins_query a ≡ true → primary limit I (LEFT_PARENTHESIS ∷ a) ≡ made primary_of.Subquery (parenthesized I.query) (LEFT_PARENTHESIS ∷ a)
  unfolding primary in_parentheses opens_query
  at_query a e = rw e refl

  at_expression : (a : Tokens) → begins_query a ≡ false → primary limit I (LEFT_PARENTHESIS ∷ a) ≡ made primary_of.Parenthesized (parenthesized I.expression) (LEFT_PARENTHESIS ∷ a)
  unfolding primary in_parentheses opens_query
  at_expression a e = rw e refl

  at_function : (ts : Tokens) (f : SetFunction) (mid : Tokens) → next_is (is_symbol s.LeftParenthesis) ts ≡ false → count_rows ts ≡ None
      → set_function ts ≡ Some (f, mid)
      → primary limit I ts ≡ aggregate limit I f mid
  unfolding primary
  at_function ts f mid p c k = rw (p, c, k) refl

  at_count_rows : (rest : Tokens) → primary limit I (kind.Word w.Count ∷ LEFT_PARENTHESIS ∷ kind.Symbol s.Asterisk ∷ RIGHT_PARENTHESIS ∷ rest) ≡ Some (primary_of.CountRows, rest)
  unfolding primary
  at_count_rows rest = rw (count_rows_is rest) refl

  at_number : (n : ℕ) (rest : Tokens) → primary limit I (kind.Number n ∷ rest) ≡ Some (primary_of.Number n, rest)
  unfolding primary constant_or_column count_rows set_function word symbol
  at_number n rest = refl

  at_text : (n : List ℕ) (rest : Tokens) → primary limit I (kind.Text n ∷ rest) ≡ Some (primary_of.Text n, rest)
  unfolding primary constant_or_column count_rows set_function word symbol
  at_text n rest = refl

  aggregate_at : (f : SetFunction) (q : Option Quantifier) (x : Expression) (ts rest : Tokens)
      → Parenthesized (Maybe IsQuantifier ⨾ N.expression) ts (q, x) rest → is_shallow ts d ≡ true
      → aggregate limit I f ts ≡ Some (primary_of.Aggregate f q x, rest)
  unfolding aggregate
  aggregate_at f q x ts rest h shallow = rw ((parenthesized_again never argument_inside).at ts (q, x) rest h shallow (nothing_stops rest)) refl

  layer_again : (ts : Tokens) (l : PrimaryLayer) (rest : Tokens) → IsPrimaryLayer limit N ts l rest → is_shallow ts d ≡ true → Stops (is_symbol s.Period) rest
      → primary limit I ts ≡ Some (roll-Primary l, rest)
  layer_again ts (Primary-F.Number x) rest h shallow stops = rw (h, rolls-Number) (at_number x rest)
  layer_again ts (Primary-F.Text x) rest h shallow stops = rw (h, rolls-Text) (at_text x rest)
  layer_again ts (Primary-F.Column x) rest h shallow stops =
      let first = column_name ts x.table x.name rest h in
      let read = column_again.at ts x rest h shallow stops in
      subst (λ ts. primary limit I ts ≡ made primary_of.Column column ts) (flip first.2) (at_name first.0 first.1) ∙ rw (read, rolls-Column) refl
  layer_again ts Primary-F.CountRows rest h shallow stops = rw (h, rolls-CountRows) (at_count_rows rest)
  layer_again ts (Primary-F.Aggregate f q x) rest h shallow stops =
      let g : IsSetFunction ts f (LEFT_PARENTHESIS ∷ h.2.0) = subst (IsSetFunction ts f) h.2.1 h.1 in
      let none = no_count_rows ts f h.2.0 g (argument_begins h.2.0 q h.2.2.0 x _ h.2.2.1 h.2.2.2) in
      let read = set_function_again.at ts f h.0 h.1 shallow (nothing_stops h.0) in
      let later = shallow_after ((set_function_again {d = d}).passes ts f h.0 h.1) d shallow in
      at_function ts f h.0 (function_begins ts f h.0 h.1).1 none read ∙ rw rolls-Aggregate (aggregate_at f q x h.0 rest h.2 later)
  layer_again ts (Primary-F.Parenthesized x) rest h shallow stops =
      let read = (parenthesized_again never known.expression).at ts x rest h shallow (nothing_stops rest) in
      let first = at_expression h.0 (known.expression_is_none h.0 x rest h.2) in
      subst (λ ts. primary limit I ts ≡ made primary_of.Parenthesized (parenthesized I.expression) ts) (flip h.1) first ∙ rw (read, rolls-Parenthesized) refl
  layer_again ts (Primary-F.Subquery x) rest h shallow stops =
      let read = (parenthesized_again never known.query).at ts x rest h shallow (nothing_stops rest) in
      let first = at_query h.0 (known.query_is_one h.0 x _ h.2) in
      subst (λ ts. primary limit I ts ≡ made primary_of.Subquery (parenthesized I.query) ts) (flip h.1) first ∙ rw (read, rolls-Subquery) refl

  primary_again : Again Primary d (is_symbol s.Period) (primary limit I) (IsPrimary limit N)
  primary_again = record {
    passes = λ ts x rest h. layer_passes ts (out-Primary x) rest h.is;
    at = λ ts x rest h shallow stops. layer_again ts (out-Primary x) rest h.is shallow stops ∙ ap (λ p. Some (p, rest)) (roll-out-Primary x);
  }

  -- ---- factors, terms, expressions

  factor_again : Again Factor d (is_symbol s.Period) (factor limit I) (IsFactor limit N)
  unfolding factor
  factor_again = made_again (λ x. roll-Factor (record { sign = x.0; primary = x.1 })) (λ y. ((out-Factor y).sign, (out-Factor y).primary))
      (both_again (optional_again no_primary sign_again (no_sign no_primary refl refl) (λ rest _. nothing_stops rest)) primary_again
      (λ ts x rest h _. layer_begins ts (out-Primary x) rest h.is))
      (λ ts x rest h. h.is) (λ x. refl)

  term_again : Again Term d term_goes_on (term limit I) (IsTerm limit N)
  unfolding term multiplied
  term_again = made_again (λ x. roll-Term (record { first = x.0; others = x.1 })) (λ y. ((out-Term y).first, (out-Term y).others))
      (chain_again limit factor_again
      (opened_by term_goes_on multiply_operator_again (λ o ts. refl) factor_again (λ ts x rest h. nothing_stops ts)
      (multiply_operator_first (is_symbol s.Period) refl refl)
      (no_multiply_operator term_goes_on refl refl) (stops_right multiplies (is_symbol s.Period))))
      (λ ts x rest h. h.is) (λ x. roll-out-Term x)

  pub expression_again : Again Expression d expression_goes_on (expression limit I) (IsExpression limit N)
  unfolding expression added
  expression_again = made_again (λ x. roll-Expression (record { first = x.0; others = x.1 })) (λ y. ((out-Expression y).first, (out-Expression y).others))
      (chain_again limit term_again
      (opened_by expression_goes_on add_operator_again (λ o ts. refl) term_again (λ ts x rest h. nothing_stops ts)
      (add_operator_first term_goes_on refl refl refl)
      (no_add_operator expression_goes_on refl refl refl) (stops_right adds term_goes_on)))
      (λ ts x rest h. h.is) (λ x. roll-out-Expression x)

  -- ---- how an expression begins

  signed_begins : (ts : Tokens) (x : Option Sign) (mid : Tokens) → Maybe IsSign ts x mid → Stops no_primary mid → Stops no_expression ts
  signed_begins ts None mid h p = rw h (stops_left no_expression (or (is_symbol s.Plus) (is_symbol s.Minus)) mid p)
  signed_begins ts (Some sign_of.Plus) mid h p = rw h refl
  signed_begins ts (Some sign_of.Minus) mid h p = rw h refl

  signed_behind : (ts : Tokens) (x : Option Sign) (mid rest : Tokens) → Maybe IsSign ts x mid → Behind mid rest → Behind ts rest
  signed_behind ts None mid rest h b = rw h b
  signed_behind ts (Some sign_of.Plus) mid rest h b = λ o. absurd (let k = rw h at o in cc)
  signed_behind ts (Some sign_of.Minus) mid rest h b = λ o. absurd (let k = rw h at o in cc)

  factor_begins : (ts : Tokens) (x : Factor) (rest : Tokens) → IsFactor limit N ts x rest → Stops no_expression ts × Behind ts rest
  factor_begins ts x rest h =
      let l = out-Primary (out-Factor x).primary in
      let p : IsPrimaryLayer limit N h.is.0 l rest = h.is.2.is in (
        signed_begins ts (out-Factor x).sign h.is.0 h.is.1 (layer_begins h.is.0 l rest p),
        signed_behind ts (out-Factor x).sign h.is.0 rest h.is.1 (λ o. inl (layer_behind h.is.0 l rest p o)),
      )

  term_begins : (ts : Tokens) (x : Term) (rest : Tokens) → IsTerm limit N ts x rest → Stops no_expression ts × Behind ts rest
  term_begins ts x rest h =
      let f = factor_begins ts (out-Term x).first h.is.0.0 h.is.0.1 in
      (f.0, behind_others IsMultiplyOperator (IsFactor limit N) multiply_operates ts h.is.0.0 (out-Term x).others rest h.is.0.2 f.1)

  pub expression_begins : (ts : Tokens) (x : Expression) (rest : Tokens) → IsExpression limit N ts x rest → Stops no_expression ts × Behind ts rest
  expression_begins ts x rest h =
      let f = term_begins ts (out-Expression x).first h.is.0.0 h.is.0.1 in
      (f.0, behind_others IsAddOperator (IsTerm limit N) add_operates ts h.is.0.0 (out-Expression x).others rest h.is.0.2 f.1)

  pub expression_is_none : (ts : Tokens) (x : Expression) (rest : Tokens) → IsExpression limit N ts x (RIGHT_PARENTHESIS ∷ rest) → begins_query ts ≡ false
  expression_is_none ts x rest h = let b = expression_begins ts x _ h in is_no_query ts rest b.0 b.1
