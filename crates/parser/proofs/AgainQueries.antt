-- Queries: what is in the grammar is read again.
use Rattle.std.proofs.Common.{◌≡◌, ℕ, ◌<◌, Bool, true, false, List, [], ◌∷◌, length, Option, Some, None, refl, ap, sym as flip, ◌∙◌, subst, arith}
use Rattle.lexer.specs.declared.kinds.Kind.{Kind}
use Rattle.lexer.specs.declared.kinds.Kind.TheVariants as kind
use Rattle.lexer.specs.declared.kinds.Symbol.TheVariants as s
use Rattle.lexer.specs.declared.words.Word.{Word}
use Rattle.lexer.specs.declared.words.Word.TheVariants as w
use Rattle.ast.specs.declared.operator.Alias.{Alias}
use Rattle.ast.specs.declared.operator.Column.{Column}
use Rattle.ast.specs.declared.operator.Quantifier.{Quantifier}
use Rattle.ast.specs.declared.operator.SetOperator.{SetOperator}
use Rattle.ast.specs.declared.operator.SetOperator.TheVariants as set
use Rattle.ast.specs.declared.tree.Addend.{Addend, roll-Addend, out-Addend, roll-out-Addend}
use Rattle.ast.specs.declared.tree.Condition.{Condition}
use Rattle.ast.specs.declared.tree.Join.{Join, Join-F, roll-Join, out-Join, roll-out-Join}
use Rattle.ast.specs.declared.tree.Join.TheVariants.{rolls-Cross, rolls-Inner, rolls-Left}
use Rattle.ast.specs.declared.tree.Operand.{Operand, Operand-F, roll-Operand, out-Operand, roll-out-Operand}
use Rattle.ast.specs.declared.tree.Operand.TheVariants.{rolls-Select, rolls-Grouped}
use Rattle.ast.specs.declared.tree.Query.{Query, out-Query, roll-out-Query}
use Rattle.ast.specs.declared.tree.Select.{Select, roll-Select, out-Select, roll-out-Select}
use Rattle.ast.specs.declared.tree.SelectItem.{SelectItem, roll-SelectItem, out-SelectItem, roll-out-SelectItem}
use Rattle.ast.specs.declared.tree.TableReference.{TableReference, roll-TableReference, out-TableReference}
use Rattle.ast.specs.declared.tree.TableSource.{TableSource, TableSource-F, roll-TableSource, out-TableSource, roll-out-TableSource}
use Rattle.ast.specs.declared.tree.TableSource.TheVariants.{rolls-Table, rolls-Derived}
use Rattle.ast.specs.Layers.{JoinLayer, OperandLayer, TableSourceLayer}
use Rattle.ast.specs.Notation.{Tokens, Rule, ◌⨾◌, ◌⊳◌, Parenthesized, Maybe, Written, Many, Listed, MaybeListed}
use Rattle.ast.specs.Terminals.{IsAlias, IsColumn, IsName, IsQuantifier, IsSetOperator}
use Rattle.ast.specs.Expressions.{Chain, Nested, IsCondition}
use Rattle.ast.specs.Queries.{is_grouped_layer, is_lone, IsTableSource, IsTableSourceLayer, IsJoin, IsJoinLayer, IsTableReference, IsSelectItem, AreSelectItems, IsFilter, AreGroups, IsHaving, IsSelect, IsOperand, IsOperandLayer, IsAddend, IsQuery}
use Rattle.ast.specs.Words.{ALL, BY, FROM, GROUP, HAVING, INNER, INTERSECT, JOIN, LEFT, ON, SELECT, WHERE}
use Rattle.parse_expressions.specs.declared.clauses.Clauses.{Clauses}
use Rattle.parse_terminals.specs.Readers.{next_is, is_symbol, is_word, word, symbol, name, both, after, parenthesized, many, listed, optional, written}
use Rattle.parse_terminals.specs.ReadTerminals.{quantifier, set_operator, column, alias, may_alias, is_name, is_set_word, begins_query}
use Rattle.parse_expressions.specs.ReadExpressions.{Inner}
use Rattle.parse_statements.specs.ReadStatements.{opens_names}
use Rattle.parse_expressions.specs.ReadQueries.{begins_join, join_ahead, table_source, on, joined, crossed, left, inner_join, join, table_reference, select_item, select_items, filter, groups, having, clauses, tables, selected, select, operand, intersected, addend, united, query}
use Rattle.parser.specs.Shallow.{is_shallow}
use Rattle.parser.proofs.Steps.{not_word, not_symbol, no_symbol, word_again, symbol_again}
use Rattle.parser.proofs.Passes.{Passes, onward, one, no_longer, shallow_after, skip_past}
use Rattle.parser.proofs.Again.{Stops, never, nothing_stops, Again, widen, both_again, after_word_again, parenthesized_again, made_again, may_be_again, optional_again, maybe_again, maybe_listed_again, many_again, many_begins, Opened, opened_by_word, opened_by, chain_again, listed_again}
use Rattle.parser.proofs.Follow.{or, stops_left, stops_right, stops_both, expression_goes_on, condition_goes_on, alias_goes_on, join_goes_on, joins, reference_goes_on, clause_words, select_goes_on, query_goes_on, no_expression, no_query}
use Rattle.parser.proofs.AgainTerminals.{name_again, quantifier_again, set_operator_again, intersect_again, column_again, alias_again, may_alias_again, again_from, intersect_first, set_operator_first, no_intersect, no_set_operator, no_quantifier}
use Rattle.parser.proofs.AgainConditions.{condition_again}
use Rattle.parser.proofs.AgainExpressions.{Known, expression_again, expression_begins}

left_is_not_cross : (ts : Tokens) → word w.Cross (LEFT ∷ ts) ≡ None
unfolding word
left_is_not_cross ts = refl

-- ---- how rules are grouped, and what begins one that may be left out

front : {A B : Type 0} (t : Kind) (R : Rule A) (R' : Rule B) (ts : Tokens) (x : A × B) (rest : Tokens) → (t ⊳ R ⨾ R') ts x rest → (t ⊳ (R ⨾ R')) ts x rest
front t R R' ts x rest h = (h.1.0, h.1.1, (h.0, h.1.2, h.2))

maybe_begins : {A : Type 0} (v : Word) (R : Rule A) (p : Kind → Bool) → p (kind.Word v) ≡ false → (ts : Tokens) (x : Option A) (rest : Tokens)
    → Maybe (kind.Word v ⊳ R) ts x rest
    → Stops p rest → Stops p ts
maybe_begins v R p e ts None rest h stops = rw h stops
maybe_begins v R p e ts (Some x) rest h stops = rw h.1 e

maybe_listed_begins : {A : Type 0} (v : Word) (R : Rule (List A)) (p : Kind → Bool) → p (kind.Word v) ≡ false → (ts : Tokens) (x : List A) (rest : Tokens)
    → MaybeListed (kind.Word v ⊳ R) ts x rest → Stops p rest → Stops p ts
maybe_listed_begins v R p e ts [] rest h stops = rw h stops
maybe_listed_begins v R p e ts (x ∷ xs) rest h stops = rw h.1 e

taken : {t : Kind} {ts a rest : Tokens} → ts ≡ t ∷ a → Passes a rest → length rest < length ts
taken e p = let k = ap length e in let l = no_longer p in omega arith

-- ---- what stops the parts of a SELECT where it stops

stops_references : (ts : Tokens) → Stops select_goes_on ts → Stops (or (is_symbol s.Comma) reference_goes_on) ts
stops_references ts h = stops_right clause_words (or (is_symbol s.Comma) reference_goes_on) ts h

stops_condition : (ts : Tokens) → Stops select_goes_on ts → Stops condition_goes_on ts
stops_condition ts h = stops_right alias_goes_on condition_goes_on ts
    (stops_right joins join_goes_on ts (stops_right (is_symbol s.Comma) reference_goes_on ts (stops_references ts h)))

stops_filter : (ts : Tokens) → Stops select_goes_on ts → Stops (or (is_word w.Where) condition_goes_on) ts
stops_filter ts h = stops_both (is_word w.Where) condition_goes_on ts (not_word select_goes_on w.Where refl ts h) (stops_condition ts h)

stops_having : (ts : Tokens) → Stops select_goes_on ts → Stops (or (is_word w.Having) condition_goes_on) ts
stops_having ts h = stops_both (is_word w.Having) condition_goes_on ts (not_word select_goes_on w.Having refl ts h) (stops_condition ts h)

abbrev columns_go_on : Kind → Bool
columns_go_on = or (is_symbol s.Comma) (is_symbol s.Period)

stops_groups : (ts : Tokens) → Stops select_goes_on ts → Stops (or (is_word w.Group) columns_go_on) ts
stops_groups ts h = stops_both (is_word w.Group) columns_go_on ts (not_word select_goes_on w.Group refl ts h)
    (stops_both (is_symbol s.Comma) (is_symbol s.Period) ts (not_symbol select_goes_on s.Comma refl ts h) (not_symbol select_goes_on s.Period refl ts h))

abbrev addend_goes_on : Kind → Bool
addend_goes_on = or (is_word w.Intersect) select_goes_on

stops_addend : (ts : Tokens) → Stops query_goes_on ts → Stops addend_goes_on ts
stops_addend ts h = stops_both (is_word w.Intersect) select_goes_on ts (not_word query_goes_on w.Intersect refl ts h) (stops_right is_set_word select_goes_on ts h)

abbrev item_goes_on : Kind → Bool
item_goes_on = or alias_goes_on expression_goes_on

not_name : (ts : Tokens) → Stops no_query ts → next_is is_name ts ≡ false
not_name [] h = refl
not_name (kind.Name n ∷ ts) h = cc
not_name (_ ∷ ts) h = refl

alias_begins : (ts : Tokens) (x : Alias) (rest : Tokens) → IsAlias ts x rest → Stops expression_goes_on ts
alias_begins ts x rest h = alias_written ts x.has_as h.0 x.name rest h.1 h.2
  where
    alias_written : (ts : Tokens) (b : Bool) (mid : Tokens) (n : List ℕ) (rest : Tokens) → Written (kind.Word w.As) ts b mid → IsName mid n rest
        → Stops expression_goes_on ts
    alias_written ts true mid n rest h k = rw h refl
    alias_written ts false mid n rest h k = rw (h, k) refl

may_alias_begins : (ts : Tokens) (x : Option Alias) (rest : Tokens) → Maybe IsAlias ts x rest → Stops expression_goes_on rest → Stops expression_goes_on ts
may_alias_begins ts None rest h stops = rw h stops
may_alias_begins ts (Some x) rest h stops = alias_begins ts x rest h

set_operator_is : (ts : Tokens) (x : SetOperator) (rest : Tokens) → IsSetOperator ts x rest → next_is is_set_word ts ≡ true
set_operator_is ts set.Union rest h = rw h refl
set_operator_is ts set.UnionAll rest h = rw h refl
set_operator_is ts set.Except rest h = rw h refl
set_operator_is ts set.ExceptAll rest h = rw h refl

columns_again : {d : ℕ} → Again (List Column) d columns_go_on (listed column) (Listed IsColumn)
columns_again = listed_again columns_go_on column_again refl refl (stops_right (is_symbol s.Comma) (is_symbol s.Period))

may_quantify : {d : ℕ} (p : Kind → Bool) → p ALL ≡ true → p (kind.Word w.Distinct) ≡ true
    → Again (Option Quantifier) d p (optional quantifier) (Maybe IsQuantifier)
may_quantify p a b = optional_again p quantifier_again (no_quantifier p a b) (λ rest _. nothing_stops rest)

module _ (limit : Option ℕ) {d : ℕ} {I : Inner} {N : Nested} (known : Known d I N) where
  -- ---- tables

  named_again : Again (List ℕ × Option Alias) d alias_goes_on (both name may_alias) (IsName ⨾ Maybe IsAlias)
  named_again = both_again name_again may_alias_again (λ ts x rest h _. nothing_stops ts)

  derived_again : Again (Query × Alias) d alias_goes_on (both (parenthesized I.query) alias) (Parenthesized N.query ⨾ IsAlias)
  derived_again = widen alias_goes_on (λ rest _. nothing_stops rest) (both_again (parenthesized_again never known.query) alias_again (λ ts x rest h _. nothing_stops ts))

  source_passes : (ts : Tokens) (l : TableSourceLayer) (rest : Tokens) → IsTableSourceLayer limit N ts l rest → Passes ts rest
  source_passes ts (TableSource-F.Table x alias) rest h = named_again.passes ts (x, alias) rest h
  source_passes ts (TableSource-F.Derived query alias) rest h = derived_again.passes ts (query, alias) rest h

  source_at : (ts : Tokens) (l : TableSourceLayer) (rest : Tokens) → IsTableSourceLayer limit N ts l rest → is_shallow ts d ≡ true → Stops alias_goes_on rest
      → table_source limit I ts ≡ Some (roll-TableSource l, rest)
  unfolding table_source
  source_at ts (TableSource-F.Table x alias) rest h shallow stops =
      let named : next_is (is_symbol s.LeftParenthesis) ts ≡ false = rw h.1 refl in
      rw (named, named_again.at ts (x, alias) rest h shallow stops, rolls-Table) refl
  source_at ts (TableSource-F.Derived query alias) rest h shallow stops =
      let opens : next_is (is_symbol s.LeftParenthesis) ts ≡ true = rw h.1.1 refl in
      rw (opens, derived_again.at ts (query, alias) rest h shallow stops, rolls-Derived) refl

  source_again : Again TableSource d alias_goes_on (table_source limit I) (IsTableSource limit N)
  source_again = record {
    passes = λ ts x rest h. source_passes ts (out-TableSource x) rest h.is;
    at = λ ts x rest h shallow stops. source_at ts (out-TableSource x) rest h.is shallow stops ∙ ap (λ y. Some (y, rest)) (roll-out-TableSource x);
  }

  on_again : Again Condition d condition_goes_on (on limit I) (ON ⊳ IsCondition limit N)
  unfolding on
  on_again = after_word_again w.On (condition_again limit known)

  joined_again : Again (TableSource × Condition) d condition_goes_on (joined limit I) (JOIN ⊳ IsTableSource limit N ⨾ ON ⊳ IsCondition limit N)
  unfolding joined
  joined_again = again_from (JOIN ⊳ IsTableSource limit N ⨾ ON ⊳ IsCondition limit N)
      (after_word_again w.Join (both_again source_again on_again (λ ts x rest h _. rw h.1 refl)))
      (front JOIN (IsTableSource limit N) (ON ⊳ IsCondition limit N))

  -- what may be written before JOIN
  written_joined : (v : Word) → is_word v JOIN ≡ false → Again (Bool × (TableSource × Condition)) d condition_goes_on (both (written v) (joined limit I))
      (Written (kind.Word v) ⨾ JOIN ⊳ IsTableSource limit N ⨾ ON ⊳ IsCondition limit N)
  written_joined v e = both_again (may_be_again v) joined_again (λ ts x rest h _. subst (Stops (is_word v)) (flip h.1.1) e)

  crossed_again : Again TableSource d alias_goes_on (after (word w.Join) (table_source limit I)) (JOIN ⊳ IsTableSource limit N)
  crossed_again = after_word_again w.Join source_again

  -- a join, by how it begins
  abbrev Begins : Tokens → Tokens → Type 0
  Begins ts rest = (begins_join ts ≡ true) × Stops join_goes_on ts × Passes ts rest × (length rest < length ts)

  inner_begins : (ts : Tokens) (b : Bool) (mid rest : Tokens) (x : TableSource × Condition) → Written INNER ts b mid
      → (JOIN ⊳ IsTableSource limit N ⨾ ON ⊳ IsCondition limit N) mid x rest
      → (begins_join ts ≡ true) × Stops join_goes_on ts × (word w.Cross ts ≡ None) × (word w.Left ts ≡ None)
  unfolding word
  inner_begins ts true mid rest x h k = rw h (refl, refl, refl, refl)
  inner_begins ts false mid rest x h k = rw (h, k.1.1) (refl, refl, refl, refl)

  inner_shorter : (ts : Tokens) (b : Bool) (mid rest : Tokens) (x : TableSource × Condition) → Written INNER ts b mid
      → (JOIN ⊳ IsTableSource limit N ⨾ ON ⊳ IsCondition limit N) mid x rest
      → length rest < length ts
  inner_shorter ts true mid rest x h k = taken h (joined_again.passes mid x rest k)
  inner_shorter ts false mid rest x h k = rw h (taken k.1.1 (onward (source_again.passes k.1.0 x.0 k.0 k.1.2) (on_again.passes k.0 x.1 rest k.2)))

  join_begins : (ts : Tokens) (l : JoinLayer) (rest : Tokens) → IsJoinLayer limit N ts l rest → Begins ts rest
  join_begins ts (Join-F.Cross x) rest h =
      let p = crossed_again.passes h.0 x rest h.2 in
      (rw h.1 refl, rw h.1 refl, onward (one refl refl h.1) p, taken h.1 p)
  join_begins ts (Join-F.Inner b x c) rest h =
      let i = inner_begins ts b h.0 rest (x, c) h.1 h.2 in
      (i.0, i.1, (written_joined w.Inner refl).passes ts (b, (x, c)) rest h, inner_shorter ts b h.0 rest (x, c) h.1 h.2)
  join_begins ts (Join-F.Left b x c) rest h =
      let p = (written_joined w.Outer refl).passes h.1.0 (b, (x, c)) rest (h.0, h.1.2, h.2) in
      (rw h.1.1 refl, rw h.1.1 refl, onward (one refl refl h.1.1) p, taken h.1.1 p)

  join_at : (ts : Tokens) (l : JoinLayer) (rest : Tokens) → IsJoinLayer limit N ts l rest → is_shallow ts d ≡ true → Stops join_goes_on rest
      → join limit I ts ≡ Some (roll-Join l, rest)
  unfolding join crossed left inner_join
  join_at ts (Join-F.Cross x) rest h shallow stops =
      let read = crossed_again.at h.0 x rest h.2 (shallow_after (one refl refl h.1) d shallow) (stops_left alias_goes_on condition_goes_on rest stops) in
      let first : word w.Cross ts ≡ Some (tt, h.0) = rw h.1 (word_again w.Cross h.0) in
      rw (first, read, rolls-Cross) refl
  join_at ts (Join-F.Inner b x c) rest h shallow stops =
      let i = inner_begins ts b h.0 rest (x, c) h.1 h.2 in
      let read = (written_joined w.Inner refl).at ts (b, (x, c)) rest h shallow (stops_right alias_goes_on condition_goes_on rest stops) in
      rw (i.2, i.3, read, rolls-Inner) refl
  join_at ts (Join-F.Left b x c) rest h shallow stops =
      let read = (written_joined w.Outer refl).at h.1.0 (b, (x, c)) rest (h.0, h.1.2, h.2) (shallow_after (one refl refl h.1.1) d shallow)
      (stops_right alias_goes_on condition_goes_on rest stops) in
      let none : word w.Cross ts ≡ None = rw h.1.1 (left_is_not_cross h.1.0) in
      let first : word w.Left ts ≡ Some (tt, h.1.0) = rw h.1.1 (word_again w.Left h.1.0) in
      rw (none, first, read, rolls-Left) refl

  join_again : Again Join d join_goes_on (join limit I) (IsJoin limit N)
  join_again = record {
    passes = λ ts x rest h. (join_begins ts (out-Join x) rest h.is).2;
    at = λ ts x rest h shallow stops. join_at ts (out-Join x) rest h.is shallow stops ∙ ap (λ y. Some (y, rest)) (roll-out-Join x);
  }

  joins_opened : Opened (Unit {0}) Join d join_goes_on reference_goes_on join_ahead (λ _. join limit I) (IsJoin limit N)
  joins_opened = record {
    passes = join_again.passes;
    at = λ ts x rest h shallow stops. ((tt, ts), rw (join_begins ts (out-Join x) rest h.is).0 refl, join_again.at ts x rest h shallow stops);
    begins = λ ts x rest h. (join_begins ts (out-Join x) rest h.is).1;
    shorter = λ ts x rest h. (join_begins ts (out-Join x) rest h.is).3;
    absent = λ rest h.
        let no_cross = not_word reference_goes_on w.Cross refl rest h in
        let no_inner = not_word reference_goes_on w.Inner refl rest h in
        let no_join = not_word reference_goes_on w.Join refl rest h in
        let no_left = not_word reference_goes_on w.Left refl rest h in
        rw (no_cross, no_inner, no_join, no_left) refl;
    weaker = stops_right joins join_goes_on;
  }

  reference_again : Again TableReference d reference_goes_on (table_reference limit I) (IsTableReference limit N)
  unfolding table_reference
  reference_again = made_again (λ x. roll-TableReference (record { first = x.0; joins = x.1 })) (λ y. ((out-TableReference y).first, (out-TableReference y).joins))
      (both_again source_again (many_again joins_opened)
      (λ ts xs rest h stops. stops_left alias_goes_on condition_goes_on ts (many_begins None joins_opened xs ts rest h stops)))
      (λ ts x rest h. h.is) (λ x. refl)

  references_again : Again (List TableReference) d (or (is_symbol s.Comma) reference_goes_on) (listed (table_reference limit I)) (Listed (IsTableReference limit N))
  references_again = listed_again (or (is_symbol s.Comma) reference_goes_on) reference_again refl refl (stops_right (is_symbol s.Comma) reference_goes_on)

  -- ---- what is selected

  item_again : Again SelectItem d item_goes_on (select_item limit I) (IsSelectItem limit N)
  unfolding select_item
  item_again = made_again (λ x. roll-SelectItem (record { value = x.0; alias = x.1 })) (λ y. ((out-SelectItem y).value, (out-SelectItem y).alias))
      (both_again (expression_again limit known) (widen item_goes_on (stops_left alias_goes_on expression_goes_on) may_alias_again)
      (λ ts x rest h stops. may_alias_begins ts x rest h (stops_right alias_goes_on expression_goes_on rest stops)))
      (λ ts x rest h. h.is) (λ x. roll-out-SelectItem x)

  abbrev items_go_on : Kind → Bool
  items_go_on = or (is_symbol s.Comma) item_goes_on

  listed_items : Again (List SelectItem) d items_go_on (listed (select_item limit I)) (Listed (IsSelectItem limit N))
  listed_items = listed_again items_go_on item_again refl refl (stops_right (is_symbol s.Comma) item_goes_on)

  items_begin : (ts : Tokens) (xs : List SelectItem) (rest : Tokens) → Listed (IsSelectItem limit N) ts xs rest → Stops no_expression ts
  items_begin ts [] rest h = absurd h
  items_begin ts (x ∷ xs) rest h = (expression_begins limit known ts (out-SelectItem x).value h.1.is.0 h.1.is.1).0

  items_passes : (ts : Tokens) (x : Option (List SelectItem)) (rest : Tokens) → AreSelectItems limit N ts x rest → Passes ts rest
  items_passes ts None rest h = one refl refl h
  items_passes ts (Some xs) rest h = listed_items.passes ts xs rest h

  items_at : (ts : Tokens) (x : Option (List SelectItem)) (rest : Tokens) → AreSelectItems limit N ts x rest → is_shallow ts d ≡ true → Stops items_go_on rest
      → select_items limit I ts ≡ Some (x, rest)
  unfolding select_items
  items_at ts None rest h shallow stops =
      let all : symbol s.Asterisk ts ≡ Some (tt, rest) = rw h (symbol_again s.Asterisk rest) in
      rw all refl
  items_at ts (Some xs) rest h shallow stops =
      rw (no_symbol no_expression s.Asterisk refl ts (items_begin ts xs rest h), listed_items.at ts xs rest h shallow stops) refl

  items_again : Again (Option (List SelectItem)) d items_go_on (select_items limit I) (AreSelectItems limit N)
  items_again = record { passes = items_passes; at = items_at }

  -- ---- the clauses

  filter_again : Again (Option Condition) d (or (is_word w.Where) condition_goes_on) (filter limit I) (IsFilter limit N)
  unfolding filter
  filter_again = maybe_again (opened_by_word w.Where (or (is_word w.Where) condition_goes_on) (condition_again limit known) refl refl
      (stops_right (is_word w.Where) condition_goes_on))

  groups_again : Again (List Column) d (or (is_word w.Group) columns_go_on) (groups limit I) (AreGroups limit N)
  unfolding groups
  groups_again = maybe_listed_again (opened_by_word w.Group (or (is_word w.Group) columns_go_on) (after_word_again w.By columns_again) refl refl
      (stops_right (is_word w.Group) columns_go_on))

  having_again : Again (Option Condition) d (or (is_word w.Having) condition_goes_on) (having limit I) (IsHaving limit N)
  unfolding having
  having_again = maybe_again (opened_by_word w.Having (or (is_word w.Having) condition_goes_on) (condition_again limit known) refl refl
      (stops_right (is_word w.Having) condition_goes_on))

  abbrev IsClauses : Rule Clauses
  IsClauses ts x rest = (IsFilter limit N ⨾ AreGroups limit N ⨾ IsHaving limit N) ts (x.filter, (x.groups, x.having)) rest

  having_begins : (p : Kind → Bool) → p HAVING ≡ false → (ts : Tokens) (x : Option Condition) (rest : Tokens) → IsHaving limit N ts x rest → Stops p rest
      → Stops p ts
  having_begins p e = maybe_begins w.Having (IsCondition limit N) p e

  grouped_begins : (p : Kind → Bool) → p GROUP ≡ false → p HAVING ≡ false → (ts : Tokens) (x : List Column × Option Condition) (rest : Tokens)
      → (AreGroups limit N ⨾ IsHaving limit N) ts x rest
      → Stops p rest → Stops p ts
  grouped_begins p e f ts x rest h stops = maybe_listed_begins w.Group (BY ⊳ Listed IsColumn) p e ts x.0 h.0 h.1 (having_begins p f h.0 x.1 rest h.2 stops)

  clauses_begin : (p : Kind → Bool) → p WHERE ≡ false → p GROUP ≡ false → p HAVING ≡ false → (ts : Tokens) (x : Clauses) (rest : Tokens)
      → IsClauses ts x rest → Stops p rest → Stops p ts
  clauses_begin p e f g ts x rest h stops = maybe_begins w.Where (IsCondition limit N) p e ts x.filter h.0 h.1
      (grouped_begins p f g h.0 (x.groups, x.having) rest h.2 stops)

  clauses_again : Again Clauses d select_goes_on (clauses limit I) IsClauses
  unfolding clauses
  clauses_again = made_again (λ x. record { filter = x.0; groups = x.1.0; having = x.1.1 }) (λ y. (y.filter, (y.groups, y.having)))
      (both_again filter_again
      (both_again groups_again (widen select_goes_on stops_having having_again)
      (λ ts x rest h stops. having_begins (or (is_word w.Group) columns_go_on) refl ts x rest h (stops_groups rest stops)))
      (λ ts x rest h stops. grouped_begins (or (is_word w.Where) condition_goes_on) refl refl ts x rest h (stops_filter rest stops)))
      (λ ts x rest h. h) (λ x. refl)

  tables_again : Again (List TableReference × Clauses) d select_goes_on (tables limit I) (Listed (IsTableReference limit N) ⨾ IsClauses)
  unfolding tables
  tables_again = both_again references_again clauses_again
      (λ ts x rest h stops. clauses_begin (or (is_symbol s.Comma) reference_goes_on) refl refl refl ts x rest h (stops_references rest stops))

  selected_again : Again (Option (List SelectItem) × (List TableReference × Clauses)) d select_goes_on (selected limit I)
      (AreSelectItems limit N ⨾ FROM ⊳ (Listed (IsTableReference limit N) ⨾ IsClauses))
  unfolding selected
  selected_again = both_again items_again (after_word_again w.From tables_again) (λ ts x rest h _. rw h.1 refl)

  -- what begins neither an item nor the * of a SELECT
  abbrev no_item : Kind → Bool
  no_item (kind.Symbol s.Asterisk) = false
  no_item t = no_expression t

  expression_no_item : (ts : Tokens) → Stops no_expression ts → Stops no_item ts
  expression_no_item [] h = refl
  expression_no_item (kind.Symbol s.Asterisk ∷ ts) h = refl
  expression_no_item (kind.Symbol _ ∷ ts) h = h
  expression_no_item (_ ∷ ts) h = h

  selected_begins : (ts : Tokens) (x : Option (List SelectItem)) (rest : Tokens) → AreSelectItems limit N ts x rest → Stops no_item ts
  selected_begins ts None rest h = rw h refl
  selected_begins ts (Some xs) rest h = expression_no_item ts (items_begin ts xs rest h)

  abbrev Parts : Type 0
  Parts = Option Quantifier × (Option (List SelectItem) × (List TableReference × Clauses))

  abbrev parts_of : Select → Parts
  parts_of y = (
    (out-Select y).quantifier,
    (
      (out-Select y).items,
      (
        (out-Select y).from,
        record { filter = (out-Select y).filter; groups = (out-Select y).groups; having = (out-Select y).having },
      ),
    ),
  )

  select_parts : Again Parts d select_goes_on (after (word w.Select) (both (optional quantifier) (selected limit I)))
      (SELECT ⊳ (Maybe IsQuantifier ⨾ AreSelectItems limit N ⨾ FROM ⊳ (Listed (IsTableReference limit N) ⨾ IsClauses)))
  select_parts = after_word_again w.Select (both_again (may_quantify no_item refl refl) selected_again (λ ts x rest h _. selected_begins ts x.0 h.0 h.1))

  select_again : Again Select d select_goes_on (select limit I) (IsSelect limit N)
  unfolding select
  select_again = made_again
      (λ x. roll-Select (record { quantifier = x.0; items = x.1.0; from = x.1.1.0; filter = x.1.1.1.filter; groups = x.1.1.1.groups; having = x.1.1.1.having }))
      parts_of select_parts
      (λ ts x rest h. let k = h.is in (k.1.0, k.1.1, (k.0, k.1.2, (k.2.0, k.2.1, (k.2.2.1.0, k.2.2.1.1, (k.2.2.0, k.2.2.1.2, k.2.2.2))))))
      (λ x. roll-out-Select x)

  -- ---- operands and what is made of them

  operand_passes : (ts : Tokens) (l : OperandLayer) (rest : Tokens) → IsOperandLayer limit N ts l rest → Passes ts rest
  operand_passes ts (Operand-F.Select x) rest h = select_again.passes ts x rest h
  operand_passes ts (Operand-F.Grouped x) rest h = (parenthesized_again never known.query).passes ts x rest h

  operand_at : (ts : Tokens) (l : OperandLayer) (rest : Tokens) → IsOperandLayer limit N ts l rest → is_shallow ts d ≡ true → Stops select_goes_on rest
      → operand limit I ts ≡ Some (roll-Operand l, rest)
  unfolding operand
  operand_at ts (Operand-F.Select x) rest h shallow stops =
      let no : next_is (is_symbol s.LeftParenthesis) ts ≡ false = rw h.is.1.1 refl in
      rw (no, select_again.at ts x rest h shallow stops, rolls-Select) refl
  operand_at ts (Operand-F.Grouped x) rest h shallow stops =
      let yes : next_is (is_symbol s.LeftParenthesis) ts ≡ true = rw h.1 refl in
      rw (yes, (parenthesized_again never known.query).at ts x rest h shallow (nothing_stops rest), rolls-Grouped) refl

  operand_again : Again Operand d select_goes_on (operand limit I) (IsOperand limit N)
  operand_again = record {
    passes = λ ts x rest h. operand_passes ts (out-Operand x) rest h.is;
    at = λ ts x rest h shallow stops. operand_at ts (out-Operand x) rest h.is shallow stops ∙ ap (λ y. Some (y, rest)) (roll-out-Operand x);
  }

  operand_begins : (ts : Tokens) (l : OperandLayer) (rest : Tokens) → IsOperandLayer limit N ts l rest → Stops no_query ts
  operand_begins ts (Operand-F.Select x) rest h = rw h.is.1.1 refl
  operand_begins ts (Operand-F.Grouped x) rest h = rw h.1 refl

  addend_begins : (ts : Tokens) (x : Addend) (rest : Tokens) → IsAddend limit N ts x rest → Stops no_query ts
  addend_begins ts x rest h = operand_begins ts (out-Operand (out-Addend x).first) h.is.0.0 h.is.0.1.is

  addend_again : Again Addend d addend_goes_on (addend limit I) (IsAddend limit N)
  unfolding addend intersected
  addend_again = made_again (λ x. roll-Addend (record { first = x.0; others = x.1 })) (λ y. ((out-Addend y).first, (out-Addend y).others))
      (chain_again limit operand_again
      (opened_by addend_goes_on intersect_again (λ o ts. refl) operand_again
      (λ ts x rest h. not_word no_query w.All refl ts (operand_begins ts (out-Operand x) rest h.is))
      (intersect_first select_goes_on refl) (no_intersect addend_goes_on refl) (stops_right (is_word w.Intersect) select_goes_on)))
      (λ ts x rest h. h.is) (λ x. roll-out-Addend x)

  chain_of_addends : Again (Addend × List (SetOperator × Addend)) d query_goes_on (both (addend limit I) (many limit set_operator (united limit I) []))
      (Chain limit (IsAddend limit N) (IsSetOperator ⨾ IsAddend limit N))
  unfolding united
  chain_of_addends = chain_again limit addend_again
      (opened_by query_goes_on set_operator_again (λ o ts. refl) addend_again (λ ts x rest h. not_word no_query w.All refl ts (addend_begins ts x rest h))
      (set_operator_first addend_goes_on refl refl) (no_set_operator query_goes_on refl refl) stops_addend)

  pub query_again : Again Query d query_goes_on (query limit I) (IsQuery limit N)
  unfolding query
  query_again = record {
    passes = λ ts x rest h. chain_of_addends.passes ts ((out-Query x).first, (out-Query x).others) rest h.is;
    at = λ ts x rest h shallow stops.
        rw (chain_of_addends.at ts ((out-Query x).first, (out-Query x).others) rest h.is shallow stops, h.not_lone) (ap (λ y. Some (y, rest)) (roll-out-Query x));
  }

  -- ---- how a query begins

  pub query_begins : (ts : Tokens) (x : Query) (rest : Tokens) → IsQuery limit N ts x rest → Stops no_query ts
  query_begins ts x rest h = addend_begins ts (out-Query x).first h.is.0.0 h.is.0.1

  operand_names : (ts : Tokens) (l : OperandLayer) (rest : Tokens) → IsOperandLayer limit N ts l rest → opens_names ts ≡ false
  operand_names ts (Operand-F.Select x) rest h = rw h.is.1.1 refl
  operand_names ts (Operand-F.Grouped x) rest h = rw h.1 (not_name h.0 (known.query_begins h.0 x _ h.2))

  pub query_names : (ts : Tokens) (x : Query) (rest : Tokens) → IsQuery limit N ts x rest → opens_names ts ≡ false
  query_names ts x rest h =
      let a = h.is.0.1.is in
      operand_names ts (out-Operand (out-Addend (out-Query x).first).first) a.0.0 a.0.1.is

  -- behind a query in parentheses stands a set operator, where it is not the whole query
  operator_follows : (x : Operand) (xs : List (Bool × Operand)) (ys : List (SetOperator × Addend)) (ts mid rest : Tokens)
      → Many (INTERSECT ⊳ Written ALL ⨾ IsOperand limit N) ts xs mid → Many (IsSetOperator ⨾ IsAddend limit N) mid ys rest
      → is_grouped_layer (out-Operand x) ≡ true → is_lone x xs ys ≡ false → next_is is_set_word ts ≡ true
  operator_follows x (z ∷ xs) ys ts mid rest h k grouped more = rw h.1.1.1 refl
  operator_follows x [] (z ∷ ys) ts mid rest h k grouped more = rw h (set_operator_is mid z.0 k.1.0 k.1.1)
  operator_follows x [] [] ts mid rest h k grouped more = absurd (cc)

  first_is_query : (ts : Tokens) (l : OperandLayer) (mid : Tokens) → IsOperandLayer limit N ts l mid
      → (is_grouped_layer l ≡ true → next_is is_set_word mid ≡ true) → begins_query ts ≡ true
  first_is_query ts (Operand-F.Select x) mid h follows = rw h.is.1.1 refl
  first_is_query ts (Operand-F.Grouped x) mid h follows = rw (h.1, skip_past (known.query.passes h.0 x _ h.2) 0) (follows refl)

  pub query_is_one : (ts : Tokens) (x : Query) (rest : Tokens) → IsQuery limit N ts x rest → begins_query ts ≡ true
  query_is_one ts x rest h =
      let a = h.is.0.1.is in
      let first = (out-Addend (out-Query x).first).first in
      first_is_query ts (out-Operand first) a.0.0 a.0.1.is
      (λ grouped. operator_follows first (out-Addend (out-Query x).first).others (out-Query x).others a.0.0 h.is.0.0 rest a.0.2 h.is.0.2 grouped h.not_lone)
