-- How the parts that hold no other part are read.
use Rattle.std.specs.Prelude.{ℕ, Bool, true, false, ◌||◌, ◌&&◌, if◌then◌else◌, List, ◌∷◌, Option, Some, None}
use Rattle.lexer.specs.declared.kinds.Kind.{Kind}
use Rattle.lexer.specs.declared.kinds.Kind.TheVariants as kind
use Rattle.lexer.specs.declared.kinds.Symbol.TheVariants as s
use Rattle.lexer.specs.declared.words.Word.TheVariants as w
use Rattle.ast.specs.declared.operator.AddOperator.{AddOperator}
use Rattle.ast.specs.declared.operator.AddOperator.TheVariants as add
use Rattle.ast.specs.declared.operator.Alias.{Alias}
use Rattle.ast.specs.declared.operator.Column.{Column}
use Rattle.ast.specs.declared.operator.Comparison.{Comparison}
use Rattle.ast.specs.declared.operator.Comparison.TheVariants as cmp
use Rattle.ast.specs.declared.operator.Direction.{Direction}
use Rattle.ast.specs.declared.operator.Direction.TheVariants as direction_of
use Rattle.ast.specs.declared.operator.Literal.{Literal}
use Rattle.ast.specs.declared.operator.Literal.TheVariants as literal_of
use Rattle.ast.specs.declared.operator.MultiplyOperator.{MultiplyOperator}
use Rattle.ast.specs.declared.operator.MultiplyOperator.TheVariants as multiply
use Rattle.ast.specs.declared.operator.Quantifier.{Quantifier}
use Rattle.ast.specs.declared.operator.Quantifier.TheVariants as quantifier_of
use Rattle.ast.specs.declared.operator.SetFunction.{SetFunction}
use Rattle.ast.specs.declared.operator.SetFunction.TheVariants as function
use Rattle.ast.specs.declared.operator.SetOperator.{SetOperator}
use Rattle.ast.specs.declared.operator.SetOperator.TheVariants as set
use Rattle.ast.specs.declared.operator.Sign.{Sign}
use Rattle.ast.specs.declared.operator.Sign.TheVariants as sign_of
use Rattle.ast.specs.declared.operator.TruthTest.{TruthTest}
use Rattle.ast.specs.declared.operator.TruthValue.{TruthValue}
use Rattle.ast.specs.declared.operator.TruthValue.TheVariants as truth
use Rattle.ast.specs.declared.statement.SortColumn.{SortColumn}
use Rattle.ast.specs.declared.statement.SortColumn.TheVariants as sort_column_of
use Rattle.ast.specs.declared.statement.SortKey.{SortKey}
use Rattle.ast.specs.Notation.{Tokens}
use Rattle.parse_terminals.specs.Readers.{Reader, ◌>>=◌, if_next, is_word, is_symbol, next_is, rest_of, skip, word, symbol, name, number, both, after, made, optional, maybe, written, eat_word}

abbrev pub add_operator : Reader AddOperator
add_operator ts = if_next (symbol s.Plus ts)
    (if_next (symbol s.Minus ts)
    (if_next (symbol s.Concatenation ts) None (λ o. Some (add.Concatenate, o.1)))
    (λ o. Some (add.Minus, o.1)))
    (λ o. Some (add.Plus, o.1))

abbrev pub multiply_operator : Reader MultiplyOperator
multiply_operator ts = if_next (symbol s.Asterisk ts)
    (if_next (symbol s.Solidus ts) None (λ o. Some (multiply.Divide, o.1)))
    (λ o. Some (multiply.Times, o.1))

abbrev pub sign : Reader Sign
sign ts = if_next (symbol s.Plus ts)
    (if_next (symbol s.Minus ts) None (λ o. Some (sign_of.Minus, o.1)))
    (λ o. Some (sign_of.Plus, o.1))

-- the comparisons that begin with <
abbrev pub less : Reader Comparison
less ts = if_next (symbol s.NotEqual ts)
    (if_next (symbol s.Less ts)
    (if_next (symbol s.LessOrEqual ts) None (λ o. Some (cmp.LessOrEqual, o.1)))
    (λ o. Some (cmp.Less, o.1)))
    (λ o. Some (cmp.NotEqual, o.1))

-- the others
abbrev pub not_less : Reader Comparison
not_less ts = if_next (symbol s.Equal ts)
    (if_next (symbol s.Greater ts)
    (if_next (symbol s.GreaterOrEqual ts) None (λ o. Some (cmp.GreaterOrEqual, o.1)))
    (λ o. Some (cmp.Greater, o.1)))
    (λ o. Some (cmp.Equal, o.1))

unfoldable pub comparison : Reader Comparison
comparison ts = if_next (not_less ts) (less ts) (λ o. Some o)

abbrev pub quantifier : Reader Quantifier
quantifier ts = if_next (word w.All ts)
    (if_next (word w.Distinct ts) None (λ o. Some (quantifier_of.Distinct, o.1)))
    (λ o. Some (quantifier_of.All, o.1))

-- MIN | MAX
abbrev pub extreme : Reader SetFunction
extreme ts = if_next (word w.Min ts)
    (if_next (word w.Max ts) None (λ o. Some (function.Max, o.1)))
    (λ o. Some (function.Min, o.1))

-- COUNT | SUM | AVG
abbrev pub count_or_sum : Reader SetFunction
count_or_sum ts = if_next (word w.Count ts)
    (if_next (word w.Sum ts)
    (if_next (word w.Avg ts) None (λ o. Some (function.Avg, o.1)))
    (λ o. Some (function.Sum, o.1)))
    (λ o. Some (function.Count, o.1))

unfoldable pub set_function : Reader SetFunction
set_function ts = if_next (count_or_sum ts) (extreme ts) (λ o. Some o)

-- COUNT ( * )
unfoldable pub count_rows : Reader (Unit {0})
count_rows = after (word w.Count) (after (symbol s.LeftParenthesis) (after (symbol s.Asterisk) (symbol s.RightParenthesis)))

abbrev pub set_operator : Reader SetOperator
set_operator ts = if_next (word w.Union ts)
    (if_next (word w.Except ts) None
    (λ o. Some (if (eat_word w.All o.1).0 then set.ExceptAll else set.Except, (eat_word w.All o.1).1)))
    (λ o. Some (if (eat_word w.All o.1).0 then set.UnionAll else set.Union, (eat_word w.All o.1).1))

-- INTERSECT [ALL]
abbrev pub intersect : Reader Bool
intersect ts = if_next (word w.Intersect ts) None (λ o. Some (eat_word w.All o.1))

abbrev pub truth_value : Reader TruthValue
truth_value ts = if_next (word w.True ts)
    (if_next (word w.False ts)
    (if_next (word w.Unknown ts) None (λ o. Some (truth.Unknown, o.1)))
    (λ o. Some (truth.False, o.1)))
    (λ o. Some (truth.True, o.1))

-- [IS [NOT] (TRUE | FALSE | UNKNOWN)]
unfoldable pub truth_test : Reader (Option TruthTest)
truth_test = maybe (word w.Is) (λ _. made (λ x. record { is_negated = x.0; value = x.1 }) (both (written w.Not) truth_value))

abbrev pub string : Reader (List ℕ)
string (kind.Text x ∷ ts) = Some (x, ts)
string _ = None

abbrev pub is_string : Kind → Bool
is_string (kind.Text _) = true
is_string _ = false

abbrev pub is_name : Kind → Bool
is_name (kind.Name _) = true
is_name _ = false

abbrev pub is_number : Kind → Bool
is_number (kind.Number _) = true
is_number _ = false

unfoldable pub literal : Reader Literal
literal ts = if next_is is_string ts then made literal_of.Text string ts
    else made (λ x. literal_of.Number x.0 x.1) (both (optional sign) number) ts

-- a name, or two with a period between them
unfoldable pub column : Reader Column
column ts = name ts >>= (λ x. if_next (symbol s.Period x.1)
    (Some (record { table = None; name = x.0 }, x.1))
    (λ o. made (λ y. record { table = Some x.0; name = y }) name o.1))

-- [AS] name
unfoldable pub alias : Reader Alias
alias = made (λ x. record { has_as = x.0; name = x.1 }) (both (written w.As) name)

-- whether [AS] name comes next
abbrev pub begins_alias : Tokens → Bool
begins_alias ts = next_is (is_word w.As) ts || next_is is_name ts

-- [[AS] name]
unfoldable pub may_alias : Reader (Option Alias)
may_alias ts = if begins_alias ts then made Some alias ts else Some (None, ts)

-- ---- sort keys

unfoldable pub sort_column : Reader SortColumn
sort_column ts = if next_is is_number ts then made sort_column_of.Position number ts else made sort_column_of.Named name ts

abbrev pub direction : Reader Direction
direction ts = if_next (word w.Asc ts)
    (if_next (word w.Desc ts) None (λ o. Some (direction_of.Descending, o.1)))
    (λ o. Some (direction_of.Ascending, o.1))

unfoldable pub sort_key : Reader SortKey
sort_key = made (λ x. record { column = x.0; direction = x.1 }) (both sort_column (optional direction))

-- ---- decisions by the tokens ahead

abbrev pub is_set_word : Kind → Bool
is_set_word t = is_word w.Union t || (is_word w.Except t || is_word w.Intersect t)

-- Behind a left parenthesis: whether a query follows, and no expression. That is so at SELECT, and
-- at a parenthesis behind whose end a set operator stands.
abbrev pub begins_query : Tokens → Bool
begins_query ts = next_is (is_word w.Select) ts || (next_is (is_symbol s.LeftParenthesis) ts && next_is is_set_word (skip (rest_of ts) 0))

unfoldable pub opens_query : Tokens → Bool
opens_query ts = begins_query (rest_of ts)

-- after IN: whether a query stands in the parentheses, and no list
unfoldable pub opens_subquery : Tokens → Bool
opens_subquery ts = next_is (is_word w.Select) (rest_of ts) || next_is (is_symbol s.LeftParenthesis) (rest_of ts)

-- whether an operator or a comparison stands here
abbrev pub is_operator : Kind → Bool
is_operator (kind.Symbol s.LeftParenthesis) = false
is_operator (kind.Symbol s.RightParenthesis) = false
is_operator (kind.Symbol s.Comma) = false
is_operator (kind.Symbol s.Period) = false
is_operator (kind.Symbol s.Semicolon) = false
is_operator (kind.Symbol _) = true
is_operator _ = false

-- whether a word stands here that goes on with a predicate after its first operand
abbrev pub is_predicate_word : Kind → Bool
is_predicate_word t = is_word w.Not t || (is_word w.Between t || (is_word w.In t || is_word w.Like t))

-- IS [NOT] NULL
abbrev pub begins_null_test : Tokens → Bool
begins_null_test ts = next_is (is_word w.Is) ts && next_is (is_word w.Null) (eat_word w.Not (rest_of ts)).1

-- whether these tokens go on with an expression, or with a predicate after its first operand
unfoldable pub goes_on : Tokens → Bool
goes_on ts = next_is is_operator ts || (next_is is_predicate_word ts || begins_null_test ts)

-- whether a condition in parentheses comes next
unfoldable pub opens_condition : Tokens → Bool
opens_condition ts = if next_is (is_symbol s.LeftParenthesis) ts then (if goes_on (skip (rest_of ts) 0) then false else true) else false
