-- Which tokens go on with a part of the grammar, which begin none, and what the rules of statements
-- need of those inside.
use Rattle.std.proofs.Common.{◌≡◌, ℕ, Bool, true, false, [], ◌∷◌, refl}
use Rattle.std.specs.Prelude.{◌||◌}
use Rattle.std.proofs.lemmas.Bool.{or_from, or_parts}
use Rattle.lexer.specs.declared.kinds.Kind.{Kind}
use Rattle.lexer.specs.declared.kinds.Kind.TheVariants as kind
use Rattle.lexer.specs.declared.kinds.Symbol.TheVariants as s
use Rattle.lexer.specs.declared.words.Word.TheVariants as w
use Rattle.ast.specs.Notation.{Tokens}
use Rattle.ast.specs.Words.{SEMICOLON}
use Rattle.ast.specs.declared.tree.Condition.{Condition}
use Rattle.ast.specs.declared.tree.Expression.{Expression}
use Rattle.ast.specs.declared.tree.Query.{Query}
use Rattle.ast.specs.Expressions.{Nested}
use Rattle.parse_terminals.specs.Readers.{is_word, is_symbol}
use Rattle.parse_terminals.specs.ReadTerminals.{is_name, is_operator, is_predicate_word, is_set_word}
use Rattle.parse_expressions.specs.ReadExpressions.{Inner}
use Rattle.parse_statements.specs.ReadStatements.{opens_names}
use Rattle.parser.proofs.Again.{Stops, Again}

-- the tokens of one set and those of another
abbrev pub or : (Kind → Bool) → (Kind → Bool) → Kind → Bool
or p q t = p t || q t

pub stops_left : (p q : Kind → Bool) (ts : Tokens) → Stops (or p q) ts → Stops p ts
stops_left p q [] h = refl
stops_left p q (t ∷ ts) h = (or_parts (p t) (q t) h).0

pub stops_right : (p q : Kind → Bool) (ts : Tokens) → Stops (or p q) ts → Stops q ts
stops_right p q [] h = refl
stops_right p q (t ∷ ts) h = (or_parts (p t) (q t) h).1

pub stops_both : (p q : Kind → Bool) (ts : Tokens) → Stops p ts → Stops q ts → Stops (or p q) ts
stops_both p q [] h k = refl
stops_both p q (t ∷ ts) h k = or_from (p t) (q t) h k

-- ---- what goes on with a part

abbrev pub multiplies : Kind → Bool
multiplies = or (is_symbol s.Asterisk) (is_symbol s.Solidus)

abbrev pub adds : Kind → Bool
adds = or (is_symbol s.Plus) (or (is_symbol s.Minus) (is_symbol s.Concatenation))

abbrev pub term_goes_on : Kind → Bool
term_goes_on = or multiplies (is_symbol s.Period)

abbrev pub expression_goes_on : Kind → Bool
expression_goes_on = or adds term_goes_on

-- what goes on with a predicate, IS aside
abbrev pub predicate_goes_on : Kind → Bool
predicate_goes_on = or is_operator (or is_predicate_word expression_goes_on)

abbrev pub test_goes_on : Kind → Bool
test_goes_on = or (is_word w.Is) predicate_goes_on

abbrev pub conjunction_goes_on : Kind → Bool
conjunction_goes_on = or (is_word w.And) test_goes_on

abbrev pub condition_goes_on : Kind → Bool
condition_goes_on = or (is_word w.Or) conjunction_goes_on

abbrev pub alias_goes_on : Kind → Bool
alias_goes_on = or (is_word w.As) is_name

abbrev pub join_goes_on : Kind → Bool
join_goes_on = or alias_goes_on condition_goes_on

abbrev pub joins : Kind → Bool
joins = or (is_word w.Cross) (or (is_word w.Inner) (or (is_word w.Join) (is_word w.Left)))

abbrev pub reference_goes_on : Kind → Bool
reference_goes_on = or joins join_goes_on

-- the words that begin what may follow the tables of a SELECT
abbrev pub clause_words : Kind → Bool
clause_words = or (is_word w.Where) (or (is_word w.Group) (is_word w.Having))

abbrev pub select_goes_on : Kind → Bool
select_goes_on = or clause_words (or (is_symbol s.Comma) reference_goes_on)

abbrev pub query_goes_on : Kind → Bool
query_goes_on = or is_set_word select_goes_on

-- every token but ;
abbrev pub statement_goes_on : Kind → Bool
statement_goes_on (kind.Symbol s.Semicolon) = false
statement_goes_on _ = true

-- what ends a statement stops all that does not go on with ;
pub ended : (p : Kind → Bool) → p SEMICOLON ≡ false → (ts : Tokens) → Stops statement_goes_on ts → Stops p ts
ended p e [] h = refl
ended p e (kind.Symbol s.Semicolon ∷ ts) h = e
ended p e (_ ∷ ts) h = cc

-- ---- what begins no part

abbrev pub no_expression : Kind → Bool
no_expression (kind.Symbol s.LeftParenthesis) = false
no_expression (kind.Symbol s.Plus) = false
no_expression (kind.Symbol s.Minus) = false
no_expression (kind.Symbol _) = true
no_expression (kind.Word w.Count) = false
no_expression (kind.Word w.Sum) = false
no_expression (kind.Word w.Avg) = false
no_expression (kind.Word w.Min) = false
no_expression (kind.Word w.Max) = false
no_expression (kind.Word _) = true
no_expression _ = false

abbrev pub no_query : Kind → Bool
no_query (kind.Symbol s.LeftParenthesis) = false
no_query (kind.Word w.Select) = false
no_query _ = true

-- ---- what the rules of statements need

pub record Ready (d : ℕ) (I : Inner) (N : Nested) : Type 0 where
  pub expression : Again Expression d expression_goes_on I.expression N.expression
  pub condition : Again Condition d condition_goes_on I.condition N.condition
  pub query : Again Query d query_goes_on I.query N.query
  pub expression_begins : (ts : Tokens) (x : Expression) (rest : Tokens) → N.expression ts x rest → Stops no_expression ts
  pub query_begins : (ts : Tokens) (x : Query) (rest : Tokens) → N.query ts x rest → Stops no_query ts
  -- a query does not look like the names of columns in parentheses
  pub query_names : (ts : Tokens) (x : Query) (rest : Tokens) → N.query ts x rest → opens_names ts ≡ false
