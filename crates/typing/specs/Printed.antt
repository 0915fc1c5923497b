-- The tokens of each node, and the printed text of a condition. Our own choice.
use Rattle.std.specs.Prelude.{ℕ, List, [], ◌∷◌, ◌++◌, map, Option, Some, None}
use Rattle.lexer.specs.declared.kinds.Kind.TheVariants as kind
use Rattle.lexer.specs.Printing.{text_of}
use Rattle.ast.specs.declared.operator.Column.{Column}
use Rattle.ast.specs.declared.tree.Join.{Join-F}
use Rattle.ast.specs.declared.tree.Operand.{Operand-F}
use Rattle.ast.specs.declared.tree.Predicate.{Predicate-F}
use Rattle.ast.specs.declared.tree.Primary.{Primary-F}
use Rattle.ast.specs.declared.tree.TableSource.{TableSource-F}
use Rattle.ast.specs.declared.tree.Addend.{Addend-F}
use Rattle.ast.specs.declared.tree.Condition.{Condition, Condition-F, fold-Condition}
use Rattle.ast.specs.declared.tree.Conjunction.{Conjunction-F}
use Rattle.ast.specs.declared.tree.Expression.{Expression-F}
use Rattle.ast.specs.declared.tree.Factor.{Factor-F}
use Rattle.ast.specs.declared.tree.Negation.{Negation-F}
use Rattle.ast.specs.declared.tree.Query.{Query-F}
use Rattle.ast.specs.declared.tree.Select.{Select-F}
use Rattle.ast.specs.declared.tree.SelectItem.{SelectItem-F}
use Rattle.ast.specs.declared.tree.TableReference.{TableReference-F}
use Rattle.ast.specs.declared.tree.Term.{Term-F}
use Rattle.ast.specs.declared.tree.Test.{Test-F}
use Rattle.ast.specs.Notation.{Tokens}
use Rattle.ast.specs.Words.{AND, ASTERISK, BETWEEN, BY, COUNT, CROSS, EXISTS, FROM, GROUP, HAVING, IN, INNER, IS, JOIN, LEFT, LEFT_PARENTHESIS, LIKE, NOT, NULL, ON, OR, OUTER, RIGHT_PARENTHESIS, SELECT, WHERE}
use Rattle.typing.specs.Tokens.{in_parentheses, if_written, maybe, joined_by, listed, chain, sign_tokens, add_tokens, multiply_tokens, comparison_tokens, quantifier_tokens, function_tokens, set_tokens, intersect_tokens, test_tokens, literal_tokens, column_tokens, alias_tokens}

-- a node whose parts stand as their tokens
abbrev pub Layer : ((A B C D E F G H I J K L M N O P Q : Type 0) → Type 0) → Type 0
Layer T = T Tokens Tokens Tokens Tokens Tokens Tokens Tokens Tokens Tokens Tokens Tokens Tokens Tokens Tokens Tokens Tokens Tokens

abbrev pub primary_step : Layer Primary-F → Tokens
primary_step (Primary-F.Number number) = kind.Number number ∷ []
primary_step (Primary-F.Text text) = kind.Text text ∷ []
primary_step (Primary-F.Column column) = column_tokens column
primary_step Primary-F.CountRows = COUNT ∷ LEFT_PARENTHESIS ∷ ASTERISK ∷ RIGHT_PARENTHESIS ∷ []
primary_step (Primary-F.Aggregate function quantifier x) = function_tokens function ++ in_parentheses (maybe quantifier_tokens quantifier ++ x)
primary_step (Primary-F.Parenthesized x) = in_parentheses x
primary_step (Primary-F.Subquery query) = in_parentheses query

abbrev pub factor_step : Layer Factor-F → Tokens
factor_step factor = maybe sign_tokens factor.sign ++ factor.primary

abbrev pub term_step : Layer Term-F → Tokens
term_step term = chain multiply_tokens term.first term.others

abbrev pub expression_step : Layer Expression-F → Tokens
expression_step x = chain add_tokens x.first x.others

abbrev pub predicate_step : Layer Predicate-F → Tokens
predicate_step (Predicate-F.Nested condition) = in_parentheses condition
predicate_step (Predicate-F.Compare x operator y) = x ++ comparison_tokens operator ++ y
predicate_step (Predicate-F.Between x not low high) = x ++ if_written not NOT ++ BETWEEN ∷ low ++ AND ∷ high
predicate_step (Predicate-F.InList x not literals) = x ++ if_written not NOT ++ IN ∷ in_parentheses (listed (map literal_tokens literals))
predicate_step (Predicate-F.InQuery x not query) = x ++ if_written not NOT ++ IN ∷ in_parentheses query
predicate_step (Predicate-F.Like x not pattern) = x ++ if_written not NOT ++ LIKE ∷ pattern
predicate_step (Predicate-F.IsNull x not) = x ++ IS ∷ if_written not NOT ++ NULL ∷ []
predicate_step (Predicate-F.Exists query) = EXISTS ∷ in_parentheses query

abbrev pub test_step : Layer Test-F → Tokens
test_step test = test.predicate ++ maybe test_tokens test.truth

abbrev pub negation_step : Layer Negation-F → Tokens
negation_step negation = if_written negation.is_negated NOT ++ negation.test

abbrev pub conjunction_step : Layer Conjunction-F → Tokens
conjunction_step conjunction = joined_by AND conjunction.first conjunction.others

abbrev pub condition_step : Layer Condition-F → Tokens
condition_step condition = joined_by OR condition.first condition.others

abbrev pub source_step : Layer TableSource-F → Tokens
source_step (TableSource-F.Table name alias) = kind.Name name ∷ maybe alias_tokens alias
source_step (TableSource-F.Derived query alias) = in_parentheses query ++ alias_tokens alias

abbrev pub join_step : Layer Join-F → Tokens
join_step (Join-F.Cross table) = CROSS ∷ JOIN ∷ table
join_step (Join-F.Inner has_inner table on) = if_written has_inner INNER ++ JOIN ∷ table ++ ON ∷ on
join_step (Join-F.Left has_outer table on) = LEFT ∷ if_written has_outer OUTER ++ JOIN ∷ table ++ ON ∷ on

abbrev pub reference_step : Layer TableReference-F → Tokens
reference_step reference = reference.first ++ all_of reference.joins
  where
    all_of : List Tokens → Tokens
    all_of [] = []
    all_of (ts ∷ more) = ts ++ all_of more

abbrev pub item_step : Layer SelectItem-F → Tokens
item_step item = item.value ++ maybe alias_tokens item.alias

-- a list of items, or `*`
abbrev pub items_tokens : Option (List Tokens) → Tokens
items_tokens None = ASTERISK ∷ []
items_tokens (Some items) = listed items

abbrev pub groups_tokens : List Column → Tokens
groups_tokens [] = []
groups_tokens (column ∷ columns) = GROUP ∷ BY ∷ listed (map column_tokens (column ∷ columns))

abbrev pub select_step : Layer Select-F → Tokens
select_step select =
    SELECT ∷ maybe quantifier_tokens select.quantifier ++ items_tokens select.items ++ FROM ∷ listed select.from
    ++ maybe (λ condition. WHERE ∷ condition) select.filter ++ groups_tokens select.groups ++ maybe (λ condition. HAVING ∷ condition) select.having

abbrev pub operand_step : Layer Operand-F → Tokens
operand_step (Operand-F.Select select) = select
operand_step (Operand-F.Grouped query) = in_parentheses query

abbrev pub addend_step : Layer Addend-F → Tokens
addend_step addend = chain intersect_tokens addend.first addend.others

abbrev pub query_step : Layer Query-F → Tokens
query_step query = chain set_tokens query.first query.others

unfoldable pub condition_tokens : Condition → Tokens
condition_tokens = fold-Condition _ _ _ _ _ _ _ _ _ _ _ _ _ _ _ _ _ join_step operand_step predicate_step primary_step source_step addend_step condition_step conjunction_step expression_step factor_step negation_step query_step select_step item_step reference_step term_step test_step

-- one space between each two tokens, reserved words in upper case
abbrev pub printed : Condition → List ℕ
printed condition = text_of (condition_tokens condition)
