-- A text that stands for a condition, in every table: 'A' IS NULL.
use Rattle.std.proofs.Common.{◌≡◌, refl, ap, ◌∙◌, ℕ, false, List, [], ◌∷◌, Some, None, Ok, arith, rules}
use Rattle.sqlval.specs.declared.schema.Column.{Column}
use Rattle.sqlval.specs.declared.value.Value.TheVariants as value
use Rattle.lexer.specs.declared.kinds.Kind.TheVariants as kind
use Rattle.lexer.specs.Printing.{text_of}
use Rattle.lexer.proofs.Printed.{HasKinds-text_of}
use Rattle.ast.specs.declared.tree.Condition.{Condition as Tree, roll-Condition}
use Rattle.ast.specs.declared.tree.Conjunction.{roll-Conjunction}
use Rattle.ast.specs.declared.tree.Expression.{Expression as Operand, roll-Expression}
use Rattle.ast.specs.declared.tree.Factor.{roll-Factor}
use Rattle.ast.specs.declared.tree.Negation.{roll-Negation}
use Rattle.ast.specs.declared.tree.Predicate.TheVariants as predicate_of
use Rattle.ast.specs.declared.tree.Primary.TheVariants as primary_of
use Rattle.ast.specs.declared.tree.Term.{roll-Term}
use Rattle.ast.specs.declared.tree.Test.{roll-Test}
use Rattle.ast.specs.Notation.{Tokens}
use Rattle.ast.specs.Words.{IS, NULL}
use Rattle.parse_terminals.specs.Readers.{word, symbol, eat_word}
use Rattle.parse_terminals.specs.ReadTerminals.{comparison, count_rows, opens_condition, set_function, truth_test}
use Rattle.parse_expressions.specs.ReadExpressions.{after_operand, condition, conjunction as conjunction_read, constant_or_column, expression, factor, is_null, negation, predicate, primary, term, test_}
use Rattle.parse_expressions.specs.Levels.{inner_at}
use Rattle.parse_statements.specs.ReadStatements.{condition_text}
use Rattle.parser.proofs.Found.{condition_found}
use Rattle.typing.specs.declared.typed.Condition.{Condition, Condition-F, out-Condition, the_lemmas}
use Rattle.typing.specs.declared.typed.Condition.TheVariants as c
use Rattle.typing.specs.declared.typed.Expression.{Expression}
use Rattle.typing.specs.declared.typed.Expression.TheVariants as e
use Rattle.typing.specs.declared.scope.TypedExpression.{TypedExpression}
use Rattle.typing.specs.Check.{ReadsCheck}
use Rattle.typing.specs.Condition.{conjunction, disjunction, negated, null_test, tested}
use Rattle.typing.specs.Expression.{text as typed_text}
use Rattle.typing.specs.Finding.{◌>>=◌}
use Rattle.typing.specs.Known.{nothing_known}
use Rattle.typing.specs.Part.{Checked, Part, View, of_all, of_none, of_one}
use Rattle.typing.specs.Table.{frame_of}
use Rattle.typing.specs.Typing.{condition_part}
use Rattle.typing.proofs.Nodes.{typings}

abbrev kinds : Tokens
kinds = kind.Text (65 ∷ []) ∷ IS ∷ NULL ∷ []

abbrev operand : Operand
operand = roll-Expression (record {
  first = roll-Term (record { first = roll-Factor (record { sign = None; primary = primary_of.Text (65 ∷ []) }); others = [] });
  others = [];
})

abbrev tree : Tree
tree = roll-Condition (record {
  first = roll-Conjunction (record {
    first = roll-Negation (record { is_negated = false; test = roll-Test (record { predicate = predicate_of.IsNull operand false; truth = None }) });
    others = [];
  });
  others = [];
})

read : condition_text (inner_at (Some 64) 1) kinds ≡ Some (tree, [])
unfolding condition_text condition conjunction_read negation test_ predicate opens_condition expression term factor primary constant_or_column count_rows set_function after_operand comparison is_null truth_test word symbol eat_word
read = refl

pub text : List ℕ
text = text_of kinds

pub stands_for : Condition
stands_for = c.IsNull (e.Constant (value.Text (65 ∷ [])))

is-null-out : (x : Expression) → out-Condition (c.IsNull x) ≡ Condition-F.IsNull x
is-null-out x = search (rules, the_lemmas)

abbrev operand_part : Part TypedExpression
operand_part = of_none (λ view. Ok (typed_text (e.Constant (value.Text (65 ∷ [])))))

abbrev test_part : Part Condition
test_part = of_one (λ found. found >>= (λ x. Ok (tested None x))) (of_one (null_test false) operand_part)

abbrev tree_part : Part Condition
tree_part = of_all disjunction (of_all conjunction (of_one (λ found. found >>= (λ x. Ok (negated false x))) test_part ∷ []) ∷ [])

part_is : condition_part nothing_known tree ≡ tree_part
part_is = simp typings

part_finds : (view : View) → tree_part.found view ≡ Ok stands_for
unfolding stands_for
part_finds view = simp is-null-out

pub reads : (name : List ℕ) (columns : List Column) → ReadsCheck name columns text stands_for
unfolding text
reads name columns =
    let view : View = record { scope = frame_of name columns ∷ []; clause = Checked } in
    record {
      kinds = kinds;
      tree = tree;
      spelled = HasKinds-text_of kinds (refl, (tt, (tt, tt)));
      parsed = condition_found (Some 64) (omega arith) 1 kinds (tree, []) read;
      found = ap (λ (p : Part Condition). p.found view) part_is ∙ part_finds view;
    }
