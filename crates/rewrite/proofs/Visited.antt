-- Of each node, what is left of it when a walk has passed it, and where the walk goes on.
use Rattle.std.proofs.Common.{◌≡◌, refl, ap, ◌∙◌, ℕ, Bool, List, map, Option, rules}
use Rattle.sqlval.specs.declared.comparison.CompOp.{CompOp}
use Rattle.sqlval.specs.declared.truth.Truth.{Truth}
use Rattle.sqlval.specs.declared.value.Value.{Value}
use Rattle.typing.specs.declared.typed.Arithmetic.{Arithmetic}
use Rattle.typing.specs.declared.typed.OrderKey.{OrderKey}
use Rattle.typing.specs.declared.typed.SetFunctionType.{SetFunctionType}
use Rattle.typing.specs.declared.typed.SetOperation.{SetOperation}
use Rattle.algebra.specs.declared.tree.Bound.{Bound}
use Rattle.algebra.specs.declared.tree.StoredTable.{StoredTable}
use Rattle.algebra.specs.declared.tree.Condition.{Condition, Condition-F, roll-Condition}
use Rattle.algebra.specs.declared.tree.Condition.TheVariants as c
use Rattle.algebra.specs.declared.tree.Expression.{Expression, Expression-F, roll-Expression, the_lemmas}
use Rattle.algebra.specs.declared.tree.Expression.TheVariants as e
use Rattle.algebra.specs.declared.tree.SetFunction.{SetFunction}
use Rattle.algebra.specs.declared.tree.SetFunction.TheVariants as f
use Rattle.algebra.specs.declared.tree.Tree.{Tree}
use Rattle.algebra.specs.declared.tree.Tree.TheVariants as t
use Rattle.rules.specs.Paths.{Inside, alone, as_list, as_pairs, child, no_part, two, in_condition, in_expression, in_function, in_node}
use Rattle.rewrite_laws.proofs.PathLaws.{tree_whole, condition_be, expression_be}
use Rattle.rewrite_laws.proofs.Whole.{trees-same}
use Rattle.rule_steps.specs.declared.attempt.Attempt.{Attempt}
use Rattle.rewrite.specs.Visits.{Here, mapped, pair, passed, together, unchanged, visit}
use Rattle.rewrite.proofs.Visiting.{passed-alone, passed-none, passed-two, visit-alone, visit-none, visit-two}

-- two parts side by side
abbrev pub beside : {X Y : Type 0} → Inside X → Inside Y → Inside (X × Y)
beside x y = two (λ a b. (a, b)) x y

pub visit_pair : {X Y : Type 0} (here : Here) (path : List ℕ) (x : Inside X) (y : Inside Y) (place : Option ℕ)
    → visit here path (beside x y) place
    ≡ pair (visit here path x place) (visit here path y (passed x place))
visit_pair here path x y place = visit-two here path (λ a b. (a, b)) x y place

pub passed_pair : {X Y : Type 0} (x : Inside X) (y : Inside Y) (place : Option ℕ)
    → passed (beside x y) place ≡ passed y (passed x place)
passed_pair {X} {Y} x y place = passed-two {Z = X × Y} (λ a b. (a, b)) x y place

pub visit-sides : {Y Z : Type 0} (here : Here) (path : List ℕ) (made : Tree × Tree → Y → Z) (left right : Tree) (rest : Inside Y)
    (place : Option ℕ) → together made (visit here path (beside (child left) (child right)) place)
    (visit here path rest (passed (beside (child left) (child right)) place))
    ≡ together made (pair (visit here path (child left) place) (visit here path (child right) (passed (child left) place)))
    (visit here path rest (passed (child right) (passed (child left) place)))
visit-sides here path made left right rest place = λ i. together made (visit_pair here path (child left) (child right) place i)
    (visit here path rest (passed_pair (child left) (child right) place i))

-- ---- expressions

inside-constant : (x : Value) → in_expression (e.Constant x) ≡ no_part (e.Constant x)
unfolding in_condition in_expression in_function
inside-constant x = search (rules, the_lemmas)

pub visit_constant : (here : Here) (path : List ℕ) (x : Value) (place : Option ℕ)
    → visit here path (in_expression (e.Constant x)) place ≡ unchanged (e.Constant x)
visit_constant here path x place = ap (λ (x : Inside Expression). visit here path x place) (inside-constant x)
    ∙ visit-none here path (e.Constant x) place

pub passed_constant : (x : Value) (place : Option ℕ)
    → passed (in_expression (e.Constant x)) place ≡ place
passed_constant x place = ap (λ (x : Inside Expression). passed x place) (inside-constant x)
    ∙ passed-none (e.Constant x) place

inside-column : (depth at : ℕ) → in_expression (e.Column depth at) ≡ no_part (e.Column depth at)
unfolding in_condition in_expression in_function
inside-column depth at = search (rules, the_lemmas)

pub visit_column : (here : Here) (path : List ℕ) (depth at : ℕ) (place : Option ℕ)
    → visit here path (in_expression (e.Column depth at)) place ≡ unchanged (e.Column depth at)
visit_column here path depth at place = ap (λ (x : Inside Expression). visit here path x place) (inside-column depth at)
    ∙ visit-none here path (e.Column depth at) place

pub passed_column : (depth at : ℕ) (place : Option ℕ)
    → passed (in_expression (e.Column depth at)) place ≡ place
passed_column depth at place = ap (λ (x : Inside Expression). passed x place) (inside-column depth at)
    ∙ passed-none (e.Column depth at) place

inside-calculation : (first : Expression) (others : List (Arithmetic × Expression)) → in_expression (e.Calculation first others) ≡ two e.Calculation (in_expression first) (as_pairs (map (λ (other : Arithmetic × Expression). (other.0, in_expression other.1)) others))
unfolding in_condition in_expression in_function
inside-calculation first others = search (rules, the_lemmas)

pub visit_calculation : (here : Here) (path : List ℕ) (first : Expression) (others : List (Arithmetic × Expression)) (place : Option ℕ)
    → visit here path (in_expression (e.Calculation first others)) place ≡ together e.Calculation (visit here path (in_expression first) place) (visit here path (as_pairs (map (λ (other : Arithmetic × Expression). (other.0, in_expression other.1)) others)) (passed (in_expression first) place))
visit_calculation here path first others place = ap (λ (x : Inside Expression). visit here path x place) (inside-calculation first others)
    ∙ visit-two here path e.Calculation (in_expression first) (as_pairs (map (λ (other : Arithmetic × Expression). (other.0, in_expression other.1)) others)) place

pub passed_calculation : (first : Expression) (others : List (Arithmetic × Expression)) (place : Option ℕ)
    → passed (in_expression (e.Calculation first others)) place ≡ passed (as_pairs (map (λ (other : Arithmetic × Expression). (other.0, in_expression other.1)) others)) (passed (in_expression first) place)
passed_calculation first others place = ap (λ (x : Inside Expression). passed x place) (inside-calculation first others)
    ∙ passed-two e.Calculation (in_expression first) (as_pairs (map (λ (other : Arithmetic × Expression). (other.0, in_expression other.1)) others)) place

inside-concatenation : (first : Expression) (others : List Expression) → in_expression (e.Concatenation first others) ≡ two e.Concatenation (in_expression first) (as_list (map in_expression others))
unfolding in_condition in_expression in_function
inside-concatenation first others = search (rules, the_lemmas)

pub visit_concatenation : (here : Here) (path : List ℕ) (first : Expression) (others : List Expression) (place : Option ℕ)
    → visit here path (in_expression (e.Concatenation first others)) place ≡ together e.Concatenation (visit here path (in_expression first) place) (visit here path (as_list (map in_expression others)) (passed (in_expression first) place))
visit_concatenation here path first others place = ap (λ (x : Inside Expression). visit here path x place) (inside-concatenation first others)
    ∙ visit-two here path e.Concatenation (in_expression first) (as_list (map in_expression others)) place

pub passed_concatenation : (first : Expression) (others : List Expression) (place : Option ℕ)
    → passed (in_expression (e.Concatenation first others)) place ≡ passed (as_list (map in_expression others)) (passed (in_expression first) place)
passed_concatenation first others place = ap (λ (x : Inside Expression). passed x place) (inside-concatenation first others)
    ∙ passed-two e.Concatenation (in_expression first) (as_list (map in_expression others)) place

inside-negation : (operand : Expression) → in_expression (e.Negation operand) ≡ alone e.Negation (in_expression operand)
unfolding in_condition in_expression in_function
inside-negation operand = search (rules, the_lemmas)

pub visit_negation : (here : Here) (path : List ℕ) (operand : Expression) (place : Option ℕ)
    → visit here path (in_expression (e.Negation operand)) place ≡ mapped e.Negation (visit here path (in_expression operand) place)
visit_negation here path operand place = ap (λ (x : Inside Expression). visit here path x place) (inside-negation operand)
    ∙ visit-alone here path e.Negation (in_expression operand) place

pub passed_negation : (operand : Expression) (place : Option ℕ)
    → passed (in_expression (e.Negation operand)) place ≡ passed (in_expression operand) place
passed_negation operand place = ap (λ (x : Inside Expression). passed x place) (inside-negation operand)
    ∙ passed-alone e.Negation (in_expression operand) place

inside-scalar : (tree : Tree) → in_expression (e.Scalar tree) ≡ alone e.Scalar (child tree)
unfolding roll-Expression in_expression denote.Hole.Carrier.roll
inside-scalar tree = expression_be (Expression-F.Scalar tree) ∙ ap (λ z. alone e.Scalar (child z)) (trees-same tree)

pub visit_scalar : (here : Here) (path : List ℕ) (tree : Tree) (place : Option ℕ)
    → visit here path (in_expression (e.Scalar tree)) place ≡ mapped e.Scalar (visit here path (child tree) place)
visit_scalar here path tree place = ap (λ (x : Inside Expression). visit here path x place) (inside-scalar tree)
    ∙ visit-alone here path e.Scalar (child tree) place

pub passed_scalar : (tree : Tree) (place : Option ℕ)
    → passed (in_expression (e.Scalar tree)) place ≡ passed (child tree) place
passed_scalar tree place = ap (λ (x : Inside Expression). passed x place) (inside-scalar tree)
    ∙ passed-alone e.Scalar (child tree) place

-- ---- conditions

inside-or : (operands : List Condition) → in_condition (c.Or operands) ≡ alone c.Or (as_list (map in_condition operands))
unfolding in_condition in_expression in_function
inside-or operands = search (rules, the_lemmas)

pub visit_or : (here : Here) (path : List ℕ) (operands : List Condition) (place : Option ℕ)
    → visit here path (in_condition (c.Or operands)) place ≡ mapped c.Or (visit here path (as_list (map in_condition operands)) place)
visit_or here path operands place = ap (λ (x : Inside Condition). visit here path x place) (inside-or operands)
    ∙ visit-alone here path c.Or (as_list (map in_condition operands)) place

pub passed_or : (operands : List Condition) (place : Option ℕ)
    → passed (in_condition (c.Or operands)) place ≡ passed (as_list (map in_condition operands)) place
passed_or operands place = ap (λ (x : Inside Condition). passed x place) (inside-or operands)
    ∙ passed-alone c.Or (as_list (map in_condition operands)) place

inside-and : (operands : List Condition) → in_condition (c.And operands) ≡ alone c.And (as_list (map in_condition operands))
unfolding in_condition in_expression in_function
inside-and operands = search (rules, the_lemmas)

pub visit_and : (here : Here) (path : List ℕ) (operands : List Condition) (place : Option ℕ)
    → visit here path (in_condition (c.And operands)) place ≡ mapped c.And (visit here path (as_list (map in_condition operands)) place)
visit_and here path operands place = ap (λ (x : Inside Condition). visit here path x place) (inside-and operands)
    ∙ visit-alone here path c.And (as_list (map in_condition operands)) place

pub passed_and : (operands : List Condition) (place : Option ℕ)
    → passed (in_condition (c.And operands)) place ≡ passed (as_list (map in_condition operands)) place
passed_and operands place = ap (λ (x : Inside Condition). passed x place) (inside-and operands)
    ∙ passed-alone c.And (as_list (map in_condition operands)) place

inside-not : (operand : Condition) → in_condition (c.Not operand) ≡ alone c.Not (in_condition operand)
unfolding in_condition in_expression in_function
inside-not operand = search (rules, the_lemmas)

pub visit_not : (here : Here) (path : List ℕ) (operand : Condition) (place : Option ℕ)
    → visit here path (in_condition (c.Not operand)) place ≡ mapped c.Not (visit here path (in_condition operand) place)
visit_not here path operand place = ap (λ (x : Inside Condition). visit here path x place) (inside-not operand)
    ∙ visit-alone here path c.Not (in_condition operand) place

pub passed_not : (operand : Condition) (place : Option ℕ)
    → passed (in_condition (c.Not operand)) place ≡ passed (in_condition operand) place
passed_not operand place = ap (λ (x : Inside Condition). passed x place) (inside-not operand)
    ∙ passed-alone c.Not (in_condition operand) place

inside-test : (operand : Condition) (truth : Truth) → in_condition (c.IsTruth operand truth) ≡ alone (λ x. c.IsTruth x truth) (in_condition operand)
unfolding in_condition in_expression in_function
inside-test operand truth = search (rules, the_lemmas)

pub visit_test : (here : Here) (path : List ℕ) (operand : Condition) (truth : Truth) (place : Option ℕ)
    → visit here path (in_condition (c.IsTruth operand truth)) place ≡ mapped (λ x. c.IsTruth x truth) (visit here path (in_condition operand) place)
visit_test here path operand truth place = ap (λ (x : Inside Condition). visit here path x place) (inside-test operand truth)
    ∙ visit-alone here path (λ x. c.IsTruth x truth) (in_condition operand) place

pub passed_test : (operand : Condition) (truth : Truth) (place : Option ℕ)
    → passed (in_condition (c.IsTruth operand truth)) place ≡ passed (in_condition operand) place
passed_test operand truth place = ap (λ (x : Inside Condition). passed x place) (inside-test operand truth)
    ∙ passed-alone (λ x. c.IsTruth x truth) (in_condition operand) place

inside-compare : (op : CompOp) (left right : Expression) → in_condition (c.Compare op left right) ≡ two (c.Compare op) (in_expression left) (in_expression right)
unfolding in_condition in_expression in_function
inside-compare op left right = search (rules, the_lemmas)

pub visit_compare : (here : Here) (path : List ℕ) (op : CompOp) (left right : Expression) (place : Option ℕ)
    → visit here path (in_condition (c.Compare op left right)) place ≡ together (c.Compare op) (visit here path (in_expression left) place) (visit here path (in_expression right) (passed (in_expression left) place))
visit_compare here path op left right place = ap (λ (x : Inside Condition). visit here path x place) (inside-compare op left right)
    ∙ visit-two here path (c.Compare op) (in_expression left) (in_expression right) place

pub passed_compare : (op : CompOp) (left right : Expression) (place : Option ℕ)
    → passed (in_condition (c.Compare op left right)) place ≡ passed (in_expression right) (passed (in_expression left) place)
passed_compare op left right place = ap (λ (x : Inside Condition). passed x place) (inside-compare op left right)
    ∙ passed-two (c.Compare op) (in_expression left) (in_expression right) place

inside-between : (operand low high : Expression) → in_condition (c.Between operand low high) ≡ two (λ x (p : Expression × Expression). c.Between x p.0 p.1) (in_expression operand) (beside (in_expression low) (in_expression high))
unfolding in_condition in_expression in_function
inside-between operand low high = search (rules, the_lemmas)

pub visit_between : (here : Here) (path : List ℕ) (operand low high : Expression) (place : Option ℕ)
    → visit here path (in_condition (c.Between operand low high)) place ≡ together (λ x (p : Expression × Expression). c.Between x p.0 p.1) (visit here path (in_expression operand) place) (pair (visit here path (in_expression low) (passed (in_expression operand) place)) (visit here path (in_expression high) (passed (in_expression low) (passed (in_expression operand) place))))
visit_between here path operand low high place = ap (λ (x : Inside Condition). visit here path x place) (inside-between operand low high)
    ∙ visit-two here path (λ x (p : Expression × Expression). c.Between x p.0 p.1) (in_expression operand) (beside (in_expression low) (in_expression high)) place
    ∙ ap (λ (both : Attempt (Expression × Expression)). together (λ x (p : Expression × Expression). c.Between x p.0 p.1)
    (visit here path (in_expression operand) place) both)
    (visit_pair here path (in_expression low) (in_expression high) (passed (in_expression operand) place))

pub passed_between : (operand low high : Expression) (place : Option ℕ)
    → passed (in_condition (c.Between operand low high)) place ≡ passed (in_expression high) (passed (in_expression low) (passed (in_expression operand) place))
passed_between operand low high place = ap (λ (x : Inside Condition). passed x place) (inside-between operand low high)
    ∙ passed-two (λ x (p : Expression × Expression). c.Between x p.0 p.1) (in_expression operand) (beside (in_expression low) (in_expression high)) place
    ∙ passed_pair (in_expression low) (in_expression high) (passed (in_expression operand) place)

inside-in_list : (operand : Expression) (values : List Value) → in_condition (c.InList operand values) ≡ alone (λ x. c.InList x values) (in_expression operand)
unfolding in_condition in_expression in_function
inside-in_list operand values = search (rules, the_lemmas)

pub visit_in_list : (here : Here) (path : List ℕ) (operand : Expression) (values : List Value) (place : Option ℕ)
    → visit here path (in_condition (c.InList operand values)) place ≡ mapped (λ x. c.InList x values) (visit here path (in_expression operand) place)
visit_in_list here path operand values place = ap (λ (x : Inside Condition). visit here path x place) (inside-in_list operand values)
    ∙ visit-alone here path (λ x. c.InList x values) (in_expression operand) place

pub passed_in_list : (operand : Expression) (values : List Value) (place : Option ℕ)
    → passed (in_condition (c.InList operand values)) place ≡ passed (in_expression operand) place
passed_in_list operand values place = ap (λ (x : Inside Condition). passed x place) (inside-in_list operand values)
    ∙ passed-alone (λ x. c.InList x values) (in_expression operand) place

inside-in_query : (operand : Expression) (tree : Tree)
    → in_condition (c.InQuery operand tree) ≡ two c.InQuery (in_expression operand) (child tree)
unfolding roll-Condition in_condition in_expression denote.Hole.Carrier.roll
inside-in_query operand tree = condition_be (Condition-F.InQuery operand tree)
    ∙ ap (λ z. two c.InQuery (in_expression operand) (child z)) (trees-same tree)

pub visit_in_query : (here : Here) (path : List ℕ) (operand : Expression) (tree : Tree) (place : Option ℕ)
    → visit here path (in_condition (c.InQuery operand tree)) place ≡ together c.InQuery (visit here path (in_expression operand) place) (visit here path (child tree) (passed (in_expression operand) place))
visit_in_query here path operand tree place = ap (λ (x : Inside Condition). visit here path x place) (inside-in_query operand tree)
    ∙ visit-two here path c.InQuery (in_expression operand) (child tree) place

pub passed_in_query : (operand : Expression) (tree : Tree) (place : Option ℕ)
    → passed (in_condition (c.InQuery operand tree)) place ≡ passed (child tree) (passed (in_expression operand) place)
passed_in_query operand tree place = ap (λ (x : Inside Condition). passed x place) (inside-in_query operand tree)
    ∙ passed-two c.InQuery (in_expression operand) (child tree) place

inside-like : (operand pattern : Expression) → in_condition (c.Like operand pattern) ≡ two c.Like (in_expression operand) (in_expression pattern)
unfolding in_condition in_expression in_function
inside-like operand pattern = search (rules, the_lemmas)

pub visit_like : (here : Here) (path : List ℕ) (operand pattern : Expression) (place : Option ℕ)
    → visit here path (in_condition (c.Like operand pattern)) place ≡ together c.Like (visit here path (in_expression operand) place) (visit here path (in_expression pattern) (passed (in_expression operand) place))
visit_like here path operand pattern place = ap (λ (x : Inside Condition). visit here path x place) (inside-like operand pattern)
    ∙ visit-two here path c.Like (in_expression operand) (in_expression pattern) place

pub passed_like : (operand pattern : Expression) (place : Option ℕ)
    → passed (in_condition (c.Like operand pattern)) place ≡ passed (in_expression pattern) (passed (in_expression operand) place)
passed_like operand pattern place = ap (λ (x : Inside Condition). passed x place) (inside-like operand pattern)
    ∙ passed-two c.Like (in_expression operand) (in_expression pattern) place

inside-null : (operand : Expression) → in_condition (c.IsNull operand) ≡ alone c.IsNull (in_expression operand)
unfolding in_condition in_expression in_function
inside-null operand = search (rules, the_lemmas)

pub visit_null : (here : Here) (path : List ℕ) (operand : Expression) (place : Option ℕ)
    → visit here path (in_condition (c.IsNull operand)) place ≡ mapped c.IsNull (visit here path (in_expression operand) place)
visit_null here path operand place = ap (λ (x : Inside Condition). visit here path x place) (inside-null operand)
    ∙ visit-alone here path c.IsNull (in_expression operand) place

pub passed_null : (operand : Expression) (place : Option ℕ)
    → passed (in_condition (c.IsNull operand)) place ≡ passed (in_expression operand) place
passed_null operand place = ap (λ (x : Inside Condition). passed x place) (inside-null operand)
    ∙ passed-alone c.IsNull (in_expression operand) place

inside-exists : (tree : Tree) → in_condition (c.Exists tree) ≡ alone c.Exists (child tree)
unfolding roll-Condition in_condition denote.Hole.Carrier.roll
inside-exists tree = condition_be (Condition-F.Exists tree) ∙ ap (λ z. alone c.Exists (child z)) (trees-same tree)

pub visit_exists : (here : Here) (path : List ℕ) (tree : Tree) (place : Option ℕ)
    → visit here path (in_condition (c.Exists tree)) place ≡ mapped c.Exists (visit here path (child tree) place)
visit_exists here path tree place = ap (λ (x : Inside Condition). visit here path x place) (inside-exists tree)
    ∙ visit-alone here path c.Exists (child tree) place

pub passed_exists : (tree : Tree) (place : Option ℕ)
    → passed (in_condition (c.Exists tree)) place ≡ passed (child tree) place
passed_exists tree place = ap (λ (x : Inside Condition). passed x place) (inside-exists tree)
    ∙ passed-alone c.Exists (child tree) place

-- ---- set functions

inside-count : in_function (f.CountRows) ≡ no_part (f.CountRows)
unfolding in_condition in_expression in_function
inside-count = search (rules, the_lemmas)

pub visit_count : (here : Here) (path : List ℕ) (place : Option ℕ)
    → visit here path (in_function (f.CountRows)) place ≡ unchanged (f.CountRows)
visit_count here path place = ap (λ (x : Inside SetFunction). visit here path x place) inside-count
    ∙ visit-none here path (f.CountRows) place

pub passed_count : (place : Option ℕ)
    → passed (in_function (f.CountRows)) place ≡ place
passed_count place = ap (λ (x : Inside SetFunction). passed x place) inside-count
    ∙ passed-none (f.CountRows) place

inside-over : (function : SetFunctionType) (is_distinct : Bool) (argument : Expression) → in_function (f.Over function is_distinct argument) ≡ alone (f.Over function is_distinct) (in_expression argument)
unfolding in_condition in_expression in_function
inside-over function is_distinct argument = search (rules, the_lemmas)

pub visit_over : (here : Here) (path : List ℕ) (function : SetFunctionType) (is_distinct : Bool) (argument : Expression) (place : Option ℕ)
    → visit here path (in_function (f.Over function is_distinct argument)) place ≡ mapped (f.Over function is_distinct) (visit here path (in_expression argument) place)
visit_over here path function is_distinct argument place = ap (λ (x : Inside SetFunction). visit here path x place) (inside-over function is_distinct argument)
    ∙ visit-alone here path (f.Over function is_distinct) (in_expression argument) place

pub passed_over : (function : SetFunctionType) (is_distinct : Bool) (argument : Expression) (place : Option ℕ)
    → passed (in_function (f.Over function is_distinct argument)) place ≡ passed (in_expression argument) place
passed_over function is_distinct argument place = ap (λ (x : Inside SetFunction). passed x place) (inside-over function is_distinct argument)
    ∙ passed-alone (f.Over function is_distinct) (in_expression argument) place

-- ---- nodes

inside-scan : (table : StoredTable) → in_node (t.Scan table) ≡ no_part (t.Scan table)
inside-scan table = search (rules, the_lemmas)

pub visit_scan : (here : Here) (path : List ℕ) (table : StoredTable) (place : Option ℕ)
    → visit here path (in_node (t.Scan table)) place ≡ unchanged (t.Scan table)
visit_scan here path table place = ap (λ (x : Inside Tree). visit here path x place) (inside-scan table)
    ∙ visit-none here path (t.Scan table) place

inside-filter : (condition : Condition) (rows : Tree) → in_node (t.Filter condition rows) ≡ two (λ s x. t.Filter x s) (child rows) (in_condition condition)
inside-filter condition rows = search (rules, the_lemmas)

pub visit_filter : (here : Here) (path : List ℕ) (condition : Condition) (rows : Tree) (place : Option ℕ)
    → visit here path (in_node (t.Filter condition rows)) place ≡ together (λ s x. t.Filter x s) (visit here path (child rows) place) (visit here path (in_condition condition) (passed (child rows) place))
visit_filter here path condition rows place = ap (λ (x : Inside Tree). visit here path x place) (inside-filter condition rows)
    ∙ visit-two here path (λ s x. t.Filter x s) (child rows) (in_condition condition) place

inside-product : (left right : Tree) → in_node (t.Product left right) ≡ two t.Product (child left) (child right)
inside-product left right = search (rules, the_lemmas)

pub visit_product : (here : Here) (path : List ℕ) (left right : Tree) (place : Option ℕ)
    → visit here path (in_node (t.Product left right)) place ≡ together t.Product (visit here path (child left) place) (visit here path (child right) (passed (child left) place))
visit_product here path left right place = ap (λ (x : Inside Tree). visit here path x place) (inside-product left right)
    ∙ visit-two here path t.Product (child left) (child right) place

inside-inner : (on : Condition) (left right : Tree) → in_node (t.Inner on left right) ≡ two (λ (s : Tree × Tree) x. t.Inner x s.0 s.1) (beside (child left) (child right)) (in_condition on)
inside-inner on left right = search (rules, the_lemmas)

pub visit_inner : (here : Here) (path : List ℕ) (on : Condition) (left right : Tree) (place : Option ℕ)
    → visit here path (in_node (t.Inner on left right)) place ≡ together (λ (s : Tree × Tree) x. t.Inner x s.0 s.1) (pair (visit here path (child left) place) (visit here path (child right) (passed (child left) place))) (visit here path (in_condition on) (passed (child right) (passed (child left) place)))
visit_inner here path on left right place = ap (λ (x : Inside Tree). visit here path x place) (inside-inner on left right)
    ∙ visit-two here path (λ (s : Tree × Tree) x. t.Inner x s.0 s.1) (beside (child left) (child right)) (in_condition on) place
    ∙ visit-sides here path (λ (s : Tree × Tree) x. t.Inner x s.0 s.1) left right (in_condition on) place

inside-half : (on : Condition) (left right : Tree) → in_node (t.Half on left right) ≡ two (λ (s : Tree × Tree) x. t.Half x s.0 s.1) (beside (child left) (child right)) (in_condition on)
inside-half on left right = search (rules, the_lemmas)

pub visit_half : (here : Here) (path : List ℕ) (on : Condition) (left right : Tree) (place : Option ℕ)
    → visit here path (in_node (t.Half on left right)) place ≡ together (λ (s : Tree × Tree) x. t.Half x s.0 s.1) (pair (visit here path (child left) place) (visit here path (child right) (passed (child left) place))) (visit here path (in_condition on) (passed (child right) (passed (child left) place)))
visit_half here path on left right place = ap (λ (x : Inside Tree). visit here path x place) (inside-half on left right)
    ∙ visit-two here path (λ (s : Tree × Tree) x. t.Half x s.0 s.1) (beside (child left) (child right)) (in_condition on) place
    ∙ visit-sides here path (λ (s : Tree × Tree) x. t.Half x s.0 s.1) left right (in_condition on) place

inside-opposite : (on : Condition) (left right : Tree) → in_node (t.OppositeHalf on left right) ≡ two (λ (s : Tree × Tree) x. t.OppositeHalf x s.0 s.1) (beside (child left) (child right)) (in_condition on)
inside-opposite on left right = search (rules, the_lemmas)

pub visit_opposite : (here : Here) (path : List ℕ) (on : Condition) (left right : Tree) (place : Option ℕ)
    → visit here path (in_node (t.OppositeHalf on left right)) place ≡ together (λ (s : Tree × Tree) x. t.OppositeHalf x s.0 s.1) (pair (visit here path (child left) place) (visit here path (child right) (passed (child left) place))) (visit here path (in_condition on) (passed (child right) (passed (child left) place)))
visit_opposite here path on left right place = ap (λ (x : Inside Tree). visit here path x place) (inside-opposite on left right)
    ∙ visit-two here path (λ (s : Tree × Tree) x. t.OppositeHalf x s.0 s.1) (beside (child left) (child right)) (in_condition on) place
    ∙ visit-sides here path (λ (s : Tree × Tree) x. t.OppositeHalf x s.0 s.1) left right (in_condition on) place

inside-left : (on : Condition) (left right : Tree) (width : ℕ) → in_node (t.Left on left right width) ≡ two (λ (s : Tree × Tree) x. t.Left x s.0 s.1 width) (beside (child left) (child right)) (in_condition on)
inside-left on left right width = search (rules, the_lemmas)

pub visit_left : (here : Here) (path : List ℕ) (on : Condition) (left right : Tree) (width : ℕ) (place : Option ℕ)
    → visit here path (in_node (t.Left on left right width)) place ≡ together (λ (s : Tree × Tree) x. t.Left x s.0 s.1 width) (pair (visit here path (child left) place) (visit here path (child right) (passed (child left) place))) (visit here path (in_condition on) (passed (child right) (passed (child left) place)))
visit_left here path on left right width place = ap (λ (x : Inside Tree). visit here path x place) (inside-left on left right width)
    ∙ visit-two here path (λ (s : Tree × Tree) x. t.Left x s.0 s.1 width) (beside (child left) (child right)) (in_condition on) place
    ∙ visit-sides here path (λ (s : Tree × Tree) x. t.Left x s.0 s.1 width) left right (in_condition on) place

inside-group : (columns : Option (List ℕ)) (functions : List SetFunction) (rows : Tree) → in_node (t.Group columns functions rows) ≡ two (λ s x. t.Group columns x s) (child rows) (as_list (map in_function functions))
inside-group columns functions rows = search (rules, the_lemmas)

pub visit_group : (here : Here) (path : List ℕ) (columns : Option (List ℕ)) (functions : List SetFunction) (rows : Tree) (place : Option ℕ)
    → visit here path (in_node (t.Group columns functions rows)) place ≡ together (λ s x. t.Group columns x s) (visit here path (child rows) place) (visit here path (as_list (map in_function functions)) (passed (child rows) place))
visit_group here path columns functions rows place = ap (λ (x : Inside Tree). visit here path x place) (inside-group columns functions rows)
    ∙ visit-two here path (λ s x. t.Group columns x s) (child rows) (as_list (map in_function functions)) place

inside-project : (items : List Expression) (rows : Tree) → in_node (t.Project items rows) ≡ two (λ s x. t.Project x s) (child rows) (as_list (map in_expression items))
inside-project items rows = search (rules, the_lemmas)

pub visit_project : (here : Here) (path : List ℕ) (items : List Expression) (rows : Tree) (place : Option ℕ)
    → visit here path (in_node (t.Project items rows)) place ≡ together (λ s x. t.Project x s) (visit here path (child rows) place) (visit here path (as_list (map in_expression items)) (passed (child rows) place))
visit_project here path items rows place = ap (λ (x : Inside Tree). visit here path x place) (inside-project items rows)
    ∙ visit-two here path (λ s x. t.Project x s) (child rows) (as_list (map in_expression items)) place

inside-distinct : (rows : Tree) → in_node (t.Distinct rows) ≡ alone t.Distinct (child rows)
inside-distinct rows = search (rules, the_lemmas)

pub visit_distinct : (here : Here) (path : List ℕ) (rows : Tree) (place : Option ℕ)
    → visit here path (in_node (t.Distinct rows)) place ≡ mapped t.Distinct (visit here path (child rows) place)
visit_distinct here path rows place = ap (λ (x : Inside Tree). visit here path x place) (inside-distinct rows)
    ∙ visit-alone here path t.Distinct (child rows) place

inside-set : (op : SetOperation) (left right : Tree) → in_node (t.Set op left right) ≡ two (t.Set op) (child left) (child right)
inside-set op left right = search (rules, the_lemmas)

pub visit_set : (here : Here) (path : List ℕ) (op : SetOperation) (left right : Tree) (place : Option ℕ)
    → visit here path (in_node (t.Set op left right)) place ≡ together (t.Set op) (visit here path (child left) place) (visit here path (child right) (passed (child left) place))
visit_set here path op left right place = ap (λ (x : Inside Tree). visit here path x place) (inside-set op left right)
    ∙ visit-two here path (t.Set op) (child left) (child right) place

inside-sort : (keys : List OrderKey) (rows : Tree) → in_node (t.Sort keys rows) ≡ alone (t.Sort keys) (child rows)
inside-sort keys rows = search (rules, the_lemmas)

pub visit_sort : (here : Here) (path : List ℕ) (keys : List OrderKey) (rows : Tree) (place : Option ℕ)
    → visit here path (in_node (t.Sort keys rows)) place ≡ mapped (t.Sort keys) (visit here path (child rows) place)
visit_sort here path keys rows place = ap (λ (x : Inside Tree). visit here path x place) (inside-sort keys rows)
    ∙ visit-alone here path (t.Sort keys) (child rows) place

inside-seek : (table : StoredTable) (columns : List ℕ) (key : List Value) → in_node (t.Seek table columns key) ≡ no_part (t.Seek table columns key)
inside-seek table columns key = search (rules, the_lemmas)

pub visit_seek : (here : Here) (path : List ℕ) (table : StoredTable) (columns : List ℕ) (key : List Value) (place : Option ℕ)
    → visit here path (in_node (t.Seek table columns key)) place ≡ unchanged (t.Seek table columns key)
visit_seek here path table columns key place = ap (λ (x : Inside Tree). visit here path x place) (inside-seek table columns key)
    ∙ visit-none here path (t.Seek table columns key) place

inside-range : (table : StoredTable) (columns : List ℕ) (low high : Option Bound) → in_node (t.Range table columns low high) ≡ no_part (t.Range table columns low high)
inside-range table columns low high = search (rules, the_lemmas)

pub visit_range : (here : Here) (path : List ℕ) (table : StoredTable) (columns : List ℕ) (low high : Option Bound) (place : Option ℕ)
    → visit here path (in_node (t.Range table columns low high)) place ≡ unchanged (t.Range table columns low high)
visit_range here path table columns low high place = ap (λ (x : Inside Tree). visit here path x place) (inside-range table columns low high)
    ∙ visit-none here path (t.Range table columns low high) place

inside-index_loop : (on : Condition) (left : Tree) (places : List ℕ) (table : StoredTable) (columns : List ℕ) → in_node (t.IndexLoop on left places table columns) ≡ two (λ s x. t.IndexLoop x s places table columns) (child left) (in_condition on)
inside-index_loop on left places table columns = search (rules, the_lemmas)

pub visit_index_loop : (here : Here) (path : List ℕ) (on : Condition) (left : Tree) (places : List ℕ) (table : StoredTable) (columns : List ℕ) (place : Option ℕ)
    → visit here path (in_node (t.IndexLoop on left places table columns)) place ≡ together (λ s x. t.IndexLoop x s places table columns) (visit here path (child left) place) (visit here path (in_condition on) (passed (child left) place))
visit_index_loop here path on left places table columns place = ap (λ (x : Inside Tree). visit here path x place) (inside-index_loop on left places table columns)
    ∙ visit-two here path (λ s x. t.IndexLoop x s places table columns) (child left) (in_condition on) place

inside-hash_join : (on : Condition) (left right : Tree) (left_places right_places : List ℕ) → in_node (t.HashJoin on left right left_places right_places) ≡ two (λ (s : Tree × Tree) x. t.HashJoin x s.0 s.1 left_places right_places) (beside (child left) (child right)) (in_condition on)
inside-hash_join on left right left_places right_places = search (rules, the_lemmas)

pub visit_hash_join : (here : Here) (path : List ℕ) (on : Condition) (left right : Tree) (left_places right_places : List ℕ) (place : Option ℕ)
    → visit here path (in_node (t.HashJoin on left right left_places right_places)) place ≡ together (λ (s : Tree × Tree) x. t.HashJoin x s.0 s.1 left_places right_places) (pair (visit here path (child left) place) (visit here path (child right) (passed (child left) place))) (visit here path (in_condition on) (passed (child right) (passed (child left) place)))
visit_hash_join here path on left right left_places right_places place = ap (λ (x : Inside Tree). visit here path x place) (inside-hash_join on left right left_places right_places)
    ∙ visit-two here path (λ (s : Tree × Tree) x. t.HashJoin x s.0 s.1 left_places right_places) (beside (child left) (child right)) (in_condition on) place
    ∙ visit-sides here path (λ (s : Tree × Tree) x. t.HashJoin x s.0 s.1 left_places right_places) left right (in_condition on) place

inside-member : (operand : Expression) (is_negated : Bool) (members rows : Tree) → in_node (t.Member operand is_negated members rows) ≡ two (λ (s : Tree × Tree) x. t.Member x is_negated s.1 s.0) (beside (child rows) (child members)) (in_expression operand)
inside-member operand is_negated members rows = search (rules, the_lemmas)

pub visit_member : (here : Here) (path : List ℕ) (operand : Expression) (is_negated : Bool) (members rows : Tree) (place : Option ℕ)
    → visit here path (in_node (t.Member operand is_negated members rows)) place ≡ together (λ (s : Tree × Tree) x. t.Member x is_negated s.1 s.0) (pair (visit here path (child rows) place) (visit here path (child members) (passed (child rows) place))) (visit here path (in_expression operand) (passed (child members) (passed (child rows) place)))
visit_member here path operand is_negated members rows place = ap (λ (x : Inside Tree). visit here path x place) (inside-member operand is_negated members rows)
    ∙ visit-two here path (λ (s : Tree × Tree) x. t.Member x is_negated s.1 s.0) (beside (child rows) (child members)) (in_expression operand) place
    ∙ visit-sides here path (λ (s : Tree × Tree) x. t.Member x is_negated s.1 s.0) rows members (in_expression operand) place

pub ruleset visited = (visit_constant, passed_constant, visit_column, passed_column, visit_calculation, passed_calculation, visit_concatenation, passed_concatenation, visit_negation, passed_negation, visit_scalar, passed_scalar, visit_or, passed_or, visit_and, passed_and, visit_not, passed_not, visit_test, passed_test, visit_compare, passed_compare, visit_between, passed_between, visit_in_list, passed_in_list, visit_in_query, passed_in_query, visit_like, passed_like, visit_null, passed_null, visit_exists, passed_exists, visit_count, passed_count, visit_over, passed_over, visit_scan, visit_filter, visit_product, visit_inner, visit_half, visit_opposite, visit_left, visit_group, visit_project, visit_distinct, visit_set, visit_sort, visit_seek, visit_range, visit_index_loop, visit_hash_join, visit_member, visit_pair, passed_pair)
