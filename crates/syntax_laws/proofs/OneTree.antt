-- Tokens have one tree at most.
use Rattle.std.proofs.Common.{◌≡◌, ℕ, zero, suc, ◌≤◌, true, [], ◌∷◌, List, Option, refl, ap, subst, arith}
use Rattle.lexer.specs.declared.kinds.Kind.TheVariants as kind
use Rattle.lexer.specs.declared.kinds.Symbol.TheVariants as s
use Rattle.lexer.specs.declared.kinds.Token.{Token}
use Rattle.lexer.specs.Token.{Bytes}
use Rattle.lexer.specs.Tokens.{kinds_of, AreTokens}
use Rattle.lexer.proofs.Unique.{AreTokens-unique}
use Rattle.ast.specs.declared.statement.Statement.{Statement}
use Rattle.ast.specs.declared.tree.Condition.{Condition}
use Rattle.ast.specs.Notation.{Tokens}
use Rattle.ast.specs.Nesting.{lefts}
use Rattle.ast.specs.Grammar.{IsText, IsConditionText}
use Rattle.parser.specs.Shallow.{is_shallow}
use Rattle.parser.proofs.AgainText.{text_again, text_only, condition_text_again, condition_text_only}

-- parentheses nest no deeper than there are left ones
shallow : (ts : Tokens) (d : ℕ) → lefts ts ≤ d → is_shallow ts d ≡ true
shallow [] d h = refl
shallow (kind.Symbol s.LeftParenthesis ∷ ts) zero h = absurd (omega arith)
shallow (kind.Symbol s.LeftParenthesis ∷ ts) (suc d) h = shallow ts d (omega arith)
shallow (kind.Symbol s.RightParenthesis ∷ ts) d h = shallow ts (suc d) (omega arith)
shallow (kind.Symbol _ ∷ ts) d h = shallow ts d (omega arith)
shallow (_ ∷ ts) d h = shallow ts d (omega arith)

pub one_statement : (limit : Option ℕ) (ts : Tokens) (x y : Statement) → IsText limit ts x → IsText limit ts y → x ≡ y
one_statement limit ts x y first second =
    let flat = shallow ts (lefts ts) (omega arith) in
    let read = text_again limit (lefts ts) ts x first flat in
    text_only limit (lefts ts) ts y x read.0 second flat read.1

pub one_condition : (limit : Option ℕ) (ts : Tokens) (x y : Condition) → IsConditionText limit ts x → IsConditionText limit ts y → x ≡ y
one_condition limit ts x y first second =
    let flat = shallow ts (lefts ts) (omega arith) in
    let read = condition_text_again limit (lefts ts) ts x first flat in
    condition_text_only limit (lefts ts) ts y x read.0 second flat read.1

pub one_of_a_text : (limit : Option ℕ) (text : Bytes) (tokens others : List Token) (x y : Statement) → AreTokens text tokens → AreTokens text others
    → IsText limit (kinds_of tokens) x → IsText limit (kinds_of others) y → x ≡ y
one_of_a_text limit text tokens others x y are also first second =
    let same : kinds_of others ≡ kinds_of tokens = ap kinds_of (AreTokens-unique text others tokens also are) in
    one_statement limit (kinds_of tokens) x y first (subst (λ ts. IsText limit ts y) same second)
