-- A reading of the texts of CHECKs: a text has its tokens or a fault, tokens are read by as many
-- levels as they have left parentheses, and the rules of names and types find a condition or not.
-- Where there is none, it gives some condition.
use Rattle.std.proofs.Common.{◌≡◌, refl, ap, ◌∙◌, ℕ, zero, suc, ◌≤◌, true, List, [], ◌∷◌, Option, Some, None, Ok, Err, arith}
use Rattle.sqlval.specs.declared.schema.Column.{Column}
use Rattle.lexer.specs.declared.kinds.Kind.TheVariants as kind
use Rattle.lexer.specs.declared.kinds.Symbol.TheVariants as s
use Rattle.lexer.specs.Printing.{HasKinds}
use Rattle.lexer.specs.Tokens.{kinds_of}
use Rattle.lexer.proofs.Unique.{AreTokens-unique, no_fault}
use Rattle.ast.specs.declared.tree.Condition.{Condition as Tree}
use Rattle.ast.specs.Nesting.{lefts}
use Rattle.ast.specs.Notation.{Tokens}
use Rattle.syntax_laws.specs.Outcome.{HasOne, has_tokens, has_fault}
use Rattle.syntax_laws.proofs.Reached.{text_has_one}
use Rattle.parse_expressions.specs.Levels.{inner_at}
use Rattle.parse_statements.specs.ReadStatements.{condition_text}
use Rattle.parser.specs.Shallow.{is_shallow}
use Rattle.parser.proofs.AgainText.{condition_text_again}
use Rattle.typing.specs.declared.typed.Condition.{Condition}
use Rattle.typing.specs.declared.typed.Condition.TheVariants as condition
use Rattle.typing.specs.Check.{IsCheckReading, check_found}
use Rattle.typing.specs.Finding.{Finding}
use Rattle.typing.specs.Table.{frame_of}
use Rattle.denote.specs.Database.{CheckReading}

-- ---- tokens

abbrev kinds_in : {text : List ℕ} → HasOne text → Option Tokens
kinds_in (has_tokens tokens are) = Some (kinds_of tokens)
kinds_in (has_fault fault first) = None

-- a text that has tokens has these
kinds_found : (text : List ℕ) (kinds : Tokens) → HasKinds text kinds → (one : HasOne text) → kinds_in one ≡ Some kinds
kinds_found text kinds h (has_tokens tokens are) = ap Some (ap kinds_of (AreTokens-unique text tokens h.tokens are h.are) ∙ h.kinds_are)
kinds_found text kinds h (has_fault fault first) = absurd (no_fault text h.tokens fault h.are first)

-- ---- their tree

-- parentheses nest no deeper than there are left ones
shallow : (ts : Tokens) (d : ℕ) → lefts ts ≤ d → is_shallow ts d ≡ true
shallow [] d h = refl
shallow (kind.Symbol s.LeftParenthesis ∷ ts) zero h = absurd (omega (arith, h))
shallow (kind.Symbol s.LeftParenthesis ∷ ts) (suc d) h = shallow ts d (omega (arith, h))
shallow (kind.Symbol s.RightParenthesis ∷ ts) d h = shallow ts (suc d) (omega (arith, h))
shallow (kind.Symbol _ ∷ ts) d h = shallow ts d (omega (arith, h))
shallow (_ ∷ ts) d h = shallow ts d (omega (arith, h))

abbrev tree_in : Tokens → Option (Tree × Tokens)
tree_in kinds = condition_text (inner_at (Some 64) (suc (lefts kinds))) kinds

-- ---- what it stands for

abbrev condition_in : Finding Condition → Condition
condition_in (Ok found) = found
condition_in (Err reasons) = condition.And []

abbrev condition_of : List ℕ → List Column → Option (Tree × Tokens) → Condition
condition_of name columns None = condition.And []
condition_of name columns (Some x) = condition_in (check_found (frame_of name columns) x.0)

abbrev read_in : List ℕ → List Column → Option Tokens → Condition
read_in name columns None = condition.And []
read_in name columns (Some kinds) = condition_of name columns (tree_in kinds)

pub reading : CheckReading
reading name columns text = read_in name columns (kinds_in (text_has_one text))

pub is_reading : IsCheckReading reading
unfolding reading
is_reading name columns text found h =
    let few : lefts h.kinds ≤ lefts h.kinds = omega arith in
    let tree = condition_text_again (Some 64) (lefts h.kinds) h.kinds h.tree h.parsed (shallow h.kinds (lefts h.kinds) few) in
    ap (read_in name columns) (kinds_found text h.kinds h.spelled (text_has_one text))
    ∙ ap (condition_of name columns) tree.1
    ∙ ap condition_in h.found
