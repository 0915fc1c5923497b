-- The text of a CHECK has one list of tokens, these one tree, and that is found to be one
-- condition.
use Rattle.std.proofs.Common.{◌≡◌, sym, ap, ◌∙◌, subst, ℕ, List, Option, Some, Ok, Err}
use Rattle.sqlval.specs.declared.schema.Column.{Column}
use Rattle.lexer.specs.declared.kinds.Token.{Token}
use Rattle.lexer.specs.Printing.{HasKinds}
use Rattle.lexer.specs.Token.{Bytes}
use Rattle.lexer.specs.Tokens.{AreTokens, kinds_of}
use Rattle.ast.specs.declared.tree.Condition.{Condition as Tree}
use Rattle.ast.specs.Grammar.{IsConditionText}
use Rattle.ast.specs.Notation.{Tokens}
use Rattle.typing.specs.declared.typed.Condition.{Condition}
use Rattle.typing.specs.Check.{ReadsCheck, check_found}
use Rattle.typing.specs.Finding.{Finding}
use Rattle.typing.specs.Table.{frame_of}

abbrev OneList : Type 0
OneList = (text : Bytes) (tokens others : List Token) → AreTokens text tokens → AreTokens text others → tokens ≡ others

abbrev OneTree : Type 0
OneTree = (limit : Option ℕ) (tokens : Tokens) (x y : Tree) → IsConditionText limit tokens x → IsConditionText limit tokens y → x ≡ y

abbrev condition_in : Finding Condition → Condition → Condition
condition_in (Ok condition) other = condition
condition_in (Err reasons) other = other

one_found : (one other : Condition) (found : Finding Condition) → found ≡ Ok one → found ≡ Ok other → one ≡ other
one_found one other found h k = ap (λ (f : Finding Condition). condition_in f one) (sym h ∙ k)

same_kinds : OneList → (text : List ℕ) (kinds others : Tokens) → HasKinds text kinds → HasKinds text others → others ≡ kinds
same_kinds lists text kinds others h k = sym k.kinds_are ∙ ap kinds_of (lists text k.tokens h.tokens k.are h.are) ∙ h.kinds_are

pub one_condition : OneList → OneTree → (name : List ℕ) (columns : List Column) (text : List ℕ) (one other : Condition) → ReadsCheck name columns text one → ReadsCheck name columns text other → one ≡ other
one_condition lists trees name columns text one other h k =
    let kinds = same_kinds lists text h.kinds k.kinds h.spelled k.spelled in
    let tree = trees (Some 64) h.kinds h.tree k.tree h.parsed (subst (λ ts. IsConditionText (Some 64) ts k.tree) kinds k.parsed) in
    one_found one other (check_found (frame_of name columns) k.tree) (ap (check_found (frame_of name columns)) (sym tree) ∙ h.found) k.found
