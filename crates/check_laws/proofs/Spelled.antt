-- The printed text of a condition that stands in a text has the condition's tokens.
use Rattle.std.proofs.Common.{◌≡◌, ℕ, ◌≤◌, List, [], ◌∷◌, ◌++◌, Some, sym as flip, subst}
use Rattle.std.specs.Prelude.{slice_range}
use Rattle.lexer.specs.declared.kinds.Kind.{Kind}
use Rattle.lexer.specs.declared.kinds.Kind.TheVariants as kind
use Rattle.lexer.specs.declared.kinds.Token.{Token}
use Rattle.lexer.specs.Number.{greatest_number}
use Rattle.lexer.specs.Printing.{IsKind, AreKinds, HasKinds}
use Rattle.lexer.specs.Token.{Bytes, Spells}
use Rattle.lexer.specs.Tokens.{AreTokensBetween, kinds_of}
use Rattle.lexer.proofs.Printed.{HasKinds-text_of}
use Rattle.ast.specs.declared.tree.Condition.{Condition}
use Rattle.ast.specs.Notation.{Tokens}
use Rattle.typing.specs.Printed.{condition_tokens, printed}
use Rattle.typing.proofs.ChecksStand.{Stands}
use Rattle.typing.proofs.KeptTexts.{only}

-- a token of a text can be one
spelled_kind : (bytes : Bytes) (k : Kind) → Spells bytes k → IsKind k
spelled_kind bytes (kind.Word w) h = tt
spelled_kind bytes (kind.Name name) h = h.1
spelled_kind bytes (kind.Number n) h = subst (λ v. v ≤ greatest_number) (flip h.2) h.1
spelled_kind bytes (kind.Text characters) h = h.1
spelled_kind bytes (kind.Symbol s) h = tt

kinds_between : (text : Bytes) (tokens : List Token) (from to : ℕ) → AreTokensBetween text from tokens to → AreKinds (kinds_of tokens)
kinds_between text [] from to h = tt
kinds_between text (token ∷ tokens) from to h = (spelled_kind (slice_range text token.start token.end) token.kind h.0.spelling, kinds_between text tokens token.end to h.1)

last_kinds : (ks ls : Tokens) → AreKinds (ks ++ ls) → AreKinds ls
last_kinds [] ls h = h
last_kinds (k ∷ ks) ls h = last_kinds ks ls h.1

first_kinds : (ks ls : Tokens) → AreKinds (ks ++ ls) → AreKinds ks
first_kinds [] ls h = tt
first_kinds (k ∷ ks) ls h = (h.0, first_kinds ks ls h.1)

pub spelled_again : (text : Bytes) (kinds : Tokens) (x : Condition) → HasKinds text kinds → Stands (Some 64) kinds x → HasKinds (printed x) (condition_tokens x)
spelled_again text kinds x h s =
    let all : AreKinds kinds = subst AreKinds h.kinds_are (kinds_between text h.tokens 0 h.are.last h.are.before) in
    let from : AreKinds s.from = last_kinds s.before s.from (subst AreKinds s.split all) in
    HasKinds-text_of (condition_tokens x) (first_kinds (condition_tokens x) s.rest (subst AreKinds (only (Some 64) s.depth s.from s.rest x s.condition) from))
