-- The text kept of a condition has the tokens of the condition alone, and they are the condition.
use Rattle.std.proofs.Common.{◌≡◌, ℕ, ◌≤◌, List, [], ◌∷◌, ◌++◌, Option, Some, Ok, append-nil, sym as flip, ap, ◌∙◌, subst}
use Rattle.std.specs.Prelude.{slice_range}
use Rattle.sqlval.specs.declared.schema.Column.{Column}
use Rattle.lexer.specs.declared.kinds.Kind.{Kind}
use Rattle.lexer.specs.declared.kinds.Kind.TheVariants as kind
use Rattle.lexer.specs.declared.kinds.Token.{Token}
use Rattle.lexer.specs.Number.{greatest_number}
use Rattle.lexer.specs.Printing.{IsKind, AreKinds, HasKinds}
use Rattle.lexer.specs.Token.{Bytes, Spells}
use Rattle.lexer.specs.Tokens.{AreTokensBetween, kinds_of}
use Rattle.lexer.proofs.Printed.{HasKinds-text_of}
use Rattle.lexer.proofs.Unique.{AreTokens-unique}
use Rattle.ast.specs.declared.tree.Condition.{Condition}
use Rattle.ast.specs.Grammar.{IsConditionText, nested_at}
use Rattle.ast.specs.Notation.{Tokens}
use Rattle.typing.specs.declared.typed.Condition.{Condition as Typed}
use Rattle.typing.specs.Check.{ReadsCheck, check_found}
use Rattle.typing.specs.Kept.{IsConditionIn}
use Rattle.typing.specs.Printed.{condition_tokens, printed}
use Rattle.typing.specs.Table.{frame_of}
use Rattle.typing.proofs.ReadsQueries.{nested}

-- ---- what the tokens of a text are

spelled_kind : (bytes : Bytes) (k : Kind) → Spells bytes k → IsKind k
spelled_kind bytes (kind.Word w) h = tt
spelled_kind bytes (kind.Name name) h = h.1
spelled_kind bytes (kind.Number n) h = subst (λ v. v ≤ greatest_number) (flip h.2) h.1
spelled_kind bytes (kind.Text characters) h = h.1
spelled_kind bytes (kind.Symbol s) h = tt

kinds_between : (text : Bytes) (tokens : List Token) (from to : ℕ) → AreTokensBetween text from tokens to → AreKinds (kinds_of tokens)
kinds_between text [] from to h = tt
kinds_between text (token ∷ tokens) from to h = (spelled_kind (slice_range text token.start token.end) token.kind h.0.spelling, kinds_between text tokens token.end to h.1)

kinds_of_text : (text : Bytes) (kinds : Tokens) → HasKinds text kinds → AreKinds kinds
kinds_of_text text kinds h = subst AreKinds h.kinds_are (kinds_between text h.tokens 0 h.are.last h.are.before)

last_kinds : (ks ls : Tokens) → AreKinds (ks ++ ls) → AreKinds ls
last_kinds [] ls h = h
last_kinds (k ∷ ks) ls h = last_kinds ks ls h.1

first_kinds : (ks ls : Tokens) → AreKinds (ks ++ ls) → AreKinds ks
first_kinds [] ls h = tt
first_kinds (k ∷ ks) ls h = (h.0, first_kinds ks ls h.1)

same_kinds : (text : Bytes) (ks ls : Tokens) → HasKinds text ks → HasKinds text ls → ks ≡ ls
same_kinds text ks ls h g = flip h.kinds_are ∙ ap kinds_of (AreTokens-unique text h.tokens g.tokens h.are g.are) ∙ g.kinds_are

-- ---- the kept text

pub only : (limit : Option ℕ) (depth : ℕ) (ts rest : Tokens) (x : Condition) → (nested_at limit depth).condition ts x rest → ts ≡ condition_tokens x ++ rest
only limit depth ts rest x h = ((nested limit depth).condition.at ts x rest h).only

pub again : (limit : Option ℕ) (depth : ℕ) (ts rest : Tokens) (x : Condition) → (nested_at limit depth).condition ts x rest → IsConditionText limit (condition_tokens x) x
again limit depth ts rest x h = record {
  depth = depth;
  condition = subst (λ k. (nested_at limit depth).condition k x []) (append-nil (condition_tokens x)) (((nested limit depth).condition.at ts x rest h).again []);
}

spelled_again : (limit : Option ℕ) (x : Condition) (text : Bytes) → IsConditionIn limit x text → HasKinds (printed x) (condition_tokens x)
spelled_again limit x text c =
    let are : AreKinds (c.before ++ c.from) = kinds_of_text text (c.before ++ c.from) c.spelled in
    HasKinds-text_of (condition_tokens x)
    (first_kinds (condition_tokens x) c.rest (subst AreKinds (only limit c.depth c.from c.rest x c.condition) (last_kinds c.before c.from are)))

pub stands : (name : List ℕ) (columns : List Column) (x : Condition) (text : Bytes) (condition : Typed) → IsConditionIn (Some 64) x text
    → check_found (frame_of name columns) x ≡ Ok condition → ReadsCheck name columns (printed x) condition
stands name columns x text condition c found = record {
  kinds = condition_tokens x;
  tree = x;
  spelled = spelled_again (Some 64) x text c;
  parsed = again (Some 64) c.depth c.from c.rest x c.condition;
  found = found;
}

pub alone : (limit limit' : Option ℕ) (x y : Condition) (text text' : Bytes) → IsConditionIn limit x text → IsConditionIn limit' y text' → printed x ≡ printed y → condition_tokens x ≡ condition_tokens y
alone limit limit' x y text text' c d e =
    same_kinds (printed y) (condition_tokens x) (condition_tokens y) (subst (λ t. HasKinds t (condition_tokens x)) e (spelled_again limit x text c)) (spelled_again limit' y text' d)
