-- What the text of a call is read as: a statement, or the first refusal. (ISO/IEC 9075:1992, 20.1;
-- the limits and the order of the refusals are our own choice.)
use Rattle.std.specs.Prelude.{◌≡◌, ℕ, ◌<◌, ◌≤◌, List, length, Option, Some, None, IsSome}
use Rattle.lexer.specs.declared.kinds.Token.{Token}
use Rattle.refusals.specs.declared.refusal.Refusal.{Refusal}
use Rattle.refusals.specs.declared.refusal.Refusal.TheVariants.{Invalid, NotSupported, Exceeded}
use Rattle.refusals.specs.declared.reason.Reason.TheVariants.{Syntax}
use Rattle.refusals.specs.declared.limit.Limit.TheVariants as limit
use Rattle.lexer.specs.Support.{first_unsupported}
use Rattle.lexer.specs.Token.{Bytes}
use Rattle.lexer.specs.Tokens.{AreTokens, IsFirstFault, kinds_of}
use Rattle.ast.specs.declared.statement.Statement.{Statement}
use Rattle.ast.specs.Grammar.{IsText}
use Rattle.ast.specs.Nesting.{IsNestedWithin}
use Rattle.ast.specs.Notation.{Tokens}

-- the greatest number of bytes of a statement
abbrev pub longest_statement : ℕ
longest_statement = 65536

-- the greatest number of parentheses open at once, and of operands in a chain
abbrev pub deepest : ℕ
deepest = 64

abbrev pub longest_chain : ℕ
longest_chain = 64

-- the text is short enough and has these tokens, whose words are all supported and whose
-- parentheses are within the limit
pub record IsSpelled (text : Bytes) (tokens : List Token) : Type 0 where
  pub short : length text ≤ longest_statement
  pub tokenized : AreTokens text tokens
  pub supported : first_unsupported tokens ≡ None
  pub nested : IsNestedWithin deepest (kinds_of tokens)

-- the text is read as this statement
pub record IsRead (text : Bytes) (x : Statement) : Type 0 where
  pub tokens : List Token
  pub spelled : IsSpelled text tokens
  pub statement : IsText (Some longest_chain) (kinds_of tokens) x

-- no statement has these tokens, whether chains are limited or not
abbrev pub IsNoText : Option ℕ → Tokens → Type 0
IsNoText chain tokens = (x : Statement) → IsText chain tokens x → ⊥

-- The text is refused before it is known what it asks for. The cases come in this order: in each,
-- those before it do not hold.
pub data IsUnread (text : Bytes) (refusal : Refusal) : Type 0 where
  too_long : longest_statement < length text → refusal ≡ Exceeded limit.Statement → IsUnread text refusal
  no_token : length text ≤ longest_statement → IsFirstFault text refusal → IsUnread text refusal
  unsupported : (tokens : List Token) → length text ≤ longest_statement → AreTokens text tokens
      → IsSome (first_unsupported tokens)
      → refusal ≡ NotSupported → IsUnread text refusal
  too_deep : (tokens : List Token) → length text ≤ longest_statement → AreTokens text tokens
      → first_unsupported tokens ≡ None
      → (IsNestedWithin deepest (kinds_of tokens) → ⊥) → refusal ≡ Exceeded limit.Nesting → IsUnread text refusal
  too_many_operands : (tokens : List Token) (x : Statement) → IsSpelled text tokens
      → IsNoText (Some longest_chain) (kinds_of tokens)
      → IsText None (kinds_of tokens) x → refusal ≡ Exceeded limit.Chain → IsUnread text refusal
  no_statement : (tokens : List Token) → IsSpelled text tokens → IsNoText None (kinds_of tokens)
      → refusal ≡ Invalid Syntax → IsUnread text refusal
