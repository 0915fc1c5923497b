-- What the steps from a text to its statement say together.
use Rattle.std.proofs.Common.{◌≡◌, ◌≢◌, ◌⊎◌, ◌+◌, ◌≤◌, List, length, Some, None, Result, Ok, Err, refl, sym, ap, subst, inl, inr, arith}
use Rattle.std.specs.Prelude.{◌↔◌, IfOk, IfErr, MatchResult}
use Rattle.std.proofs.lemmas.Bool.Decides.{leb_tells}
use Rattle.lexer.specs.declared.kinds.Token.{Token}
use Rattle.refusals.specs.declared.refusal.Refusal.{Refusal}
use Rattle.refusals.specs.declared.refusal.Refusal.TheVariants.{Memory, Invalid, Exceeded}
use Rattle.refusals.specs.declared.reason.Reason.TheVariants.{Syntax}
use Rattle.refusals.specs.declared.limit.Limit.TheVariants.{Nesting, Chain}
use Rattle.lexer.specs.Support.{first_unsupported}
use Rattle.lexer.specs.Token.{Bytes}
use Rattle.lexer.specs.Tokens.{AreTokens, kinds_of}
use Rattle.ast.specs.declared.statement.Statement.{Statement}
use Rattle.ast.specs.Grammar.{IsText}
use Rattle.ast.specs.Nesting.{lefts, rights, IsNestedWithin}
use Rattle.ast.specs.Notation.{Tokens}
use Rattle.parser.specs.Trees.{HasStatement}
use Rattle.statement_definitions.specs.Reading.{IsRead, IsUnread, IsSpelled, deepest, longest_statement}

-- what is not nested too deep is nested within the limit
nested_unless : (ts : Tokens) → ((IsNestedWithin deepest ts → ⊥) → ⊥) → IsNestedWithin deepest ts
nested_unless ts unless front back e = elim (leb_tells (lefts front) (rights front + deepest)) [
  | inl t ↦ t.1
  | inr f ↦ absurd (unless (λ nested. let a = nested front back e in let b = f.1 in omega arith))
]

-- what is promised of a parsed list of tokens
pub record Parses (tokens : List Token) (result : Result Statement Refusal) : Type 0 where
  pub found : IfOk result (λ x. IsText (Some 64) (kinds_of tokens) x)
  pub only : (x : Statement) → IsText (Some 64) (kinds_of tokens) x → (result ≡ Ok x) ⊎ (result ≡ Err Memory) ⊎ (result ≡ Err (Exceeded Nesting))
  pub syntax : result ≡ Err (Invalid Syntax) → (¬ HasStatement (Some 64) (kinds_of tokens)) × (¬ HasStatement None (kinds_of tokens))
  pub chain : result ≡ Err (Exceeded Chain) → (¬ HasStatement (Some 64) (kinds_of tokens)) × HasStatement None (kinds_of tokens)
  pub nesting : (result ≡ Err (Exceeded Nesting)) ↔ (¬ IsNestedWithin 64 (kinds_of tokens))
  pub refusal : IfErr result (λ e. (e ≡ Memory) ⊎ (e ≡ Invalid Syntax) ⊎ (e ≡ Exceeded Chain) ⊎ (e ≡ Exceeded Nesting))

-- tokens of a text that is short enough, with supported words
pub record AreReadable (text : Bytes) (tokens : List Token) : Type 0 where
  pub short : length text ≤ longest_statement
  pub tokenized : AreTokens text tokens
  pub supported : first_unsupported tokens ≡ None

spelled : (text : Bytes) (tokens : List Token) (result : Result Statement Refusal) → AreReadable text tokens → Parses tokens result
    → result ≢ Err (Exceeded Nesting) → IsSpelled text tokens
spelled text tokens result are parses ne = record {
  short = are.short;
  tokenized = are.tokenized;
  supported = are.supported;
  nested = nested_unless (kinds_of tokens) (λ deep. ne (parses.nesting.1 deep));
}

read_when : (text : Bytes) (tokens : List Token) (x : Statement) → AreReadable text tokens → Parses tokens (Ok x) → IsRead text x
read_when text tokens x are parses = record { tokens = tokens; spelled = spelled text tokens (Ok x) are parses (λ e. cc); statement = parses.found }

unread_when : (text : Bytes) (tokens : List Token) (e : Refusal) → AreReadable text tokens → Parses tokens (Err e) → e ≢ Memory → IsUnread text e
unread_when text tokens e are parses ne = elim parses.refusal [
  | inl memory ↦ absurd (ne memory)
  | inr other ↦ elim other [
    | inl syntax ↦ IsUnread.no_statement tokens (spelled text tokens (Err e) are parses (λ d. cc)) (λ x h. (parses.syntax (ap Err syntax)).1 (x, h)) syntax
    | inr another ↦ elim another [
      | inl chain ↦
          let trees = parses.chain (ap Err chain) in
          IsUnread.too_many_operands tokens (trees.1).0 (spelled text tokens (Err e) are parses (λ d. cc)) (λ x h. trees.0 (x, h)) (trees.1).1 chain
      | inr deep ↦ IsUnread.too_deep tokens are.short are.tokenized are.supported (parses.nesting.0 (ap Err deep)) deep
    ]
  ]
]

-- the reply to a text whose tokens were parsed
pub read_if : (text : Bytes) (tokens : List Token) (result : Result Statement Refusal) → AreReadable text tokens → Parses tokens result → IfOk result (λ x. IsRead text x)
read_if text tokens (Ok x) are parses = read_when text tokens x are parses
read_if text tokens (Err e) are parses = tt

pub unread_if : (text : Bytes) (tokens : List Token) (result : Result Statement Refusal) → AreReadable text tokens → Parses tokens result
    → IfErr result (λ e. e ≢ Memory → IsUnread text e)
unread_if text tokens (Ok x) are parses = tt
unread_if text tokens (Err e) are parses = unread_when text tokens e are parses

pub only_one : (text : Bytes) (tokens : List Token) (result : Result Statement Refusal) → Parses tokens result → (x : Statement) (read : IsRead text x)
    → tokens ≡ read.tokens → MatchResult result (λ y. y ≡ x) (λ e. e ≡ Memory)
only_one text tokens result parses x read same =
    let nested : IsNestedWithin deepest (kinds_of tokens) = subst (λ ts. IsNestedWithin deepest (kinds_of ts)) (sym same) read.spelled.nested in
    elim (parses.only x (subst (λ ts. IsText (Some 64) (kinds_of ts) x) (sym same) read.statement)) [
      | inl e ↦ rw e refl
      | inr f ↦ elim f [
        | inl e ↦ rw e refl
        | inr e ↦ absurd (parses.nesting.0 e nested)
      ]
    ]
