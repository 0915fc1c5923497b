-- The tokens of a whole text, each with its place, and its first fault.
use Rattle.std.specs.Prelude.{◌≡◌, ℕ, ◌≤◌, false, List, [], ◌∷◌, length, drop, map, slice_range}
use Rattle.lexer.specs.declared.kinds.Kind.{Kind}
use Rattle.lexer.specs.declared.kinds.Token.{Token}
use Rattle.refusals.specs.declared.refusal.Refusal.{Refusal}
use Rattle.lexer.specs.Token.{Bytes, IsGap, Spells, EndsBefore, IsFault, begins_comment}

abbrev pub kinds_of : List Token → List Kind
kinds_of = map (λ token. token.kind)

-- After the first `from` bytes of the text the next token is this one, behind white space and
-- comments.
pub record IsToken (text : Bytes) (from : ℕ) (token : Token) : Type 0 where
  pub after : from ≤ token.start
  pub within : token.end ≤ length text
  pub gap : IsGap (slice_range text from token.start) (drop token.start text)
  pub no_comment : begins_comment (drop token.start text) ≡ false
  pub spelling : Spells (slice_range text token.start token.end) token.kind
  pub ends : EndsBefore (drop token.end text) token.kind

-- The tokens between two places of the text.
abbrev pub AreTokensBetween : Bytes → ℕ → List Token → ℕ → Type 0
AreTokensBetween text from [] to = from ≡ to
AreTokensBetween text from (token ∷ tokens) to = IsToken text from token × AreTokensBetween text token.end tokens to

-- All tokens of the text: after the last one come only white space and comments.
pub record AreTokens (text : Bytes) (tokens : List Token) : Type 0 where
  pub last : ℕ
  pub before : AreTokensBetween text 0 tokens last
  pub gap : IsGap (drop last text) []

-- The first fault of the text from left to right: after some tokens, and behind white space and
-- comments.
pub record IsFirstFault (text : Bytes) (refusal : Refusal) : Type 0 where
  pub tokens : List Token
  pub last : ℕ
  pub at : ℕ
  pub before : AreTokensBetween text 0 tokens last
  pub after : last ≤ at
  pub gap : IsGap (slice_range text last at) (drop at text)
  pub fault : IsFault (drop at text) refusal
