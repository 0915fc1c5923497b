-- What a text has.
use Rattle.std.specs.Prelude.{List}
use Rattle.lexer.specs.Token.{Bytes}
use Rattle.lexer.specs.Tokens.{AreTokens, IsFirstFault}
use Rattle.lexer.specs.declared.kinds.Token.{Token}
use Rattle.refusals.specs.declared.refusal.Refusal.{Refusal}

-- its tokens, or its first fault
pub data HasOne (text : Bytes) : Type 0 where
  has_tokens : (tokens : List Token) → AreTokens text tokens → HasOne text
  has_fault : (fault : Refusal) → IsFirstFault text fault → HasOne text
