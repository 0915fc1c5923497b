-- Which table a text names: our own choice.
use Rattle.std.specs.Prelude.{◌≡◌, List, [], ◌∷◌}
use Rattle.lexer.specs.declared.kinds.Kind.TheVariants as kind
use Rattle.lexer.specs.declared.kinds.Token.{Token}
use Rattle.lexer.specs.Token.{Bytes}
use Rattle.lexer.specs.Tokens.{AreTokens, kinds_of}
use Rattle.denote.specs.Database.{Name}

-- the text is one name, folded as in a statement, and nothing else but white space and comments
pub record IsNameIn (text : Bytes) (name : Name) : Type 0 where
  pub tokens : List Token
  pub are : AreTokens text tokens
  pub one : kinds_of tokens ≡ kind.Name name ∷ []
