-- The table that a text names.
use Rattle.std.proofs.Common.{◌≡◌, ◌≢◌, ◌∙◌, sym, ap, subst, List, [], ◌∷◌}
use Rattle.refusals.specs.declared.refusal.Refusal.{Refusal}
use Rattle.refusals.specs.declared.refusal.Refusal.TheVariants.{Memory}
use Rattle.lexer.specs.declared.kinds.Kind.TheVariants as kind
use Rattle.lexer.specs.declared.kinds.Token.{Token}
use Rattle.lexer.specs.Token.{Bytes}
use Rattle.lexer.specs.Tokens.{AreTokens, kinds_of}
use Rattle.denote.specs.Database.{Name}
use Rattle.csvio.specs.TableName.{IsNameIn}

-- a text whose tokens are told for want of memory alone has none of which it is the fault
pub unnamed_fault : (text : Bytes) (refusal : Refusal) → refusal ≢ Memory → ((all : List Token) → AreTokens text all → refusal ≡ Memory) → (name : Name) → IsNameIn text name → ⊥
unnamed_fault text refusal ne only name is = ne (only is.tokens is.are)

-- its tokens are the only ones
pub unnamed_tokens : (text : Bytes) (found : List Token) → ((all : List Token) → AreTokens text all → found ≡ all) → ((name : Name) → kinds_of found ≡ kind.Name name ∷ [] → ⊥)
    → (name : Name) → IsNameIn text name → ⊥
unnamed_tokens text found only none name is = none name (subst (λ (tokens : List Token). kinds_of tokens ≡ kind.Name name ∷ []) (sym (only is.tokens is.are)) is.one)

-- it is no other name
pub one_name : (text : Bytes) (found : List Token) (name other : Name) → ((all : List Token) → AreTokens text all → found ≡ all) → kinds_of found ≡ kind.Name name ∷ [] → IsNameIn text other → other ≡ name
one_name text found name other only is named =
    let same : kind.Name other ∷ [] ≡ kind.Name name ∷ [] = sym named.one ∙ ap kinds_of (sym (only named.tokens named.are)) ∙ is in cc same
