-- What is read of the text of a CHECK.
use Rattle.std.proofs.Common.{◌≡◌, refl, sym, ap, ◌∙◌, subst, ℕ, ◌<◌, List, [], ◌∷◌, ◌⊎◌, inl, inr, Some, Result, Ok, Err, arith}
use Rattle.std.specs.Prelude.{IfOk, MatchResult}
use Rattle.sqlval.specs.declared.schema.Column.{Column}
use Rattle.refusals.specs.declared.limit.Limit.TheVariants.{Nesting}
use Rattle.refusals.specs.declared.refusal.Refusal.{Refusal}
use Rattle.refusals.specs.declared.refusal.Refusal.TheVariants.{Exceeded, Memory}
use Rattle.lexer.specs.declared.kinds.Token.{Token}
use Rattle.lexer.specs.Printing.{HasKinds}
use Rattle.lexer.specs.Tokens.{AreTokens, kinds_of}
use Rattle.ast.specs.declared.tree.Condition.{Condition as Tree}
use Rattle.ast.specs.Grammar.{IsConditionText}
use Rattle.ast.specs.Nesting.{IsNestedWithin}
use Rattle.ast.specs.Notation.{Tokens}
use Rattle.parse_terminals.specs.Readers.{kinds}
use Rattle.typing.specs.declared.typed.Condition.{Condition}
use Rattle.typing.specs.Check.{ReadsCheck, check_found}
use Rattle.typing.specs.Finding.{Finding}
use Rattle.typing.specs.Finds.{Finds, IsReasonOf}
use Rattle.typing.specs.Table.{frame_of}
use Rattle.check_reader.specs.Texts.{HasTree}

-- where nothing is wrong only want of memory is shown
memory-alone : (r : Refusal) → IsReasonOf [] r → r ≡ Memory
memory-alone Memory h = refl
memory-alone r h = absurd (omega (arith, h.1))

found-as : (reply : Result Condition Refusal) (found : Finding Condition) (condition : Condition) → found ≡ Ok condition → Finds reply found → MatchResult reply (λ x. x ≡ condition) (λ r. r ≡ Memory)
found-as (Ok x) found condition e h = let is : Ok x ≡ Ok condition = sym h.ok ∙ e in cc is
found-as (Err r) found condition e h = memory-alone r (rw e at h.err)

-- ---- the tree

kinds-are : (ts : List Token) → kinds ts ≡ kinds_of ts
kinds-are [] = refl
kinds-are (t ∷ ts) = ap (λ rest. t.kind ∷ rest) (kinds-are ts)

pub tree-found : (text : List ℕ) (tokens : List Token) (reply : Result Tree Refusal) → AreTokens text tokens → IfOk reply (λ tree. IsConditionText (Some 64) (kinds tokens) tree) → IfOk reply (HasTree text)
tree-found text tokens (Ok tree) are parsed = record { kinds = kinds tokens; spelled = record { tokens = tokens; are = are; kinds_are = sym (kinds-are tokens) }; parsed = parsed }
tree-found text tokens (Err r) are parsed = tt

same-kinds : (tokens all : List Token) (written : Tokens) → tokens ≡ all → kinds_of all ≡ written → kinds tokens ≡ written
same-kinds tokens all written same spelled = kinds-are tokens ∙ ap kinds_of same ∙ spelled

-- what the parser gives of tokens that are a condition
pub tree-only : (tokens all : List Token) (written : Tokens) (tree : Tree) (reply : Result Tree Refusal) → tokens ≡ all → kinds_of all ≡ written →
    ((x : Tree) → IsConditionText (Some 64) (kinds tokens) x → (reply ≡ Ok x) ⊎ (reply ≡ Err Memory) ⊎ (reply ≡ Err (Exceeded Nesting))) →
    (reply ≡ Err (Exceeded Nesting) → IsNestedWithin 64 (kinds tokens) → ⊥) →
    IsConditionText (Some 64) written tree → IsNestedWithin 64 written → MatchResult reply (λ found. found ≡ tree) (λ r. r ≡ Memory)
tree-only tokens all written tree reply same spelled only nesting parsed nested =
    by (only tree (subst (λ (ts : Tokens). IsConditionText (Some 64) ts tree) (sym are) parsed)) (λ e. nesting e (subst (λ (ts : Tokens). IsNestedWithin 64 ts) (sym are) nested))
  where
    are : kinds tokens ≡ written
    are = same-kinds tokens all written same spelled

    by : (reply ≡ Ok tree) ⊎ (reply ≡ Err Memory) ⊎ (reply ≡ Err (Exceeded Nesting)) → (reply ≡ Err (Exceeded Nesting) → ⊥) → MatchResult reply (λ found. found ≡ tree) (λ r. r ≡ Memory)
    by (inl e) none = rw e refl
    by (inr (inl e)) none = rw e refl
    by (inr (inr e)) none = absurd (none e)

-- ---- the condition

module _ (name : List ℕ) (columns : List Column) (text : List ℕ) where
  pub reads-found : (tree : Tree) (reply : Result Condition Refusal) → HasTree text tree → Finds reply (check_found (frame_of name columns) tree) → IfOk reply (ReadsCheck name columns text)
  reads-found tree (Ok condition) has h = record { kinds = has.kinds; tree = tree; spelled = has.spelled; parsed = has.parsed; found = h.ok }
  reads-found tree (Err r) has h = tt

  pub reads-only : (tree : Tree) (reply : Result Condition Refusal) (condition : Condition) (read : ReadsCheck name columns text condition) → tree ≡ read.tree →
      Finds reply (check_found (frame_of name columns) tree) → MatchResult reply (λ found. found ≡ condition) (λ r. r ≡ Memory)
  reads-only tree reply condition read same h =
      found-as reply (check_found (frame_of name columns) tree) condition (ap (check_found (frame_of name columns)) same ∙ read.found) h
