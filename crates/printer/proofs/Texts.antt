-- Whole statements and conditions, written and read again.
use Rattle.std.proofs.Common.{◌≡◌, ℕ, ◌++◌, ◌∷◌, [], ◌⊎◌, Option, inl, inr, refl, ap, sym, ◌∙◌, subst, append-nil}
use Rattle.lexer.specs.Printing.{HasKinds, text_of}
use Rattle.lexer.specs.Token.{Bytes}
use Rattle.ast.specs.declared.statement.Statement.{Statement}
use Rattle.ast.specs.declared.tree.Condition.{Condition}
use Rattle.ast.specs.Expressions.{IsCondition}
use Rattle.ast.specs.Grammar.{nested_at, IsText, IsConditionText}
use Rattle.ast.specs.Notation.{Tokens}
use Rattle.ast.specs.Statements.{IsStatement}
use Rattle.ast.specs.Words.{SEMICOLON}
use Rattle.printer.specs.Writing.{Prints}
use Rattle.printer.specs.Printed.{AreTokensOf, IsTextOf, BeginsWithCondition, AreConditionTokensOf, IsConditionTextOf}
use Rattle.printer.proofs.Productions.{condition_inside}

-- ---- statements

pub statement_tokens : (x : Statement) (kinds : Tokens) → Prints (λ _. IsStatement) x [] kinds → AreTokensOf x kinds
statement_tokens x kinds p = record { only = only; again = again } where
  only : (limit : Option ℕ) (ts : Tokens) → IsText limit ts x → (ts ≡ kinds) ⊎ (ts ≡ kinds ++ SEMICOLON ∷ [])
  only limit ts h =
      let all : ts ≡ kinds ++ h.rest = p.only limit h.depth ts h.rest h.statement ∙ ap (λ a. a ++ h.rest) (sym p.put) in
      elim h.end [
        | inl none ↦ inl (all ∙ (ap (λ a. kinds ++ a) none ∙ append-nil kinds))
        | inr one ↦ inr (all ∙ ap (λ a. kinds ++ a) one)
      ]

  again : (limit : Option ℕ) (ts : Tokens) → IsText limit ts x → IsText limit kinds x
  again limit ts h = record {
    depth = h.depth;
    rest = [];
    statement = subst (λ a. IsStatement (nested_at limit h.depth) a x []) (append-nil p.kinds ∙ sym p.put) (p.again limit h.depth ts h.rest [] h.statement);
    end = inl refl;
  }

pub statement_text : (x : Statement) (kinds : Tokens) (text : Bytes) → AreTokensOf x kinds → text ≡ text_of kinds
    → HasKinds text kinds → IsTextOf x text
statement_text x kinds text are text_is again = record { kinds = kinds; are = are; text_is = text_is; again = again }

-- ---- conditions

pub condition_tokens : (x : Condition) (kinds : Tokens) → Prints IsCondition x [] kinds → AreConditionTokensOf x kinds
condition_tokens x kinds written = record { only = only; again = again } where
  p : Prints (λ _ inner. inner.condition) x [] kinds
  p = condition_inside written

  only : (limit : Option ℕ) (ts rest : Tokens) → BeginsWithCondition limit ts x rest → ts ≡ kinds ++ rest
  only limit ts rest h = p.only limit h.depth ts rest h.condition ∙ ap (λ a. a ++ rest) (sym p.put)

  again : (limit : Option ℕ) (ts rest : Tokens) → BeginsWithCondition limit ts x rest → IsConditionText limit kinds x
  again limit ts rest h = record {
    depth = h.depth;
    condition = subst (λ a. (nested_at limit h.depth).condition a x []) (append-nil p.kinds ∙ sym p.put) (p.again limit h.depth ts rest [] h.condition);
  }

pub condition_text : (x : Condition) (kinds : Tokens) (text : Bytes) → AreConditionTokensOf x kinds → text ≡ text_of kinds
    → HasKinds text kinds → IsConditionTextOf x text
condition_text x kinds text are text_is again = record { kinds = kinds; are = are; text_is = text_is; again = again }
