-- What is printed has the tokens of the tree, and these are parsed to it.
use Rattle.std.proofs.Common.{◌≡◌, ◌⊎◌, List, [], ◌∷◌, ◌++◌, Result, Ok, Err, Some, refl, sym, ap, ◌∙◌, subst, inl, inr, append_assoc}
use Rattle.std.specs.Prelude.{◌↔◌, MatchResult}
use Rattle.lexer.specs.declared.kinds.Token.{Token}
use Rattle.refusals.specs.declared.refusal.Refusal.{Refusal}
use Rattle.refusals.specs.declared.refusal.Refusal.TheVariants.{Memory, Exceeded}
use Rattle.refusals.specs.declared.limit.Limit.TheVariants.{Nesting}
use Rattle.lexer.specs.Token.{Bytes}
use Rattle.lexer.specs.Tokens.{kinds_of}
use Rattle.ast.specs.declared.statement.Statement.{Statement}
use Rattle.ast.specs.declared.tree.Condition.{Condition}
use Rattle.ast.specs.Grammar.{IsText, IsConditionText}
use Rattle.ast.specs.Nesting.{IsNestedWithin}
use Rattle.ast.specs.Notation.{Tokens}
use Rattle.ast.specs.Words.{SEMICOLON}
use Rattle.parse_terminals.specs.Readers.{kinds}
use Rattle.printer.specs.Printed.{IsTextOf, IsConditionTextOf, BeginsWithCondition}
use Rattle.round_trip.specs.ReadAs.{IsReadAs, IsReadAsCondition}

-- the front of tokens nests no deeper than all of them
nested_front : (ts front_kinds rest : Tokens) → ts ≡ front_kinds ++ rest → IsNestedWithin 64 ts → IsNestedWithin 64 front_kinds
nested_front ts front_kinds rest e nested front back f =
    nested front (back ++ rest) (e ∙ ap (λ k. k ++ rest) f ∙ append_assoc front back rest)

-- without the `;` at their end they nest no deeper either
nested_without : (ts front_kinds : Tokens) → (ts ≡ front_kinds) ⊎ (ts ≡ front_kinds ++ SEMICOLON ∷ []) → IsNestedWithin 64 ts → IsNestedWithin 64 front_kinds
nested_without ts front_kinds end nested = elim end [
  | inl e ↦ subst (IsNestedWithin 64) e nested
  | inr e ↦ nested_front ts front_kinds (SEMICOLON ∷ []) e nested
]

-- what was parsed is what was printed
settled : {A : Type 0} (x : A) (result : Result A Refusal) (nested : Type 0) → nested → (result ≡ Ok x) ⊎ (result ≡ Err Memory) ⊎ (result ≡ Err (Exceeded Nesting))
    → ((result ≡ Err (Exceeded Nesting)) ↔ (nested → ⊥)) → MatchResult result (λ again. again ≡ x) (λ refusal. refusal ≡ Memory)
settled x result nested is only nesting = elim only [
  | inl e ↦ rw e refl
  | inr f ↦ elim f [
    | inl e ↦ rw e refl
    | inr e ↦ absurd (nesting.0 e is)
  ]
]

-- ---- statements

-- what the tokens of a printed text are
pub record IsReadable (x : Statement) (found : List Token) : Type 0 where
  pub tree : IsText (Some 64) (kinds found) x
  pub nested : IsNestedWithin 64 (kinds found)

pub readable : (x : Statement) (text : Bytes) (ts : Tokens) (found : List Token) (printed : IsTextOf x text) → IsNestedWithin 64 ts
    → (is : IsText (Some 64) ts x) → found ≡ printed.again.tokens → IsReadable x found
readable x text ts found printed nested is e =
    let has = printed.again in
    let same : kinds_of found ≡ printed.kinds = ap kinds_of e ∙ has.kinds_are in
    record {
      tree = subst (λ k. IsText (Some 64) k x) (sym same) (printed.are.again (Some 64) ts is);
      nested = subst (IsNestedWithin 64) (sym same) (nested_without ts printed.kinds (printed.are.only (Some 64) ts is) nested);
    }

pub as_it_was : (x : Statement) (found : List Token) (result : Result Statement Refusal) → IsReadable x found
    → ((y : Statement) → IsText (Some 64) (kinds found) y → (result ≡ Ok y) ⊎ (result ≡ Err Memory) ⊎ (result ≡ Err (Exceeded Nesting)))
    → ((result ≡ Err (Exceeded Nesting)) ↔ (IsNestedWithin 64 (kinds found) → ⊥))
    → MatchResult result (λ again. again ≡ x) (λ refusal. refusal ≡ Memory)
as_it_was x found result readable only nesting =
    settled x result (IsNestedWithin 64 (kinds found)) readable.nested (only x readable.tree) nesting

-- ---- conditions

-- what the tokens of a printed condition are
pub record IsReadableCondition (x : Condition) (found : List Token) : Type 0 where
  pub tree : IsConditionText (Some 64) (kinds found) x
  pub nested : IsNestedWithin 64 (kinds found)

pub readable_condition : (x : Condition) (text : Bytes) (ts rest : Tokens) (found : List Token) (printed : IsConditionTextOf x text) → IsNestedWithin 64 ts
    → (is : BeginsWithCondition (Some 64) ts x rest) → found ≡ printed.again.tokens → IsReadableCondition x found
readable_condition x text ts rest found printed nested is e =
    let has = printed.again in
    let same : kinds_of found ≡ printed.kinds = ap kinds_of e ∙ has.kinds_are in
    record {
      tree = subst (λ k. IsConditionText (Some 64) k x) (sym same) (printed.are.again (Some 64) ts rest is);
      nested = subst (IsNestedWithin 64) (sym same) (nested_front ts printed.kinds rest (printed.are.only (Some 64) ts rest is) nested);
    }

pub condition_as_it_was : (x : Condition) (found : List Token) (result : Result Condition Refusal) → IsReadableCondition x found
    → ((y : Condition) → IsConditionText (Some 64) (kinds found) y → (result ≡ Ok y) ⊎ (result ≡ Err Memory) ⊎ (result ≡ Err (Exceeded Nesting)))
    → ((result ≡ Err (Exceeded Nesting)) ↔ (IsNestedWithin 64 (kinds found) → ⊥))
    → MatchResult result (λ again. again ≡ x) (λ refusal. refusal ≡ Memory)
condition_as_it_was x found result readable only nesting =
    settled x result (IsNestedWithin 64 (kinds found)) readable.nested (only x readable.tree) nesting

-- ---- texts alone

pub read_as : (x : Statement) (text : Bytes) (ts : Tokens) → IsTextOf x text → IsNestedWithin 64 ts → IsText (Some 64) ts x → IsReadAs text x
read_as x text ts printed nested is = record {
  kinds = printed.kinds;
  has = printed.again;
  tree = printed.are.again (Some 64) ts is;
  nested = nested_without ts printed.kinds (printed.are.only (Some 64) ts is) nested;
}

pub read_as_condition : (x : Condition) (text : Bytes) (ts rest : Tokens) → IsConditionTextOf x text → IsNestedWithin 64 ts
    → BeginsWithCondition (Some 64) ts x rest → IsReadAsCondition text x
read_as_condition x text ts rest printed nested is = record {
  kinds = printed.kinds;
  has = printed.again;
  tree = printed.are.again (Some 64) ts rest is;
  nested = nested_front ts printed.kinds rest (printed.are.only (Some 64) ts rest is) nested;
}
