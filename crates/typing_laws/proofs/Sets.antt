-- What is found of set operators is well typed, where what is found of their operands is.
use Rattle.std.proofs.Common.{◌≡◌, refl, ap, sym, subst, Bool, true, false, true≢false, List, [], ◌∷◌, map, length, Ok, Err, IfOk}
use Rattle.std.specs.Prelude.{◌==◌, if◌then◌else◌}
use Rattle.std.specs.Cmp.Lexicographic.{pointwise}
use Rattle.std.specs.List.{AllByRecursion}
use Rattle.sqlval.specs.declared.value.ValueType.{ValueType}
use Rattle.sqlval.specs.declared.value.ValueType.TheVariants.{Integer, Text}
use Rattle.refusals.specs.declared.reason.Reason.TheVariants.{Columns, DataType}
use Rattle.typing.specs.declared.typed.Query.{Query}
use Rattle.typing.specs.declared.typed.Query.TheVariants as query
use Rattle.typing.specs.declared.typed.SetOperation.{SetOperation}
use Rattle.typing.specs.declared.scope.TypedQuery.{TypedQuery}
use Rattle.typing.specs.Finding.{Finding, ◌>>=◌, also, each, invalid}
use Rattle.typing.specs.Known.{Known}
use Rattle.typing.specs.SetOperator.{agreeing, combinable, same_type, set_chain, types_of}
use Rattle.typing_laws.specs.WellTyped.{HasResult, Rows}
use Rattle.typing_laws.specs.WellTyped as typed
use Rattle.typing_laws.proofs.ColumnFindings.{contained, mapped}
use Rattle.typing_laws.proofs.ColumnFitting.{IsResult}

same_types : (xs ys : List ValueType) → pointwise same_type xs ys ≡ true → xs ≡ ys
same_types [] [] e = refl
same_types [] (y ∷ ys) e = absurd (true≢false (sym e))
same_types (x ∷ xs) [] e = absurd (true≢false (sym e))
same_types (Integer ∷ xs) (Integer ∷ ys) e = ap (λ l. Integer ∷ l) (same_types xs ys e)
same_types (Text ∷ xs) (Text ∷ ys) e = ap (λ l. Text ∷ l) (same_types xs ys e)
same_types (Integer ∷ xs) (Text ∷ ys) e = absurd (true≢false (sym e))
same_types (Text ∷ xs) (Integer ∷ ys) e = absurd (true≢false (sym e))

-- columns that agree have the same types
pub agreeing-same : (xs ys : List ValueType) → IfOk (agreeing xs ys) (λ agreed. xs ≡ ys)
agreeing-same xs ys = at (length xs == length ys) (pointwise same_type xs ys) refl
  where
    at : (counted same : Bool) → pointwise same_type xs ys ≡ same → IfOk (if counted then (if same then Ok tt else invalid DataType) else invalid Columns) (λ (agreed : Unit {0}). xs ≡ ys)
    at true true e = same_types xs ys e
    at true false e = tt
    at false same e = tt

module _ (known : Known) (rows : Rows) where
  abbrev pub IsResultOperand : SetOperation × Finding TypedQuery → Type 0
  IsResultOperand operand = IfOk operand.1 (IsResult known rows)

  abbrev HasTypes : List ValueType → SetOperation × Query → Type 0
  HasTypes types operand = HasResult known rows operand.1 types

  agreed : (types others : List ValueType) (o : SetOperation) (q : Query) (x : Finding (Unit {0})) → HasResult known rows q others → IfOk x (λ agreed. types ≡ others)
      → IfOk (x >>= (λ agreed. Ok (o, q))) (HasTypes types)
  agreed types others o q (Ok u) h e = subst (HasResult known rows q) (sym e) h
  agreed types others o q (Err reasons) h e = tt

  combinable-typed : (first : TypedQuery) (operand : SetOperation × Finding TypedQuery) → IsResultOperand operand → IfOk (combinable (Ok first) operand) (HasTypes (types_of first.columns))
  combinable-typed first (o, Ok q) h = agreed (types_of first.columns) (types_of q.columns) o q.query (agreeing (types_of first.columns) (types_of q.columns)) h (agreeing-same (types_of first.columns) (types_of q.columns))
  combinable-typed first (o, Err reasons) h = tt

  pub set_chain-typed : (first : Finding TypedQuery) (others : List (SetOperation × Finding TypedQuery)) → IfOk first (IsResult known rows) → AllByRecursion IsResultOperand others
      → IfOk (set_chain first others) (IsResult known rows)
  set_chain-typed first [] h k = h
  set_chain-typed (Err reasons) (other ∷ others) h k = tt
  set_chain-typed (Ok first) (other ∷ others) h k =
      combine (each (map (combinable (Ok first)) (other ∷ others)))
      (mapped IsResultOperand (HasTypes (types_of first.columns)) (combinable (Ok first)) (combinable-typed first) (other ∷ others) k)
    where
      combine : (x : Finding (List (SetOperation × Query))) → IfOk x (AllByRecursion (HasTypes (types_of first.columns)))
          → IfOk (also (Ok first) x >>= (λ p. Ok (record { query = query.Combined (p.0).query p.1; columns = (p.0).columns }))) (IsResult known rows)
      combine (Ok operands) m = typed.combined operands h (contained (HasTypes (types_of first.columns)) operands m)
      combine (Err reasons) m = tt
