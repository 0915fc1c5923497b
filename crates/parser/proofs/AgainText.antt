-- A whole text: what is in the grammar is read again, by the depth of its parentheses and the
-- levels that are left.
use Rattle.std.proofs.Common.{◌≡◌, ℕ, zero, suc, Bool, true, false, [], ◌∷◌, Option, Some, None, refl, sym as flip, ◌∙◌, inl, inr}
use Rattle.std.specs.Prelude.{◌⊎◌}
use Rattle.lexer.specs.declared.kinds.Kind.{Kind}
use Rattle.ast.specs.declared.statement.Statement.{Statement}
use Rattle.ast.specs.declared.tree.Condition.{Condition}
use Rattle.ast.specs.Notation.{Tokens, Rule}
use Rattle.ast.specs.Words.{RIGHT_PARENTHESIS, SEMICOLON}
use Rattle.ast.specs.Grammar.{nested_at, IsText, IsConditionText}
use Rattle.parse_terminals.specs.Readers.{Reader}
use Rattle.parse_statements.specs.ReadStatements.{text, condition_text, is_end}
use Rattle.parse_expressions.specs.Levels.{inner_at}
use Rattle.parser.specs.Shallow.{is_shallow}
use Rattle.parser.specs.Trees.{HasStatement, HasCondition}
use Rattle.parser.proofs.Steps.{found}
use Rattle.parser.proofs.Passes.{Passing}
use Rattle.parser.proofs.Again.{Stops, Again, Inside}
use Rattle.parser.proofs.Follow.{Ready, statement_goes_on}
use Rattle.parser.proofs.AgainConditions.{condition_again}
use Rattle.parser.proofs.AgainExpressions.{Known, expression_again, expression_begins, expression_is_none}
use Rattle.parser.proofs.AgainQueries.{query_again, query_begins, query_names, query_is_one}
use Rattle.parser.proofs.AgainStatements.{statement_again}

-- behind one more left parenthesis
deeper : {A : Type 0} {d : ℕ} {p : Kind → Bool} {r : Reader A} {R : Rule A} → p RIGHT_PARENTHESIS ≡ false → Again A d p r R → Inside A (suc d) r R
deeper stop l = record { passes = l.passes; at = λ a x rest h shallow. l.at a x _ h shallow stop }

-- where no level is left, no parenthesis stands
shut : {A : Type 0} (r : Reader A) (R : Rule A) → Passing R → Inside A 0 r R
shut r R p = record { passes = p; at = λ a x rest h shallow. absurd (cc) }

nothing_inside : {A : Type 0} (d : ℕ) (r : Reader A) → Inside A d r (λ _ _ _. ⊥)
nothing_inside d r = record { passes = λ ts x rest h. absurd h; at = λ a x rest h shallow. absurd h }

nothing_again : {A : Type 0} (d : ℕ) (p : Kind → Bool) (r : Reader A) → Again A d p r (λ _ _ _. ⊥)
nothing_again d p r = record { passes = λ ts x rest h. absurd h; at = λ ts x rest h shallow stops. absurd h }

-- By the depth of what stands in parentheses, and by the levels that are left.
read_at : (limit : Option ℕ) (k d : ℕ) → Known d (inner_at limit d) (nested_at limit k)
read_at limit zero d = record {
  expression = nothing_inside d (inner_at limit d).expression;
  condition = nothing_inside d (inner_at limit d).condition;
  query = nothing_inside d (inner_at limit d).query;
  expression_begins = λ ts x rest h. absurd h;
  expression_is_none = λ ts x rest h. absurd h;
  query_begins = λ ts x rest h. absurd h;
  query_is_one = λ ts x rest h. absurd h;
}
read_at limit (suc k) zero =
    let l = read_at limit k zero in
    record {
      expression = shut (inner_at limit zero).expression (nested_at limit (suc k)).expression (expression_again limit l).passes;
      condition = shut (inner_at limit zero).condition (nested_at limit (suc k)).condition (condition_again limit l).passes;
      query = shut (inner_at limit zero).query (nested_at limit (suc k)).query (query_again limit l).passes;
      expression_begins = λ ts x rest h. (expression_begins limit l ts x rest h).0;
      expression_is_none = expression_is_none limit l;
      query_begins = query_begins limit l;
      query_is_one = query_is_one limit l;
    }
read_at limit (suc k) (suc d) =
    let l = read_at limit k d in
    record {
      expression = deeper refl (expression_again limit l);
      condition = deeper refl (condition_again limit l);
      query = deeper refl (query_again limit l);
      expression_begins = λ ts x rest h. (expression_begins limit l ts x rest h).0;
      expression_is_none = expression_is_none limit l;
      query_begins = query_begins limit l;
      query_is_one = query_is_one limit l;
    }

ready : (limit : Option ℕ) (k d : ℕ) → Ready d (inner_at limit (suc d)) (nested_at limit k)
ready limit zero d = record {
  expression = nothing_again d _ (inner_at limit (suc d)).expression;
  condition = nothing_again d _ (inner_at limit (suc d)).condition;
  query = nothing_again d _ (inner_at limit (suc d)).query;
  expression_begins = λ ts x rest h. absurd h;
  query_begins = λ ts x rest h. absurd h;
  query_names = λ ts x rest h. absurd h;
}
ready limit (suc k) d =
    let l = read_at limit k d in
    record {
      expression = expression_again limit l;
      condition = condition_again limit l;
      query = query_again limit l;
      expression_begins = λ ts x rest h. (expression_begins limit l ts x rest h).0;
      query_begins = query_begins limit l;
      query_names = query_names limit l;
    }

end_stops : (rest : Tokens) → (rest ≡ []) ⊎ (rest ≡ SEMICOLON ∷ []) → Stops statement_goes_on rest × (is_end rest ≡ true)
end_stops rest h = elim h [
  | inl e ↦ rw e (refl, refl)
  | inr e ↦ rw e (refl, refl)
]

pub text_again : (limit : Option ℕ) (d : ℕ) (ts : Tokens) (x : Statement) → IsText limit ts x → is_shallow ts d ≡ true
    → (rest : Tokens) × (text (inner_at limit (suc d)) ts ≡ Some (x, rest))
unfolding text
text_again limit d ts x h shallow =
    let e = end_stops h.rest h.end in
    let a = (statement_again (ready limit h.depth d)).at ts x h.rest h.statement shallow e.0 in
    (h.rest, rw (a, e.1) refl)

pub condition_text_again : (limit : Option ℕ) (d : ℕ) (ts : Tokens) (x : Condition) → IsConditionText limit ts x → is_shallow ts d ≡ true
    → (rest : Tokens) × (condition_text (inner_at limit (suc d)) ts ≡ Some (x, rest))
unfolding condition_text
condition_text_again limit d ts x h shallow =
    let a = (ready limit h.depth d).condition.at ts x [] h.condition shallow refl in
    ([], rw a refl)

-- what is read is the only tree
pub text_only : (limit : Option ℕ) (d : ℕ) (ts : Tokens) (x y : Statement) (rest : Tokens) → IsText limit ts x → is_shallow ts d ≡ true
    → text (inner_at limit (suc d)) ts ≡ Some (y, rest) → y ≡ x
text_only limit d ts x y rest h shallow e =
    let a = text_again limit d ts x h shallow in
    found {A = Statement × Tokens} (λ p. y ≡ p.0) (y, rest) (x, a.0) (flip e ∙ a.1) refl

pub condition_text_only : (limit : Option ℕ) (d : ℕ) (ts : Tokens) (x y : Condition) (rest : Tokens) → IsConditionText limit ts x → is_shallow ts d ≡ true
    → condition_text (inner_at limit (suc d)) ts ≡ Some (y, rest) → y ≡ x
condition_text_only limit d ts x y rest h shallow e =
    let a = condition_text_again limit d ts x h shallow in
    found {A = Condition × Tokens} (λ p. y ≡ p.0) (y, rest) (x, a.0) (flip e ∙ a.1) refl

-- where nothing is read there is none
pub text_none : (limit : Option ℕ) (d : ℕ) (ts : Tokens) → is_shallow ts d ≡ true → text (inner_at limit (suc d)) ts ≡ None → ¬ HasStatement limit ts
text_none limit d ts shallow e h = let a = (text_again limit d ts h.0 h.1 shallow).1 in cc

pub condition_text_none : (limit : Option ℕ) (d : ℕ) (ts : Tokens) → is_shallow ts d ≡ true → condition_text (inner_at limit (suc d)) ts ≡ None
    → ¬ HasCondition limit ts
condition_text_none limit d ts shallow e h = let a = (condition_text_again limit d ts h.0 h.1 shallow).1 in cc
