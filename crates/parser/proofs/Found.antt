-- A whole text: what is read is in the grammar.
use Rattle.std.proofs.Common.{◌≡◌, ℕ, zero, suc, true, false, cond, [], ◌∷◌, Option, Some, None, Result, Ok, Err, IsOk, IfSome, refl, ap, subst, inl, inr}
use Rattle.std.specs.Prelude.{◌⊎◌, ◌&&◌}
use Rattle.lexer.specs.declared.kinds.Kind.{Kind}
use Rattle.lexer.specs.declared.kinds.Kind.TheVariants as kind
use Rattle.lexer.specs.declared.kinds.Symbol.TheVariants as s
use Rattle.ast.specs.declared.statement.Statement.{Statement}
use Rattle.ast.specs.declared.tree.Condition.{Condition}
use Rattle.ast.specs.declared.tree.Expression.{Expression}
use Rattle.ast.specs.declared.tree.Query.{Query}
use Rattle.ast.specs.Notation.{Tokens}
use Rattle.ast.specs.Words.{SEMICOLON}
use Rattle.ast.specs.Expressions.{Within, Nested}
use Rattle.ast.specs.Grammar.{nested_at, IsText, IsConditionText}
use Rattle.parse_terminals.specs.declared.error.ParseError.{ParseError}
use Rattle.parse_terminals.specs.declared.error.ParseError.TheVariants.{Syntax}
use Rattle.parse_terminals.specs.Readers.{is_symbol, GivesAll, Outcome}
use Rattle.parse_expressions.specs.ReadExpressions.{Inner}
use Rattle.parse_statements.specs.ReadStatements.{statement, text, condition_text, is_end, is_nothing}
use Rattle.parse_expressions.specs.Levels.{inner_at}
use denote.Enum.Bare.{same_true}
use Rattle.lexer.specs.contracts.kinds.Symbol.{the_type as symbol_type}
use Rattle.parser.proofs.Steps.{bind_some, found}
use Rattle.parser.proofs.Sound.{Sound, none_sound}
use Rattle.parser.proofs.SoundExpressions.{expression_sound, condition_sound}
use Rattle.parser.proofs.SoundQueries.{query_sound}
use Rattle.parser.proofs.SoundStatements.{statement_sound}

pub record AllSound (I : Inner) (N : Nested) : Type 0 where
  pub expression : Sound Expression I.expression N.expression
  pub condition : Sound Condition I.condition N.condition
  pub query : Sound Query I.query N.query

pub sound_at : (limit : Option ℕ) → Within limit 0 → (depth : ℕ) → AllSound (inner_at limit depth) (nested_at limit depth)
sound_at limit some zero = record {
  expression = none_sound (nested_at limit zero).expression;
  condition = none_sound (nested_at limit zero).condition;
  query = none_sound (nested_at limit zero).query;
}
sound_at limit some (suc depth) =
    let l = sound_at limit some depth in
    record {
      expression = expression_sound limit some (inner_at limit depth) (nested_at limit depth) l.expression l.condition l.query;
      condition = condition_sound limit some (inner_at limit depth) (nested_at limit depth) l.expression l.condition l.query;
      query = query_sound limit some (inner_at limit depth) (nested_at limit depth) l.expression l.condition l.query;
    }

nothing_left : (ts : Tokens) → is_nothing ts ≡ true → ts ≡ []
nothing_left [] h = refl
nothing_left (t ∷ ts) h = cc

is_semicolon : (t : Kind) → is_symbol s.Semicolon t ≡ true → t ≡ SEMICOLON
is_semicolon (kind.Symbol v) h = ap kind.Symbol (same_true symbol_type tt v s.Semicolon h)
is_semicolon _ h = cc

end_of : (ts : Tokens) → is_end ts ≡ true → (ts ≡ []) ⊎ (ts ≡ SEMICOLON ∷ [])
end_of [] h = inl refl
end_of (t ∷ ts) h = elim (is_symbol s.Semicolon t) as (λ b. is_symbol s.Semicolon t ≡ b → (b && is_nothing ts) ≡ true → (t ∷ ts ≡ []) ⊎ (t ∷ ts ≡ SEMICOLON ∷ [])) [
  | true ↦ λ a k. let x = is_semicolon t a in let y = nothing_left ts k in inr (rw (x, y) refl)
  | false ↦ λ a k. cc
] refl h

pub text_found : (limit : Option ℕ) → Within limit 0 → (depth : ℕ) (ts : Tokens) (x : Statement × Tokens) → text (inner_at limit depth) ts ≡ Some x → IsText limit ts x.0
unfolding text
text_found limit some depth ts x e =
    let l = sound_at limit some depth in
    let a = bind_some (statement (inner_at limit depth) ts) _ x e in
    let h = (statement_sound (inner_at limit depth) (nested_at limit depth) l.expression l.condition l.query).at ts a.0 a.1 in
    elim (is_end a.0.1) as (λ b. is_end a.0.1 ≡ b → cond b (Some a.0) None ≡ Some x → IsText limit ts x.0) [
      | true ↦ λ k f. found (λ y. IsText limit ts y.0) a.0 x f (record { depth = depth; rest = a.0.1; statement = h; end = end_of a.0.1 k })
      | false ↦ λ k f. cc
    ] refl a.2

pub condition_found : (limit : Option ℕ) → Within limit 0 → (depth : ℕ) (ts : Tokens) (x : Condition × Tokens) → condition_text (inner_at limit depth) ts ≡ Some x → IsConditionText limit ts x.0
unfolding condition_text
condition_found limit some depth ts x e =
    let l = sound_at limit some depth in
    let a = bind_some ((inner_at limit depth).condition ts) _ x e in
    let h = l.condition.at ts a.0 a.1 in
    elim (is_nothing a.0.1) as (λ b. is_nothing a.0.1 ≡ b → cond b (Some a.0) None ≡ Some x → IsConditionText limit ts x.0) [
      | true ↦ λ k f. found (λ y. IsConditionText limit ts y.0) a.0 x f (record { depth = depth; condition = rw (nothing_left a.0.1 k) at h })
      | false ↦ λ k f. cc
    ] refl a.2

-- What was found, where something was.
pub what_was_found : {A : Type 0} → (r : Result A ParseError) → (read : Outcome A) → IsOk r → GivesAll r read
    → (x : A) × (rest : Tokens) × (read ≡ Some (x, rest))
what_was_found (Ok x) read _ gives = (x, gives.0, gives.1)
what_was_found (Err e) read nothing _ = absurd (cc)

-- Nothing can be read, where nothing was found for that reason.
pub nothing_found : {A : Type 0} → (r : Result A ParseError) → (read : Outcome A) → (why : Option ParseError) → {e : ParseError}
    → IfSome why (λ refused. r ≡ Err refused) → why ≡ Some e → e ≡ Syntax → GivesAll r read → read ≡ None
nothing_found r read why {e} refused is syntax gives =
    let fails : r ≡ Err e = subst (λ (w : Option ParseError). IfSome w (λ refused. r ≡ Err refused)) is refused in
    let none : GivesAll (Err e) read = subst (λ (it : Result _ ParseError). GivesAll it read) fails gives in
    none syntax
