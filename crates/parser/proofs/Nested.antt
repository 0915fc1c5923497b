-- Counting from the front says how deep parentheses nest.
use Rattle.std.proofs.Common.{◌≡◌, ℕ, zero, suc, ◌+◌, ◌≤◌, true, false, [], ◌∷◌, ◌++◌, refl, ap, arith}
use Rattle.lexer.specs.declared.kinds.Kind.{Kind}
use Rattle.lexer.specs.declared.kinds.Kind.TheVariants as kind
use Rattle.lexer.specs.declared.kinds.Symbol.TheVariants as s
use Rattle.ast.specs.Notation.{Tokens}
use Rattle.ast.specs.Nesting.{left_of, right_of, lefts, rights, IsNestedWithin}
use Rattle.parse_terminals.specs.Readers.{is_symbol}
use Rattle.parser.specs.Shallow.{below, is_shallow}

-- which parenthesis a token is
data Parenthesis (t : Kind) : Type 0 where
  opens : is_symbol s.LeftParenthesis t ≡ true → left_of t ≡ 1 → right_of t ≡ 0 → Parenthesis t
  closes : is_symbol s.LeftParenthesis t ≡ false → is_symbol s.RightParenthesis t ≡ true → left_of t ≡ 0 → right_of t ≡ 1 → Parenthesis t
  neither : is_symbol s.LeftParenthesis t ≡ false → is_symbol s.RightParenthesis t ≡ false → left_of t ≡ 0 → right_of t ≡ 0 → Parenthesis t

parenthesis : (t : Kind) → Parenthesis t
parenthesis (kind.Symbol s.LeftParenthesis) = opens refl refl refl
parenthesis (kind.Symbol s.RightParenthesis) = closes refl refl refl refl
parenthesis (kind.Symbol _) = neither refl refl refl refl
parenthesis _ = neither refl refl refl refl

-- one level less behind a left parenthesis
opened : (ts front : Tokens) (n : ℕ) → below n (is_shallow ts) ≡ true → ((m : ℕ) → is_shallow ts m ≡ true → lefts front ≤ rights front + m) → 1 + lefts front ≤ rights front + n
opened ts front zero h ih = cc
opened ts front (suc m) h ih = let k = ih m h in omega arith

pub shallow_nested : (ts : Tokens) (n : ℕ) → is_shallow ts n ≡ true → IsNestedWithin n ts
shallow_nested ts n h [] back e = omega arith
shallow_nested [] n h (u ∷ front) back e = absurd (cc)
shallow_nested (t ∷ ts) n h (u ∷ front) back e =
    let same : t ≡ u = cc in
    let more : ts ≡ front ++ back = cc in
    elim (parenthesis t) [
      | opens o l r ↦
          let k = opened ts front n (rw o at h) (λ m g. shallow_nested ts m g front back more) in
          let l' = rw same at l in
          let r' = rw same at r in
          omega arith
      | closes o c l r ↦
          let k = shallow_nested ts (suc n) (rw (o, c) at h) front back more in
          let l' = rw same at l in
          let r' = rw same at r in
          omega arith
      | neither o c l r ↦
          let k = shallow_nested ts n (rw (o, c) at h) front back more in
          let l' = rw same at l in
          let r' = rw same at r in
          omega arith
    ]

room : (t : Kind) (ts : Tokens) (n : ℕ) → left_of t ≡ 1 → right_of t ≡ 0 → IsNestedWithin n (t ∷ ts) → (m : ℕ) × (n ≡ suc m)
room t ts zero l r h = absurd (let k = h (t ∷ []) ts refl in omega arith)
room t ts (suc m) l r h = (m, refl)

pub nested_shallow : (ts : Tokens) (n : ℕ) → IsNestedWithin n ts → is_shallow ts n ≡ true
nested_shallow [] n h = refl
nested_shallow (t ∷ ts) n h =
    elim (parenthesis t) [
      | opens o l r ↦
          let some = room t ts n l r h in
          rw (o, some.1) (nested_shallow ts some.0 (λ front back e. let k = h (t ∷ front) back (ap (λ a. t ∷ a) e) in let s = some.1 in omega arith))
      | closes o c l r ↦ rw (o, c) (nested_shallow ts (suc n) (λ front back e. let k = h (t ∷ front) back (ap (λ a. t ∷ a) e) in omega arith))
      | neither o c l r ↦ rw (o, c) (nested_shallow ts n (λ front back e. let k = h (t ∷ front) back (ap (λ a. t ∷ a) e) in omega arith))
    ]
