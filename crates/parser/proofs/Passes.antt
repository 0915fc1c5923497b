-- Tokens in which parentheses are matched.
use Rattle.std.proofs.Common.{◌≡◌, ℕ, zero, suc, ◌≤◌, true, false, [], ◌∷◌, length, refl, sym as flip, ◌∙◌, subst, arith}
use Rattle.lexer.specs.declared.kinds.Kind.{Kind}
use Rattle.lexer.specs.declared.kinds.Kind.TheVariants as kind
use Rattle.lexer.specs.declared.kinds.Symbol.TheVariants as s
use Rattle.ast.specs.Notation.{Tokens, Rule}
use Rattle.parse_terminals.specs.Readers.{is_symbol, skip}
use Rattle.parser.specs.Shallow.{below, is_shallow}

-- rest follows in ts after tokens in which parentheses are matched
pub data Passes : Tokens → Tokens → Type 0 where
  here : {ts : Tokens} → Passes ts ts
  past : {t : Kind} {ts rest : Tokens} → is_symbol s.LeftParenthesis t ≡ false → is_symbol s.RightParenthesis t ≡ false → Passes ts rest → Passes (t ∷ ts) rest
  around : {ts mid rest : Tokens} → Passes ts (kind.Symbol s.RightParenthesis ∷ mid) → Passes mid rest → Passes (kind.Symbol s.LeftParenthesis ∷ ts) rest

abbrev pub Passing : {A : Type 0} → Rule A → Type 0
Passing {A} R = (ts : Tokens) (x : A) (rest : Tokens) → R ts x rest → Passes ts rest

pub onward : {a b c : Tokens} → Passes a b → Passes b c → Passes a c
onward here q = q
onward (past o c p) q = past o c (onward p q)
onward (around p r) q = around p (onward r q)

pub shallow_after : {ts rest : Tokens} → Passes ts rest → (d : ℕ) → is_shallow ts d ≡ true → is_shallow rest d ≡ true
shallow_after here d h = h
shallow_after (past o c p) d h = shallow_after p d (rw (o, c) at h)
shallow_after (around p r) zero h = cc
shallow_after (around p r) (suc d) h = shallow_after r (suc d) (shallow_after p d h)

pub no_longer : {ts rest : Tokens} → Passes ts rest → length rest ≤ length ts
no_longer here = omega arith
no_longer (past o c p) = let h = no_longer p in omega arith
no_longer (around p r) = let h = no_longer p in let k = no_longer r in omega arith

-- a token that is no parenthesis
pub one : {t : Kind} {ts rest : Tokens} → is_symbol s.LeftParenthesis t ≡ false → is_symbol s.RightParenthesis t ≡ false → ts ≡ t ∷ rest → Passes ts rest
one {rest} o c e = subst (λ ts. Passes ts rest) (flip e) (past o c here)

pub same : {ts rest : Tokens} → ts ≡ rest → Passes ts rest
same {ts} e = subst (Passes ts) e here

-- what is skipped to the end of the parentheses that are open
pub skip_past : {ts rest : Tokens} → Passes ts rest → (n : ℕ) → skip ts n ≡ skip rest n
skip_past here n = refl
skip_past (past o c p) n = rw (o, c) (skip_past p n)
skip_past (around p r) n = skip_past p (suc n) ∙ skip_past r n

deeper : (t : Kind) (ts : Tokens) → ((d : ℕ) → is_shallow ts d ≡ true → is_shallow ts (suc d) ≡ true) → (d : ℕ) → below d (is_shallow ts) ≡ true
    → is_symbol s.LeftParenthesis t ≡ true → is_shallow (t ∷ ts) (suc d) ≡ true
deeper t ts more zero h o = cc
deeper t ts more (suc d) h o = rw o (more d h)

-- one more level does no harm
pub shallow_more : (ts : Tokens) (d : ℕ) → is_shallow ts d ≡ true → is_shallow ts (suc d) ≡ true
shallow_more [] d h = refl
shallow_more (t ∷ ts) d h = elim (is_symbol s.LeftParenthesis t) as (λ b. is_symbol s.LeftParenthesis t ≡ b → is_shallow (t ∷ ts) (suc d) ≡ true) [
  | true ↦ λ o. deeper t ts (shallow_more ts) d (rw o at h) o
  | false ↦ λ o. elim (is_symbol s.RightParenthesis t) as (λ b. is_symbol s.RightParenthesis t ≡ b → is_shallow (t ∷ ts) (suc d) ≡ true) [
    | true ↦ λ c. rw (o, c) (shallow_more ts (suc d) (rw (o, c) at h))
    | false ↦ λ c. rw (o, c) (shallow_more ts d (rw (o, c) at h))
  ] refl
] refl

-- behind a left parenthesis there is one level less
pub shallow_inside : (a : Tokens) (d : ℕ) → is_shallow (kind.Symbol s.LeftParenthesis ∷ a) d ≡ true → is_shallow a d ≡ true
shallow_inside a zero h = cc
shallow_inside a (suc d) h = shallow_more a d h
