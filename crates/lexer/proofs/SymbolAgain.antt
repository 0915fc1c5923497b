-- A symbol, and a byte that begins nothing, are read as such.
use Rattle.std.proofs.Common.{◌≡◌, ◌≢◌, ℕ, false, ◌||◌, [], ◌∷◌, ◌++◌, length, Some, None, eqb, refl, ap, subst, inl, inr, arith}
use Rattle.std.specs.Char.{is_ascii_alphabetic, is_ascii_digit}
use Rattle.std.proofs.lemmas.Bool.{cases_Bool, or_parts, eqb-true}
use Rattle.lexer.specs.declared.kinds.Kind.TheVariants as kind
use Rattle.lexer.specs.declared.kinds.Symbol.{Symbol}
use Rattle.lexer.specs.declared.kinds.Symbol.TheVariants as symbol
use Rattle.refusals.specs.declared.refusal.Refusal.TheVariants.{Invalid}
use Rattle.refusals.specs.declared.reason.Reason.TheVariants as reason
use Rattle.lexer.specs.Token.{Bytes, IsLongest, is_known, is_space, symbol_text}
use Rattle.lexer.specs.Reading.{Reads, Fails, next, symbol_alone, symbol_of_two, symbol_step}
use Rattle.lexer.proofs.SymbolSound.{IsAlone, IsTwo, symbol_alone-text, symbol_of_two-text}

-- where `longer` stands, a symbol of one byte is not the longest
not_longest : (s longer : Symbol) (rest more : Bytes) → IsLongest s rest → symbol_text s ++ rest ≡ symbol_text longer ++ more → length (symbol_text s) ≡ 1 → length (symbol_text longer) ≡ 2 → ⊥
not_longest s longer rest more longest e one two = let h = longest longer more e in omega arith

pub next_symbol : (s : Symbol) (rest : Bytes) → IsLongest s rest → next (symbol_text s ++ rest) ≡ Reads (kind.Symbol s) rest
next_symbol symbol.LeftParenthesis [] longest = refl
next_symbol symbol.LeftParenthesis (c ∷ cs) longest = refl
next_symbol symbol.RightParenthesis [] longest = refl
next_symbol symbol.RightParenthesis (c ∷ cs) longest = refl
next_symbol symbol.Asterisk [] longest = refl
next_symbol symbol.Asterisk (c ∷ cs) longest = refl
next_symbol symbol.Plus [] longest = refl
next_symbol symbol.Plus (c ∷ cs) longest = refl
next_symbol symbol.Comma [] longest = refl
next_symbol symbol.Comma (c ∷ cs) longest = refl
next_symbol symbol.Minus [] longest = refl
next_symbol symbol.Minus (c ∷ cs) longest = refl
next_symbol symbol.Period [] longest = refl
next_symbol symbol.Period (c ∷ cs) longest = refl
next_symbol symbol.Solidus [] longest = refl
next_symbol symbol.Solidus (c ∷ cs) longest = refl
next_symbol symbol.Semicolon [] longest = refl
next_symbol symbol.Semicolon (c ∷ cs) longest = refl
next_symbol symbol.Equal [] longest = refl
next_symbol symbol.Equal (c ∷ cs) longest = refl
next_symbol symbol.Less [] longest = refl
next_symbol symbol.Less (c ∷ cs) longest = elim (cases_Bool (eqb c 61)) [
  | inl e ↦ absurd (not_longest symbol.Less symbol.LessOrEqual (c ∷ cs) cs longest (ap (λ d. 60 ∷ d ∷ cs) (eqb-true c 61 e)) refl refl)
  | inr n ↦ elim (cases_Bool (eqb c 62)) [
    | inl e ↦ absurd (not_longest symbol.Less symbol.NotEqual (c ∷ cs) cs longest (ap (λ d. 60 ∷ d ∷ cs) (eqb-true c 62 e)) refl refl)
    | inr m ↦ rw (n, m) refl
  ]
]
next_symbol symbol.Greater [] longest = refl
next_symbol symbol.Greater (c ∷ cs) longest = elim (cases_Bool (eqb c 61)) [
  | inl e ↦ absurd (not_longest symbol.Greater symbol.GreaterOrEqual (c ∷ cs) cs longest (ap (λ d. 62 ∷ d ∷ cs) (eqb-true c 61 e)) refl refl)
  | inr n ↦ rw n refl
]
next_symbol symbol.LessOrEqual rest longest = refl
next_symbol symbol.NotEqual rest longest = refl
next_symbol symbol.GreaterOrEqual rest longest = refl
next_symbol symbol.Concatenation rest longest = refl

none_alone : (b : ℕ) (rest : Bytes) → ((s : Symbol) (more : Bytes) → b ∷ rest ≢ symbol_text s ++ more) → symbol_alone b ≡ None
none_alone b rest none = elim (symbol_alone b) as (λ o. symbol_alone b ≡ o → o ≡ None) [
  | Some s ↦ λ e.
      let own : b ∷ [] ≡ symbol_text s = subst (IsAlone b) e (symbol_alone-text b) in
      absurd (none s rest (ap (λ front. front ++ rest) own))
  | None ↦ λ e. refl
] refl

none_of_two : (b c : ℕ) (rest : Bytes) → ((s : Symbol) (more : Bytes) → b ∷ c ∷ rest ≢ symbol_text s ++ more) → symbol_of_two b c ≡ None
none_of_two b c rest none = elim (symbol_of_two b c) as (λ o. symbol_of_two b c ≡ o → o ≡ None) [
  | Some s ↦ λ e.
      let own : b ∷ c ∷ [] ≡ symbol_text s = subst (IsTwo b c) e (symbol_of_two-text b c) in
      absurd (none s rest (ap (λ front. front ++ rest) own))
  | None ↦ λ e. refl
] refl

no_symbol : (b : ℕ) (rest : Bytes) → ((s : Symbol) (more : Bytes) → b ∷ rest ≢ symbol_text s ++ more) → symbol_step b rest ≡ Fails (Invalid reason.Character)
no_symbol b [] none = rw (none_alone b [] none) refl
no_symbol b (c ∷ cs) none = rw (none_of_two b c cs none, none_alone b (c ∷ cs) none) refl

pub next_wrong_byte : (b : ℕ) (rest : Bytes) → is_known b ≡ false → ((s : Symbol) (more : Bytes) → b ∷ rest ≢ symbol_text s ++ more)
    → next (b ∷ rest) ≡ Fails (Invalid reason.Character)
next_wrong_byte b rest unknown none =
    let outer = or_parts (is_space b || is_ascii_alphabetic b || is_ascii_digit b) (eqb b 39) unknown in
    let middle = or_parts (is_space b || is_ascii_alphabetic b) (is_ascii_digit b) outer.0 in
    let inner = or_parts (is_space b) (is_ascii_alphabetic b) middle.0 in
    rw (inner.1, middle.1, outer.1) (no_symbol b rest none)
