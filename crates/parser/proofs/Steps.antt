-- What the steps of a reading say.
use Rattle.std.proofs.Common.{◌≡◌, Bool, true, false, [], ◌∷◌, Some, None, refl, subst, cond}
use denote.Enum.Bare.{same_true, true_same}
use Rattle.lexer.specs.contracts.words.Word.{the_type as word_type}
use Rattle.lexer.specs.contracts.kinds.Symbol.{the_type as symbol_type}
use Rattle.lexer.specs.declared.kinds.Kind.{Kind}
use Rattle.lexer.specs.declared.kinds.Kind.TheVariants as kind
use Rattle.lexer.specs.declared.kinds.Symbol.{Symbol}
use Rattle.lexer.specs.declared.words.Word.{Word}
use Rattle.ast.specs.Notation.{Tokens}
use Rattle.parse_terminals.specs.Readers.{Outcome, ◌>>=◌, word, symbol, same_word, same_symbol, is_word, is_symbol, next_is}

pub bind_some : {A B : Type 0} (r : Outcome A) (f : A × Tokens → Outcome B) (y : B × Tokens) → (r >>= f) ≡ Some y → (x : A × Tokens) × (r ≡ Some x) × (f x ≡ Some y)
bind_some (Some x) f y e = (x, refl, e)
bind_some None f y e = cc

-- what holds of the value that was found holds of the one that is named
pub found : {A : Type 0} (P : A → Type 0) (x y : A) → Some x ≡ Some y → P x → P y
found P x y e h = let same : x ≡ y = cc in subst P same h

-- ---- words and symbols

pub word_found : (w : Word) (ts : Tokens) (x : Unit {0} × Tokens) → word w ts ≡ Some x → ts ≡ kind.Word w ∷ x.1
unfolding word
word_found w [] x e = cc
word_found w (kind.Word v ∷ ts) x e = elim (same_word v w) as (λ b. same_word v w ≡ b → cond b (Some (tt, ts)) None ≡ Some x → kind.Word v ∷ ts ≡ kind.Word w ∷ x.1) [
  | true ↦ λ s h. let same : v ≡ w = same_true word_type tt v w s in found (λ y. kind.Word v ∷ ts ≡ kind.Word w ∷ y.1) (tt, ts) x h (cc)
  | false ↦ λ s h. cc
] refl e
word_found w (t ∷ ts) x e = cc

pub symbol_found : (w : Symbol) (ts : Tokens) (x : Unit {0} × Tokens) → symbol w ts ≡ Some x → ts ≡ kind.Symbol w ∷ x.1
unfolding symbol
symbol_found w [] x e = cc
symbol_found w (kind.Symbol v ∷ ts) x e = elim (same_symbol v w) as (λ b. same_symbol v w ≡ b → cond b (Some (tt, ts)) None ≡ Some x → kind.Symbol v ∷ ts ≡ kind.Symbol w ∷ x.1) [
  | true ↦ λ s h. let same : v ≡ w = same_true symbol_type tt v w s in found (λ y. kind.Symbol v ∷ ts ≡ kind.Symbol w ∷ y.1) (tt, ts) x h (cc)
  | false ↦ λ s h. cc
] refl e
symbol_found w (t ∷ ts) x e = cc

pub word_again : (v : Word) (rest : Tokens) → word v (kind.Word v ∷ rest) ≡ Some (tt, rest)
unfolding word
word_again v rest = rw (true_same word_type v v refl) refl

pub symbol_again : (v : Symbol) (rest : Tokens) → symbol v (kind.Symbol v ∷ rest) ≡ Some (tt, rest)
unfolding symbol
symbol_again v rest = rw (true_same symbol_type v v refl) refl

-- a token that a test passes is not there where the test fails
pub not_word : (p : Kind → Bool) (v : Word) → p (kind.Word v) ≡ true → (ts : Tokens) → next_is p ts ≡ false → next_is (is_word v) ts ≡ false
not_word p v goes [] h = refl
not_word p v goes (kind.Word u ∷ ts) h = elim (same_word u v) as (λ b. same_word u v ≡ b → b ≡ false) [
  | true ↦ λ s. let same : u ≡ v = same_true word_type tt u v s in let a : p (kind.Word u) ≡ true = rw same goes in cc
  | false ↦ λ s. refl
] refl
not_word p v goes (t ∷ ts) h = refl

pub not_symbol : (p : Kind → Bool) (v : Symbol) → p (kind.Symbol v) ≡ true → (ts : Tokens) → next_is p ts ≡ false → next_is (is_symbol v) ts ≡ false
not_symbol p v goes [] h = refl
not_symbol p v goes (kind.Symbol u ∷ ts) h = elim (same_symbol u v) as (λ b. same_symbol u v ≡ b → b ≡ false) [
  | true ↦ λ s. let same : u ≡ v = same_true symbol_type tt u v s in let a : p (kind.Symbol u) ≡ true = rw same goes in cc
  | false ↦ λ s. refl
] refl
not_symbol p v goes (t ∷ ts) h = refl

pub no_word : (p : Kind → Bool) (v : Word) → p (kind.Word v) ≡ true → (ts : Tokens) → next_is p ts ≡ false → word v ts ≡ None
unfolding word
no_word p v goes ts h = rw (not_word p v goes ts h) refl

pub no_symbol : (p : Kind → Bool) (v : Symbol) → p (kind.Symbol v) ≡ true → (ts : Tokens) → next_is p ts ≡ false → symbol v ts ≡ None
unfolding symbol
no_symbol p v goes ts h = rw (not_symbol p v goes ts h) refl
