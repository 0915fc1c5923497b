-- What is read is in the grammar, for each way in which the grammar joins its rules.
use Rattle.std.proofs.Common.{◌≡◌, ℕ, zero, suc, ◌-◌, Bool, true, false, cond, List, [], ◌∷◌, ◌++◌, length, Option, Some, None, refl, sym as flip, ◌∙◌, subst, arith, append_assoc, append-nil, length-append, inl, inr}
use Rattle.std.proofs.lemmas.Bool.Decides.{leb_tells}
use Rattle.lexer.specs.declared.kinds.Kind.{Kind}
use Rattle.lexer.specs.declared.kinds.Kind.TheVariants as kind
use Rattle.lexer.specs.declared.kinds.Symbol.{Symbol}
use Rattle.lexer.specs.declared.kinds.Symbol.TheVariants as s
use Rattle.lexer.specs.declared.words.Word.{Word}
use Rattle.ast.specs.Notation.{Tokens, Rule, ◌⨾◌, ◌⊳◌, ◌⊲◌, Parenthesized, Maybe, Written, Many, Listed, MaybeListed}
use Rattle.ast.specs.Words.{COMMA}
use Rattle.ast.specs.Expressions.{Within, Chain}
use Rattle.parse_terminals.specs.Readers.{Reader, ◌>>=◌, if_next, if_full, is_full, is_word, word, symbol, eat_word, both, after, before, parenthesized, made, optional, maybe, maybe_listed, written, many_from, many, listed}
use Rattle.parser.proofs.Steps.{bind_some, found, word_found, symbol_found}

-- what r reads is in S
pub record Sound (A : Type 0) (r : Reader A) (S : Rule A) : Type 0 where
  pub at : (ts : Tokens) (x : A × Tokens) → r ts ≡ Some x → S ts x.0 x.1

-- the same where begin reads what begins it
pub record Opening (O A : Type 0) (begin : Reader O) (item : O → Reader A) (S : Rule A) : Type 0 where
  pub at : (ts : Tokens) (o : O × Tokens) (x : A × Tokens) → begin ts ≡ Some o → item o.0 o.1 ≡ Some x → S ts x.0 x.1

-- A ⨾ B
pub both_sound : {A B : Type 0} {r : Reader A} {S : Rule A} {r' : Reader B} {S' : Rule B} → Sound A r S → Sound B r' S' → Sound (A × B) (both r r') (S ⨾ S')
both_sound {r} {S} {r'} {S'} l m = record {
  at = λ ts x e.
      let a = bind_some (r ts) _ x e in
      let b = bind_some (r' a.0.1) _ x a.2 in
      found (λ y. (S ⨾ S') ts y.0 y.1) ((a.0.0, b.0.0), b.0.1) x b.2 (a.0.1, l.at ts a.0 a.1, m.at a.0.1 b.0 b.1);
}

-- t ⊳ A
pub after_word_sound : {A : Type 0} {r : Reader A} {S : Rule A} (w : Word) → Sound A r S → Sound A (after (word w) r) (kind.Word w ⊳ S)
after_word_sound {r} w l = record {
  at = λ ts x e. let a = bind_some (word w ts) (λ o. r o.1) x e in (a.0.1, word_found w ts a.0 a.1, l.at a.0.1 x a.2);
}

pub after_symbol_sound : {A : Type 0} {r : Reader A} {S : Rule A} (w : Symbol) → Sound A r S → Sound A (after (symbol w) r) (kind.Symbol w ⊳ S)
after_symbol_sound {r} w l = record {
  at = λ ts x e. let a = bind_some (symbol w ts) (λ o. r o.1) x e in (a.0.1, symbol_found w ts a.0 a.1, l.at a.0.1 x a.2);
}

-- A ⊲ t
pub before_word_sound : {A : Type 0} {r : Reader A} {S : Rule A} (w : Word) → Sound A r S → Sound A (before r (word w)) (S ⊲ kind.Word w)
before_word_sound {r} {S} w l = record {
  at = λ ts x e.
      let a = bind_some (r ts) _ x e in
      let b = bind_some (word w a.0.1) _ x a.2 in
      found (λ y. S ts y.0 (kind.Word w ∷ y.1)) (a.0.0, b.0.1) x b.2 (subst (S ts a.0.0) (word_found w a.0.1 b.0 b.1) (l.at ts a.0 a.1));
}

-- ( A )
pub parenthesized_sound : {A : Type 0} {r : Reader A} {S : Rule A} → Sound A r S → Sound A (parenthesized r) (Parenthesized S)
parenthesized_sound {r} {S} l = record {
  at = λ ts x e.
      let o = bind_some (symbol s.LeftParenthesis ts) _ x e in
      let a = bind_some (r o.0.1) _ x o.2 in
      let b = bind_some (symbol s.RightParenthesis a.0.1) _ x a.2 in
      found (λ y. Parenthesized S ts y.0 y.1) (a.0.0, b.0.1) x b.2
      (o.0.1, symbol_found s.LeftParenthesis ts o.0 o.1, subst (S o.0.1 a.0.0) (symbol_found s.RightParenthesis a.0.1 b.0 b.1) (l.at o.0.1 a.0 a.1));
}

-- with another tree
pub made_sound : {A B : Type 0} {r : Reader A} {S : Rule A} (S' : Rule B) (f : A → B) → Sound A r S
    → ((ts : Tokens) (x : A) (rest : Tokens) → S ts x rest → S' ts (f x) rest) → Sound B (made f r) S'
made_sound {r} S' f l to = record {
  at = λ ts x e. let a = bind_some (r ts) _ x e in found (λ y. S' ts y.0 y.1) (f a.0.0, a.0.1) x a.2 (to ts a.0.0 a.0.1 (l.at ts a.0 a.1));
}

-- ---- what may be left out

word_here : (w : Word) (t : Kind) (ts : Tokens) → is_word w t ≡ true → word w (t ∷ ts) ≡ Some (tt, ts)
unfolding word
word_here w t ts e = rw e refl

pub eaten : (w : Word) (ts : Tokens) → Written (kind.Word w) ts (eat_word w ts).0 (eat_word w ts).1
unfolding eat_word
eaten w [] = refl
eaten w (t ∷ ts) = elim (is_word w t) as (λ b. is_word w t ≡ b → (let r : Bool × Tokens = cond b (true, ts) (false, t ∷ ts) in Written (kind.Word w) (t ∷ ts) r.0 r.1)) [
  | true ↦ λ e. word_found w (t ∷ ts) (tt, ts) (word_here w t ts e)
  | false ↦ λ e. refl
] refl

-- [t]
pub written_sound : (w : Word) → Sound Bool (written w) (Written (kind.Word w))
written_sound w = record { at = λ ts x e. found (λ y. Written (kind.Word w) ts y.0 y.1) (eat_word w ts) x e (eaten w ts) }

-- [A]
pub optional_sound : {A : Type 0} {r : Reader A} {S : Rule A} → Sound A r S → Sound (Option A) (optional r) (Maybe S)
optional_sound {r} {S} l = record {
  at = λ ts x e. elim (r ts) as (λ o. r ts ≡ o → if_next o (Some (None, ts)) (λ y. Some (Some y.0, y.1)) ≡ Some x → Maybe S ts x.0 x.1) [
    | None ↦ λ s h. found (λ y. Maybe S ts y.0 y.1) (None, ts) x h refl
    | Some y ↦ λ s h. found (λ y. Maybe S ts y.0 y.1) (Some y.0, y.1) x h (l.at ts y s)
  ] refl e;
}

pub maybe_sound : {O A : Type 0} {begin : Reader O} {item : O → Reader A} {S : Rule A} → Opening O A begin item S → Sound (Option A) (maybe begin item) (Maybe S)
maybe_sound {begin} {item} {S} l = record {
  at = λ ts x e. elim (begin ts) as (λ o. begin ts ≡ o → if_next o (Some (None, ts)) (λ o. item o.0 o.1 >>= (λ y. Some (Some y.0, y.1))) ≡ Some x → Maybe S ts x.0 x.1) [
    | None ↦ λ s h. found (λ y. Maybe S ts y.0 y.1) (None, ts) x h refl
    | Some o ↦ λ s h. let a = bind_some (item o.0 o.1) _ x h in found (λ y. Maybe S ts y.0 y.1) (Some a.0.0, a.0.1) x a.2 (l.at ts o a.0 s a.1)
  ] refl e;
}

filled : {A : Type 0} (S : Rule (List A)) (ts : Tokens) (xs : List A) (rest : Tokens) → S ts xs rest → (S ts [] rest → ⊥) → MaybeListed S ts xs rest
filled S ts [] rest h never = absurd (never h)
filled S ts (x ∷ xs) rest h never = h

pub maybe_listed_sound : {O A : Type 0} {begin : Reader O} {item : O → Reader (List A)} {S : Rule (List A)} → Opening O (List A) begin item S
    → ((ts rest : Tokens) → S ts [] rest → ⊥) → Sound (List A) (maybe_listed begin item) (MaybeListed S)
maybe_listed_sound {begin} {item} {S} l never = record {
  at = λ ts x e. elim (begin ts) as (λ o. begin ts ≡ o → if_next o (Some ([], ts)) (λ o. item o.0 o.1) ≡ Some x → MaybeListed S ts x.0 x.1) [
    | None ↦ λ s h. found (λ y. MaybeListed S ts y.0 y.1) ([], ts) x h refl
    | Some o ↦ λ s h. filled S ts x.0 x.1 (l.at ts o x s h) (never ts x.1)
  ] refl e;
}

-- ---- what begins an item

pub by_word : {A : Type 0} {r : Reader A} {S : Rule A} (w : Word) → Sound A r S → Opening (Unit {0}) A (word w) (λ _. r) (kind.Word w ⊳ S)
by_word w l = record { at = λ ts o x e f. (o.1, word_found w ts o e, l.at o.1 x f) }

by_comma : {A : Type 0} {r : Reader A} {S : Rule A} → Sound A r S → Opening (Unit {0}) A (symbol s.Comma) (λ _. r) (COMMA ⊳ S)
by_comma l = record { at = λ ts o x e f. (o.1, symbol_found s.Comma ts o e, l.at o.1 x f) }

-- an operator that is part of the tree
pub by_operator : {O A : Type 0} {begin : Reader O} {item : O → Reader (O × A)} {SO : Rule O} (S : Rule A) → Sound O begin SO
    → ((o : O) → Sound (O × A) (item o) (λ ts x rest. (x.0 ≡ o) × S ts x.1 rest)) → Opening O (O × A) begin item (SO ⨾ S)
by_operator {SO} S l m = record {
  at = λ ts o x e f. let k = (m o.0).at o.1 x f in (o.1, subst (λ p. SO ts p o.1) (flip k.0) (l.at ts o e), k.1);
}

-- nothing but a look ahead
pub by_look : {A : Type 0} {r : Reader A} {S : Rule A} (begin : Reader (Unit {0})) → ((ts : Tokens) (o : Unit {0} × Tokens) → begin ts ≡ Some o → o.1 ≡ ts) → Sound A r S
    → Opening (Unit {0}) A begin (λ _. r) S
by_look {S} begin stays l = record { at = λ ts o x e f. subst (λ ts. S ts x.0 x.1) (stays ts o e) (l.at o.1 x f) }

-- ---- repeated parts

more_room : {X : Type 0} (limit : Option ℕ) (before : List X) (x : X) → is_full limit (length before) ≡ false → Within limit (length (before ++ x ∷ []))
more_room None before x h = tt
more_room (Some m) before x h = elim (leb_tells (m - 1) (length before)) [
  | inl t ↦ absurd (let k = t.0 in cc)
  | inr t ↦ let l = length-append before (x ∷ []) in omega (arith, t.1)
]

-- what was read after the items before
record More {A : Type 0} (limit : Option ℕ) (S : Rule A) (before all : List A) (ts rest : Tokens) : Type 0 where
  more : List A
  all_is : all ≡ before ++ more
  are : Many S ts more rest
  within : Within limit (length all)

module _ {O A : Type 0} {begin : Reader O} {item : O → Reader A} {S : Rule A} (limit : Option ℕ) (l : Opening O A begin item S) where
  from_sound : (n : ℕ) (before : List A) (ts : Tokens) (x : List A × Tokens) → Within limit (length before) → many_from limit begin item n before ts ≡ Some x
      → More limit S before x.0 ts x.1
  from_sound zero before ts x w e =
      found (λ y. More limit S before y.0 ts y.1) (before, ts) x e (record { more = []; all_is = flip (append-nil before); are = refl; within = w })
  from_sound (suc n) before ts x w e =
      let next = λ (o : O × Tokens). item o.0 o.1 >>= (λ y. many_from limit begin item n (before ++ y.0 ∷ []) y.1) in
      elim (begin ts) as (λ o. begin ts ≡ o → if_next o (Some (before, ts)) (λ o. if_full (is_full limit (length before)) (next o)) ≡ Some x → More limit S before x.0 ts x.1) [
        | None ↦ λ s h. found (λ y. More limit S before y.0 ts y.1) (before, ts) x h (record { more = []; all_is = flip (append-nil before); are = refl; within = w })
        | Some o ↦ λ s. elim (is_full limit (length before)) as (λ b. is_full limit (length before) ≡ b → if_full b (next o) ≡ Some x → More limit S before x.0 ts x.1) [
          | true ↦ λ f h. cc
          | false ↦ λ f h.
              let read = bind_some (item o.0 o.1) (λ y. many_from limit begin item n (before ++ y.0 ∷ []) y.1) x h in
              let rest = from_sound n (before ++ read.0.0 ∷ []) read.0.1 x (more_room limit before read.0.0 f) read.2 in
              record {
                more = read.0.0 ∷ rest.more;
                all_is = rest.all_is ∙ append_assoc before (read.0.0 ∷ []) rest.more;
                are = (read.0.1, l.at ts o read.0 s read.1, rest.are);
                within = rest.within;
              }
        ] refl
      ] refl e

-- {A}
pub many_sound : {O A : Type 0} {begin : Reader O} {item : O → Reader A} {S : Rule A} → Opening O A begin item S → Sound (List A) (many None begin item []) (Many S)
many_sound {S} l = record {
  at = λ ts x e. let m = from_sound None l (length ts) [] ts x tt e in subst (λ xs. Many S ts xs x.1) (flip m.all_is) m.are;
}

-- A {B}, where a chain of so many B is within the limit
pub chain_sound : {O A B : Type 0} {first : Reader A} {S : Rule A} {begin : Reader O} {item : O → Reader B} {S' : Rule B} (limit : Option ℕ) → Within limit 0
    → Sound A first S → Opening O B begin item S' → Sound (A × List B) (both first (many limit begin item [])) (Chain limit S S')
chain_sound {first} {S} {begin} {item} {S'} limit some l m = record {
  at = λ ts x e.
      let a = bind_some (first ts) _ x e in
      let b = bind_some (many limit begin item [] a.0.1) _ x a.2 in
      let k = from_sound limit m (length a.0.1) [] a.0.1 b.0 some b.1 in
      found (λ y. Chain limit S S' ts y.0 y.1) ((a.0.0, b.0.0), b.0.1) x b.2
      ((a.0.1, l.at ts a.0 a.1, subst (λ xs. Many S' a.0.1 xs b.0.1) (flip k.all_is) k.are), k.within);
}

-- A {, A}
pub listed_sound : {A : Type 0} {r : Reader A} {S : Rule A} → Sound A r S → Sound (List A) (listed r) (Listed S)
listed_sound {r} {S} l = record {
  at = λ ts x e.
      let a = bind_some (r ts) _ x e in
      let k = from_sound None (by_comma l) (length a.0.1) (a.0.0 ∷ []) a.0.1 x tt a.2 in
      subst (λ xs. Listed S ts xs x.1) (flip k.all_is) (a.0.1, l.at ts a.0 a.1, k.are);
}

-- ---- decisions

-- if a test passes, and otherwise
pub either_sound : {A : Type 0} {r s : Reader A} {S : Rule A} (p : Tokens → Bool) → Sound A r S → Sound A s S → Sound A (λ ts. cond (p ts) (r ts) (s ts)) S
either_sound {r} {s} {S} p l m = record {
  at = λ ts x e. elim (p ts) as (λ b. cond b (r ts) (s ts) ≡ Some x → S ts x.0 x.1) [ true ↦ l.at ts x | false ↦ m.at ts x ] e;
}

-- if something comes next, and otherwise
pub next_sound : {O A : Type 0} {begin : Reader O} {item : O → Reader A} {r : Reader A} {S : Rule A} → Opening O A begin item S → Sound A r S
    → Sound A (λ ts. if_next (begin ts) (r ts) (λ o. item o.0 o.1)) S
next_sound {begin} {item} {r} {S} l m = record {
  at = λ ts x e. elim (begin ts) as (λ o. begin ts ≡ o → if_next o (r ts) (λ o. item o.0 o.1) ≡ Some x → S ts x.0 x.1) [
    | None ↦ λ s h. m.at ts x h
    | Some o ↦ λ s h. l.at ts o x s h
  ] refl e;
}

pub none_sound : {A : Type 0} (S : Rule A) → Sound A (λ _. None) S
none_sound S = record { at = λ ts x e. cc }

-- a word, or a symbol, that alone has this tree
pub word_is : {A : Type 0} (w : Word) (x : A) (S : Rule A) → ((rest : Tokens) → S (kind.Word w ∷ rest) x rest) → Opening (Unit {0}) A (word w) (λ _ ts. Some (x, ts)) S
word_is w x S h = record {
  at = λ ts o y e f. found (λ z. S ts z.0 z.1) (x, o.1) y f (subst (λ ts. S ts x o.1) (flip (word_found w ts o e)) (h o.1));
}

pub symbol_is : {A : Type 0} (w : Symbol) (x : A) (S : Rule A) → ((rest : Tokens) → S (kind.Symbol w ∷ rest) x rest) → Opening (Unit {0}) A (symbol w) (λ _ ts. Some (x, ts)) S
symbol_is w x S h = record {
  at = λ ts o y e f. found (λ z. S ts z.0 z.1) (x, o.1) y f (subst (λ ts. S ts x o.1) (flip (symbol_found w ts o e)) (h o.1));
}

-- what follows a word, where the word and it have a tree together
pub word_then : {A : Type 0} {r : Reader A} (w : Word) (S : Rule A) → ((ts : Tokens) (x : A × Tokens) → r ts ≡ Some x → S (kind.Word w ∷ ts) x.0 x.1) → Opening (Unit {0}) A (word w) (λ _. r) S
word_then w S h = record {
  at = λ ts o x e f. subst (λ ts. S ts x.0 x.1) (flip (word_found w ts o e)) (h o.1 x f);
}

-- what was found is the tree
pub itself : {A : Type 0} {r : Reader A} {S : Rule A} → Sound A r S → Opening A A r (λ x ts. Some (x, ts)) S
itself {S} l = record { at = λ ts o x e f. found (λ y. S ts y.0 y.1) o x f (l.at ts o e) }

pub nothing_sound : {A : Type 0} (S : Rule A) → Sound (Option A) (λ ts. Some (None, ts)) (Maybe S)
nothing_sound S = record { at = λ ts x e. found (λ y. Maybe S ts y.0 y.1) (None, ts) x e refl }

pub opening_to : {O A : Type 0} {begin : Reader O} {item : O → Reader A} {S : Rule A} (S' : Rule A) → Opening O A begin item S
    → ((ts : Tokens) (x : A) (rest : Tokens) → S ts x rest → S' ts x rest) → Opening O A begin item S'
opening_to S' l f = record { at = λ ts o x e g. f ts x.0 x.1 (l.at ts o x e g) }

pub sound_to : {A : Type 0} {r : Reader A} {S : Rule A} (S' : Rule A) → Sound A r S → ((ts : Tokens) (x : A) (rest : Tokens) → S ts x rest → S' ts x rest) → Sound A r S'
sound_to S' l f = record { at = λ ts x e. f ts x.0 x.1 (l.at ts x e) }

-- a list that is never empty, or nothing
pub filled_sound : {A : Type 0} {r : Reader (List A)} {S : Rule (List A)} → Sound (List A) r S → ((ts rest : Tokens) → S ts [] rest → ⊥) → Sound (List A) r (MaybeListed S)
filled_sound {S} l never = record { at = λ ts x e. filled S ts x.0 x.1 (l.at ts x e) (never ts x.1) }

pub empty_sound : {A : Type 0} (S : Rule (List A)) → Sound (List A) (λ ts. Some ([], ts)) (MaybeListed S)
empty_sound S = record { at = λ ts x e. found (λ y. MaybeListed S ts y.0 y.1) ([], ts) x e refl }
