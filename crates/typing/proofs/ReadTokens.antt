-- The tokens of what the grammar has, for each way in which it joins its rules.
use Rattle.std.proofs.Common.{◌≡◌, ℕ, Bool, true, false, List, [], ◌∷◌, ◌++◌, map, Option, Some, None, refl, sym as flip, ap, ◌∙◌, subst}
use Rattle.std.specs.Prelude.{flat_map}
use Rattle.std.specs.Option.{option_map}
use Rattle.std.proofs.lemmas.List.{append_assoc}
use Rattle.lexer.specs.declared.kinds.Kind.{Kind}
use Rattle.ast.specs.Expressions.{Chain}
use Rattle.ast.specs.Notation.{Tokens, Rule, ◌⨾◌, ◌⊳◌, ◌⊲◌, Parenthesized, Maybe, Written, Many, Listed}
use Rattle.ast.specs.Words.{COMMA, LEFT_PARENTHESIS, RIGHT_PARENTHESIS}
use Rattle.typing.specs.Tokens.{chain, if_written, joined_by, listed, maybe}

-- These tokens stand before the rest, and they are this part whatever follows.
pub record Read {A : Type 0} (R : Rule A) (x : A) (tokens ts rest : Tokens) : Type 0 where
  pub only : ts ≡ tokens ++ rest
  pub again : (more : Tokens) → R (tokens ++ more) x more

-- What is in R has these tokens.
pub record Reads {A : Type 0} (R : Rule A) (tokens : A → Tokens) : Type 0 where
  pub at : (ts : Tokens) (x : A) (rest : Tokens) → R ts x rest → Read R x (tokens x) ts rest

-- ---- joined lists

pub three : (a b c : Tokens) → a ++ (b ++ c) ≡ a ++ b ++ c
three a b c = flip (append_assoc a b c)

pub four : (a b c d : Tokens) → a ++ (b ++ (c ++ d)) ≡ a ++ b ++ c ++ d
four a b c d = three a b (c ++ d) ∙ three (a ++ b) c d

pub six : (a b c d e f : Tokens) → a ++ (b ++ (c ++ (d ++ (e ++ f)))) ≡ a ++ b ++ c ++ d ++ e ++ f
six a b c d e f = four a b c (d ++ (e ++ f)) ∙ four (a ++ b ++ c) d e f

-- ---- parts of another rule

-- with another tree, and tokens that are grouped otherwise
pub read_as : {A B : Type 0} {R : Rule A} {x : A} {a b ts rest : Tokens} (R' : Rule B) (y : B) → ((ts rest : Tokens) → R ts x rest → R' ts y rest) → a ≡ b → Read R x a ts rest → Read R' y b ts rest
read_as {a} {rest} R' y f e r = record {
  only = r.only ∙ ap (λ k. k ++ rest) e;
  again = λ more. subst (λ k. R' (k ++ more) y more) e (f (a ++ more) more (r.again more));
}

-- the rule of a tree is one of its fields
pub of : {A B : Type 0} {R : Rule A} {f : A → Tokens} → Reads R f → (R' : Rule B) (g : B → A) (f' : B → Tokens)
    → ((ts : Tokens) (y : B) (rest : Tokens) → R' ts y rest → R ts (g y) rest)
    → ((ts : Tokens) (y : B) (rest : Tokens) → R' ts y rest → (ts' rest' : Tokens) → R ts' (g y) rest' → R' ts' y rest')
    → ((y : B) → f' y ≡ f (g y)) → Reads R' f'
of l R' g f' to from same = record { at = λ ts y rest h. read_as R' y (from ts y rest h) (flip (same y)) (l.at ts (g y) rest (to ts y rest h)) }

-- ---- the signs of the grammar

read_both : {A B : Type 0} {R : Rule A} {R' : Rule B} {x : A} {y : B} {a b ts mid rest : Tokens} → Read R x a ts mid → Read R' y b mid rest → Read (R ⨾ R') (x, y) (a ++ b) ts rest
read_both {R} {R'} {x} {y} {a} {b} {rest} r s = record {
  only = r.only ∙ ap (λ k. a ++ k) s.only ∙ three a b rest;
  again = λ more. subst (λ k. (R ⨾ R') k (x, y) more) (three a b more) (b ++ more, r.again (b ++ more), s.again more);
}

-- A ⨾ B
pub both : {A B : Type 0} {R : Rule A} {R' : Rule B} {f : A → Tokens} {g : B → Tokens} → Reads R f → Reads R' g → Reads (R ⨾ R') (λ x. f x.0 ++ g x.1)
both l m = record { at = λ ts x rest h. read_both (l.at ts x.0 h.0 h.1) (m.at h.0 x.1 rest h.2) }

-- t ⊳ A
pub after : {A : Type 0} {R : Rule A} {f : A → Tokens} (t : Kind) → Reads R f → Reads (t ⊳ R) (λ x. t ∷ f x)
after {f} t l = record {
  at = λ ts x rest h.
      let r = l.at h.0 x rest h.2 in
      record { only = h.1 ∙ ap (λ k. t ∷ k) r.only; again = λ more. (f x ++ more, refl, r.again more) };
}

-- A ⊲ t
pub before : {A : Type 0} {R : Rule A} {f : A → Tokens} (t : Kind) → Reads R f → Reads (R ⊲ t) (λ x. f x ++ t ∷ [])
before {R} {f} t l = record {
  at = λ ts x rest h.
      let r = l.at ts x (t ∷ rest) h in
      record {
        only = r.only ∙ three (f x) (t ∷ []) rest;
        again = λ more. subst (λ k. R k x (t ∷ more)) (three (f x) (t ∷ []) more) (r.again (t ∷ more));
      };
}

-- ( A )
pub parenthesized : {A : Type 0} {R : Rule A} {f : A → Tokens} → Reads R f → Reads (Parenthesized R) (λ x. LEFT_PARENTHESIS ∷ f x ++ RIGHT_PARENTHESIS ∷ [])
parenthesized l = after LEFT_PARENTHESIS (before RIGHT_PARENTHESIS l)

-- [A]
pub may : {A : Type 0} {R : Rule A} {f : A → Tokens} → Reads R f → Reads (Maybe R) (maybe f)
may {A} {R} {f} l = record { at = at }
  where
    at : (ts : Tokens) (x : Option A) (rest : Tokens) → Maybe R ts x rest → Read (Maybe R) x (maybe f x) ts rest
    at ts None rest h = record { only = h; again = λ more. refl }
    at ts (Some x) rest h = let r = l.at ts x rest h in record { only = r.only; again = r.again }

-- [t A]
pub may_after : {A : Type 0} {R : Rule A} {f : A → Tokens} (t : Kind) → Reads R f → Reads (Maybe (t ⊳ R)) (λ x. maybe (λ ts. t ∷ ts) (option_map f x))
may_after {A} {R} {f} t l = record { at = at }
  where
    at : (ts : Tokens) (x : Option A) (rest : Tokens) → Maybe (t ⊳ R) ts x rest → Read (Maybe (t ⊳ R)) x (maybe (λ ts. t ∷ ts) (option_map f x)) ts rest
    at ts None rest h = record { only = h; again = λ more. refl }
    at ts (Some x) rest h = let r = (after t l).at ts x rest h in record { only = r.only; again = r.again }

-- [t]
pub written : (t : Kind) → Reads (Written t) (λ x. if_written x t)
written t = record { at = at }
  where
    at : (ts : Tokens) (x : Bool) (rest : Tokens) → Written t ts x rest → Read (Written t) x (if_written x t) ts rest
    at ts true rest h = record { only = h; again = λ more. refl }
    at ts false rest h = record { only = h; again = λ more. refl }

-- {A}, whose tokens are joined by `all`
pub many : {A : Type 0} {R : Rule A} {f : A → Tokens} → Reads R f → (all : List A → Tokens) → all [] ≡ [] → ((x : A) (xs : List A) → all (x ∷ xs) ≡ f x ++ all xs) → Reads (Many R) all
many {A} {R} {f} l all none some = record { at = at }
  where
    at : (ts : Tokens) (xs : List A) (rest : Tokens) → Many R ts xs rest → Read (Many R) xs (all xs) ts rest
    at ts [] rest h = record { only = h ∙ ap (λ k. k ++ rest) (flip none); again = λ more. ap (λ k. k ++ more) none }
    at ts (x ∷ xs) rest h = read_as (Many R) (x ∷ xs) (λ ts rest h. h) (flip (some x xs)) (read_both (l.at ts x h.0 h.1) (at h.0 xs rest h.2))

-- {t A}
each_after : {A : Type 0} {R : Rule A} {f : A → Tokens} (t : Kind) → Reads R f → Reads (Many (t ⊳ R)) (λ xs. flat_map (λ other. t ∷ other) (map f xs))
each_after {f} t l = many (after t l) (λ xs. flat_map (λ other. t ∷ other) (map f xs)) refl (λ x xs. refl)

-- A {, A}
pub all_listed : {A : Type 0} {R : Rule A} {f : A → Tokens} → Reads R f → Reads (Listed R) (λ xs. listed (map f xs))
all_listed {A} {R} {f} l = record { at = at }
  where
    at : (ts : Tokens) (xs : List A) (rest : Tokens) → Listed R ts xs rest → Read (Listed R) xs (listed (map f xs)) ts rest
    at ts [] rest h = absurd h
    at ts (x ∷ xs) rest h = let r = (both l (each_after COMMA l)).at ts (x, xs) rest h in record { only = r.only; again = r.again }

-- A {B}, where the limit of chains allows so many B
within : {A B : Type 0} {R : Rule A} {R' : Rule B} {f : A → Tokens} {g : List B → Tokens} (limit : Option ℕ) → Reads R f → Reads (Many R') g → Reads (Chain limit R R') (λ x. f x.0 ++ g x.1)
within limit l m = record { at = λ ts x rest h. let r = (both l m).at ts x rest h.0 in record { only = r.only; again = λ more. (r.again more, h.1) } }

-- A {t A}
pub joined : {A : Type 0} {R : Rule A} {f : A → Tokens} (limit : Option ℕ) (t : Kind) → Reads R f → Reads (Chain limit R (t ⊳ R)) (λ x. joined_by t (f x.0) (map f x.1))
joined limit t l = within limit l (each_after t l)

-- A {O A}
pub chained : {A O : Type 0} {R : Rule A} {f : A → Tokens} {Op : Rule O} {g : O → Tokens} (limit : Option ℕ) → Reads Op g → Reads R f
    → Reads (Chain limit R (Op ⨾ R)) (λ x. chain g (f x.0) (map (λ other. (other.0, f other.1)) x.1))
chained {f} {g} limit o l =
    within limit l (many (both o l) (λ xs. flat_map (λ other. g other.0 ++ other.1) (map (λ other. (other.0, f other.1)) xs)) refl (λ x xs. refl))
