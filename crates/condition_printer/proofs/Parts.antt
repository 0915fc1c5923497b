-- How tokens are put one after another.
use Rattle.std.proofs.Common.{◌≡◌, ℕ, ◌+◌, ◌<◌, ◌≤◌, ◌-◌, List, ◌++◌, ◌∷◌, [], map, length, take, drop, get_or, ap, sym, ◌∙◌, subst, append_assoc, append-nil, OnOk, Result, Ok, Err, arith}
use Rattle.std.specs.Prelude.{flat_map}
use Rattle.std.proofs.Math.Numerals.{add-one}
use Rattle.std.proofs.Math.Seq.{take-suc}
use Rattle.std.proofs.lemmas.List.{take_all}
use Rattle.std.proofs.lemmas.List.Concat.{flat_map-append}
use Rattle.std.proofs.lemmas.List.Folds.{flat_map-map}
use Rattle.lexer.specs.declared.kinds.Kind.{Kind}
use Rattle.ast.specs.Notation.{Tokens}
use Rattle.ast.specs.Words.{COMMA}
use Rattle.typing.specs.Tokens.{listed}
use Rattle.condition_printer.specs.Trees.{Puts}

infixl 5 ◌⨟◌
-- tokens, and after them others
pub ◌⨟◌ : {a b old middle new : Tokens} → Puts a old middle → Puts b middle new → Puts (a ++ b) old new
◌⨟◌ {a} {b} {old} p q = record { is = q.is ∙ (ap (λ ts. ts ++ b) p.is ∙ append_assoc old a b) }

-- no token
pub nothing : (old : Tokens) → Puts [] old old
nothing old = record { is = sym (append-nil old) }

-- the same tokens in other words
pub same : {a b old new : Tokens} → a ≡ b → Puts a old new → Puts b old new
same {old = old} {new = new} e p = subst (λ ts. Puts ts old new) e p

-- a part that is written as these tokens
pub written : {a b old new : Tokens} → b ≡ a → Puts a old new → Puts b old new
written e p = same (sym e) p

-- a part and a token, and after them others
pub before : (a : Tokens) (t : Kind) {b old middle new : Tokens} → Puts (a ++ t ∷ []) old middle → Puts b middle new → Puts (a ++ t ∷ b) old new
before a t {b} p q = same (append_assoc a (t ∷ []) b) (p ⨟ q)

-- ---- parts one after another, any number of them

-- a turn of a loop that puts the items of a list
pub turn : {A : Type 0} (f : A → Tokens) (xs : List A) (at : ℕ) (x : A) {old middle new : Tokens} → at < length xs → x ≡ get_or xs at x
    → Puts (flat_map f (take at xs)) old middle → Puts (f x) middle new → Puts (flat_map f (take (at + 1) xs)) old new
turn f xs at x {old} {middle} {new} below is p q =
    let one : f x ++ [] ≡ f x = append-nil (f x) in
    rw (add-one, take-suc xs at x, sym is, flat_map-append f (take at xs) (x ∷ []), one) (p ⨟ q)

-- the end of such a loop
pub ended : {A : Type 0} (f : A → Tokens) (xs : List A) (at : ℕ) {old new : Tokens} → length xs ≤ at → Puts (flat_map f (take at xs)) old new → Puts (flat_map f xs) old new
ended f xs at {old} {new} end p = subst (λ ys. Puts (flat_map f ys) old new) (take_all at xs end) p

-- a list with commas, at the end of the loop that put all but its first item
pub all_listed : {A : Type 0} (f : A → Tokens) (xs : List A) (first : A) (at : ℕ) {old middle new : Tokens} → 1 ≤ length xs
    → first ≡ get_or xs 0 first → length (take (length xs - 1) (drop 1 xs)) ≤ at → Puts (f first) old middle
    → Puts (flat_map (λ x. COMMA ∷ f x) (take at (take (length xs - 1) (drop 1 xs)))) middle new → Puts (listed (map f xs)) old new
all_listed f [] first at some is end p q = absurd (omega arith)
all_listed f (x ∷ xs) first at {old} {middle} {new} some is end p q =
    let all : take (length (x ∷ xs) - 1) xs ≡ xs = take_all _ xs (omega arith) in
    same (ap (λ ts. f x ++ ts) (sym (flat_map-map (λ ts. COMMA ∷ ts) f xs)))
    (subst (λ y. Puts (f y) old middle) is p ⨟ subst (λ ys. Puts (flat_map (λ y. COMMA ∷ f y) ys) middle new) all (ended (λ y. COMMA ∷ f y) _ at end q))

-- ---- results

pub done : {X E P Q : Type 0} (r : Result X E) → (P → Q) → OnOk r P → OnOk r Q
done (Ok x) f p = f p
done (Err e) f p = p
