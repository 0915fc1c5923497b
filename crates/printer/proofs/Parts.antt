-- How the parts of a rule are put, one after another.
use Rattle.std.proofs.Common.{◌≡◌, ℕ, ◌+◌, ◌<◌, ◌≤◌, List, ◌++◌, ◌∷◌, [], length, take, get_or, Option, refl, ap, sym, ◌∙◌, subst, append_assoc, append-nil, OnOk, Result, Ok, Err}
use Rattle.std.proofs.Math.Numerals.{add-one}
use Rattle.std.proofs.Math.Seq.{take-suc}
use Rattle.std.proofs.lemmas.List.{take_all}
use Rattle.lexer.specs.declared.kinds.Kind.{Kind}
use Rattle.ast.specs.Expressions.{Nested}
use Rattle.ast.specs.Notation.{Tokens, Rule, Many}
use Rattle.ast.specs.Grammar.{nested_at}
use Rattle.printer.specs.Writing.{LimitedRule, Part, Puts, Prints, IsWrittenAs}

infixr 5 ◌⨟◌
-- a part, and after it another
pub ◌⨟◌ : {A B : Part} {old middle new : Tokens} → Puts A old middle → Puts B middle new
    → Puts (λ limit inner ts rest. (between : Tokens) × A limit inner ts between × B limit inner between rest) old new
◌⨟◌ {A} {B} {old} {middle} {new} p q = record {
  kinds = p.kinds ++ q.kinds;
  put = q.put ∙ (ap (λ a. a ++ q.kinds) p.put ∙ append_assoc old p.kinds q.kinds);
  only = λ limit depth ts rest h.
      p.only limit depth ts h.0 h.1 ∙ (ap (λ a. p.kinds ++ a) (q.only limit depth h.0 rest h.2) ∙ sym (append_assoc p.kinds q.kinds rest));
  again = λ limit depth ts rest after h. (
    q.kinds ++ after,
    subst (λ a. A limit (nested_at limit depth) a (q.kinds ++ after)) (sym (append_assoc p.kinds q.kinds after)) (p.again limit depth ts h.0 (q.kinds ++ after) h.1),
    q.again limit depth h.0 rest after h.2,
  );
}

infixr 6 ◌⨠◌
-- a part, and after it a token that its rule leaves
pub ◌⨠◌ : {A : Part} {kind : Kind} {old middle new : Tokens} → Puts A old middle → Puts (λ _ _ ts rest. ts ≡ kind ∷ rest) middle new
    → Puts (λ limit inner ts rest. A limit inner ts (kind ∷ rest)) old new
◌⨠◌ {A} {kind} {old} {middle} {new} p q = record {
  kinds = p.kinds ++ q.kinds;
  put = q.put ∙ (ap (λ a. a ++ q.kinds) p.put ∙ append_assoc old p.kinds q.kinds);
  only = λ limit depth ts rest h.
      p.only limit depth ts (kind ∷ rest) h ∙ (ap (λ a. p.kinds ++ a) (q.only limit depth (kind ∷ rest) rest refl) ∙ sym (append_assoc p.kinds q.kinds rest));
  again = λ limit depth ts rest after h.
      subst (λ a. A limit (nested_at limit depth) a (kind ∷ after))
      (ap (λ a. p.kinds ++ a) (q.only limit depth (kind ∷ after) after refl) ∙ sym (append_assoc p.kinds q.kinds after))
      (p.again limit depth ts (kind ∷ rest) (kind ∷ after) h);
}

-- no token
pub nothing : (old : Tokens) → Puts (λ _ _ ts rest. ts ≡ rest) old old
nothing old = record { kinds = []; put = sym (append-nil old); only = λ _ _ _ _ h. h; again = λ _ _ _ _ _ _. refl }

-- a part that is one token
pub written : {A : Type 0} {R : Rule A} {x : A} {kind : Kind} {old new : Tokens} → IsWrittenAs R x kind
    → Puts (λ _ _ ts rest. ts ≡ kind ∷ rest) old new → Puts (λ _ _ ts rest. R ts x rest) old new
written {R = R} {x = x} {kind = kind} w p = record {
  kinds = p.kinds;
  put = p.put;
  only = λ limit depth ts rest h. p.only limit depth ts rest (w.only ts rest h);
  again = λ limit depth ts rest after h. subst (λ a. R a x after) (p.only limit depth (kind ∷ after) after refl) (w.again after);
}

-- a part that has other words for what it is
pub same : {A B : Part} {old new : Tokens} → Puts A old new
    → ((limit : Option ℕ) (inner : Nested) (ts rest : Tokens) → B limit inner ts rest → A limit inner ts rest)
    → ((limit : Option ℕ) (inner : Nested) (ts rest : Tokens) → A limit inner ts rest → B limit inner ts rest) → Puts B old new
same p from to = record {
  kinds = p.kinds;
  put = p.put;
  only = λ limit depth ts rest h. p.only limit depth ts rest (from limit (nested_at limit depth) ts rest h);
  again = λ limit depth ts rest after h.
      to limit (nested_at limit depth) _ after (p.again limit depth ts rest after (from limit (nested_at limit depth) ts rest h));
}

-- a part with a condition that its tokens do not change
pub with_condition : {A : Part} {C : Option ℕ → Nested → Type 0} {old new : Tokens} → Puts A old new → Puts (λ limit inner ts rest. A limit inner ts rest × C limit inner) old new
with_condition p = record {
  kinds = p.kinds;
  put = p.put;
  only = λ limit depth ts rest h. p.only limit depth ts rest h.0;
  again = λ limit depth ts rest after h. (p.again limit depth ts rest after h.0, h.1);
}

-- a token before others that are fixed too
pub token_before : {kind : Kind} {after : Tokens → Tokens} {old middle new : Tokens} → Puts (λ _ _ ts rest. ts ≡ kind ∷ rest) old middle
    → Puts (λ _ _ ts rest. ts ≡ after rest) middle new → Puts (λ _ _ ts rest. ts ≡ kind ∷ after rest) old new
token_before {kind} {after} p q = same (p ⨟ q) (λ _ _ ts rest h. (after rest, h, refl)) (λ _ _ ts rest h. h.1 ∙ ap (λ a. kind ∷ a) h.2)

-- a part, another, a token, and after them a third part
pub operand_before : {A B C : Part} {kind : Kind} {old middle new : Tokens}
    → Puts (λ limit inner ts rest. (between : Tokens) × A limit inner ts between × B limit inner between (kind ∷ rest)) old middle → Puts C middle new
    → Puts (λ limit inner ts rest. (between : Tokens) × A limit inner ts between
    × ((next : Tokens) × B limit inner between next × ((after : Tokens) × (next ≡ kind ∷ after) × C limit inner after rest))) old new
operand_before {B = B} {kind = kind} p q = same (p ⨟ q)
    (λ limit inner ts rest h. (h.2.2.0, (h.0, h.1, subst (λ next. B limit inner h.0 next) h.2.2.1 h.2.1), h.2.2.2))
    (λ limit inner ts rest h. (h.1.0, h.1.1, (kind ∷ h.0, h.1.2, (h.0, refl, h.2))))

-- ---- parts one after another, any number of them

split : {A : Type 0} (R : Rule A) (xs : List A) (x : A) (ts rest : Tokens) → Many R ts (xs ++ x ∷ []) rest
    → (between : Tokens) × Many R ts xs between × R between x rest
split R [] x ts rest h = (ts, refl, subst (λ a. R ts x a) h.2 h.1)
split R (y ∷ ys) x ts rest h = let k = split R ys x h.0 rest h.2 in (k.0, (h.0, h.1, k.1), k.2)

joined : {A : Type 0} (R : Rule A) (xs : List A) (x : A) (ts rest : Tokens)
    → (between : Tokens) × Many R ts xs between × R between x rest → Many R ts (xs ++ x ∷ []) rest
joined R [] x ts rest k = (rest, subst (λ a. R a x rest) (sym k.1) k.2, refl)
joined R (y ∷ ys) x ts rest k = (k.1.0, k.1.1, joined R ys x k.1.0 rest (k.0, k.1.2, k.2))

-- one more
pub many_more : {A : Type 0} (R : LimitedRule A) (xs : List A) (x : A) {old middle new : Tokens}
    → Prints (λ limit inner. Many (R limit inner)) xs old middle → Prints R x middle new → Prints (λ limit inner. Many (R limit inner)) (xs ++ x ∷ []) old new
many_more R xs x p q = same (p ⨟ q) (λ limit inner. split (R limit inner) xs x) (λ limit inner. joined (R limit inner) xs x)

-- a turn of a loop that puts the items of a list
pub turn : {A : Type 0} (R : LimitedRule A) (xs : List A) (at : ℕ) (x : A) {old middle new : Tokens} → at < length xs → x ≡ get_or xs at x
    → Prints (λ limit inner. Many (R limit inner)) (take at xs) old middle → Prints R x middle new → Prints (λ limit inner. Many (R limit inner)) (take (at + 1) xs) old new
turn R xs at x {old} {middle} {new} below is p q =
    rw (add-one, take-suc xs at x) (subst (λ y. Prints (λ limit inner. Many (R limit inner)) (take at xs ++ y ∷ []) old new) is (many_more R (take at xs) x p q))

-- the end of such a loop
pub ended : {A : Type 0} (R : LimitedRule A) (xs : List A) (at : ℕ) {old new : Tokens} → length xs ≤ at
    → Prints (λ limit inner. Many (R limit inner)) (take at xs) old new → Prints (λ limit inner. Many (R limit inner)) xs old new
ended R xs at {old} {new} end p = subst (λ ys. Prints (λ limit inner. Many (R limit inner)) ys old new) (take_all at xs end) p

-- ---- results

pub done : {X E P Q : Type 0} (r : Result X E) → (P → Q) → OnOk r P → OnOk r Q
done (Ok x) f p = f p
done (Err e) f p = p
