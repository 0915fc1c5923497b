-- The calls of a script, as its answers come.
use Rattle.std.specs.Prelude.{IfErr}
use Rattle.std.proofs.Common.{Bool, true, false, Ok, Err, ◌≡◌, ◌⊎◌, inl, inr, ⊎_elim, slice_get, get_or, ℕ, zero, suc, ◌+◌, ◌<◌, List, [], ◌∷◌, ◌++◌, length, Some, refl, sym, ap, ◌∙◌, subst, arith, append_assoc, append-nil}
use Rattle.std.proofs.lemmas.Bool.{cases_eq}
use mathlib.Core.List.{IsPrefix}
use Rattle.session_definitions.specs.World.{World}
use Rattle.shared.specs.declared.event.Event.{Event}
use Rattle.shared.specs.declared.event.Act.{Act}
use Rattle.shared.specs.History.{event}
use Rattle.shared.specs.Views.{Past, Extends}
use Rattle.shared.specs.Scripts.{Answer, Ask, ask_of, asks, asked, after, stood, opened, texts_of, RefusedWhereNone, Text, Asks}

asks_append : (xs ys : List Event) → asks (xs ++ ys) ≡ asks xs ++ asks ys
asks_append [] ys = refl
asks_append (e ∷ xs) ys = ap (λ l. ask_of e.act ∷ l) (asks_append xs ys)

prefix_trans : {A : Type 0} (xs ys zs : List A) → IsPrefix xs ys → IsPrefix ys zs → IsPrefix xs zs
prefix_trans xs ys zs p q = (p.0 ++ q.0, sym (append_assoc xs p.0 q.0) ∙ (ap (λ w. w ++ q.0) p.1 ∙ q.1))

pub asks_one : (premise : Type 0) (start : World) (before : ℕ) (v w : Past) (act : Act) → Extends premise start before v act w → Asks v (ask_of act ∷ []) w
asks_one premise start before v w act e = record {
  who = e.who;
  saw = (e.between ++ event v.who act e.refused ∷ [], sym (append_assoc v.seen e.between (event v.who act e.refused ∷ [])) ∙ sym e.seen);
  mine = ap asks e.mine ∙ asks_append v.mine (event v.who act e.refused ∷ []);
}

pub asks_then : (u v w : Past) (a b : List Ask) → Asks u a v → Asks v b w → Asks u (a ++ b) w
asks_then u v w a b x y = record {
  who = y.who ∙ x.who;
  saw = prefix_trans u.seen v.seen w.seen x.saw y.saw;
  mine = y.mine ∙ ap (λ l. l ++ b) x.mine ∙ append_assoc (asks u.mine) a b;
}

pub opened_snoc : (stands : Bool) (ts : List (List ℕ)) (answers : List Answer) (t : List ℕ) (a : Answer) → length ts ≡ length answers
    → opened stands (ts ++ t ∷ []) (answers ++ a ∷ []) ≡ opened stands ts answers ++ asked (stood stands answers) t a
opened_snoc stands [] [] t a same = append-nil (asked stands t a)
opened_snoc stands [] (x ∷ answers) t a same = absurd (omega (arith, same))
opened_snoc stands (s ∷ ts) [] t a same = absurd (omega (arith, same))
opened_snoc stands (s ∷ ts) (x ∷ answers) t a same = ap (λ l. asked stands s x ++ l) (opened_snoc (after stands x) ts answers t a (omega (arith, same)))
    ∙ sym (append_assoc (asked stands s x) (opened (after stands x) ts answers) (asked (stood (after stands x) answers) t a))

pub stood_snoc : (stands : Bool) (answers : List Answer) (a : Answer) → stood stands (answers ++ a ∷ []) ≡ after (stood stands answers) a
stood_snoc stands [] a = refl
stood_snoc stands (x ∷ answers) a = stood_snoc (after stands x) answers a

pub none_snoc : (stands : Bool) (answers : List Answer) (a : Answer) (now : Bool) → now ≡ stood stands answers → RefusedWhereNone stands answers → IfErr a (λ _. now ≡ false)
    → RefusedWhereNone stands (answers ++ a ∷ [])
none_snoc stands [] (Err refusal) now is old new = (sym is ∙ new, tt)
none_snoc stands [] (Ok reply) now is old new = tt
none_snoc stands (Err refusal ∷ answers) a now is old new = (old.0, none_snoc stands answers a now is old.1 new)
none_snoc stands (Ok reply ∷ answers) a now is old new = none_snoc true answers a now is old new

pub texts_snoc : (ts : List Text) (t : Text) → texts_of (ts ++ t ∷ []) ≡ texts_of ts ++ t.items ∷ []
texts_snoc [] t = refl
texts_snoc (s ∷ ts) t = ap (λ l. s.items ∷ l) (texts_snoc ts t)

pub length_texts : (ts : List Text) → length (texts_of ts) ≡ length ts
length_texts [] = refl
length_texts (t ∷ ts) = ap suc (length_texts ts)

get_snoc : {A : Type 0} (xs : List A) (a b : A) (k : ℕ) → slice_get (xs ++ a ∷ []) k ≡ Some b → (slice_get xs k ≡ Some b) ⊎ ((k ≡ length xs) × (a ≡ b))
get_snoc [] a b zero e = inr (refl, cc e)
get_snoc [] a b (suc k) e = absurd (cc e)
get_snoc (x ∷ xs) a b zero e = inl e
get_snoc (x ∷ xs) a b (suc k) e = ⊎_elim (λ s. inl s) (λ s. inr (ap suc s.0, s.1)) (get_snoc xs a b k e)

pub each_reply : {A : Type 0} (P : ℕ → A → Type 0) (xs : List A) (a : A) → ((k : ℕ) (b : A) → slice_get xs k ≡ Some b → P k b) → P (length xs) a
    → (k : ℕ) (b : A) → slice_get (xs ++ a ∷ []) k ≡ Some b → P k b
each_reply {A} P xs a old new k b e =
    ⊎_elim (λ s. old k b s) (λ (s : (k ≡ length xs) × (a ≡ b)). subst (λ (y : ℕ × A). P y.0 y.1) (λ i. (sym s.0 i, s.1 i)) new) (get_snoc xs a b k e)

-- what holds of the first n numbers and of the next one
pub each_below : (P : ℕ → Type 0) (n m : ℕ) → m ≡ n + 1 → ((k : ℕ) → k < n → P k) → P n → (k : ℕ) → k < m → P k
each_below P n m is old new k less = by (cases_eq k n)
  where
    by : (k ≡ n) ⊎ (k ≡ n → ⊥) → P k
    by (inl e) = subst P (sym e) new
    by (inr apart) = old k (omega (arith, less, is, apart))

pub later_is : {A : Type 0} (s t first : List A) (one : A) (done k : ℕ) (d : A) → s ≡ one ∷ t → get_or s (k + 1) d ≡ get_or first (done + (k + 1)) d → get_or t k d ≡ get_or first (done + 1 + k) d
later_is s t first one done k d is h =
    let on : suc k ≡ k + 1 = omega arith in
    let at : done + (k + 1) ≡ done + 1 + k = omega arith in
    ap (λ n. get_or (one ∷ t) n d) on ∙ ap (λ l. get_or l (k + 1) d) (sym is) ∙ h ∙ ap (λ n. get_or first n d) at
