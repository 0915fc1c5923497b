-- What is found of parts, list after list.
use Rattle.std.proofs.Common.{◌≡◌, refl, sym, ap, ◌∙◌, ℕ, List, [], ◌∷◌, ◌++◌, append_assoc, Ok, Err}
use Rattle.std.proofs.lemmas.List.{append-nil}
use Rattle.refusals.specs.declared.refusal.Refusal.{Refusal}
use Rattle.typing.specs.Finding.{Finding, reasons_in, ◌>>=◌, before, each}
use Rattle.typing.specs.Finds.{Finds, IsReasonOf}
use Rattle.type_rules.proofs.FindsLemmas.{after, after-before, Finds-then_err, IsReasonOf-left}

reasons-before : {A : Type 0} (x : Finding A) (xs : Finding (List A)) → reasons_in (before x xs) ≡ reasons_in x ++ reasons_in xs
reasons-before (Ok v) (Ok vs) = refl
reasons-before (Ok v) (Err reasons) = refl
reasons-before (Err reasons) xs = refl

reasons-each : {A : Type 0} (xs ys : List (Finding A)) → reasons_in (each (xs ++ ys)) ≡ reasons_in (each xs) ++ reasons_in (each ys)
reasons-each [] ys = refl
reasons-each (x ∷ xs) ys =
    reasons-before x (each (xs ++ ys)) ∙ ap (λ rest. reasons_in x ++ rest) (reasons-each xs ys)
    ∙ sym (append_assoc (reasons_in x) (reasons_in (each xs)) (reasons_in (each ys)))
    ∙ ap (λ front. front ++ reasons_in (each ys)) (sym (reasons-before x (each xs)))

-- a refusal of the first ones is one of all
pub each-refused : {A : Type 0} (r : Refusal) (xs ys : List (Finding A)) → Finds {A = List A} (Err r) (each xs) → Finds {A = List A} (Err r) (each (xs ++ ys))
each-refused r xs ys h = record { ok = tt; err = rw (reasons-each xs ys) (IsReasonOf-left r (reasons_in (each xs)) (reasons_in (each ys)) h.err) }

-- the first ones are found, and then the others
pub each-front : {A : Type 0} (found : List A) (xs ys : List (Finding A)) (vs : List A) → each xs ≡ Ok vs → after (found ++ vs) (each ys) ≡ after found (each (xs ++ ys))
each-front found [] ys [] e = ap (λ front. after front (each ys)) (append-nil found)
each-front found [] ys (v ∷ vs) e = absurd (cc e)
each-front {A = A} found (x ∷ xs) ys vs e = go (λ front ws q. each-front front xs ys ws q) x (each xs) vs refl refl e
  where
    go : ((front ws : List A) → each xs ≡ Ok ws → after (front ++ ws) (each ys) ≡ after front (each (xs ++ ys))) → (y : Finding A) (rest : Finding (List A)) (vs : List A) → x ≡ y → each xs ≡ rest →
        before y rest ≡ Ok vs → after (found ++ vs) (each ys) ≡ after found (before x (each (xs ++ ys)))
    go others (Ok v) (Ok ws) vs p q e =
        let all : v ∷ ws ≡ vs = cc e in
        let front : found ++ vs ≡ (found ++ v ∷ []) ++ ws = ap (λ list. found ++ list) (sym all) ∙ sym (append_assoc found (v ∷ []) ws) in
        rw front (others (found ++ v ∷ []) ws q) ∙ sym (after-before found x v (each (xs ++ ys)) p)
    go others (Ok v) (Err reasons) vs p q e = absurd (cc e)
    go others (Err reasons) rest vs p q e = absurd (cc e)

-- a refusal by want of memory alone is one of anything
pub refused-alone : {A B : Type 0} (r : Refusal) (x : A) (y : Finding B) → Finds {A = A} (Err r) (Ok x) → Finds {A = B} (Err r) y
refused-alone r x y h = record { ok = tt; err = IsReasonOf-left r [] (reasons_in y) h.err }

pub then_refused : {A B : Type 0} (r : Refusal) (x : Finding A) (f : A → B) → Finds (Err r) x → Finds (Err r) (x >>= (λ v. Ok (f v)))
then_refused r x f h = Finds-then_err r x (λ v. Ok (f v)) h

pub ruleset then_steps = (then_refused)
