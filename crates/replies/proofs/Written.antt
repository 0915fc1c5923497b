-- How writes compose.
use Rattle.std.proofs.Common.{◌≡◌, ℕ, ◌-◌, Bool, true, false, List, [], ◌++◌, length, take, drop, sym, ap, ◌∙◌, subst, refl, append_assoc, append-nil, take-append-drop, Option, Result, Ok, Err, is_ok}
use Rattle.std.proofs.lemmas.List.{take_rest}
use Rattle.std.specs.Io.KnownBytes.{Appends, Keeps}
use Rattle.std.proofs.KnownBytes.{Appends-trans, Appends-nil, Appends-kept}
use Rattle.replies.specs.Writes.{Writes}

-- how far a writer has come with a text
pub record HasTaken (old new : Option (List ℕ)) (text left : List ℕ) : Type 0 where
  pub front : List ℕ
  pub whole : text ≡ front ++ left
  pub taken : Appends old new front

pub HasTaken-none : (old : Option (List ℕ)) (text : List ℕ) → HasTaken old old text text
HasTaken-none old text = record { front = []; whole = refl; taken = Appends-nil old }

pub HasTaken-more : (old mid new : Option (List ℕ)) (text left : List ℕ) (n : ℕ) → HasTaken old mid text left → Appends mid new (take n left)
    → HasTaken old new text (take (length left - n) (drop n left))
HasTaken-more old mid new text left n before now = record {
  front = before.front ++ take n left;
  whole = before.whole ∙ ap (λ l. before.front ++ l) (sym (take-append-drop n left)) ∙ sym (append_assoc before.front (take n left) (drop n left))
      ∙ ap (λ l. (before.front ++ take n left) ++ l) (sym (take_rest left n));
  taken = Appends-trans _ _ _ _ _ before.taken now;
}

pub HasTaken-kept : (old mid new : Option (List ℕ)) (text left : List ℕ) → HasTaken old mid text left → Keeps mid new → HasTaken old new text left
HasTaken-kept old mid new text left before now = record {
  front = before.front;
  whole = before.whole;
  taken = Appends-kept _ _ _ _ before.taken now;
}

-- what was left is empty
pub Writes-all : (old new : Option (List ℕ)) (is_done : Bool) (text left : List ℕ) → HasTaken old new text left → left ≡ [] → Writes old new is_done text
Writes-all old new is_done text left before empty = record {
  front = before.front;
  rest = left;
  whole = before.whole;
  taken = before.taken;
  complete = λ _. empty;
}

-- the writer refused
pub Writes-some : (old new : Option (List ℕ)) (text left : List ℕ) → HasTaken old new text left → Writes old new false text
Writes-some old new text left before = record {
  front = before.front;
  rest = left;
  whole = before.whole;
  taken = before.taken;
  complete = λ e. cc (e);
}

-- a part that the writer took whole, and then what is left
pub HasTaken-next : {A E : Type 0} (old mid new : Option (List ℕ)) (text part left : List ℕ) (r : Result A E) (x : A) → r ≡ Ok x
    → HasTaken old mid text (part ++ left) → Writes mid new (is_ok r) part → HasTaken old new text left
HasTaken-next old mid new text part left r x ok before now = record {
  front = before.front ++ part;
  whole = before.whole ∙ sym (append_assoc before.front part left);
  taken = Appends-trans _ _ _ _ _ before.taken
      (subst (λ l. Appends mid new l) (sym (now.whole ∙ ap (λ l. now.front ++ l) (now.complete (ap is_ok ok)) ∙ append-nil now.front)) now.taken);
}

-- a part of which the writer took a beginning, and more that was to come
pub Writes-stop : {A B E F : Type 0} (old mid new : Option (List ℕ)) (text part left : List ℕ) (r : Result A E) (e : E) (s : Result B F) (f : F)
    → r ≡ Err e → s ≡ Err f → HasTaken old mid text (part ++ left) → Writes mid new (is_ok r) part → Writes old new (is_ok s) text
Writes-stop old mid new text part left r e s f _ stopped before now = record {
  front = before.front ++ now.front;
  rest = now.rest ++ left;
  whole = before.whole ∙ ap (λ l. before.front ++ (l ++ left)) now.whole ∙ ap (λ l. before.front ++ l) (append_assoc now.front now.rest left)
      ∙ sym (append_assoc before.front now.front (now.rest ++ left));
  taken = Appends-trans _ _ _ _ _ before.taken now.taken;
  complete = λ done. let wrong : false ≡ true = sym (ap is_ok stopped) ∙ done in cc wrong;
}

-- the last part
pub Writes-last : (old mid new : Option (List ℕ)) (is_done : Bool) (text part : List ℕ) → HasTaken old mid text part → Writes mid new is_done part → Writes old new is_done text
Writes-last old mid new is_done text part before now = record {
  front = before.front ++ now.front;
  rest = now.rest;
  whole = before.whole ∙ ap (λ l. before.front ++ l) now.whole ∙ sym (append_assoc before.front now.front now.rest);
  taken = Appends-trans _ _ _ _ _ before.taken now.taken;
  complete = now.complete;
}
