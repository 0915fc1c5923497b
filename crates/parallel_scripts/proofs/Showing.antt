-- The replies to pieces, as they are printed one after another.
use Rattle.std.proofs.Common.{◌≡◌, ℕ, suc, ◌+◌, ◌<◌, Bool, true, false, ◌||◌, List, ◌∷◌, length, drop, get_or, drop-cons, add-one, Option, Result, Ok, Err, is_ok, refl, sym, ap, ◌∙◌, subst}
use Rattle.replies.specs.declared.reply.Reply.{Reply}
use Rattle.replies.specs.Printed.{printed_reply}
use Rattle.replies.specs.Refused.{is_refusal}
use Rattle.replies.specs.Writes.{Writes}
use Rattle.replies.proofs.Written.{HasTaken, HasTaken-next, Writes-stop}
use Rattle.parallel_scripts.specs.declared.part.Part.{Part}
use Rattle.parallel_scripts.specs.Shown.{Answer, replies_to, printed_replies, has_refusal}

-- the next reply is the first of those to the pieces that are left
pub next_is : (parts : List Part) (i : ℕ) (part : Part) (old new : List Answer) (reply : Reply) → i < length parts → part ≡ get_or parts i part
    → ((more : List Part) → replies_to (part ∷ more) old ≡ reply ∷ replies_to more new)
    → replies_to (drop i parts) old ≡ reply ∷ replies_to (drop (i + 1) parts) new
next_is parts i part old new reply within is step =
    ap (λ l. replies_to l old) (drop-cons parts i part within ∙ ap (λ p. p ∷ drop (suc i) parts) (sym is))
    ∙ step (drop (suc i) parts) ∙ ap (λ n. reply ∷ replies_to (drop n parts) new) (sym (add-one i))

pub next_taken : {A E : Type 0} (old mid new : Option (List ℕ)) (text : List ℕ) (left more : List Reply) (reply : Reply) (r : Result A E) (x : A) → r ≡ Ok x
    → left ≡ reply ∷ more → HasTaken old mid text (printed_replies left) → Writes mid new (is_ok r) (printed_reply reply) → HasTaken old new text (printed_replies more)
next_taken old mid new text left more reply r x ok is before now =
    HasTaken-next old mid new text (printed_reply reply) (printed_replies more) r x ok (subst (λ l. HasTaken old mid text (printed_replies l)) is before) now

pub next_stops : {A B E F : Type 0} (old mid new : Option (List ℕ)) (text : List ℕ) (left more : List Reply) (reply : Reply) (r : Result A E) (e : E) (s : Result B F) (f : F)
    → r ≡ Err e → s ≡ Err f → left ≡ reply ∷ more → HasTaken old mid text (printed_replies left) → Writes mid new (is_ok r) (printed_reply reply) → Writes old new (is_ok s) text
next_stops old mid new text left more reply r e s f failed stopped is before now =
    Writes-stop old mid new text (printed_reply reply) (printed_replies more) r e s f failed stopped (subst (λ l. HasTaken old mid text (printed_replies l)) is before) now

or_more : (a b c : Bool) → (a || (b || c)) ≡ ((a || b) || c)
or_more true b c = refl
or_more false b c = refl

pub next_refused : (found refused : Bool) (left more : List Reply) (reply : Reply) → left ≡ reply ∷ more → found ≡ (refused || has_refusal left)
    → found ≡ ((refused || is_refusal reply) || has_refusal more)
next_refused found refused left more reply is before =
    before ∙ ap (λ l. refused || has_refusal l) is ∙ or_more refused (is_refusal reply) (has_refusal more)
