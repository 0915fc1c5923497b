-- Texts that are written one behind the other, and how what prints ends.
use Rattle.std.proofs.Common.{◌≡◌, ◌⊎◌, inl, inr, ℕ, Bool, true, false, List, [], ◌++◌, append_assoc, Option, Result, Ok, Err, is_ok, IfOk, MatchBool, MatchResult, refl, sym, ap, ◌∙◌, subst}
use Rattle.std.specs.Io.KnownBytes.{Keeps}
use Rattle.std.proofs.KnownBytes.{Appends-kept, Appends-nil, Appends-trans}
use Rattle.refusals.specs.declared.refusal.Refusal.{Refusal}
use Rattle.refusals.specs.declared.refusal.Refusal.TheVariants.{Disk}
use Rattle.replies.specs.Writes.{Writes}
use Rattle.replies.proofs.Written.{HasTaken-none, HasTaken-next, Writes-last}
use Rattle.parallel_scripts.specs.Cut.{Parts}
use Rattle.parallel_scripts.specs.Ends.{Ends, EndsBy, EndsRefused, IsStatus, Puts, Tells, refusal_line}
use Rattle.session_definitions.specs.World.{World}
use Rattle.parallel_scripts.specs.Handed.{Left}
use Rattle.parallel_scripts.specs.Many.{Shows, status_for}
use Rattle.parallel_scripts.specs.Shown.{Answers, printed_scripts, some_refused}

-- what was written stands, whatever is passed on
pub kept : (old mid new : Option (List ℕ)) (is_done : Bool) (text : List ℕ) → Writes old mid is_done text → Keeps mid new → Writes old new is_done text
kept old mid new is_done text w k = record {
  front = w.front;
  rest = w.rest;
  whole = w.whole;
  taken = Appends-kept _ _ _ _ w.taken k;
  complete = w.complete;
}

-- a beginning of it was written
pub begun : (old new : Option (List ℕ)) (is_done : Bool) (text : List ℕ) → Writes old new is_done text → Writes old new false text
begun old new is_done text w = record {
  front = w.front;
  rest = w.rest;
  whole = w.whole;
  taken = w.taken;
  complete = λ e. cc (e);
}

-- and so of a longer one
pub begun_more : (old new : Option (List ℕ)) (text more : List ℕ) → Writes old new false text → Writes old new false (text ++ more)
begun_more old new text more w = record {
  front = w.front;
  rest = w.rest ++ more;
  whole = ap (λ l. l ++ more) w.whole ∙ append_assoc w.front w.rest more;
  taken = w.taken;
  complete = λ e. cc (e);
}

-- before a text nothing was written
pub kept_before : (old mid new : Option (List ℕ)) (is_done : Bool) (text : List ℕ) → Keeps old mid → Writes mid new is_done text → Writes old new is_done text
kept_before old mid new is_done text k w = record {
  front = w.front;
  rest = w.rest;
  whole = w.whole;
  taken = Appends-trans old mid new [] w.front (Appends-kept old old mid [] (Appends-nil old) k) w.taken;
  complete = w.complete;
}

-- all of a text was written, and it is passed on or not
pub whole_written : {A E : Type 0} (old mid new : Option (List ℕ)) (is_done : Bool) (text : List ℕ) (printed : Result A E) (x : A) → printed ≡ Ok x → Writes old mid (is_ok printed) text
    → Keeps mid new → Writes old new is_done text
whole_written old mid new is_done text printed x ok w k = record {
  front = w.front;
  rest = w.rest;
  whole = w.whole;
  taken = Appends-kept _ _ _ _ w.taken k;
  complete = λ _. w.complete (ap is_ok ok);
}

-- a text, and then another
pub both_written : {A E : Type 0} (old mid new : Option (List ℕ)) (first second : List ℕ) (is_done : Bool) (r : Result A E) (x : A) → r ≡ Ok x → Writes old mid (is_ok r) first
    → Writes mid new is_done second → Writes old new is_done (first ++ second)
both_written old mid new first second is_done r x ok before now =
    Writes-last old mid new is_done (first ++ second) second (HasTaken-next old old mid (first ++ second) first second r x ok (HasTaken-none old (first ++ second)) before) now

-- what is printed means the one, so it means the other
pub puts_by : {E : Type 0} (P Q : List ℕ → ℕ → Type 0) (held holds : Option (List ℕ)) (answer : Result ℕ E) → ((text : List ℕ) (status : ℕ) → P text status → Q text status)
    → Puts P held holds answer → Puts Q held holds answer
puts_by P Q held holds answer step h = record {
  text = h.text;
  status = h.status;
  meaning = step h.text h.status h.meaning;
  written = h.written;
  is = h.is;
}

passes : {E : Type 0} (means : List ℕ → ℕ → Type 0) (held mid holds : Option (List ℕ)) (s exit : ℕ) (is_told : Bool) → Puts {E = E} means held mid (Ok s)
    → Keeps mid holds × (exit ≡ s) × (is_told ≡ true) ⊎ EndsRefused mid holds exit is_told → Ends means held holds exit is_told
passes means held mid holds s exit is_told p (inl h) =
    Ends.written p.text (subst (λ (n : ℕ). means p.text n) (sym (h.1 ∙ p.is)) p.meaning) (kept held mid holds true p.text p.written h.0) h.2
passes means held mid holds s exit is_told p (inr h) = Ends.not_written p.text p.status mid p.meaning (begun held mid true p.text p.written) h.0 h.1

-- what is printed, and then passed on or not
pub ends_by : {E : Type 0} (means : List ℕ → ℕ → Type 0) (held mid holds : Option (List ℕ)) (outcome : Result ℕ E) (exit : ℕ) (is_told : Bool) → Puts means held mid outcome
    → EndsBy outcome mid holds exit is_told → Ends means held holds exit is_told
ends_by means held mid holds (Ok s) exit is_told p h = passes means held mid holds s exit is_told p h
ends_by means held mid holds (Err error) exit is_told p h = Ends.not_written p.text p.status mid p.meaning p.written h.0 h.1

-- a refusal is printed
pub said : {A E : Type 0} (refusal : Refusal) (status : ℕ) (held holds : Option (List ℕ)) (printed : Result A E) (answer : Result ℕ E) → Writes held holds (is_ok printed) (refusal_line refusal)
    → MatchResult printed (λ _. answer ≡ Ok status) (λ error. answer ≡ Err error) → Puts (Tells refusal status) held holds answer
said {E = E} refusal status held holds (Ok x) answer written is = record {
  text = refusal_line refusal;
  status = status;
  meaning = (refl, refl);
  written = subst (λ (b : Bool). Writes held holds b (refusal_line refusal)) (sym (ap is_ok is)) written;
  is = subst (λ (a : Result ℕ E). IfOk a (λ s. s ≡ status)) (sym is) refl;
}
said {E = E} refusal status held holds (Err e) answer written is = record {
  text = refusal_line refusal;
  status = status;
  meaning = (refl, refl);
  written = subst (λ (b : Bool). Writes held holds b (refusal_line refusal)) (sym (ap is_ok is)) written;
  is = subst (λ (a : Result ℕ E). IfOk a (λ s. s ≡ status)) (sym is) tt;
}

-- the status that is answered is one
pub said_status : {A E : Type 0} (status : ℕ) (printed : Result A E) (answer : Result ℕ E) → MatchResult printed (λ _. answer ≡ Ok status) (λ error. answer ≡ Err error) → IsStatus status
    → IfOk answer IsStatus
said_status {E = E} status (Ok x) answer is allowed = subst (λ (a : Result ℕ E). IfOk a IsStatus) (sym is) allowed
said_status {E = E} status (Err e) answer is allowed = subst (λ (a : Result ℕ E). IfOk a IsStatus) (sym is) tt

-- ---- once scripts have run

module _ (hands : Left → Type 0) (end : World) (parts : List Parts) (answers : List Answers) where
  -- the replies were written, and the store was closed or not
  pub shown : {E F : Type 0} (held mid holds : Option (List ℕ)) (r : Result Bool E) (refused : Bool) (before : ℕ) (closed : Bool) (answer : Result ℕ F) → r ≡ Ok refused
      → Writes held mid (is_ok r) (printed_scripts 1 parts answers) → refused ≡ some_refused parts answers → before ≡ status_for refused
      → MatchBool closed (hands (Left.closed end)) (hands Left.unclosed)
      → MatchBool closed ((holds ≡ mid) × (answer ≡ Ok before)) (Puts (Tells Disk 3) mid holds answer) → Puts (Shows hands end parts answers) held holds answer
  shown {F = F} held mid holds r refused before true answer ok written found is left h = record {
    text = printed_scripts 1 parts answers;
    status = status_for (some_refused parts answers);
    meaning = Shows.closed refl refl left;
    written = subst (λ (b : Bool). Writes held holds b (printed_scripts 1 parts answers)) (ap is_ok ok ∙ sym (ap is_ok h.1))
        (subst (λ (w : Option (List ℕ)). Writes held w (is_ok r) (printed_scripts 1 parts answers)) (sym h.0) written);
    is = subst (λ (a : Result ℕ F). IfOk a (λ s. s ≡ status_for (some_refused parts answers))) (sym h.1) (is ∙ ap status_for found);
  }
  shown {F = F} held mid holds r refused before false answer ok written found is left h = record {
    text = printed_scripts 1 parts answers ++ refusal_line Disk;
    status = 3;
    meaning = Shows.not_closed refl refl left;
    written = both_written held mid holds (printed_scripts 1 parts answers) (refusal_line Disk) (is_ok answer) r refused ok written
        (subst (λ t. Writes mid holds (is_ok answer) t) h.meaning.0 h.written);
    is = subst (λ (n : ℕ). IfOk answer (λ s. s ≡ n)) h.meaning.1 h.is;
  }

  -- the writer refused
  pub not_shown : {E F : Type 0} (held holds : Option (List ℕ)) (r : Result Bool E) (e : E) (f : F) (closed : Bool) → r ≡ Err e
      → Writes held holds (is_ok r) (printed_scripts 1 parts answers) → MatchBool closed (hands (Left.closed end)) (hands Left.unclosed)
      → Puts (Shows hands end parts answers) held holds (Err f)
  not_shown held holds r e f true failed written left = record {
    text = printed_scripts 1 parts answers;
    status = status_for (some_refused parts answers);
    meaning = Shows.closed refl refl left;
    written = subst (λ (b : Bool). Writes held holds b (printed_scripts 1 parts answers)) (ap is_ok failed) written;
    is = tt;
  }
  not_shown held holds r e f false failed written left = record {
    text = printed_scripts 1 parts answers ++ refusal_line Disk;
    status = 3;
    meaning = Shows.not_closed refl refl left;
    written = begun_more held holds (printed_scripts 1 parts answers) (refusal_line Disk)
        (subst (λ (b : Bool). Writes held holds b (printed_scripts 1 parts answers)) (ap is_ok failed) written);
    is = tt;
  }
