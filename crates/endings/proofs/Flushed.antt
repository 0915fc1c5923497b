-- What was written of a text stands, whatever is flushed.
use Rattle.std.proofs.Common.{◌≡◌, ℕ, Bool, false, List, Option, Result, Ok, is_ok, ap}
use Rattle.std.specs.Io.KnownBytes.{Keeps}
use Rattle.std.proofs.KnownBytes.{Appends-kept}
use Rattle.replies.specs.Writes.{Writes}

pub flushed : (old mid new : Option (List ℕ)) (is_done : Bool) (text : List ℕ) → Writes old mid is_done text → Keeps mid new → Writes old new false text
flushed old mid new is_done text written kept = record {
  front = written.front;
  rest = written.rest;
  whole = written.whole;
  taken = Appends-kept _ _ _ _ written.taken kept;
  complete = λ e. cc (e);
}

-- all of it was written, and is passed on or not
pub passed_on : {A E : Type 0} (old mid new : Option (List ℕ)) (is_done : Bool) (text : List ℕ) (printed : Result A E) (x : A) → printed ≡ Ok x → Writes old mid (is_ok printed) text
    → Keeps mid new → Writes old new is_done text
passed_on old mid new is_done text printed x ok written kept = record {
  front = written.front;
  rest = written.rest;
  whole = written.whole;
  taken = Appends-kept _ _ _ _ written.taken kept;
  complete = λ _. written.complete (ap is_ok ok);
}
