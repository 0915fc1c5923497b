use Rattle.denote_laws.proofs.Soundness.{next-sound, unless-sound, together-sound, calculated-sound, concatenation-sound, stored-sound}
use Rattle.denote_laws.proofs.failures.no_failure_is_empty.Goals as goal

pub returns : goal.returns
returns c = record {
  operand = λ x next h k. next-sound x next h k;
  rows = λ faults rows. unless-sound faults rows;
  list = λ xs h. together-sound xs h;
  arithmetic = calculated-sound;
  concatenation = concatenation-sound;
  storing = stored-sound;
}
