-- Who names the first fault names one of them.
use Rattle.std.proofs.Common.{◌≡◌, refl, List, [], ◌∷◌, Result, Ok, Err, Contains, arith}
use Rattle.algebra.specs.Listing.{first_only}
use Rattle.denote.specs.declared.fault.Fault.{Fault as Raised}
use Rattle.denote.specs.declared.fault.Stop.{Stop}
use Rattle.denote.specs.declared.fault.Stop.TheVariants.{Memory, Fault}
use Rattle.denote.specs.Evaluation.{Evaluation, faults_in}
use Rattle.denote.specs.Stop.{Gives}
use Rattle.executor.specs.Reply as executor

first_contained : (faults : List Raised) (fault : Raised) → first_only faults ≡ fault ∷ [] → Contains faults fault
first_contained [] fault e = absurd (cc)
first_contained (f ∷ fs) fault e = let same : f ≡ fault = cc in rw same (0, omega arith, refl)

pub first_given : {A : Type 0} (reply : Result A Stop) (meant : Evaluation A) → executor.Gives reply meant → Gives reply meant
first_given (Ok x) meant h = record { ok = h.ok; err = tt }
first_given (Err Memory) meant h = record { ok = tt; err = tt }
first_given (Err (Fault fault)) meant h = record { ok = tt; err = first_contained (faults_in meant) fault h.err }
