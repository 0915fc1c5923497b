-- No operator makes a failure without a fault.
use Rattle.std.proofs.Common.{suc, zero, ℤ, pos, negsuc, ◌+ℤ◌, ◌-ℤ◌, ◌*ℤ◌, int_div, nat_le, length, drop, take, Bool, true, false, if◌then◌else◌, List, [], ◌∷◌, ◌++◌, Ok, Err}
use Rattle.sqlval.specs.declared.value.Value.{Value}
use Rattle.sqlval.specs.declared.value.Value.TheVariants.{Null, Int, Text}
use Rattle.sqlval.specs.declared.code.Code.TheVariants.{OutOfRange, TextTooLong}
use Rattle.sqlval.specs.declared.storing.ColumnType.{ColumnType}
use Rattle.sqlval.specs.declared.storing.ColumnType.TheVariants.{Integer, Varchar}
use Rattle.sqlval.specs.Arithmetic.{fits, in_range}
use Rattle.sqlval.specs.Concatenation.{concatenation}
use Rattle.sqlval.specs.Storing.{stored, is_spaces}
use Rattle.typing.specs.declared.typed.Arithmetic.{Arithmetic}
use Rattle.typing.specs.declared.typed.Arithmetic.TheVariants.{Add, Subtract, Multiply, Divide}
use Rattle.denote.specs.declared.fault.Fault.{Fault}
use Rattle.denote.specs.Evaluation.{Evaluation, ◌>>=◌, given, unless, joined, together}
use Rattle.denote.specs.Expression.{calculated}
use Rattle.denote_laws.specs.Law.{IsSound, AreSound}

pub next-sound : {A B : Type 0} (x : Evaluation A) (next : A → Evaluation B) → IsSound x → ((v : A) → IsSound (next v)) → IsSound (x >>= next)
next-sound (Ok v) next h k = k v
next-sound (Err []) next h k = h
next-sound (Err (fault ∷ faults)) next h k = tt

pub unless-sound : {A : Type 0} (faults : List Fault) (x : A) → IsSound (unless faults x)
unless-sound [] x = tt
unless-sound (fault ∷ faults) x = tt

joined-sound : {A : Type 0} (x : Evaluation A) (others : Evaluation (List A)) → IsSound x → IsSound others → IsSound (joined x others)
joined-sound (Ok v) (Ok vs) h k = tt
joined-sound (Ok v) (Err []) h k = k
joined-sound (Ok v) (Err (fault ∷ faults)) h k = tt
joined-sound (Err []) others h k = absurd h
joined-sound (Err (fault ∷ faults)) others h k = tt

pub together-sound : {A : Type 0} (xs : List (Evaluation A)) → AreSound xs → IsSound (together xs)
together-sound [] h = tt
together-sound (x ∷ xs) h = joined-sound x (together xs) h.0 (together-sound xs h.1)

pub in_range-sound : (z : ℤ) → IsSound (given (in_range z))
in_range-sound z = at (fits z)
  where
    at : (b : Bool) → IsSound (given (if b then Ok (Int z) else Err OutOfRange))
    at true = tt
    at false = tt

pub calculated-sound : (op : Arithmetic) (x y : Value) → IsSound (calculated op x y)
calculated-sound Add Null y = tt
calculated-sound Add (Text x) y = tt
calculated-sound Add (Int x) Null = tt
calculated-sound Add (Int x) (Text y) = tt
calculated-sound Add (Int x) (Int y) = in_range-sound (x +ℤ y)
calculated-sound Subtract Null y = tt
calculated-sound Subtract (Text x) y = tt
calculated-sound Subtract (Int x) Null = tt
calculated-sound Subtract (Int x) (Text y) = tt
calculated-sound Subtract (Int x) (Int y) = in_range-sound (x -ℤ y)
calculated-sound Multiply Null y = tt
calculated-sound Multiply (Text x) y = tt
calculated-sound Multiply (Int x) Null = tt
calculated-sound Multiply (Int x) (Text y) = tt
calculated-sound Multiply (Int x) (Int y) = in_range-sound (x *ℤ y)
calculated-sound Divide Null y = tt
calculated-sound Divide (Text x) y = tt
calculated-sound Divide (Int x) Null = tt
calculated-sound Divide (Int x) (Text y) = tt
calculated-sound Divide (Int x) (Int (pos zero)) = tt
calculated-sound Divide (Int x) (Int (pos (suc n))) = in_range-sound (int_div x (pos (suc n)))
calculated-sound Divide (Int x) (Int (negsuc n)) = in_range-sound (int_div x (negsuc n))

too_long-sound : (b : Bool) (x : Value) → IsSound (given (if b then Ok x else Err TextTooLong))
too_long-sound true x = tt
too_long-sound false x = tt

pub concatenation-sound : (x y : Value) → IsSound (given (concatenation x y))
concatenation-sound Null y = tt
concatenation-sound (Int x) y = tt
concatenation-sound (Text x) Null = tt
concatenation-sound (Text x) (Int y) = tt
concatenation-sound (Text x) (Text y) = too_long-sound (nat_le (length (x ++ y)) 1000) (Text (x ++ y))

pub stored-sound : (x : Value) (column : ColumnType) → IsSound (given (stored x column))
stored-sound Null Integer = tt
stored-sound Null (Varchar n) = tt
stored-sound (Int x) Integer = tt
stored-sound (Int x) (Varchar n) = tt
stored-sound (Text x) Integer = tt
stored-sound (Text x) (Varchar n) = too_long-sound (is_spaces (drop n x)) (Text (take n x))
