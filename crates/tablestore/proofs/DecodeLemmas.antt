-- Rows that were decoded, one after another.
use Rattle.std.proofs.Common.{◌≡◌, ℕ, List, length, refl, sym, ap, ◌∙◌, arith}
use Rattle.std.specs.Prelude.{Result, Err, Some, ◌↔◌}
use Rattle.std.specs.Result.{IsErrAnd}
use Rattle.std.proofs.lemmas.Result.{err_from_is_err_and}
use Rattle.sqlrecord.specs.declared.error.DecodeError.{DecodeError}
use Rattle.sqlrecord.specs.declared.error.DecodeError.TheVariants.{OutOfMemory, Damaged}
use Rattle.sqlrecord.specs.Row.{row_code, IsCodeOf, IsNoCode}
use Rattle.sqlval.specs.Value.{Row}
use Rattle.store.specs.Contents as stored
use Rattle.tablestore.specs.Held.{IsKept, Gives}

pub same_pair : (e f : stored.Entry) → f.0 ≡ e.0 → e.1 ≡ f.1 → f ≡ e
same_pair e f a b = λ i. (a i, sym b i)

-- the exit of a `?`
pub refused : {A : Type 0} (r : Result A DecodeError) (e : DecodeError) (P : A → Type 0) → IsErrAnd r (λ y. y ≡ e) → e ≡ OutOfMemory → Gives r P
refused r e P h m = let p = err_from_is_err_and r h in rw p.1 (p.2 ∙ m)

pub number_is : (m n : ℕ) → Some m ≡ Some n → m ≡ n
number_is m n e = cc

-- what is kept is the code of its row
pub kept_code : (e : stored.Entry) (bytes : List ℕ) → IsKept e → bytes ≡ row_code e.1 → IsCodeOf bytes e.1
kept_code e bytes kept is = let short = kept.short in record { storable = kept.storable; code = sym is; short = omega (arith, ap length is, short) }

-- so it is refused for memory alone
pub only_memory : {A : Type 0} (bytes : List ℕ) (row : Row) (e : DecodeError) → IsCodeOf bytes row → (◌≡◌ {A = Result A DecodeError} (Err e) (Err Damaged) ↔ IsNoCode bytes) → e ≡ OutOfMemory
only_memory bytes row OutOfMemory code is = refl
only_memory bytes row Damaged code is = absurd (is.0 refl row code)
