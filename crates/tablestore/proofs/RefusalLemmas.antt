-- Refusals, handed on.
use Rattle.std.proofs.Common.{◌≡◌, ℕ, Result}
use Rattle.std.specs.Result.{IfErr, IsErrAnd}
use Rattle.std.proofs.lemmas.Result.{err_from_is_err_and}
use Rattle.sqlval.specs.Value.{Row}
use Rattle.page_space.specs.Space.{ReadRefused}
use Rattle.page_space.specs.declared.error.SpaceError.{SpaceError}
use Rattle.page_space.specs.declared.error.SpaceError.TheVariants as fault
use Rattle.tablestore.specs.declared.error.AppendError.{AppendError}
use Rattle.tablestore.specs.declared.error.AppendError.TheVariants.{Space, Record, Number}
use Rattle.tablestore.specs.Appended.{MayRefuseRow, IsOfRow}

of_row : (AtLimit : SpaceError → Type 0) (Harm : Type 0) (a b : ℕ) (r : Row) (e : AppendError) → IsOfRow r e → MayRefuseRow AtLimit Harm a b r e
of_row AtLimit Harm a b r (Space fault.Memory) h = tt
of_row AtLimit Harm a b r (Space fault.Disk) h = absurd (cc)
of_row AtLimit Harm a b r (Space fault.Damaged) h = absurd (cc)
of_row AtLimit Harm a b r (Space fault.Pages) h = absurd (cc)
of_row AtLimit Harm a b r (Space fault.Private) h = absurd (cc)
of_row AtLimit Harm a b r Record h = h
of_row AtLimit Harm a b r Number h = h

-- a row's refusal, at the exit of a `?`
pub code_refused : {A : Type 0} (result : Result A AppendError) (e : AppendError) (AtLimit : SpaceError → Type 0) (Harm : Type 0) (a b : ℕ) (r : Row) → IsErrAnd result (λ y. y ≡ e) → IsOfRow r e → IfErr result (MayRefuseRow AtLimit Harm a b r)
code_refused result e AtLimit Harm a b r h of = let p = err_from_is_err_and result h in rw (p.1, p.2) (of_row AtLimit Harm a b r e of)

-- a read, of which less is known where it is refused for damage
pub read_weaker : (f : SpaceError) (H G : Type 0) (a b : ℕ) → (H → G) → ReadRefused H a b f → ReadRefused G a b f
read_weaker fault.Memory H G a b f h = h
read_weaker fault.Disk H G a b f h = h
read_weaker fault.Damaged H G a b f h = f h
read_weaker fault.Pages H G a b f h = h
read_weaker fault.Private H G a b f h = h

pub reads_weaker : {A : Type 0} (result : Result A SpaceError) (fault_ : SpaceError) (H G : Type 0) (a b : ℕ) → IsErrAnd result (λ y. y ≡ fault_) → (H → G) → ReadRefused H a b fault_ → IfErr result (ReadRefused G a b)
reads_weaker result fault_ H G a b is f h = let p = err_from_is_err_and result is in rw (p.1, p.2) (read_weaker fault_ H G a b f h)
