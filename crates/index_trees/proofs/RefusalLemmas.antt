-- Refusals, handed on.
use Rattle.std.proofs.Common.{◌≡◌, ℕ, List, Result}
use Rattle.std.specs.Result.{IfErr, IsErrAnd}
use Rattle.std.proofs.lemmas.Result.{err_from_is_err_and}
use Rattle.sqlval.specs.Value.{Row}
use Rattle.page_space.specs.Space.{ChangeRefused}
use Rattle.page_space.specs.declared.error.SpaceError.{SpaceError}
use Rattle.page_space.specs.declared.error.SpaceError.TheVariants as fault
use Rattle.index_trees.specs.declared.error.IndexError.{IndexError}
use Rattle.index_trees.specs.declared.error.IndexError.TheVariants.{Space, Key}
use Rattle.index_trees.specs.Indexed.{MayRefuse}
use Rattle.index_trees.specs.Refused.{IsOfKey}

of_key : (AtLimit : SpaceError → Type 0) (Harm : Type 0) (a b : ℕ) (columns : List ℕ) (r : Row) (e : IndexError) → IsOfKey columns r e → MayRefuse AtLimit Harm a b columns r e
of_key AtLimit Harm a b columns r (Space fault.Memory) h = tt
of_key AtLimit Harm a b columns r (Space fault.Disk) h = absurd (cc)
of_key AtLimit Harm a b columns r (Space fault.Damaged) h = absurd (cc)
of_key AtLimit Harm a b columns r (Space fault.Pages) h = absurd (cc)
of_key AtLimit Harm a b columns r (Space fault.Private) h = absurd (cc)
of_key AtLimit Harm a b columns r Key h = h

-- a key's refusal, at the exit of a `?`
pub key_refused : {A : Type 0} (result : Result A IndexError) (e : IndexError) (AtLimit : SpaceError → Type 0) (Harm : Type 0) (a b : ℕ) (columns : List ℕ) (r : Row) → IsErrAnd result (λ y. y ≡ e) → IsOfKey columns r e
    → IfErr result (MayRefuse AtLimit Harm a b columns r)
key_refused result e AtLimit Harm a b columns r h of = let p = err_from_is_err_and result h in rw (p.1, p.2) (of_key AtLimit Harm a b columns r e of)

-- that of the space of pages
pub space_refused : (AtLimit : SpaceError → Type 0) (H G : Type 0) (a b : ℕ) (f : SpaceError) → (H → G) → ChangeRefused AtLimit H a b f → ChangeRefused AtLimit G a b f
space_refused AtLimit H G a b fault.Memory f h = tt
space_refused AtLimit H G a b fault.Disk f h = h
space_refused AtLimit H G a b fault.Damaged f h = f h
space_refused AtLimit H G a b fault.Pages f h = h
space_refused AtLimit H G a b fault.Private f h = h
