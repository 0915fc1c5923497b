-- Refusals, handed on.
use Rattle.std.proofs.Common.{◌≡◌, ℕ, ◌≤◌, Result, Ok, Err, IfErr, sym, subst, arith}
use Rattle.page_space.specs.Space.{ReadRefused}
use Rattle.page_space.specs.declared.error.SpaceError.{SpaceError}
use Rattle.page_space.specs.declared.error.SpaceError.TheVariants as fault

pub reads_later : {X : Type 0} (result : Result X SpaceError) (H G : Type 0) (k b m : ℕ) → (H → G) → k ≤ b → IfErr result (ReadRefused H b m) → IfErr result (ReadRefused G k m)
reads_later (Ok x) H G k b m more rises h = h
reads_later (Err fault.Memory) H G k b m more rises h = h
reads_later (Err fault.Disk) H G k b m more rises h = record { no_less = omega (arith, rises, h.no_less); more = omega (arith, rises, h.more) }
reads_later (Err fault.Damaged) H G k b m more rises h = more h
reads_later (Err fault.Pages) H G k b m more rises h = h
reads_later (Err fault.Private) H G k b m more rises h = h

pub read_harm : (f : SpaceError) (H G : Type 0) (k m : ℕ) → (H → G) → ReadRefused H k m f → ReadRefused G k m f
read_harm fault.Memory H G k m more h = h
read_harm fault.Disk H G k m more h = h
read_harm fault.Damaged H G k m more h = more h
read_harm fault.Pages H G k m more h = h
read_harm fault.Private H G k m more h = h

-- memory was wanting
pub memory_refused : {X : Type 0} (result : Result X SpaceError) (H : Type 0) (k m : ℕ) → IfErr result (λ f. f ≡ fault.Memory) → IfErr result (ReadRefused H k m)
memory_refused (Ok x) H k m h = h
memory_refused (Err f) H k m h = subst (λ (x : SpaceError). ReadRefused H k m x) (sym h) tt
