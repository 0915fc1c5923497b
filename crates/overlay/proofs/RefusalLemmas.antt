-- Refusals of a call after another one.
use Rattle.std.proofs.Common.{ℕ, ◌≤◌, arith, Result, Ok, Err, IfErr}
use Rattle.page_space.specs.declared.error.SpaceError.{SpaceError}
use Rattle.page_space.specs.declared.error.SpaceError.TheVariants.{Memory, Disk, Damaged, Pages, Private}
use Rattle.page_space.specs.Space.{ReadRefused, ChangeRefused}
use Rattle.overlay.specs.Layers.{IsNotKept}
use Rattle.overlay.specs.Whole.{AtLimit}

pub change_more : (f : SpaceError) (A : SpaceError → Type 0) (H G : Type 0) (k b m : ℕ) → (H → G) → k ≤ b → ChangeRefused A H b m f → ChangeRefused A G k m f
change_more Memory A H G k b m more rises h = h
change_more Disk A H G k b m more rises h = omega (arith, rises, h)
change_more Damaged A H G k b m more rises h = more h
change_more Pages A H G k b m more rises h = h
change_more Private A H G k b m more rises h = h

pub changed_more : {X : Type 0} (result : Result X SpaceError) (A : SpaceError → Type 0) (H G : Type 0) (k b m : ℕ) → (H → G) → k ≤ b
    → IfErr result (ChangeRefused A H b m) → IfErr result (ChangeRefused A G k m)
changed_more (Ok x) A H G k b m more rises h = h
changed_more (Err f) A H G k b m more rises h = change_more f A H G k b m more rises h

not_kept : (f : SpaceError) (first : _) (size : ℕ) (G : Type 0) (k m : ℕ) → IsNotKept size f → ChangeRefused (AtLimit first size) G k m f
not_kept Memory first size G k m h = h
not_kept Disk first size G k m h = absurd h
not_kept Damaged first size G k m h = absurd h
not_kept Pages first size G k m h = absurd h
not_kept Private first size G k m h = h

-- a page that was not kept
pub put_refused : {X : Type 0} (result : Result X SpaceError) (first : _) (size : ℕ) (G : Type 0) (k m : ℕ) → IfErr result (IsNotKept size) → IfErr result (ChangeRefused (AtLimit first size) G k m)
put_refused (Ok x) first size G k m h = h
put_refused (Err f) first size G k m h = not_kept f first size G k m h

-- a read, of which less is known where it is refused for damage
pub read_weaker : (f : SpaceError) (H G : Type 0) (k b m : ℕ) → (H → G) → k ≤ b → ReadRefused H b m f → ReadRefused G k m f
read_weaker Memory H G k b m more rises h = h
read_weaker Disk H G k b m more rises h = omega (arith, rises, h)
read_weaker Damaged H G k b m more rises h = more h
read_weaker Pages H G k b m more rises h = absurd h
read_weaker Private H G k b m more rises h = absurd h

pub reads_weaker : {X : Type 0} (result : Result X SpaceError) (H G : Type 0) (k m : ℕ) → (H → G) → IfErr result (ReadRefused H k m) → IfErr result (ReadRefused G k m)
reads_weaker (Ok x) H G k m more h = h
reads_weaker (Err f) H G k m more h = read_weaker f H G k k m more (omega arith) h
