-- What a `FaultyDisk` shows, and what it does.
use Rattle.std.specs.Prelude.{◌≡◌, ◌⊎◌, ℕ, ◌+◌, ◌-◌, min, List, length, take, Result, IfErr, IsErrAnd}
use Rattle.disk.specs.declared.error.DiskError.{DiskError}
use Rattle.disk.specs.declared.faulty.FaultyDisk.{FaultyDisk}
use Rattle.disk.specs.Contents.{IsTorn, overwritten}
use Rattle.disk.specs.Refused.{CountsRefusal, CountHasRisen}
use Rattle.disk.specs.Causes.{IsInjected}

-- the device that it passes calls on to
abbrev pub inner_of : {D : Type 0} → FaultyDisk D → D
inner_of f = f.inner

-- which of the next calls it refuses, counted from 1; 0 where none
abbrev pub waiting_of : {D : Type 0} → FaultyDisk D → ℕ
waiting_of f = f.waiting

-- how many calls it has refused of itself
abbrev pub own_refusals : {D : Type 0} → FaultyDisk D → ℕ
own_refusals f = f.refused

-- how many calls it has refused, of itself and with the inner device
abbrev pub all_refusals : {D : Type 0} → (D → ℕ) → FaultyDisk D → ℕ
all_refusals refused f = refused f.inner + f.refused

-- the cause is the injected one, or one that the inner device told
abbrev pub IsTold : {D : Type 0} → (D → DiskError → Type 0) → FaultyDisk D → DiskError → Type 0
IsTold told f cause = IsInjected cause ⊎ told f.inner cause

-- how many times it was to be written or given a length
abbrev pub own_writes : {D : Type 0} → FaultyDisk D → ℕ
own_writes f = f.writes

-- how many bytes, at most, go out of a write that it refuses
abbrev pub torn_of : {D : Type 0} → FaultyDisk D → ℕ
torn_of f = f.torn

-- the next call is the one that it refuses
abbrev pub RefusesNext : {D : Type 0} → FaultyDisk D → Type 0
RefusesNext f = f.waiting ≡ 1

-- the one call that it refuses of itself: from then on it passes all calls on
pub record RefusesOne {D T : Type 0} (result : Result T DiskError) (old new : FaultyDisk D) : Type 0 where
  pub cause : IsErrAnd result IsInjected
  pub waiting : new.waiting ≡ 0
  pub torn : new.torn ≡ old.torn
  pub counted : CountHasRisen old.refused new.refused

-- a call that it passes on: it refuses nothing of itself, so a refusal is the inner device's, as is
-- the cause
pub record PassesOn {D T : Type 0} (refused : D → ℕ) (told : D → DiskError → Type 0) (result : Result T DiskError)
    (old new : FaultyDisk D) : Type 0 where
  pub waiting : new.waiting ≡ old.waiting - 1
  pub torn : new.torn ≡ old.torn
  pub own : new.refused ≡ old.refused
  pub count : CountsRefusal result (refused old.inner) (refused new.inner)
  pub cause : IfErr result (told new.inner)

-- The first `torn` of these bytes went out, at most all of them, and no others; or the inner device
-- refused that write too, and counted it.
abbrev pub IsPartWritten : ℕ → List ℕ → ℕ → List ℕ → List ℕ → ℕ → ℕ → Type 0
IsPartWritten at bytes torn old new before after =
    let part = take (min torn (length bytes)) bytes in
    (new ≡ overwritten old at part) ⊎ (CountHasRisen before after × IsTorn at (length part) old new)
