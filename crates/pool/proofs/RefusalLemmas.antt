-- Why a call is refused, where one call stands in another.
use Rattle.std.proofs.Common.{◌≡◌, ℕ, ◌≤◌, ◌+◌, arith, subst, inl, inr}
use Rattle.std.specs.Prelude.{◌⊎◌, min}
use Rattle.disk.specs.declared.error.DiskError.{DiskError}
use Rattle.disk.specs.Refused.{CountHasRisen}
use Rattle.pool.specs.declared.error.PoolError.{PoolError}
use Rattle.pool.specs.declared.error.PoolError.TheVariants.{Memory, Device, Damaged, Pages, Kept}
use Rattle.pool.specs.Refused.{IsRefused, CommitRefused, ReadRefused, IsOfDevice, IsBrokenFor, IsTold}

pub read_refused : (P Q : Type 0) (a b : ℕ) (e : PoolError) → (P → Q) → ReadRefused P a b e → ReadRefused Q a b e
read_refused P Q a b Memory f h = h
read_refused P Q a b (Device x) f h = h
read_refused P Q a b Damaged f h = f h
read_refused P Q a b Pages f h = h
read_refused P Q a b Kept f h = h

pub of_device_is : (P Q : Type 0) (a b : ℕ) (e : PoolError) → IsOfDevice a b e → IsRefused P Q a b e
of_device_is P Q a b Memory h = absurd h
of_device_is P Q a b (Device x) h = h
of_device_is P Q a b Damaged h = absurd h
of_device_is P Q a b Pages h = absurd h
of_device_is P Q a b Kept h = absurd h

later : (k a m n : ℕ) → a ≤ m → min (m + 1) k ≤ n → min (a + 1) k ≤ n
later k a m n le h = omega (arith, le, h)

pub risen_later : (a m n : ℕ) → a ≤ m → CountHasRisen m n → CountHasRisen a n
risen_later a m n le h = record { no_less = let more = h.no_less in omega (arith, le, more); more = later _ a m n le h.more }

pub refused_later : (P Q : Type 0) (a m b : ℕ) (e : PoolError) → a ≤ m → IsRefused ⊥ ⊥ m b e → IsRefused P Q a b e
refused_later P Q a m b Memory le h = h
refused_later P Q a m b (Device x) le h = risen_later a m b le h
refused_later P Q a m b Damaged le h = absurd h
refused_later P Q a m b Pages le h = absurd h
refused_later P Q a m b Kept le h = absurd h

-- a cause for which a file is broken is one that it tells
pub broken_tells : (told broken : DiskError → Type 0) (e : PoolError) → IsBrokenFor broken e → IsTold (λ (d : DiskError). told d ⊎ broken d) e
broken_tells told broken Memory h = tt
broken_tells told broken (Device x) h = inr h
broken_tells told broken Damaged h = tt
broken_tells told broken Pages h = tt
broken_tells told broken Kept h = tt

-- a refusal within a commit
pub commit_refused : (P Q H : Type 0) (a b : ℕ) (e : PoolError) → IsRefused ⊥ ⊥ a b e → CommitRefused P Q H a b e
commit_refused P Q H a b Memory h = h
commit_refused P Q H a b (Device x) h = h
commit_refused P Q H a b Damaged h = absurd h
commit_refused P Q H a b Pages h = absurd h
commit_refused P Q H a b Kept h = absurd h

-- one of a smaller kind
pub commit_weaker : (Q H : Type 0) (P : Type 0) (a b : ℕ) (e : PoolError) → CommitRefused ⊥ Q H a b e → CommitRefused P Q H a b e
commit_weaker Q H P a b Memory h = h
commit_weaker Q H P a b (Device x) h = h
commit_weaker Q H P a b Damaged h = h
commit_weaker Q H P a b Pages h = absurd h
commit_weaker Q H P a b Kept h = h

pub of_device_commit : (P Q H : Type 0) (a b : ℕ) (e : PoolError) → IsOfDevice a b e → CommitRefused P Q H a b e
of_device_commit P Q H a b Memory h = absurd h
of_device_commit P Q H a b (Device x) h = h
of_device_commit P Q H a b Damaged h = absurd h
of_device_commit P Q H a b Pages h = absurd h
of_device_commit P Q H a b Kept h = absurd h

-- a refusal of another kind
pub never_kept : (a b : ℕ) (e : PoolError) → IsRefused ⊥ ⊥ a b e → e ≡ Kept → ⊥
never_kept a b e h is = subst (IsRefused ⊥ ⊥ a b) is h

pub device_not_kept : (a b : ℕ) (e : PoolError) → IsOfDevice a b e → e ≡ Kept → ⊥
device_not_kept a b e h is = subst (IsOfDevice a b) is h

-- the count rose where the device refused
pub of_device_less : (a b : ℕ) (e : PoolError) → IsOfDevice a b e → a ≤ b
of_device_less a b Memory h = absurd h
of_device_less a b (Device x) h = h.no_less
of_device_less a b Damaged h = absurd h
of_device_less a b Pages h = absurd h
of_device_less a b Kept h = absurd h
