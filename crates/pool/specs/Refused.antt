-- Why a pool refuses a call.
use Rattle.std.specs.Prelude.{ℕ, ◌≤◌, ⊤}
use Rattle.disk.specs.declared.error.DiskError.{DiskError}
use Rattle.disk.specs.Refused.{CountHasRisen}
use Rattle.pool.specs.declared.error.PoolError.{PoolError}
use Rattle.pool.specs.declared.error.PoolError.TheVariants.{Memory, Device, Damaged, Pages, Kept}

-- what is known where a call was refused, with the counts of refused device calls before and after
abbrev pub IsRefused : Type 0 → Type 0 → ℕ → ℕ → PoolError → Type 0
IsRefused AtPages AtKept before after Memory = ⊤
IsRefused AtPages AtKept before after (Device e) = CountHasRisen before after
IsRefused AtPages AtKept before after Damaged = ⊥
IsRefused AtPages AtKept before after Pages = AtPages
IsRefused AtPages AtKept before after Kept = AtKept

-- why a commit is refused: as damaged for what harms the pages
abbrev pub CommitRefused : Type 0 → Type 0 → Type 0 → ℕ → ℕ → PoolError → Type 0
CommitRefused AtPages AtKept Harm before after Memory = ⊤
CommitRefused AtPages AtKept Harm before after (Device e) = CountHasRisen before after
CommitRefused AtPages AtKept Harm before after Damaged = Harm
CommitRefused AtPages AtKept Harm before after Pages = AtPages
CommitRefused AtPages AtKept Harm before after Kept = AtKept

-- why a read is refused: for the device, or where there is no such page
abbrev pub ReadRefused : Type 0 → ℕ → ℕ → PoolError → Type 0
ReadRefused Absent before after Memory = ⊥
ReadRefused Absent before after (Device e) = CountHasRisen before after
ReadRefused Absent before after Damaged = Absent
ReadRefused Absent before after Pages = ⊥
ReadRefused Absent before after Kept = ⊥

-- the device refused a call, with the counts of refused device calls before and after
abbrev pub IsOfDevice : ℕ → ℕ → PoolError → Type 0
IsOfDevice before after Memory = ⊥
IsOfDevice before after (Device e) = CountHasRisen before after
IsOfDevice before after Damaged = ⊥
IsOfDevice before after Pages = ⊥
IsOfDevice before after Kept = ⊥

-- it is not the device that refused
abbrev pub IsNotOfDevice : PoolError → Type 0
IsNotOfDevice Memory = ⊤
IsNotOfDevice (Device e) = ⊥
IsNotOfDevice Damaged = ⊤
IsNotOfDevice Pages = ⊤
IsNotOfDevice Kept = ⊤

-- a refusal for the device has a cause that the device told
abbrev pub IsTold : (DiskError → Type 0) → PoolError → Type 0
IsTold told Memory = ⊤
IsTold told (Device e) = told e
IsTold told Damaged = ⊤
IsTold told Pages = ⊤
IsTold told Kept = ⊤

-- the count of refused device calls does not fall
abbrev pub Rises : ℕ → ℕ → Type 0
Rises before after = before ≤ after

-- a refusal for the device has a cause for which a pool is broken
abbrev pub IsBrokenFor : (DiskError → Type 0) → PoolError → Type 0
IsBrokenFor broken Memory = ⊤
IsBrokenFor broken (Device e) = broken e
IsBrokenFor broken Damaged = ⊤
IsBrokenFor broken Pages = ⊤
IsBrokenFor broken Kept = ⊤
