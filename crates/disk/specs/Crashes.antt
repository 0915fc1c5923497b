-- What a crash may leave of a device's bytes, and how that goes on with each call. Our own choice,
-- after what a file system keeps that loses power.
use Rattle.std.specs.Prelude.{◌≡◌, ◌⊎◌, ℕ, ◌+◌, ◌<◌, ◌≤◌, List, length, slice_index}
use Rattle.disk.specs.Contents.{IsTorn}

-- the bytes of a device
abbrev pub Bytes : Type 0
Bytes = List ℕ

-- each new outcome of a crash is an old outcome after a step
abbrev pub Follows : (Bytes → Bytes → Type 0) → (Bytes → Type 0) → (Bytes → Type 0) → Type 0
Follows step old new = (c : Bytes) → new c → (d : Bytes) × old d × step d c

-- a crash leaves this and nothing else
abbrev pub Only : Bytes → (Bytes → Type 0) → Type 0
Only file outcomes = (c : Bytes) → outcomes c → c ≡ file

-- whatever a crash leaves has P
abbrev pub Always : (Bytes → Type 0) → (Bytes → Type 0) → Type 0
Always outcomes P = (c : Bytes) → outcomes c → P c

-- A write of n bytes at an offset, not synced yet, to a device that reads as so many bytes. In its
-- range there may be any bytes, and outside nothing changes. Where the range lies within the
-- device, no length changes either: in an outcome that is shorter, since the device's length is not
-- synced, what lies behind its end is just not there.
pub record IsSpread (size at n : ℕ) (old new : Bytes) : Type 0 where
  pub torn : IsTorn at n old new
  pub within : at + n ≤ size → length new ≡ length old

-- A length that was set and not synced: the old one or the new one. What lies below both, and below
-- the length that was set, is as it was; nothing is said of what lies behind that.
pub record IsCut (n : ℕ) (old new : Bytes) : Type 0 where
  pub size : (length new ≡ length old) ⊎ (length new ≡ n)
  pub front : (i : ℕ) → i < length old → i < length new → i < n → slice_index new i ≡ slice_index old i

-- Time goes on from one moment to another: a crash since a moment t might have left what it might
-- have left before, or what it may leave now, and nothing else.
pub record Elapses (before now : ℕ) (past since : ℕ → Bytes → Type 0) (may_leave : Bytes → Type 0) : Type 0 where
  pub later : before ≤ now
  pub nothing_else : (t : ℕ) (c : Bytes) → t ≤ before → since t c → past t c ⊎ may_leave c
  pub keeps : (t : ℕ) (c : Bytes) → t ≤ before → past t c → since t c

-- time goes on for a device that was `old` and is `new`
abbrev pub TimePasses : {D : Type 0} → (D → ℕ) → (D → ℕ → Bytes → Type 0) → (D → Bytes → Type 0) → D → D → Type 0
TimePasses moment left_since may_leave old new =
    Elapses (moment old) (moment new) (left_since old) (left_since new) (may_leave new)

-- A crash at any moment since `old` leaves what has P.
pub record LeavesOnly {D : Type 0} (moment : D → ℕ) (left_since : D → ℕ → Bytes → Type 0) (old new : D)
    (P : Bytes → Type 0) : Type 0 where
  pub later : moment old ≤ moment new
  pub each : (c : Bytes) → left_since new (moment old) c → P c
  -- for a run of calls that began earlier
  pub before : (t : ℕ) (c : Bytes) → t ≤ moment old → left_since new t c → left_since old t c ⊎ P c

-- Calls that keep P: where each outcome of a crash had P before them, each has P at any moment of
-- them and behind them.
abbrev pub Keeps : {D : Type 0} → (D → ℕ) → (D → ℕ → Bytes → Type 0) → (D → Bytes → Type 0) → D → D
    → (Bytes → Type 0) → Type 0
Keeps moment left_since may_leave old new P =
    Always (may_leave old) P → Always (may_leave new) P × LeavesOnly moment left_since old new P

-- The device that is found after a crash of another: it reads as one of the outcomes, and a crash
-- of it leaves none that the other could not have left.
pub record IsRestarted {D : Type 0} (bytes : D → Bytes) (may_leave : D → Bytes → Type 0) (old new : D) : Type 0 where
  pub found : may_leave old (bytes new)
  pub left : (c : Bytes) → may_leave new c → may_leave old c
