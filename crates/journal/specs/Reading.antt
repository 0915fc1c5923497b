-- Calls that write nothing.
use Rattle.std.specs.Prelude.{◌≡◌, ℕ, Bool, IsTrue}
use Rattle.disk.specs.Crashes.{Bytes, LeavesOnly}

-- A device behind calls that write nothing: it reads as before, it was not synced, it is settled
-- where it was, and a crash at any moment leaves what it might have left before.
pub record OnlyReads {D : Type 0} (honest durable : Bool) (bytes : D → Bytes) (synced writes : D → ℕ)
    (settled : D → Type 0) (moment : D → ℕ) (left_since : D → ℕ → Bytes → Type 0) (may_leave : D → Bytes → Type 0)
    (old new : D) : Type 0 where
  pub same : IsTrue honest → bytes new ≡ bytes old
  pub no_sync : synced new ≡ synced old
  pub no_write : writes new ≡ writes old
  pub stays_settled : settled old → settled new
  pub crash : IsTrue durable → (c : Bytes) → may_leave new c → may_leave old c
  pub calm : IsTrue durable → LeavesOnly moment left_since old new (may_leave old)
