-- A file of the operating system.
use Rattle.std.specs.Prelude.{ℕ, Bool}

-- What a device over a file is to its callers: its counts of refused calls, of syncs and of writes,
-- whether it was synced and not written since, and nothing of the file.
pub record Counts : Type 0 where
  pub refused : ℕ
  pub synced : ℕ
  pub writes : ℕ
  pub settled : Bool
