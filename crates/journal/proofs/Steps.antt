-- How one write of a device keeps what its outcomes stand for.
use Rattle.std.proofs.Common.{◌≡◌, ℕ, ◌+◌, ◌≤◌, length, subst}
use Rattle.disk.specs.Crashes.{Bytes, Follows, TimePasses, IsSpread, IsCut, Keeps}
use Rattle.disk.specs.Keeping.{step}
use Rattle.journal.specs.Parts.{ChangesOnly}
use Rattle.journal.proofs.Ranges.{spread_changes}

module _ {D : Type 0} (moment : D → ℕ) (left_since : D → ℕ → Bytes → Type 0) (may_leave : D → Bytes → Type 0) (bytes : D → Bytes) where
  -- a write of a range that lies within each file of which P holds
  pub range_written : (only_now : (d : D) (c : Bytes) → left_since d (moment d) c → may_leave d c) (old new : D)
      (P : Bytes → Type 0) (at n from size : ℕ) → from ≡ at → size ≡ n
      → Follows (IsSpread (length (bytes old)) from size) (may_leave old) (may_leave new)
      → TimePasses moment left_since may_leave old new → at + n ≤ length (bytes old)
      → ((d c : Bytes) → P d → ChangesOnly at n d c → P c) → Keeps moment left_since may_leave old new P
  range_written only_now old new P at n from size e f crash time within to =
      let put : Follows (IsSpread (length (bytes old)) at n) (may_leave old) (may_leave new) =
      subst (λ (k : ℕ). Follows (IsSpread (length (bytes old)) k n) (may_leave old) (may_leave new)) e
      (subst (λ (k : ℕ). Follows (IsSpread (length (bytes old)) from k) (may_leave old) (may_leave new)) f crash) in
      step moment left_since may_leave only_now old new P P (IsSpread (length (bytes old)) at n) put time
      (λ d c p spread. to d c p (spread_changes (length (bytes old)) at n d c within spread)) (λ c p. p)

  -- a length that is set
  pub length_set : (only_now : (d : D) (c : Bytes) → left_since d (moment d) c → may_leave d c) (old new : D)
      (P : Bytes → Type 0) (len to_set : ℕ) → to_set ≡ len → Follows (IsCut to_set) (may_leave old) (may_leave new)
      → TimePasses moment left_since may_leave old new → ((d c : Bytes) → P d → IsCut len d c → P c)
      → Keeps moment left_since may_leave old new P
  length_set only_now old new P len to_set e crash time to =
      let cut : Follows (IsCut len) (may_leave old) (may_leave new) =
      subst (λ (k : ℕ). Follows (IsCut k) (may_leave old) (may_leave new)) e crash in
      step moment left_since may_leave only_now old new P P (IsCut len) cut time to (λ c p. p)
