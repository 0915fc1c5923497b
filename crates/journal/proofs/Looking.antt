-- Calls that write nothing, one behind another.
use Rattle.std.proofs.Common.{◌≡◌, ◌∙◌, ◌⊎◌, ℕ, refl, inl}
use Rattle.std.specs.Prelude.{Bool, IsTrue}
use Rattle.disk.specs.Crashes.{Bytes, TimePasses, LeavesOnly, Keeps}
use Rattle.disk.specs.Keeping.{started, joined, weaker, calm}
use Rattle.journal.specs.Reading.{OnlyReads}

module _ {D : Type 0} (honest durable : Bool) (bytes : D → Bytes) (synced writes : D → ℕ) (settled : D → Type 0) (moment : D → ℕ) (left_since : D → ℕ → Bytes → Type 0)
    (may_leave : D → Bytes → Type 0) where
  pub reads_none : (only_now : (d : D) (c : Bytes) → IsTrue durable → left_since d (moment d) c → may_leave d c) (d : D)
      → OnlyReads honest durable bytes synced writes settled moment left_since may_leave d d
  reads_none only_now d = record {
    same = λ h. refl;
    no_sync = refl;
    no_write = refl;
    stays_settled = λ s. s;
    crash = λ h c left. left;
    calm = λ h. started moment left_since d (may_leave d) (λ c left. only_now d c h left);
  }

  pub reads_then : (old mid new : D) → OnlyReads honest durable bytes synced writes settled moment left_since may_leave old mid
      → OnlyReads honest durable bytes synced writes settled moment left_since may_leave mid new
      → OnlyReads honest durable bytes synced writes settled moment left_since may_leave old new
  reads_then old mid new first second = record {
    same = λ h. second.same h ∙ first.same h;
    no_sync = second.no_sync ∙ first.no_sync;
    no_write = second.no_write ∙ first.no_write;
    stays_settled = λ s. second.stays_settled (first.stays_settled s);
    crash = λ h c left. first.crash h c (second.crash h c left);
    calm = λ h.
        joined moment left_since old mid new (may_leave old) (first.calm h)
        (weaker moment left_since mid new (may_leave mid) (may_leave old) (first.crash h) (second.calm h));
  }

  pub reads_call : (only_now : (d : D) (c : Bytes) → IsTrue durable → left_since d (moment d) c → may_leave d c) (old new : D)
      → (IsTrue honest → bytes new ≡ bytes old) → synced new ≡ synced old → writes new ≡ writes old → (settled old → settled new)
      → (IsTrue durable → (c : Bytes) → may_leave new c → may_leave old c) → (IsTrue durable → TimePasses moment left_since may_leave old new)
      → OnlyReads honest durable bytes synced writes settled moment left_since may_leave old new
  reads_call only_now old new a b c d e f = record {
    same = a;
    no_sync = b;
    no_write = c;
    stays_settled = d;
    crash = e;
    calm = λ h.
        (calm moment left_since may_leave (λ x o left. only_now x o h left) old new (may_leave old) (e h) (f h) (λ o left. left)).1;
  }

  -- they keep whatever each outcome has
  pub reads_keep : (old new : D) → OnlyReads honest durable bytes synced writes settled moment left_since may_leave old new → IsTrue durable
      → (P : Bytes → Type 0) → Keeps moment left_since may_leave old new P
  reads_keep old new reads h P all = (
    λ c left. all c (reads.crash h c left),
    weaker moment left_since old new (may_leave old) P all (reads.calm h),
  )

  -- a sync, and then calls that write nothing, leave what might have been left before
  pub read_before : (old mid new : D) (P : Bytes → Type 0) → ((d : D) (c : Bytes) → left_since d (moment d) c → may_leave d c) → IsTrue durable
      → ((c : Bytes) → may_leave mid c → may_leave old c) → TimePasses moment left_since may_leave old mid
      → OnlyReads honest durable bytes synced writes settled moment left_since may_leave mid new
      → LeavesOnly moment left_since old new (λ c. may_leave old c ⊎ P c)
  read_before old mid new P only_now h crash time reads =
      let first = (calm moment left_since may_leave only_now old mid (may_leave old) crash time (λ c left. left)).1 in
      weaker moment left_since old new (may_leave old) (λ c. may_leave old c ⊎ P c) (λ c left. inl left)
      (joined moment left_since old mid new (may_leave old) first
      (weaker moment left_since mid new (may_leave mid) (may_leave old) crash (reads.calm h)))
