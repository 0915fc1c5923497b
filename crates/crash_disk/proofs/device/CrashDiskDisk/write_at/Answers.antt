use Rattle.std.proofs.Common.{◌≡◌, ◌∙◌, ◌+◌, ap, length, List, ℕ}
use Rattle.std.specs.Prelude.{max}
use Rattle.crash_disk.proofs.AddedLemmas.{add_elapses, add_write_follows, add_write_agrees, of_ok}
use Rattle.crash_disk.proofs.device.CrashDiskDisk.write_at.Goals as goal

pub invariant_of-self-2 : goal.invariant_of-self-2
invariant_of-self-2 c =
    let end : c.in_ok-end.end ≡ c.args.at + length c.args.from.now = (rw c.in_ok-end.ensures.ok at c.checked_add-end.ensures).1 in
    let longest : c.max-len.result ≡ max (length c.args.self.now.disk.bytes) c.in_ok-end.end = c.max-len.ensures ∙ ap (λ (s : List ℕ). max (length s) c.in_ok-end.end) c.as_slice.ensures in
    record {
      agrees = add_write_agrees c.write_at.result c.args.self.now.first c.args.self.now.later.items c.add_range-added.new.later.items c.args.self.now.disk.bytes c.write_at.new.self.bytes c.args.from.now c.args.at c.in_ok-end.end c.max-len.result
          (of_ok c.add_range-added.result c.add_range-added.ensures.ok c.in_ok-counted.ensures.ok) end longest c.args.self.now.agrees c.write_at.ensures.written c.write_at.ensures.unchanged;
    }

pub returns-clause-crash : goal.returns-clause-crash
returns-clause-crash c durable =
    let end : c.in_ok-end.end ≡ c.args.at + length c.args.from.now = (rw c.in_ok-end.ensures.ok at c.checked_add-end.ensures).1 in
    let longest : c.max-len.result ≡ max (length c.args.self.now.disk.bytes) c.in_ok-end.end = c.max-len.ensures ∙ ap (λ (s : List ℕ). max (length s) c.in_ok-end.end) c.as_slice.ensures in
    add_write_follows c.args.self.now.first c.args.self.now.later.items c.add_range-added.new.later.items c.args.self.now.disk.bytes c.args.at (length c.args.from.now) c.in_ok-end.end c.max-len.result
    (of_ok c.add_range-added.result c.add_range-added.ensures.ok c.in_ok-counted.ensures.ok) end longest c.args.self.now.agrees

pub returns-clause-time : goal.returns-clause-time
returns-clause-time c durable =
    add_elapses c.args.self.now.first c.args.self.now.later.items c.add_range-added.new.later.items (c.args.at, c.in_ok-end.end) c.max-len.result
    (of_ok c.add_range-added.result c.add_range-added.ensures.ok c.in_ok-counted.ensures.ok)
