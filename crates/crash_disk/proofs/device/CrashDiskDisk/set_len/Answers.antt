use Rattle.std.proofs.Common.{◌≡◌, ◌∙◌, ap, length}
use Rattle.crash_disk.specs.declared.outcome.Outcome.{Outcome}
use Rattle.crash_disk.specs.Outcomes.{newest}
use Rattle.crash_disk.proofs.AddedLemmas.{add_elapses, add_cut_follows, add_cut_agrees, of_ok}
use Rattle.crash_disk.proofs.device.CrashDiskDisk.set_len.Goals as goal

pub invariant_of-self-2 : goal.invariant_of-self-2
invariant_of-self-2 c =
    let end : c.len-end.result ≡ length (newest c.args.self.now.first c.args.self.now.later.items).synced.items =
    c.len-end.ensures ∙ c.latest.result.now.synced.ok.0 ∙ ap (λ (o : Outcome). length o.synced.items) (c.latest.ensures ∙ ap (newest c.args.self.now.first) c.as_slice.ensures.value) in
    record {
      agrees = add_cut_agrees c.set_len.result c.args.self.now.first c.args.self.now.later.items c.add_range-added.new.later.items c.args.self.now.disk.bytes c.set_len.new.self.bytes c.args.len c.len-end.result
          (of_ok c.add_range-added.result c.add_range-added.ensures.ok c.in_ok-counted.ensures.ok) end c.args.self.now.agrees c.set_len.ensures.resized c.set_len.ensures.unchanged;
    }

pub returns-clause-crash : goal.returns-clause-crash
returns-clause-crash c durable =
    let end : c.len-end.result ≡ length (newest c.args.self.now.first c.args.self.now.later.items).synced.items =
    c.len-end.ensures ∙ c.latest.result.now.synced.ok.0 ∙ ap (λ (o : Outcome). length o.synced.items) (c.latest.ensures ∙ ap (newest c.args.self.now.first) c.as_slice.ensures.value) in
    add_cut_follows c.args.self.now.first c.args.self.now.later.items c.add_range-added.new.later.items c.args.self.now.disk.bytes c.args.len c.len-end.result
    (of_ok c.add_range-added.result c.add_range-added.ensures.ok c.in_ok-counted.ensures.ok) end c.args.self.now.agrees

pub returns-clause-time : goal.returns-clause-time
returns-clause-time c durable =
    add_elapses c.args.self.now.first c.args.self.now.later.items c.add_range-added.new.later.items (c.args.len, c.len-end.result) c.args.len
    (of_ok c.add_range-added.result c.add_range-added.ensures.ok c.in_ok-counted.ensures.ok)
