use Rattle.std.proofs.Common.{ap, sym, length, ◌∙◌}
use Rattle.pool.specs.Versions.{versions_of, refused_of}
use Rattle.store.specs.declared.error.StoreError.TheVariants as error
use Rattle.database_versions.proofs.OpenLemmas.{empty_of, begins_after, owned_after, empty_after, readable_after, counts_after, left_after, refused_after, device_back, never_empty}
use Rattle.database_versions.proofs.opening.pool_over.Goals as goal

pub new_pool-requires-clause-empty : goal.new_pool-requires-clause-empty
new_pool-requires-clause-empty g c = λ h. empty_of (g.D.Disk.bytes c.len.new.self) (ap length (c.len.ensures.same h) ∙ sym (c.in-Ok.ensures.value h) ∙ c.if-len-eq0.true)

pub returns-then-len-eq0-clause-begins : goal.returns-then-len-eq0-clause-begins
returns-then-len-eq0-clause-begins g c =
    begins_after c.new_pool.result g.D.Disk.is_honest (g.D.Disk.bytes c.len.new.self) (g.D.Disk.bytes c.args.device) c.len.ensures.same (λ pool. versions_of pool) c.new_pool.ensures.begins

pub returns-then-len-eq0-clause-left : goal.returns-then-len-eq0-clause-left
returns-then-len-eq0-clause-left g c =
    left_after c.new_pool.result g.D.Disk.is_honest (g.D.Disk.bytes c.len.new.self) (g.D.Disk.bytes c.args.device) c.len.ensures.same (λ back. g.D.Disk.bytes back.value) (λ back. back.error) c.new_pool.ensures.left

pub returns-then-len-eq0-clause-refused : goal.returns-then-len-eq0-clause-refused
returns-then-len-eq0-clause-refused g c =
    refused_after c.new_pool.result g.D.Disk.is_honest (g.D.Disk.bytes c.len.new.self) (g.D.Disk.bytes c.args.device) c.len.ensures.same (λ back. back.error) (λ back. g.D.Disk.refused back.value)
    (g.D.Disk.refused c.args.device) (g.D.Disk.refused c.len.new.self) c.in-Ok.ensures.count c.new_pool.ensures.refused

pub returns-then-len-eq0-clause-empty : goal.returns-then-len-eq0-clause-empty
returns-then-len-eq0-clause-empty g c =
    never_empty c.new_pool.result g.D.Disk.is_honest (g.D.Disk.bytes c.args.device) (λ pool. versions_of pool)
    (λ h. empty_of (g.D.Disk.bytes c.args.device) (sym (c.in-Ok.ensures.value h) ∙ c.if-len-eq0.true))

pub returns-else-len-eq0-clause-empty : goal.returns-else-len-eq0-clause-empty
returns-else-len-eq0-clause-empty g c =
    empty_after c.old_pool.result g.D.Disk.is_honest (g.D.Disk.bytes c.len.new.self) (g.D.Disk.bytes c.args.device) c.len.ensures.same (λ pool. versions_of pool) c.old_pool.ensures.empty

pub returns-in-Err-clause-left : goal.returns-in-Err-clause-left
returns-in-Err-clause-left g c =
    device_back g.D.Disk.is_honest (g.D.Disk.bytes c.args.device) (g.D.Disk.bytes c.len.new.self) error.Device c.len.ensures.same

pub old_pool-requires-clause-some : goal.old_pool-requires-clause-some
old_pool-requires-clause-some g c = λ h none. c.if-len-eq0.false (c.in-Ok.ensures.value h ∙ sym (ap length (c.len.ensures.same h)) ∙ ap length none)

pub returns-else-len-eq0-clause-begins : goal.returns-else-len-eq0-clause-begins
returns-else-len-eq0-clause-begins g c =
    begins_after c.old_pool.result g.D.Disk.is_honest (g.D.Disk.bytes c.len.new.self) (g.D.Disk.bytes c.args.device) c.len.ensures.same (λ pool. versions_of pool) c.old_pool.ensures.begins

pub returns-else-len-eq0-clause-left : goal.returns-else-len-eq0-clause-left
returns-else-len-eq0-clause-left g c =
    left_after c.old_pool.result g.D.Disk.is_honest (g.D.Disk.bytes c.len.new.self) (g.D.Disk.bytes c.args.device) c.len.ensures.same (λ back. g.D.Disk.bytes back.value) (λ back. back.error) c.old_pool.ensures.left

pub returns-else-len-eq0-clause-refused : goal.returns-else-len-eq0-clause-refused
returns-else-len-eq0-clause-refused g c =
    refused_after c.old_pool.result g.D.Disk.is_honest (g.D.Disk.bytes c.len.new.self) (g.D.Disk.bytes c.args.device) c.len.ensures.same (λ back. back.error) (λ back. g.D.Disk.refused back.value)
    (g.D.Disk.refused c.args.device) (g.D.Disk.refused c.len.new.self) c.in-Ok.ensures.count c.old_pool.ensures.refused

pub returns-in-Err-clause-refused : goal.returns-in-Err-clause-refused
returns-in-Err-clause-refused g c = c.in-Err.ensures.count.more

pub returns-then-len-eq0-clause-readable : goal.returns-then-len-eq0-clause-readable
returns-then-len-eq0-clause-readable g c =
    readable_after c.new_pool.result g.D.Disk.is_honest (g.D.Disk.bytes c.len.new.self) (g.D.Disk.bytes c.args.device) c.len.ensures.same c.new_pool.ensures.readable

pub returns-then-len-eq0-clause-counts : goal.returns-then-len-eq0-clause-counts
returns-then-len-eq0-clause-counts g c =
    counts_after c.new_pool.result g.D.Disk.is_honest (g.D.Disk.bytes c.len.new.self) (g.D.Disk.bytes c.args.device) c.len.ensures.same (λ pool. refused_of pool)
    (g.D.Disk.refused c.args.device) (g.D.Disk.refused c.len.new.self) c.in-Ok.ensures.count c.new_pool.ensures.counts

pub returns-else-len-eq0-clause-readable : goal.returns-else-len-eq0-clause-readable
returns-else-len-eq0-clause-readable g c =
    readable_after c.old_pool.result g.D.Disk.is_honest (g.D.Disk.bytes c.len.new.self) (g.D.Disk.bytes c.args.device) c.len.ensures.same c.old_pool.ensures.readable

pub returns-else-len-eq0-clause-counts : goal.returns-else-len-eq0-clause-counts
returns-else-len-eq0-clause-counts g c =
    counts_after c.old_pool.result g.D.Disk.is_honest (g.D.Disk.bytes c.len.new.self) (g.D.Disk.bytes c.args.device) c.len.ensures.same (λ pool. refused_of pool)
    (g.D.Disk.refused c.args.device) (g.D.Disk.refused c.len.new.self) c.in-Ok.ensures.count c.old_pool.ensures.counts

pub returns-then-len-eq0-clause-owned : goal.returns-then-len-eq0-clause-owned
returns-then-len-eq0-clause-owned g c =
    owned_after c.new_pool.result g.D.Disk.is_honest (g.D.Disk.bytes c.len.new.self) (g.D.Disk.bytes c.args.device) c.len.ensures.same (λ pool. versions_of pool) c.new_pool.ensures.owned

pub returns-else-len-eq0-clause-owned : goal.returns-else-len-eq0-clause-owned
returns-else-len-eq0-clause-owned g c =
    owned_after c.old_pool.result g.D.Disk.is_honest (g.D.Disk.bytes c.len.new.self) (g.D.Disk.bytes c.args.device) c.len.ensures.same (λ pool. versions_of pool) c.old_pool.ensures.owned
