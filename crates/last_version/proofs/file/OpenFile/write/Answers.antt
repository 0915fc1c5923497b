use Rattle.std.proofs.Common.{◌∙◌, ℕ, List, refl, sym, subst, arith}
use Rattle.disk.specs.Crashes.{Always, LeavesOnly}
use Rattle.journal.specs.Versions.{IsAmong, IsCommittable, committed}
use Rattle.journaled_file.specs.Shown.{IsJournaled}
use Rattle.last_version.proofs.StandingLemmas.{journaled_stands, broken_stands, laid_empty}
use Rattle.last_version.proofs.file.OpenFile.write.Goals as goal

pub returns-in-Ok-clause-committed : goal.returns-in-Ok-clause-committed
returns-in-Ok-clause-committed g c = λ honest v s may.
    journaled_stands g.D.Disk.is_honest g.D.Disk.is_durable _ c.args.images 0 c.args.count
    (g.D.Disk.bytes c.write_commit.new.disk) (g.D.Disk.may_leave c.write_commit.new.disk) _ refl (omega arith) honest
    (subst (λ (l : List (ℕ × List ℕ)). IsCommittable v l c.args.count
    → IsJournaled g.D.Disk.is_honest g.D.Disk.is_durable l 0 c.args.count (g.D.Disk.bytes c.write_commit.new.disk) (g.D.Disk.may_leave c.write_commit.new.disk) (committed v l c.args.count))
    c.as_slice.ensures (c.in-Ok.ensures.journaled c.args.self.now.count v (s.rest c.requires.gate)) may)

pub returns-in-Err-clause-left : goal.returns-in-Err-clause-left
returns-in-Err-clause-left g c = λ honest v s may.
    broken_stands g.D.Disk.is_honest g.D.Disk.is_durable _ c.args.self.now.set c.args.self.now.written c.args.self.now.count
    (g.D.Disk.bytes c.write_commit.new.disk) (g.D.Disk.may_leave c.write_commit.new.disk) v refl s.many
    (λ n less. laid_empty c.args.self.now.set c.args.self.now.written _ n (s.none c.requires.gate)
    ∙ c.write_commit.ensures.places honest c.args.self.now.count v (s.rest c.requires.gate)
    (subst (λ (l : List (ℕ × List ℕ)). IsCommittable v l c.args.count) (sym c.as_slice.ensures) may) n less)

pub returns-in-Ok-clause-any_moment : goal.returns-in-Ok-clause-any_moment
returns-in-Ok-clause-any_moment g c = λ durable honest v s may.
    subst (λ (l : List (ℕ × List ℕ)). IsCommittable v l c.args.count
    → Always (g.D.Disk.may_leave c.write_commit.new.disk) (IsAmong v (committed v l c.args.count))
    × LeavesOnly g.D.Disk.moment g.D.Disk.left_since c.args.self.now.disk c.write_commit.new.disk (IsAmong v (committed v l c.args.count)))
    c.as_slice.ensures (c.write_commit.ensures.keeps durable honest c.args.self.now.count v (s.rest c.requires.gate)) may

pub returns-in-Err-clause-any_moment : goal.returns-in-Err-clause-any_moment
returns-in-Err-clause-any_moment g c = λ durable honest v s may.
    subst (λ (l : List (ℕ × List ℕ)). IsCommittable v l c.args.count
    → Always (g.D.Disk.may_leave c.write_commit.new.disk) (IsAmong v (committed v l c.args.count))
    × LeavesOnly g.D.Disk.moment g.D.Disk.left_since c.args.self.now.disk c.write_commit.new.disk (IsAmong v (committed v l c.args.count)))
    c.as_slice.ensures (c.write_commit.ensures.keeps durable honest c.args.self.now.count v (s.rest c.requires.gate)) may
