use Rattle.std.proofs.Common.{ℕ, refl, inr}
use Rattle.disk.specs.Keeping.{joined}
use Rattle.journal.specs.Versions.{Version, IsAmong, committed}
use Rattle.journal.proofs.States.{on_ok}
use Rattle.journaled_file.specs.Shown.{IsAtRest, IsJournaled}
use Rattle.journaled_file.proofs.opening.commit_at_rest.Goals as goal

pub returns-clause-rest : goal.returns-clause-rest
returns-clause-rest g c =
    on_ok c.finish_open.result
    (λ (rest : (count : ℕ) (v : Version)
    → IsJournaled g.D.Disk.is_honest g.D.Disk.is_durable c.args.set.now 0 count (g.D.Disk.bytes c.write_commit.new.disk) (g.D.Disk.may_leave c.write_commit.new.disk) v
    → IsAtRest g.D.Disk.is_honest g.D.Disk.is_durable count (g.D.Disk.bytes c.finish_open.new.disk) (g.D.Disk.may_leave c.finish_open.new.disk) v). λ was v r may.
    rest c.args.count (committed v c.args.set.now c.args.count) (c.in_ok-write_commit.ensures.journaled was v r may))
    c.finish_open.ensures.rest

pub returns-in_err-write_commit-clause-keeps : goal.returns-in_err-write_commit-clause-keeps
returns-in_err-write_commit-clause-keeps g c durable honest was v r may = c.write_commit.ensures.keeps durable honest was v r may

pub returns-clause-keeps : goal.returns-clause-keeps
returns-clause-keeps g c durable honest was v r may =
    let new = committed v c.args.set.now c.args.count in
    let first = c.write_commit.ensures.keeps durable honest was v r may in
    let last = c.finish_open.ensures.keeps durable honest c.args.count v new new (inr refl) (c.in_ok-write_commit.ensures.journaled was v r may) in (
      last.0,
      joined g.D.Disk.moment g.D.Disk.left_since c.args.disk.now c.write_commit.new.disk c.finish_open.new.disk (IsAmong v new) first.1 last.1,
    )
