use Rattle.std.proofs.Common.{true, false, ◌≡◌, ◌∙◌, sym, subst, inr}
use Rattle.journal.proofs.Looking.{reads_none}
use Rattle.last_version.specs.Standing.{shown_in}
use Rattle.journal.specs.Reading.{OnlyReads}
use Rattle.last_version.proofs.version.LastVersion.read.Goals as goal

pub returns-in-Some-clause-reads : goal.returns-in-Some-clause-reads
returns-in-Some-clause-reads g c =
    reads_none g.D.Disk.is_honest g.D.Disk.is_durable g.D.Disk.bytes g.D.Disk.synced g.D.Disk.writes g.D.Disk.settled g.D.Disk.moment g.D.Disk.left_since g.D.Disk.may_leave
    (λ d b durable left. g.met.D.Disk.only_now d b durable left) c.args.self.now.file.disk

pub returns-in-Some-clause-value : goal.returns-in-Some-clause-value
returns-in-Some-clause-value g c = λ honest. c.in-Some.ensures.found (shown_in c.args.self.now.file) (c.args.self.now.clean honest)

pub returns-then-is_broken-clause-reads : goal.returns-then-is_broken-clause-reads
returns-then-is_broken-clause-reads g c =
    subst (λ (d : g.row.D.Denot). OnlyReads g.D.Disk.is_honest g.D.Disk.is_durable g.D.Disk.bytes g.D.Disk.synced g.D.Disk.writes g.D.Disk.settled g.D.Disk.moment g.D.Disk.left_since g.D.Disk.may_leave c.args.self.now.file.disk d)
    (sym c.refuse.ensures.device)
    (reads_none g.D.Disk.is_honest g.D.Disk.is_durable g.D.Disk.bytes g.D.Disk.synced g.D.Disk.writes g.D.Disk.settled g.D.Disk.moment g.D.Disk.left_since g.D.Disk.may_leave
    (λ d b durable left. g.met.D.Disk.only_now d b durable left) c.args.self.now.file.disk)

pub returns-then-is_broken-clause-cause : goal.returns-then-is_broken-clause-cause
returns-then-is_broken-clause-cause g c = inr c.refuse.ensures.cause

pub returns-then-is_broken-clause-read_always : goal.returns-then-is_broken-clause-read_always
returns-then-is_broken-clause-read_always g c = λ honest always whole. let bad : true ≡ false = sym c.if-is_broken.true ∙ c.is_broken.ensures ∙ whole in absurd (cc)

pub invariant_of-self : goal.invariant_of-self
invariant_of-self g c = record {
  stands = c.args.self.now.stands;
  clean = λ honest. c.copy.ensures.clean (shown_in c.args.self.now.file) (c.args.self.now.clean honest);
  few = c.args.self.now.few;
  some = c.args.self.now.some;
}
