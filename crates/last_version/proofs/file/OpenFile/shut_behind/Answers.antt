use Rattle.std.proofs.Common.{◌≡◌, ◌∙◌, sym, arith}
use Rattle.disk.specs.Keeping.{started}
use Rattle.journal.specs.Versions.{IsAmong}
use Rattle.journal.proofs.States.{on_ok}
use Rattle.last_version.specs.declared.gate.Gate.TheVariants.{Shut}
use Rattle.last_version.proofs.StandingLemmas.{stands_among, all_left, some_left, shut_whole, open_whole}
use Rattle.last_version.proofs.file.OpenFile.shut_behind.Goals as goal

pub returns-then-self-len-clause-keeps : goal.returns-then-self-len-clause-keeps
returns-then-self-len-clause-keeps g c = λ durable honest x y v one s.
    let all = stands_among g.D.Disk.is_honest g.D.Disk.is_durable c.args.self.now.gate c.args.self.now.set c.args.self.now.written c.args.self.now.count (g.D.Disk.bytes c.args.self.now.disk) (g.D.Disk.may_leave c.args.self.now.disk) v s
    (open_whole c.args.self.now.gate c.requires) x y one durable honest in
    (all, started g.D.Disk.moment g.D.Disk.left_since c.args.self.now.disk (IsAmong x y) (λ d left. all d (g.met.D.Disk.only_now c.args.self.now.disk d durable left)))

pub returns-then-self-len-clause-shut : goal.returns-then-self-len-clause-shut
returns-then-self-len-clause-shut g c = λ none.
    absurd (some_left c.args.self.now.set c.args.self.now.written (let less = c.if-self-len.true in let long = c.len.ensures in omega (arith, less, long)) none)

pub returns-then-self-len-clause-whole : goal.returns-then-self-len-clause-whole
returns-then-self-len-clause-whole g c = open_whole c.args.self.now.gate c.requires

pub shut-requires-clause-all : goal.shut-requires-clause-all
shut-requires-clause-all g c = let more = c.if-self-len.false in let long = c.len.ensures in omega (arith, more, long)

pub returns-clause-shut : goal.returns-clause-shut
returns-clause-shut g c = on_ok c.shut.result (λ (shut : c.shut.new.self.gate ≡ Shut). λ none. shut) c.shut.ensures.shut

pub returns-clause-whole : goal.returns-clause-whole
returns-clause-whole g c = shut_whole c.shut.result c.args.self.now.gate c.shut.new.self.gate c.requires c.shut.ensures.shut c.shut.ensures.same

pub returns-clause-left : goal.returns-clause-left
returns-clause-left g c =
    c.shut.ensures.left ∙ sym (all_left c.args.self.now.set c.args.self.now.written (let more = c.if-self-len.false in let long = c.len.ensures in omega (arith, more, long)))
