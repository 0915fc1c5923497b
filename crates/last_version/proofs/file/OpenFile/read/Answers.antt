use Rattle.std.proofs.Common.{◌≡◌, ◌∙◌, ◌-◌, ℕ, List, length, take, drop, ap, subst, arith}
use Rattle.std.specs.Prelude.{IsTrue, OnOk}
use Rattle.std.proofs.lemmas.List.{length-drop, take_all}
use Rattle.journal.specs.Lists.{IsRising}
use Rattle.journal.specs.Parts.{place}
use Rattle.journal.specs.Versions.{laid}
use Rattle.journal.proofs.States.{on_ok}
use Rattle.journaled_file.specs.Shown.{padded}
use Rattle.last_version.proofs.StandingLemmas.{stands_read, stands_room, left_rises}
use Rattle.last_version.proofs.file.OpenFile.read.Goals as goal

pub returns-clause-stands : goal.returns-clause-stands
returns-clause-stands g c = λ honest v s.
    stands_read g.D.Disk.is_honest g.D.Disk.is_durable c.args.self.now.gate c.args.self.now.set c.args.self.now.written c.args.self.now.count
    (g.D.Disk.bytes c.args.self.now.disk) (g.D.Disk.bytes c.read_page.new.disk) (g.D.Disk.may_leave c.args.self.now.disk) (g.D.Disk.may_leave c.read_page.new.disk) v
    honest c.read_page.ensures.reads.same c.read_page.ensures.reads.crash s

pub returns-clause-read_always : goal.returns-clause-read_always
returns-clause-read_always g c = λ honest always v s.
    c.read_page.ensures.read_always honest always
    (let room = stands_room g.D.Disk.is_honest g.D.Disk.is_durable c.args.self.now.gate c.args.self.now.set c.args.self.now.written c.args.self.now.count
    (g.D.Disk.bytes c.args.self.now.disk) (g.D.Disk.may_leave c.args.self.now.disk) v s c.requires.whole honest in
    let within = c.requires.within in omega (arith, room, within))

pub returns-clause-value : goal.returns-clause-value
returns-clause-value g c =
    let w = c.args.self.now.written in
    let set = c.args.self.now.set in
    let was = g.D.Disk.bytes c.args.self.now.disk in
    let lent = c.as_slice.result.now in
    let same : take (length lent - w) (drop w lent) ≡ drop w set =
    take_all (length lent - w) (drop w lent) (let long = length-drop w lent in omega (arith, long)) ∙ ap (λ (l : List (ℕ × List ℕ)). drop w l) c.as_slice.ensures in
    on_ok c.read_page.result
    (λ (value : IsTrue g.D.Disk.is_honest → (pages : ℕ → List ℕ) → IsRising (drop w set) → laid (drop w set) (place was) c.args.number ≡ pages c.args.number
    → c.read_page.new.into ≡ padded c.args.number (pages c.args.number)). λ honest v s.
    value honest v.pages
    (left_rises g.D.Disk.is_honest g.D.Disk.is_durable c.args.self.now.gate set w c.args.self.now.count was (g.D.Disk.may_leave c.args.self.now.disk) v s c.requires.whole)
    (s.pages c.args.number c.requires.within))
    (subst (λ (l : List (ℕ × List ℕ)). OnOk c.read_page.result (IsTrue g.D.Disk.is_honest → (pages : ℕ → List ℕ) → IsRising l → laid l (place was) c.args.number ≡ pages c.args.number
    → c.read_page.new.into ≡ padded c.args.number (pages c.args.number))) same c.read_page.ensures.value)
