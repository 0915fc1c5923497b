use Rattle.std.proofs.Common.{◌≡◌, List, ℕ, length, refl, ap, subst, arith}
use Rattle.disk.specs.Crashes.{Always}
use Rattle.disk.specs.Keeping.{calm, joined, weaker}
use Rattle.journal.specs.Parts.{ChangesOnly}
use Rattle.journal.specs.Versions.{IsOpen, IsBoth, IsAmong}
use Rattle.journal.proofs.Ranges.{changes_same}
use Rattle.journal.proofs.States.{among_open, among_both, on_disk}
use Rattle.journal.proofs.places.shut_behind.Goals as goal

pub returns-clause-shut : goal.returns-clause-shut
returns-clause-shut g c durable honest v all put =
    let now : IsOpen v (g.D.Disk.bytes c.args.disk.now) = all _ (g.met.D.Disk.read_is_left c.args.disk.now durable) in
    let both : Always (g.D.Disk.may_leave c.sync.new.self) (IsBoth v v) =
    on_disk (IsBoth v v) _ _ _ refl (c.in_ok-sync.ensures.durable durable) (record { places = put; ready = now.ready }) in
    c.shut_gate.ensures.shut durable honest v v both

pub returns-in_err-sync-clause-keeps : goal.returns-in_err-sync-clause-keeps
returns-in_err-sync-clause-keeps g c durable honest x y v one all put =
    let kept =
    calm g.D.Disk.moment g.D.Disk.left_since g.D.Disk.may_leave (λ d b left. g.met.D.Disk.only_now d b durable left)
    c.args.disk.now c.sync.new.self (IsOpen v) (c.sync.ensures.crash durable) (c.sync.ensures.time durable) all in (
      λ d left. among_open x y v one d (kept.0 d left),
      weaker g.D.Disk.moment g.D.Disk.left_since c.args.disk.now c.sync.new.self (IsOpen v) (IsAmong x y) (among_open x y v one) kept.1,
    )

pub returns-clause-keeps : goal.returns-clause-keeps
returns-clause-keeps g c durable honest x y v one all put =
    let now : IsOpen v (g.D.Disk.bytes c.args.disk.now) = all _ (g.met.D.Disk.read_is_left c.args.disk.now durable) in
    let both : Always (g.D.Disk.may_leave c.sync.new.self) (IsBoth v v) =
    on_disk (IsBoth v v) _ _ _ refl (c.in_ok-sync.ensures.durable durable) (record { places = put; ready = now.ready }) in
    let kept =
    calm g.D.Disk.moment g.D.Disk.left_since g.D.Disk.may_leave (λ d b left. g.met.D.Disk.only_now d b durable left)
    c.args.disk.now c.sync.new.self (IsOpen v) (c.sync.ensures.crash durable) (c.sync.ensures.time durable) all in
    let last = c.shut_gate.ensures.keeps durable v v both in (
      λ d left. among_both x y v v one one d (last.0 d left),
      joined g.D.Disk.moment g.D.Disk.left_since c.args.disk.now c.sync.new.self c.shut_gate.new.disk (IsAmong x y)
          (weaker g.D.Disk.moment g.D.Disk.left_since c.args.disk.now c.sync.new.self (IsOpen v) (IsAmong x y) (among_open x y v one) kept.1)
          (weaker g.D.Disk.moment g.D.Disk.left_since c.sync.new.self c.shut_gate.new.disk (IsBoth v v) (IsAmong x y) (among_both x y v v one one) last.1),
    )

pub returns-clause-only : goal.returns-clause-only
returns-clause-only g c durable honest = c.shut_gate.ensures.only durable honest

pub returns-in_err-sync-clause-changes : goal.returns-in_err-sync-clause-changes
returns-in_err-sync-clause-changes g c honest some = changes_same 24 1 _ _ (c.sync.ensures.same honest)

pub returns-clause-changes : goal.returns-clause-changes
returns-clause-changes g c honest some =
    let same = c.sync.ensures.same honest in
    let size : length (g.D.Disk.bytes c.sync.new.self) ≡ length (g.D.Disk.bytes c.args.disk.now) = ap (λ (b : List ℕ). length b) same in
    subst (λ (b : List ℕ). ChangesOnly 24 1 b (g.D.Disk.bytes c.shut_gate.new.disk)) same (c.shut_gate.ensures.changes honest (omega (arith, some, size)))
