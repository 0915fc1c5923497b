use Rattle.std.proofs.Common.{◌∙◌, ◌⊎◌, [], subst, inl, inr}
use Rattle.std.proofs.lemmas.Result.{err_from_is_err_and}
use Rattle.disk.specs.Crashes.{Always, Bytes}
use Rattle.disk.specs.Keeping.{calm, joined, weaker}
use Rattle.pagefile.specs.Whole.{IsPartlyMade}
use Rattle.journal.proofs.States.{err_as}
use Rattle.journal.proofs.creating.create.Goals as goal

pub returns-in_err-sync-clause-any_moment : goal.returns-in_err-sync-clause-any_moment
returns-in_err-sync-clause-any_moment g c durable honest none =
    let waits =
    calm g.D.Disk.moment g.D.Disk.left_since g.D.Disk.may_leave (λ d b left. g.met.D.Disk.only_now d b durable left)
    c.args.disk.now c.sync.new.self (g.D.Disk.may_leave c.args.disk.now) (c.sync.ensures.crash durable) (c.sync.ensures.time durable) (λ b left. left) in
    weaker g.D.Disk.moment g.D.Disk.left_since c.args.disk.now c.sync.new.self (g.D.Disk.may_leave c.args.disk.now)
    (λ (b : Bytes). g.D.Disk.may_leave c.args.disk.now b ⊎ IsPartlyMade [] b) (λ b left. inl left) waits.1

pub returns-clause-any_moment : goal.returns-clause-any_moment
returns-clause-any_moment g c durable honest none =
    let P = λ (b : Bytes). g.D.Disk.may_leave c.args.disk.now b ⊎ IsPartlyMade [] b in
    let waits =
    calm g.D.Disk.moment g.D.Disk.left_since g.D.Disk.may_leave (λ d b left. g.met.D.Disk.only_now d b durable left)
    c.args.disk.now c.sync.new.self (g.D.Disk.may_leave c.args.disk.now) (c.sync.ensures.crash durable) (c.sync.ensures.time durable) (λ b left. left) in
    let begun : Always (g.D.Disk.may_leave c.sync.new.self) (IsPartlyMade []) = λ b left. inl (c.in_ok-sync.ensures.durable durable b left ∙ none) in
    let kept = c.write_first.ensures.keeps durable honest begun in
    joined g.D.Disk.moment g.D.Disk.left_since c.args.disk.now c.sync.new.self c.write_first.new.disk P
    (weaker g.D.Disk.moment g.D.Disk.left_since c.args.disk.now c.sync.new.self (g.D.Disk.may_leave c.args.disk.now) P (λ b left. inl left) waits.1)
    (weaker g.D.Disk.moment g.D.Disk.left_since c.sync.new.self c.write_first.new.disk (IsPartlyMade []) P (λ b made. inr made) kept.1)

pub returns-clause-left : goal.returns-clause-left
returns-clause-left g c =
    err_as c.write_first.result
    (λ left honest. subst (λ (b : Bytes). IsPartlyMade b (g.D.Disk.bytes c.write_first.new.disk)) (c.sync.ensures.same honest) (left honest))
    c.write_first.ensures.left

pub returns-in_err-sync-clause-left : goal.returns-in_err-sync-clause-left
returns-in_err-sync-clause-left g c =
    let p = err_from_is_err_and c.from_residual.result c.from_residual.ensures.1 in
    rw p.1 (λ honest. inl (c.sync.ensures.same honest))
