use Rattle.std.proofs.Common.{◌≡◌, ◌∙◌, ◌*◌, ℕ, List, length, ap, subst, arith}
use Rattle.disk.specs.Contents.{resized, IsEitherLength}
use Rattle.disk.specs.Keeping.{calm, then}
use Rattle.disk.proofs.ContentsLemmas.{length_resized}
use Rattle.journal.specs.Versions.{IsShut}
use Rattle.journal.proofs.States.{ok_any, err_any, shut_cut}
use Rattle.journal.proofs.Steps.{length_set}
use Rattle.journaled_file.proofs.Showing.{cut_at_rest}
use Rattle.journaled_file.proofs.Shutting.{cut_left}
use Rattle.journaled_file.proofs.steps.cut_to.Goals as goal

pub returns-in_err-set_len-clause-keeps : goal.returns-in_err-set_len-clause-keeps
returns-in_err-set_len-clause-keeps g c durable some v far =
    let wanted : c.args.count * 4096 ≡ 4096 * c.args.count = omega arith in
    length_set g.D.Disk.moment g.D.Disk.left_since g.D.Disk.may_leave g.D.Disk.bytes (λ d b left. g.met.D.Disk.only_now d b durable left)
    c.args.disk.now c.set_len.new.self (IsShut v) (4096 * c.args.count) _ wanted
    (c.set_len.ensures.crash durable) (c.set_len.ensures.time durable) (shut_cut v c.args.count far some)

pub returns-clause-keeps : goal.returns-clause-keeps
returns-clause-keeps g c durable some v far =
    let wanted : c.args.count * 4096 ≡ 4096 * c.args.count = omega arith in
    then g.D.Disk.moment g.D.Disk.left_since g.D.Disk.may_leave c.args.disk.now c.set_len.new.self c.sync.new.self (IsShut v)
    (length_set g.D.Disk.moment g.D.Disk.left_since g.D.Disk.may_leave g.D.Disk.bytes (λ d b left. g.met.D.Disk.only_now d b durable left)
    c.args.disk.now c.set_len.new.self (IsShut v) (4096 * c.args.count) _ wanted
    (c.set_len.ensures.crash durable) (c.set_len.ensures.time durable) (shut_cut v c.args.count far some))
    (calm g.D.Disk.moment g.D.Disk.left_since g.D.Disk.may_leave (λ d b left. g.met.D.Disk.only_now d b durable left)
    c.set_len.new.self c.sync.new.self (IsShut v) (c.sync.ensures.crash durable) (c.sync.ensures.time durable))

pub returns-clause-size : goal.returns-clause-size
returns-clause-size g c =
    ok_any c.sync.result
    (λ honest.
    let wanted : c.args.count * 4096 ≡ 4096 * c.args.count = omega arith in
    ap (λ (b : List ℕ). length b) (c.sync.ensures.same honest ∙ c.in_ok-set_len.ensures.resized honest) ∙ length_resized _ _ ∙ wanted)

pub returns-clause-rest : goal.returns-clause-rest
returns-clause-rest g c =
    ok_any c.sync.result
    (λ v r.
    let wanted : c.args.count * 4096 ≡ 4096 * c.args.count = omega arith in
    cut_at_rest g.D.Disk.is_honest g.D.Disk.is_durable c.args.count (g.D.Disk.bytes c.args.disk.now) (g.D.Disk.bytes c.sync.new.self)
    (g.D.Disk.may_leave c.args.disk.now) (g.D.Disk.may_leave c.sync.new.self) v r
    (λ honest.
    c.sync.ensures.same honest ∙ c.in_ok-set_len.ensures.resized honest ∙ ap (λ (k : ℕ). resized (g.D.Disk.bytes c.args.disk.now) k) wanted)
    (λ durable honest.
    (then g.D.Disk.moment g.D.Disk.left_since g.D.Disk.may_leave c.args.disk.now c.set_len.new.self c.sync.new.self (IsShut v)
    (length_set g.D.Disk.moment g.D.Disk.left_since g.D.Disk.may_leave g.D.Disk.bytes (λ d b left. g.met.D.Disk.only_now d b durable left)
    c.args.disk.now c.set_len.new.self (IsShut v) (4096 * c.args.count) _ wanted
    (c.set_len.ensures.crash durable) (c.set_len.ensures.time durable) (shut_cut v c.args.count (omega (arith, r.many)) r.some))
    (calm g.D.Disk.moment g.D.Disk.left_since g.D.Disk.may_leave (λ d b left. g.met.D.Disk.only_now d b durable left)
    c.set_len.new.self c.sync.new.self (IsShut v) (c.sync.ensures.crash durable) (c.sync.ensures.time durable)) (r.shut durable honest)).0))

pub returns-in_err-set_len-clause-left : goal.returns-in_err-set_len-clause-left
returns-in_err-set_len-clause-left g c =
    err_any c.from_residual.result
    (λ v r.
    let wanted : c.args.count * 4096 ≡ 4096 * c.args.count = omega arith in
    cut_left g.D.Disk.is_honest g.D.Disk.is_durable c.args.count (g.D.Disk.bytes c.args.disk.now) (g.D.Disk.bytes c.set_len.new.self)
    (g.D.Disk.may_leave c.args.disk.now) (g.D.Disk.may_leave c.set_len.new.self) v r
    (λ honest. subst (λ (k : ℕ). IsEitherLength k (g.D.Disk.bytes c.args.disk.now) (g.D.Disk.bytes c.set_len.new.self)) wanted (c.in_err-set_len.ensures.either honest))
    (λ durable honest.
    (length_set g.D.Disk.moment g.D.Disk.left_since g.D.Disk.may_leave g.D.Disk.bytes (λ d b left. g.met.D.Disk.only_now d b durable left)
    c.args.disk.now c.set_len.new.self (IsShut v) (4096 * c.args.count) _ wanted
    (c.set_len.ensures.crash durable) (c.set_len.ensures.time durable) (shut_cut v c.args.count (omega (arith, r.many)) r.some) (r.shut durable honest)).0))

pub returns-clause-left : goal.returns-clause-left
returns-clause-left g c =
    err_any c.sync.result
    (λ v r.
    let wanted : c.args.count * 4096 ≡ 4096 * c.args.count = omega arith in
    cut_at_rest g.D.Disk.is_honest g.D.Disk.is_durable c.args.count (g.D.Disk.bytes c.args.disk.now) (g.D.Disk.bytes c.sync.new.self)
    (g.D.Disk.may_leave c.args.disk.now) (g.D.Disk.may_leave c.sync.new.self) v r
    (λ honest.
    c.sync.ensures.same honest ∙ c.in_ok-set_len.ensures.resized honest ∙ ap (λ (k : ℕ). resized (g.D.Disk.bytes c.args.disk.now) k) wanted)
    (λ durable honest.
    (then g.D.Disk.moment g.D.Disk.left_since g.D.Disk.may_leave c.args.disk.now c.set_len.new.self c.sync.new.self (IsShut v)
    (length_set g.D.Disk.moment g.D.Disk.left_since g.D.Disk.may_leave g.D.Disk.bytes (λ d b left. g.met.D.Disk.only_now d b durable left)
    c.args.disk.now c.set_len.new.self (IsShut v) (4096 * c.args.count) _ wanted
    (c.set_len.ensures.crash durable) (c.set_len.ensures.time durable) (shut_cut v c.args.count (omega (arith, r.many)) r.some))
    (calm g.D.Disk.moment g.D.Disk.left_since g.D.Disk.may_leave (λ d b left. g.met.D.Disk.only_now d b durable left)
    c.set_len.new.self c.sync.new.self (IsShut v) (c.sync.ensures.crash durable) (c.sync.ensures.time durable)) (r.shut durable honest)).0))
