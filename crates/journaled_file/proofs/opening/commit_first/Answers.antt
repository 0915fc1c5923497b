use Rattle.std.proofs.Common.{◌≡◌, ◌∙◌, [], ◌∷◌, ℕ, List, refl, sym, subst, inl}
use Rattle.disk.specs.Crashes.{Always, LeavesOnly}
use Rattle.disk.specs.Keeping.{started}
use Rattle.journal.specs.Versions.{IsAmong, IsCommittable, committed}
use Rattle.journal.proofs.States.{among_shut}
use Rattle.journaled_file.specs.Shown.{IsAtRest}
use Rattle.journaled_file.proofs.opening.commit_first.Goals as goal

pub returns-in-Ok-commit_at_rest-clause-rest : goal.returns-in-Ok-commit_at_rest-clause-rest
returns-in-Ok-commit_at_rest-clause-rest g c = λ was v r may.
    let set : c.as_slice.result.now ≡ (0, c.args.page.now) ∷ [] = c.as_slice.ensures ∙ c.in-Ok.ensures in
    subst
    (λ (s : List (ℕ × List ℕ)). IsAtRest g.D.Disk.is_honest g.D.Disk.is_durable c.args.count (g.D.Disk.bytes c.commit_at_rest.new.disk)
    (g.D.Disk.may_leave c.commit_at_rest.new.disk) (committed v s c.args.count)) set
    (c.in-Ok-commit_at_rest.ensures.rest was v r (subst (λ (s : List (ℕ × List ℕ)). IsCommittable v s c.args.count) (sym set) may))

pub returns-in-Ok-commit_at_rest-clause-keeps : goal.returns-in-Ok-commit_at_rest-clause-keeps
returns-in-Ok-commit_at_rest-clause-keeps g c durable honest was v r may =
    let set : c.as_slice.result.now ≡ (0, c.args.page.now) ∷ [] = c.as_slice.ensures ∙ c.in-Ok.ensures in
    subst
    (λ (s : List (ℕ × List ℕ)). Always (g.D.Disk.may_leave c.commit_at_rest.new.disk) (IsAmong v (committed v s c.args.count))
    × LeavesOnly g.D.Disk.moment g.D.Disk.left_since c.args.disk.now c.commit_at_rest.new.disk (IsAmong v (committed v s c.args.count))) set
    (c.commit_at_rest.ensures.keeps durable honest was v r (subst (λ (s : List (ℕ × List ℕ)). IsCommittable v s c.args.count) (sym set) may))

pub returns-in-Ok-clause-keeps : goal.returns-in-Ok-clause-keeps
returns-in-Ok-clause-keeps g c durable honest was v r may =
    let set : c.as_slice.result.now ≡ (0, c.args.page.now) ∷ [] = c.as_slice.ensures ∙ c.in-Ok.ensures in
    subst
    (λ (s : List (ℕ × List ℕ)). Always (g.D.Disk.may_leave c.commit_at_rest.new.disk) (IsAmong v (committed v s c.args.count))
    × LeavesOnly g.D.Disk.moment g.D.Disk.left_since c.args.disk.now c.commit_at_rest.new.disk (IsAmong v (committed v s c.args.count))) set
    (c.commit_at_rest.ensures.keeps durable honest was v r (subst (λ (s : List (ℕ × List ℕ)). IsCommittable v s c.args.count) (sym set) may))

pub returns-clause-keeps : goal.returns-clause-keeps
returns-clause-keeps g c durable honest was v r may =
    let new = committed v ((0, c.args.page.now) ∷ []) c.args.count in
    let all = r.shut durable honest in (
      λ d left. among_shut v new v (inl refl) d (all d left),
      started g.D.Disk.moment g.D.Disk.left_since c.args.disk.now (IsAmong v new)
          (λ d left. among_shut v new v (inl refl) d (all d (g.met.D.Disk.only_now c.args.disk.now d durable left))),
    )
