use Rattle.std.proofs.Common.{◌≡◌, ◌∙◌, ◌-◌, ◌^◌, subst}
use Rattle.std.specs.Prelude.{IsTrue}
use Rattle.pool.specs.Pages.{PageMap, over, known}
use Rattle.pool.specs.Refused.{CommitRefused}
use Rattle.pool.specs.Follows.{MayFollow}
use Rattle.pool.specs.Versions.{NeedsImages, versions_of, refused_of}
use Rattle.pool.proofs.PoolLemmas.{known_at}
use Rattle.overlay.specs.Whole.{IsWhole}
use Rattle.overlay.specs.WriteSet.{private_of}
use Rattle.overlay.proofs.FollowLemmas.{whole_follows, harm_of}
use Rattle.overlay.proofs.commits.commit.Goals as goal

pub returns-in-Ok-commit-clause-written : goal.returns-in-Ok-commit-clause-written
returns-in-Ok-commit-clause-written g c =
    subst (λ (p : PageMap). (versions_of c.commit.new.self).pages (versions_of c.commit.new.self).last
    ≡ known g.D.Disk.is_honest (over p ((versions_of c.args.pool.now).pages (versions_of c.args.pool.now).last))) c.in-Ok.ensures.pages c.in-Ok-commit.ensures.written

pub returns-in-Err-commit-clause-refusal : goal.returns-in-Err-commit-clause-refusal
returns-in-Err-commit-clause-refusal g c =
    let last = (versions_of c.args.pool.now).pages (versions_of c.args.pool.now).last in
    harm_of ((versions_of c.args.pool.now).last ≡ 2 ^ 64 - 1) (NeedsImages c.args.pool.now (private_of c.args.changes.now))
    (IsTrue g.D.Disk.is_honest → MayFollow (private_of c.args.changes.now) last → ⊥) (IsTrue g.D.Disk.is_honest → IsWhole (over (private_of c.args.changes.now) last) → ⊥)
    (refused_of c.args.pool.now) (refused_of c.commit.new.self) c.in-Err-commit.error (λ harm honest whole. harm honest (whole_follows (private_of c.args.changes.now) last whole))
    (subst (λ (p : PageMap). CommitRefused ((versions_of c.args.pool.now).last ≡ 2 ^ 64 - 1) (NeedsImages c.args.pool.now p)
    (IsTrue g.D.Disk.is_honest → MayFollow p last → ⊥) (refused_of c.args.pool.now) (refused_of c.commit.new.self) c.in-Err-commit.error) c.in-Ok.ensures.pages c.in-Err-commit.ensures.refusal)

pub returns-in-Ok-commit-clause-idle : goal.returns-in-Ok-commit-clause-idle
returns-in-Ok-commit-clause-idle g c = λ none. c.commit.ensures.idle (c.in-Ok.ensures.pages ∙ none)

pub returns-in-Err-commit-clause-idle : goal.returns-in-Err-commit-clause-idle
returns-in-Err-commit-clause-idle g c = λ none. c.commit.ensures.idle (c.in-Ok.ensures.pages ∙ none)
