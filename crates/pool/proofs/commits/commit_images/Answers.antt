use Rattle.std.proofs.Common.{◌≡◌, ◌∙◌, ℕ, ◌≤◌, List, Option, Some, None, IsSome, [], refl, sym, ap, subst, inl, true, false, arith}
use Rattle.std.specs.Prelude.{IsTrue}
use Rattle.journal.specs.Versions.{committed, laid}
use Rattle.journal.proofs.States.{on_ok}
use Rattle.last_version.specs.Lasts.{version_under, shown_by, waits_at}
use Rattle.last_version.specs.Standing.{pages_below, waits_in}
use Rattle.last_version.proofs.StandingLemmas.{on_err}
use Rattle.last_version.proofs.LastLemmas.{is_calm}
use Rattle.last_version.proofs.ShownLemmas.{waits_has, waits_none}
use Rattle.pool.specs.Pages.{over, pages_in}
use Rattle.pool.proofs.SetLemmas.{not_some}
use Rattle.pool.proofs.LaidLemmas.{committable, shown_over, has_in, has_none, either_fewer}
use Rattle.pool.proofs.commits.commit_images.Goals as goal

pub commit-requires-clause-fits : goal.commit-requires-clause-fits
commit-requires-clause-fits g c = λ honest. committable (version_under c.args.file.now) c.args.images c.args.count c.requires.rising c.args.file.now.some c.requires.covered

pub commit-requires-clause-grows : goal.commit-requires-clause-grows
commit-requires-clause-grows g c = let some = c.args.file.now.some in let grows = c.requires.covered.grows in omega (arith, some, grows)

pub returns-then-is_empty-clause-any_moment : goal.returns-then-is_empty-clause-any_moment
returns-then-is_empty-clause-any_moment g c = λ durable honest may.
    is_calm c.args.file.now honest c.requires.whole (λ d b durable left. g.met.D.Disk.only_now d b durable left) (committed (version_under c.args.file.now) c.args.images c.args.count) durable

pub returns-then-is_empty-clause-waits : goal.returns-then-is_empty-clause-waits
returns-then-is_empty-clause-waits g c = λ n there.
    absurd (not_some (subst (λ (l : List (ℕ × List ℕ)). IsSome (pages_in l n)) (c.is_empty.ensures.0 c.if-is_empty.true) there))

pub returns-then-is_empty-clause-shown : goal.returns-then-is_empty-clause-shown
returns-then-is_empty-clause-shown g c = λ honest n.
    sym (ap (λ (l : List (ℕ × List ℕ)). over (pages_in l) (shown_by c.args.file.now) n) (c.is_empty.ensures.0 c.if-is_empty.true))

pub returns-clause-idle : goal.returns-clause-idle
returns-clause-idle g c = λ none. let bad : false ≡ true = sym c.if-is_empty.false ∙ c.is_empty.ensures.1 none in absurd (cc)

pub returns-clause-waits : goal.returns-clause-waits
returns-clause-waits g c =
    on_ok c.commit.result
    (λ (waits : (n : ℕ) → waits_at c.commit.new.self n ≡ waits_in c.args.images n). λ n there. waits n ∙ waits_has c.args.images n (has_in c.args.images n there))
    c.commit.ensures.waits

pub returns-clause-fewer : goal.returns-clause-fewer
returns-clause-fewer g c = λ n none.
    either_fewer c.commit.result (waits_at c.commit.new.self n) (waits_at c.args.file.now n)
    (on_ok c.commit.result (λ (waits : (n : ℕ) → waits_at c.commit.new.self n ≡ waits_in c.args.images n). waits n ∙ waits_none c.args.images n (has_none c.args.images n none)) c.commit.ensures.waits)
    (on_err c.commit.result (λ (fewer : (n : ℕ) → waits_at c.commit.new.self n ≤ waits_at c.args.file.now n). fewer n) c.commit.ensures.fewer)

pub returns-clause-shown : goal.returns-clause-shown
returns-clause-shown g c =
    on_ok c.commit.result
    (λ (shown : IsTrue g.D.Disk.is_honest → (n : ℕ) → shown_by c.commit.new.self n ≡ pages_below c.args.count (laid c.args.images (version_under c.args.file.now).pages) n). λ honest n. shown honest n
    ∙ shown_over (version_under c.args.file.now) c.args.images c.args.count
    (committable (version_under c.args.file.now) c.args.images c.args.count c.requires.rising c.args.file.now.some c.requires.covered) c.requires.sized c.requires.zeros n)
    c.commit.ensures.shown

pub returns-clause-any_moment : goal.returns-clause-any_moment
returns-clause-any_moment g c = λ durable honest may. c.commit.ensures.any_moment durable honest
