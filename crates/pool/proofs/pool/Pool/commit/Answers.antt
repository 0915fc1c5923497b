use Rattle.std.proofs.Common.{◌≡◌, ◌∙◌, ℕ, ◌-◌, ◌^◌, ◌≤◌, List, true, false, refl, sym, ap, arith}
use Rattle.journal.specs.Versions.{committed}
use Rattle.last_version.proofs.LastLemmas.{is_calm}
use Rattle.pool.specs.Pages.{pages_in}
use Rattle.pool.specs.Versions.{Versions, version_of, refused_of, is_broken}
use Rattle.pool.proofs.RefusalLemmas.{of_device_commit, of_device_less, device_not_kept, commit_weaker}
use Rattle.std.specs.Prelude.{IsTrue}
use Rattle.journal.proofs.Finding.{if_err}
use Rattle.pool.specs.Follows.{MayFollow}
use Rattle.pool.specs.Refused.{CommitRefused}
use Rattle.pool.specs.Versions.{NeedsImages, versions_of}
use Rattle.pool.proofs.pool.Pool.commit.Goals as goal

pub returns-then-is_broken-clause-pins : goal.returns-then-is_broken-clause-pins
returns-then-is_broken-clause-pins g c = ap (λ (v : Versions). v.pins) c.refuse.ensures.versions

pub returns-then-is_broken-clause-fewer : goal.returns-then-is_broken-clause-fewer
returns-then-is_broken-clause-fewer g c = λ n none. let same = c.refuse.ensures.same n in omega (arith, same)

pub returns-then-is_broken-clause-untouched : goal.returns-then-is_broken-clause-untouched
returns-then-is_broken-clause-untouched g c = λ is. c.refuse.ensures.device

pub returns-then-is_broken-clause-refusal : goal.returns-then-is_broken-clause-refusal
returns-then-is_broken-clause-refusal g c = of_device_commit _ _ _ (refused_of c.args.self.now) (refused_of c.refuse.new.self) c.refuse.result c.refuse.ensures.refusal

pub returns-then-is_broken-clause-rising : goal.returns-then-is_broken-clause-rising
returns-then-is_broken-clause-rising g c = of_device_less (refused_of c.args.self.now) (refused_of c.refuse.new.self) c.refuse.result c.refuse.ensures.refusal

pub returns-then-is_broken-clause-idle : goal.returns-then-is_broken-clause-idle
returns-then-is_broken-clause-idle g c = λ none. ap g.D.Disk.writes c.refuse.ensures.device

pub returns-then-is_broken-clause-any_moment : goal.returns-then-is_broken-clause-any_moment
returns-then-is_broken-clause-any_moment g c = λ durable honest whole count may.
    let bad : true ≡ false = sym c.if-is_broken.true ∙ c.is_broken.ensures ∙ whole in cc

pub returns-in-Err-clause-any_moment : goal.returns-in-Err-clause-any_moment
returns-in-Err-clause-any_moment g c = λ durable honest whole count may.
    is_calm c.args.self.now.file honest whole (λ d b durable left. g.met.D.Disk.only_now d b durable left) (committed (version_of c.args.self.now) c.args.set count) durable

pub returns-in-Ok-clause-refusal : goal.returns-in-Ok-clause-refusal
returns-in-Ok-clause-refusal g c =
    let a = refused_of c.args.self.now in
    let b = refused_of c.commit_numbers.new.self in
    let Harm : Type 0 = IsTrue g.D.Disk.is_honest → MayFollow (pages_in c.args.set) ((versions_of c.args.self.now).pages (versions_of c.args.self.now).last) → ⊥ in
    let Needs = NeedsImages c.args.self.now (pages_in c.args.set) in
    let End : Type 0 = (versions_of c.args.self.now).last ≡ 2 ^ 64 - 1 in
    if_err (CommitRefused ⊥ Needs Harm a b) (CommitRefused End Needs Harm a b) c.commit_numbers.result (λ e h. commit_weaker Needs Harm End a b e h) c.commit_numbers.ensures.refusal

pub returns-in-Ok-clause-any_moment : goal.returns-in-Ok-clause-any_moment
returns-in-Ok-clause-any_moment g c = λ durable honest whole count may. c.commit_numbers.ensures.any_moment durable honest count may

pub returns-then-has_ended-clause-any_moment : goal.returns-then-has_ended-clause-any_moment
returns-then-has_ended-clause-any_moment g c = λ durable honest whole count may.
    is_calm c.args.self.now.file honest whole (λ d b durable left. g.met.D.Disk.only_now d b durable left) (committed (version_of c.args.self.now) c.args.set count) durable

pub returns-then-has_ended-clause-refusal : goal.returns-then-has_ended-clause-refusal
returns-then-has_ended-clause-refusal g c = c.has_ended.ensures.ended c.if-has_ended.true

pub commit_numbers-requires-clause-numbered : goal.commit_numbers-requires-clause-numbered
commit_numbers-requires-clause-numbered g c = c.has_ended.ensures.more c.if-has_ended.false
