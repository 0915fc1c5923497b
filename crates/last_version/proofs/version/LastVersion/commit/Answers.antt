use Rattle.std.proofs.Common.{Contains, ◌≡◌, ◌∙◌, ℕ, List, length, sym, ap, subst, arith}
use Rattle.std.specs.Prelude.{IsTrue}
use Rattle.journal.specs.Versions.{Version, HasPage, IsCommittable, committed, laid}
use Rattle.journal.proofs.States.{on_ok}
use Rattle.page_cache.specs.Cached.{frames_in}
use Rattle.last_version.specs.Gates as gate
use Rattle.last_version.specs.Standing.{StandsAs, version_of, shown_in, waits_in, pages_below}
use Rattle.last_version.proofs.StandingLemmas.{either, on_err, on_ok_two, on_err_two}
use Rattle.last_version.proofs.HoldLemmas.{shown_stands, file_now}
use Rattle.last_version.proofs.ShownLemmas.{clean_as, clean_committed, clean_gone, shown_as, risen_on, whole_answers}
use Rattle.last_version.proofs.version.LastVersion.commit.Goals as goal

pub invariant_of-self : goal.invariant_of-self
invariant_of-self g c =
    let old = c.args.self.now.file in
    let new = c.commit.new.self in
    let gone : (n : ℕ) (page : List ℕ) → Contains (frames_in c.forget_all.new.cache) (n, page) → (HasPage n c.args.images → ⊥) × Contains (frames_in c.args.self.now.cache) (n, page) =
    λ n page has. subst (λ (l : List (ℕ × List ℕ)). (HasPage n l → ⊥) × Contains (frames_in c.args.self.now.cache) (n, page)) c.as_slice.ensures (c.forget_all.ensures.gone n page has) in
    record {
      stands = λ honest.
          either c.commit.result
          (on_ok c.commit.result
          (λ (done : IsTrue g.D.Disk.is_honest → (v : Version) → StandsAs old v → IsCommittable v c.args.images c.args.count → StandsAs new (committed v c.args.images c.args.count)).
          file_now new (committed (version_of old) c.args.images c.args.count) honest (done honest (version_of old) (c.args.self.now.stands honest) (c.requires.fits honest)))
          c.commit.ensures.committed)
          (on_err c.commit.result
          (λ (left : IsTrue g.D.Disk.is_honest → (v : Version) → StandsAs old v → IsCommittable v c.args.images c.args.count → StandsAs new v).
          file_now new (version_of old) honest (left honest (version_of old) (c.args.self.now.stands honest) (c.requires.fits honest)))
          c.commit.ensures.left);
      clean = λ honest.
          either c.commit.result
          (on_ok_two c.commit.result
          (λ (done : IsTrue g.D.Disk.is_honest → (v : Version) → StandsAs old v → IsCommittable v c.args.images c.args.count → StandsAs new (committed v c.args.images c.args.count))
          (same : new.count ≡ c.args.count).
          let s = done honest (version_of old) (c.args.self.now.stands honest) (c.requires.fits honest) in
          clean_committed c.args.images old.count new.count (version_of old).pages (version_of new).pages
          (frames_in c.args.self.now.cache) (frames_in c.forget_all.new.cache) (let grows = (c.requires.fits honest).grows in omega (arith, grows, same))
          s.pages gone (c.args.self.now.clean honest))
          c.commit.ensures.committed c.commit.ensures.pages)
          (on_err_two c.commit.result
          (λ (left : IsTrue g.D.Disk.is_honest → (v : Version) → StandsAs old v → IsCommittable v c.args.images c.args.count → StandsAs new v)
          (same : new.count ≡ old.count).
          clean_as (shown_in old) (shown_in new) (frames_in c.forget_all.new.cache)
          (shown_stands old new same (left honest (version_of old) (c.args.self.now.stands honest) (c.requires.fits honest)))
          (clean_gone c.args.images (shown_in old) (frames_in c.args.self.now.cache) (frames_in c.forget_all.new.cache) gone (c.args.self.now.clean honest)))
          c.commit.ensures.left c.commit.ensures.same_pages);
      few = c.commit.ensures.small c.args.self.now.few;
      some =
          either c.commit.result
          (on_ok c.commit.result (λ (same : new.count ≡ c.args.count). let some = c.requires.grows in omega (arith, same, some)) c.commit.ensures.pages)
          (on_err c.commit.result (λ (same : new.count ≡ old.count). let some = c.args.self.now.some in omega (arith, same, some)) c.commit.ensures.same_pages);
    }

pub returns-in-Ok-clause-count : goal.returns-in-Ok-clause-count
returns-in-Ok-clause-count g c = let same = c.in-Ok.ensures.count in let now = c.commit.ensures.answered in let was = whole_answers c.args.self.now.file.gate c.requires.whole in omega (arith, same, now, was)

pub returns-in-Err-clause-count : goal.returns-in-Err-clause-count
returns-in-Err-clause-count g c =
    risen_on (g.D.Disk.refused c.args.self.now.file.disk) (g.D.Disk.refused c.commit.new.self.disk) (gate.answered_in c.args.self.now.file.gate) (gate.answered_in c.commit.new.self.gate)
    (c.commit.ensures.answered ∙ sym (whole_answers c.args.self.now.file.gate c.requires.whole)) c.in-Err.ensures.count

pub returns-in-Ok-clause-shown : goal.returns-in-Ok-clause-shown
returns-in-Ok-clause-shown g c = λ honest n.
    let s = c.in-Ok.ensures.committed honest (version_of c.args.self.now.file) (c.args.self.now.stands honest) (c.requires.fits honest) in
    shown_as c.commit.new.self.count (version_of c.commit.new.self).pages (laid c.args.images (version_of c.args.self.now.file).pages) s.pages n
    ∙ ap (λ (k : ℕ). pages_below k (laid c.args.images (version_of c.args.self.now.file).pages) n) c.in-Ok.ensures.pages

pub returns-in-Err-clause-same : goal.returns-in-Err-clause-same
returns-in-Err-clause-same g c = λ honest.
    shown_stands c.args.self.now.file c.commit.new.self c.in-Err.ensures.same_pages
    (c.in-Err.ensures.left honest (version_of c.args.self.now.file) (c.args.self.now.stands honest) (c.requires.fits honest))

pub returns-in-Ok-clause-any_moment : goal.returns-in-Ok-clause-any_moment
returns-in-Ok-clause-any_moment g c = λ durable honest.
    c.commit.ensures.any_moment durable honest (version_of c.args.self.now.file) (c.args.self.now.stands honest) (c.requires.fits honest)

pub returns-in-Err-clause-any_moment : goal.returns-in-Err-clause-any_moment
returns-in-Err-clause-any_moment g c = λ durable honest.
    c.commit.ensures.any_moment durable honest (version_of c.args.self.now.file) (c.args.self.now.stands honest) (c.requires.fits honest)

pub returns-in-Ok-clause-left : goal.returns-in-Ok-clause-left
returns-in-Ok-clause-left g c = ap (λ (l : List (ℕ × List ℕ)). length l) c.in-Ok.ensures.set

pub returns-in-Ok-clause-waits : goal.returns-in-Ok-clause-waits
returns-in-Ok-clause-waits g c = λ n. ap (λ (l : List (ℕ × List ℕ)). waits_in l n) c.in-Ok.ensures.set
