use Rattle.std.proofs.Common.{◌≡◌, ◌∙◌, ℕ, ◌+◌, ◌^◌, ◌<◌, ◌≤◌, ◌==◌, List, IsSome, ap, sym, subst, arith, refl, rules, length, false}
use Rattle.std.specs.Prelude.{sum_by, IsTrue, OnOk}
use Rattle.std.specs.List.{list_any}
use Rattle.std.specs.Option.{is_some}
use Rattle.std.proofs.lemmas.List.{length-map}
use Rattle.disk.specs.Crashes.{Always, LeavesOnly}
use Rattle.journal.specs.Versions.{IsAmong, IsCommittable, committed}
use Rattle.journal.proofs.Finding.{if_err}
use Rattle.last_version.specs.Lasts.{shown_by}
use Rattle.last_version.proofs.LastLemmas.{is_calm}
use Rattle.last_version.proofs.ShownLemmas.{shown_gone}
use Rattle.pool.specs.Follows.{IsCovered, MayFollow}
use Rattle.pool.specs.Images.{needs, pinned_in}
use Rattle.pool.specs.Pages.{known, over, pages_in, numbers_of}
use Rattle.pool.specs.Refused.{IsRefused, CommitRefused}
use Rattle.pool.specs.declared.error.PoolError.{PoolError}
use Rattle.pool.specs.declared.error.PoolError.TheVariants.{Kept}
use Rattle.pool.specs.Versions.{NeedsImages, versions_of, version_of, device_of, count_of, images_of, refused_of, needed_in, unwritten_at}
use Rattle.pool.proofs.LaidLemmas.{committable, one_count}
use Rattle.pool.proofs.PoolLemmas.{follows_shown}
use Rattle.pool.proofs.SetLemmas.{listed_is}
use Rattle.pool.proofs.RefusalLemmas.{never_kept, commit_refused}
use Rattle.pool.proofs.pool.Pool.commit_numbers.Goals as goal

pub returns-then-self-needed-gt-MOST_IMAGES-clause-refusal : goal.returns-then-self-needed-gt-MOST_IMAGES-clause-refusal
returns-then-self-needed-gt-MOST_IMAGES-clause-refusal g c = record {
  numbers = c.args.numbers.now;
  ascend = c.requires.ascend;
  each = λ n. ap (list_any (λ k. k == n)) c.requires.numbers ∙ listed_is c.args.set n;
  more = let needed = (c.count_needed-needed.ensures.needed ∙ (λ i. sum_by (needs (c.count.ensures i) (pinned_in (c.as_slice-2.ensures i)) (c.as_slice.ensures i)) c.args.numbers.now)) in let images = c.args.self.now.few_images.0 in let more = c.if-self-needed-gt-MOST_IMAGES.true in omega (arith, needed, images, more);
}

pub overflow_add-self : goal.overflow_add-self
overflow_add-self g c =
    let few = c.args.self.now.few_images.1 in let most = c.count_needed-needed.ensures.most in
    let long = ap (λ (l : List ℕ). length l) c.requires.numbers in let mapped = length-map c.args.set (λ e. e.0) in let small = c.requires.few in
    let fits : c.args.self.now.images + c.count_needed-needed.result < 2 ^ 32 = omega (arith, few, most, long, mapped, small) in search rules

pub returns-then-self-needed-gt-MOST_IMAGES-clause-any_moment : goal.returns-then-self-needed-gt-MOST_IMAGES-clause-any_moment
returns-then-self-needed-gt-MOST_IMAGES-clause-any_moment g c = λ durable honest count may.
    is_calm c.args.self.now.file honest c.requires.sound (λ d b durable left. g.met.D.Disk.only_now d b durable left) (committed (version_of c.args.self.now) c.args.set count) durable

pub returns-in-Err-clause-any_moment : goal.returns-in-Err-clause-any_moment
returns-in-Err-clause-any_moment g c = λ durable honest count may.
    is_calm c.args.self.now.file honest c.requires.sound (λ d b durable left. g.met.D.Disk.only_now d b durable left) (committed (version_of c.args.self.now) c.args.set count) durable

pub returns-in-None-clause-any_moment : goal.returns-in-None-clause-any_moment
returns-in-None-clause-any_moment g c = λ durable honest count may.
    is_calm c.args.self.now.file honest c.requires.sound (λ d b durable left. g.met.D.Disk.only_now d b durable left) (committed (version_of c.args.self.now) c.args.set count) durable

pub returns-in-None-clause-refusal : goal.returns-in-None-clause-refusal
returns-in-None-clause-refusal g c = λ honest follows.
    c.in-None.ensures.none refl (shown_by c.args.self.now.file)
    (λ n more. shown_gone (count_of c.args.self.now) (version_of c.args.self.now).pages n (let is = c.count-in-Ok.ensures in omega (arith, more, is)))
    (subst (λ (l : List (ℕ × List ℕ)). MayFollow (pages_in l) (shown_by c.args.self.now.file)) (sym (c.as_slice-in-Ok.ensures ∙ c.in-Ok.ensures.same))
    (follows_shown g.D.Disk.is_honest (shown_by c.args.self.now.file) c.args.self.now.slots c.args.self.now.last (pages_in c.args.set) honest c.args.self.now.kept.old follows))

pub commit_within-requires-clause-small : goal.commit_within-requires-clause-small
commit_within-requires-clause-small g c = let same = ap (λ (l : List (ℕ × List ℕ)). length l) c.in-Ok.ensures.same in let few = c.requires.few in omega (arith, same, few)

pub commit_within-requires-clause-numbers : goal.commit_within-requires-clause-numbers
commit_within-requires-clause-numbers g c = c.requires.numbers ∙ ap (λ (l : List (ℕ × List ℕ)). numbers_of l) (sym c.in-Ok.ensures.same)

pub commit_within-requires-clause-covered : goal.commit_within-requires-clause-covered
commit_within-requires-clause-covered g c =
    subst (λ (l : List (ℕ × List ℕ)). IsCovered (count_of c.args.self.now) l c.in-Some.count) c.as_slice-in-Ok.ensures
    (subst (λ (k : ℕ). IsCovered k c.as_slice-in-Ok.result.now c.in-Some.count) c.count-in-Ok.ensures c.in-Some.ensures.some)

pub commit_within-requires-clause-needed : goal.commit_within-requires-clause-needed
commit_within-requires-clause-needed g c = c.count_needed-needed.ensures.needed ∙ (λ i. sum_by (needs (c.count.ensures i) (pinned_in (c.as_slice-2.ensures i)) (c.as_slice.ensures i)) c.args.numbers.now)

pub commit_within-requires-clause-few : goal.commit_within-requires-clause-few
commit_within-requires-clause-few g c = let images = c.args.self.now.few_images.0 in let less = c.if-self-needed-gt-MOST_IMAGES.false in omega (arith, images, less)

pub returns-in-Some-clause-written : goal.returns-in-Some-clause-written
returns-in-Some-clause-written g c =
    subst (λ (l : List (ℕ × List ℕ)). OnOk c.commit_within.result ((versions_of c.commit_within.new.self).pages (versions_of c.commit_within.new.self).last
    ≡ known g.D.Disk.is_honest (over (pages_in l) ((versions_of c.args.self.now).pages (versions_of c.args.self.now).last)))) c.in-Ok.ensures.same c.commit_within.ensures.written

pub returns-in-Some-clause-dirty : goal.returns-in-Some-clause-dirty
returns-in-Some-clause-dirty g c =
    subst (λ (l : List (ℕ × List ℕ)). OnOk c.commit_within.result ((n : ℕ) → IsSome (pages_in l n) → unwritten_at c.commit_within.new.self n ≡ 1)) c.in-Ok.ensures.same c.commit_within.ensures.dirty

pub returns-in-Some-clause-fewer : goal.returns-in-Some-clause-fewer
returns-in-Some-clause-fewer g c =
    subst (λ (l : List (ℕ × List ℕ)). (n : ℕ) → is_some (pages_in l n) ≡ false → unwritten_at c.commit_within.new.self n ≤ unwritten_at c.args.self.now n) c.in-Ok.ensures.same c.commit_within.ensures.fewer

pub returns-in-Some-clause-images : goal.returns-in-Some-clause-images
returns-in-Some-clause-images g c =
    subst (λ (m : ℕ). OnOk c.commit_within.result (images_of c.commit_within.new.self ≡ images_of c.args.self.now + m))
    (c.count_needed-needed.ensures.needed ∙ (λ i. sum_by (needs (c.count.ensures i) (pinned_in (c.as_slice-2.ensures i)) (c.as_slice.ensures i)) c.args.numbers.now)
    ∙ ap (needed_in c.args.self.now) c.requires.numbers) c.commit_within.ensures.images

pub returns-in-Some-clause-untouched : goal.returns-in-Some-clause-untouched
returns-in-Some-clause-untouched g c =
    let a = refused_of c.args.self.now in
    let b = refused_of c.commit_within.new.self in
    if_err (IsRefused ⊥ ⊥ a b) (λ (e : PoolError). e ≡ Kept → device_of c.commit_within.new.self ≡ device_of c.args.self.now) c.commit_within.result
    (λ e h is. absurd (never_kept a b e h is)) c.commit_within.ensures.refusal

pub returns-in-Some-clause-refusal : goal.returns-in-Some-clause-refusal
returns-in-Some-clause-refusal g c =
    let a = refused_of c.args.self.now in
    let b = refused_of c.commit_within.new.self in
    let Harm : Type 0 = IsTrue g.D.Disk.is_honest → MayFollow (pages_in c.args.set) ((versions_of c.args.self.now).pages (versions_of c.args.self.now).last) → ⊥ in
    if_err (IsRefused ⊥ ⊥ a b) (CommitRefused ⊥ (NeedsImages c.args.self.now (pages_in c.args.set)) Harm a b) c.commit_within.result
    (λ e h. commit_refused ⊥ (NeedsImages c.args.self.now (pages_in c.args.set)) Harm a b e h) c.commit_within.ensures.refusal

pub returns-in-Some-clause-idle : goal.returns-in-Some-clause-idle
returns-in-Some-clause-idle g c = λ none. c.commit_within.ensures.idle (ap (λ (l : List (ℕ × List ℕ)). pages_in l) c.in-Ok.ensures.same ∙ none)

pub returns-in-Some-clause-any_moment : goal.returns-in-Some-clause-any_moment
returns-in-Some-clause-any_moment g c = λ durable honest count may.
    let v = version_of c.args.self.now in
    let new = c.in-Some.count in
    let covered = subst (λ (l : List (ℕ × List ℕ)). IsCovered (count_of c.args.self.now) l new) c.as_slice-in-Ok.ensures
    (subst (λ (k : ℕ). IsCovered k c.as_slice-in-Ok.result.now new) c.count-in-Ok.ensures c.in-Some.ensures.some) in
    let fits = committable v c.in-Ok.images new c.in-Ok.ensures.rising c.args.self.now.file.some covered in
    let same : new ≡ count = one_count v c.args.set new count (subst (λ (l : List (ℕ × List ℕ)). IsCommittable v l new) c.in-Ok.ensures.same fits) may in
    subst (λ (k : ℕ). Always (g.D.Disk.may_leave (device_of c.commit_within.new.self)) (IsAmong v (committed v c.args.set k))
    × LeavesOnly g.D.Disk.moment g.D.Disk.left_since (device_of c.args.self.now) (device_of c.commit_within.new.self) (IsAmong v (committed v c.args.set k))) same
    (subst (λ (l : List (ℕ × List ℕ)). Always (g.D.Disk.may_leave (device_of c.commit_within.new.self)) (IsAmong v (committed v l new))
    × LeavesOnly g.D.Disk.moment g.D.Disk.left_since (device_of c.args.self.now) (device_of c.commit_within.new.self) (IsAmong v (committed v l new))) c.in-Ok.ensures.same
    (c.commit_within.ensures.any_moment durable honest fits))
