use Rattle.std.proofs.Common.{◌≡◌, ℕ, ◌+◌, ◌<◌, List, Option, IsSome, ap, sym, subst, ◌∙◌, refl, arith, length, get_or, false}
use Rattle.std.specs.Prelude.{sum_by}
use Rattle.last_version.specs.Lasts.{count_of, shown_by}
use Rattle.pool.specs.Pages.{pick, over, known, pages_in, numbers_of}
use Rattle.pool.specs.declared.pins.Pin.{Pin}
use Rattle.pool.specs.Images.{reads_newest, images_in, needs, pinned_in}
use Rattle.pool.specs.Ready.{MayBeImaged}
use Rattle.pool.specs.Pins.{pins_at}
use Rattle.pool.specs.Slots.{slot_at, pages_at}
use Rattle.pool.proofs.SlotLemmas.{same_newest}
use Rattle.pool.proofs.ImageLemmas.{kept_same, pinned_is_covered}
use Rattle.pool.proofs.ImageCounts.{same_count}
use Rattle.pool.proofs.ReadyLemmas.{kept_committed, no_later}
use Rattle.pool.proofs.CommitLemmas.{written, others_kept}
use Rattle.pool.proofs.PinLemmas.{none_pinned}
use Rattle.pool.proofs.SetLemmas.{of_numbers, empty_set}
use Rattle.pool.proofs.PoolLemmas.{known_same, known_at, same_versions}
use Rattle.pool.proofs.pool.Pool.commit_within.Goals as goal

of_set : (P : ℕ → Type 0) (set : List (ℕ × List ℕ)) (numbers : List ℕ) → numbers ≡ numbers_of set → ((k : ℕ) → k < length numbers → P (get_or numbers k 0)) → (n : ℕ) → IsSome (pages_in set n) → P n
of_set P set numbers is each = of_numbers P set (subst (λ (xs : List ℕ). (k : ℕ) → k < length xs → P (get_or xs k 0)) is each)

pub invariant_of-self : goal.invariant_of-self
invariant_of-self g c = record {
  kept = kept_committed c.args.self.now.last (pinned_in c.args.self.now.pins) c.args.self.now.touched c.commit_over.new.touched c.args.numbers.now c.args.self.now.slots c.commit_over.new.slots c.commit_over.new.slots
      (subst (λ (ps : List Pin). (n : ℕ) → MayBeImaged c.args.numbers.now (length c.args.numbers.now) c.args.self.now.last (pinned_in ps) c.commit_over.new.touched n (slot_at c.args.self.now.slots n).images (slot_at c.commit_over.new.slots n).images) c.as_slice.ensures c.in-Ok.ensures.images) (λ n. refl) c.commit_over.ensures.grows c.commit_over.ensures.lists c.args.self.now.kept;
  few_images =
      let was = c.args.self.now.few_images.0 in let count = (subst (λ (ps : List Pin). images_in c.commit_over.new.slots ≡ images_in c.args.self.now.slots + sum_by (needs (count_of c.args.self.now.file) (pinned_in ps) c.args.self.now.slots) c.args.numbers.now) c.as_slice.ensures c.in-Ok.ensures.count) in let needed = c.requires.needed in let few = c.requires.few in
      (omega (arith, was, count, needed), omega (arith, was, few));
}

pub invariant_of-self-in-Err-1 : goal.invariant_of-self-in-Err-1
invariant_of-self-in-Err-1 g c = record {
  kept = kept_same c.args.self.now.last (pinned_in c.args.self.now.pins) c.args.self.now.touched c.commit_over.new.touched c.args.self.now.slots c.commit_over.new.slots
      c.in-Err.ensures.left c.commit_over.ensures.grows (let same = c.commit_over.ensures.lists in omega (arith, same)) c.args.self.now.kept;
  few_images = (c.args.self.now.few_images.0 ∙ sym (same_count c.args.self.now.slots c.commit_over.new.slots c.in-Err.ensures.left), c.args.self.now.few_images.1);
}

pub returns-in-Ok-clause-written : goal.returns-in-Ok-clause-written
returns-in-Ok-clause-written g c =
    known_same g.D.Disk.is_honest
    (pages_at (shown_by c.commit_over.new.file) c.commit_over.new.slots (c.args.self.now.last + 1))
    (over (pages_in c.args.images) (known g.D.Disk.is_honest (pages_at (shown_by c.args.self.now.file) c.args.self.now.slots c.args.self.now.last)))
    (λ honest n.
    written (shown_by c.args.self.now.file) (shown_by c.commit_over.new.file) (pages_in c.args.images) c.args.self.now.last c.args.self.now.slots c.commit_over.new.slots
    (c.in-Ok.ensures.newest honest) c.args.self.now.kept.old
    (λ m. no_later c.args.self.now.last (slot_at c.args.self.now.slots m).images (slot_at c.commit_over.new.slots m).images c.args.numbers.now (length c.args.numbers.now) (pinned_in c.args.self.now.pins) c.commit_over.new.touched m (c.args.self.now.kept.old m) ((subst (λ (ps : List Pin). (n : ℕ) → MayBeImaged c.args.numbers.now (length c.args.numbers.now) c.args.self.now.last (pinned_in ps) c.commit_over.new.touched n (slot_at c.args.self.now.slots n).images (slot_at c.commit_over.new.slots n).images) c.as_slice.ensures c.in-Ok.ensures.images) m)) n
    ∙ ap (pick (pages_in c.args.images n)) (sym (known_at g.D.Disk.is_honest (pages_at (shown_by c.args.self.now.file) c.args.self.now.slots c.args.self.now.last) n honest)))

pub returns-in-Ok-clause-kept : goal.returns-in-Ok-clause-kept
returns-in-Ok-clause-kept g c = λ v some.
    known_same g.D.Disk.is_honest
    (pages_at (shown_by c.commit_over.new.file) c.commit_over.new.slots v)
    (pages_at (shown_by c.args.self.now.file) c.args.self.now.slots v)
    (λ honest n.
    others_kept (shown_by c.args.self.now.file) (shown_by c.commit_over.new.file) (pages_in c.args.images) c.args.self.now.last c.args.self.now.slots c.commit_over.new.slots
    (c.in-Ok.ensures.newest honest) v
    (λ m there. pinned_is_covered (slot_at c.commit_over.new.slots m).images c.args.self.now.pins v (λ p ps more. none_pinned p ps v more)
    (of_set (λ k. reads_newest (pinned_in c.args.self.now.pins) (slot_at c.commit_over.new.slots k).images ≡ false) c.args.images c.args.numbers.now c.requires.numbers (subst (λ (ps : List Pin). (k : ℕ) → k < length c.args.numbers.now → reads_newest (pinned_in ps) (slot_at c.commit_over.new.slots (get_or c.args.numbers.now k 0)).images ≡ false) c.as_slice.ensures c.in-Ok.ensures.ready) m there) some) n
    ∙ c.in-Ok.ensures.shown honest v n)

pub returns-in-Ok-clause-images : goal.returns-in-Ok-clause-images
returns-in-Ok-clause-images g c =
    let count = (subst (λ (ps : List Pin). images_in c.commit_over.new.slots ≡ images_in c.args.self.now.slots + sum_by (needs (count_of c.args.self.now.file) (pinned_in ps) c.args.self.now.slots) c.args.numbers.now) c.as_slice.ensures c.in-Ok.ensures.count) in let needed = c.requires.needed in omega (arith, count, needed)

pub returns-in-Err-clause-refused : goal.returns-in-Err-clause-refused
returns-in-Err-clause-refused g c =
    same_versions g.D.Disk.is_honest c.args.self.now.last (pins_at c.args.self.now.pins)
    (pages_at (shown_by c.commit_over.new.file) c.commit_over.new.slots)
    (pages_at (shown_by c.args.self.now.file) c.args.self.now.slots)
    (λ honest v n. same_newest (shown_by c.args.self.now.file) (shown_by c.commit_over.new.file) c.args.self.now.slots c.commit_over.new.slots c.in-Err.ensures.left (c.in-Err.ensures.same honest) v n)

pub returns-in-Err-clause-same_images : goal.returns-in-Err-clause-same_images
returns-in-Err-clause-same_images g c = same_count c.args.self.now.slots c.commit_over.new.slots c.in-Err.ensures.left

pub returns-in-Ok-clause-idle : goal.returns-in-Ok-clause-idle
returns-in-Ok-clause-idle g c = λ none. c.commit_over.ensures.idle (empty_set c.args.images none)

pub returns-in-Err-clause-idle : goal.returns-in-Err-clause-idle
returns-in-Err-clause-idle g c = λ none. c.commit_over.ensures.idle (empty_set c.args.images none)
