use Rattle.std.proofs.Common.{ℕ, ◌+◌, List, Option, refl, inl, ap, sym, ◌∙◌, arith, length, get_or, below_more}
use Rattle.journal.proofs.Looking.{reads_none, reads_then}
use Rattle.last_version.specs.Lasts.{device_under, count_of}
use Rattle.last_version.proofs.HoldLemmas.{holds_none, holds_then, shown_same}
use Rattle.pool.specs.Images.{needs, images_in, pinned_in}
use Rattle.pool.specs.Slots.{slot_at, pages_at}
use Rattle.pool.proofs.ImageCounts.{needs_same, count_more, count_all}
use Rattle.pool.proofs.ReadyLemmas.{grows_then, not_yet, one_readied, none_readied, is_ready, still_ready, maybe_more}
use Rattle.pool.proofs.steps.prepare_all.Goals as goal

pub loop-page-preserved : goal.loop-page-preserved
loop-page-preserved g c =
    let numbers = c.args.numbers.now in
    let i = c.loop-page.page-index in
    let last = c.args.last in
    let pinned = pinned_in c.args.pins.now in
    let was = c.args.slots.now in
    let inv = c.loop-page.invariant in
    let step = c.prepare_page.ensures in
    let done = c.in_ok-prepare_page.ensures in
    record {
      len = step.len ∙ inv.len;
      images = one_readied numbers i last pinned c.loop-page.touched c.prepare_page.new.touched was c.loop-page.slots c.prepare_page.new.slots step.grows c.requires.ascend c.loop-page-test.true step.others inv.images done.readied;
      ready = below_more _ _
          (λ k less. still_ready numbers i last pinned c.loop-page.touched c.prepare_page.new.touched was c.loop-page.slots c.prepare_page.new.slots step.grows c.requires.ascend c.loop-page-test.true step.others inv.images k less (inv.ready k less))
          (is_ready numbers i last pinned c.loop-page.touched c.prepare_page.new.touched was c.loop-page.slots c.prepare_page.new.slots step.grows c.requires.ascend c.loop-page-test.true step.others inv.images c.requires.before done.readied);
      count = count_more (needs (count_of c.args.file.now) pinned was) (needs (count_of c.loop-page.file) pinned c.loop-page.slots) numbers i (images_in was) (images_in c.loop-page.slots) (images_in c.prepare_page.new.slots) c.loop-page-test.true done.count
          (ap (λ (k : ℕ). needs k pinned c.loop-page.slots (get_or numbers i 0)) inv.holds.count
          ∙ needs_same (count_of c.args.file.now) pinned was c.loop-page.slots (get_or numbers i 0)
          (not_yet numbers i last pinned c.loop-page.touched c.prepare_page.new.touched was c.loop-page.slots c.prepare_page.new.slots step.grows c.requires.ascend c.loop-page-test.true step.others inv.images))
          inv.count;
      grows = grows_then _ _ _ inv.grows step.grows;
      lists = step.lists ∙ inv.lists;
      shown = λ honest v n.
          let same = shown_same c.args.file.now c.loop-page.file (inv.version honest) in
          ap (λ (newest : ℕ → Option (List ℕ)). pages_at newest c.prepare_page.new.slots v n) (sym same) ∙ step.shown honest v n
          ∙ ap (λ (newest : ℕ → Option (List ℕ)). pages_at newest c.loop-page.slots v n) same ∙ inv.shown honest v n;
      version = λ honest. step.version honest ∙ inv.version honest;
      rising = let was_rising = inv.rising in let now = step.rising in omega (arith, was_rising, now);
      reads = reads_then g.D.Disk.is_honest g.D.Disk.is_durable g.D.Disk.bytes g.D.Disk.synced g.D.Disk.writes g.D.Disk.settled g.D.Disk.moment g.D.Disk.left_since g.D.Disk.may_leave
          (device_under c.args.file.now) (device_under c.loop-page.file) (device_under c.prepare_page.new.file) inv.reads step.reads;
      holds = holds_then c.args.file.now c.loop-page.file c.prepare_page.new.file inv.holds step.holds;
    }

pub returns-in_err-prepare_page-clause-len : goal.returns-in_err-prepare_page-clause-len
returns-in_err-prepare_page-clause-len g c = c.prepare_page.ensures.len ∙ c.loop-page.invariant.len

pub returns-in_err-prepare_page-clause-images : goal.returns-in_err-prepare_page-clause-images
returns-in_err-prepare_page-clause-images g c = λ n.
    maybe_more c.args.numbers.now (c.loop-page.page-index + 1) (length c.args.numbers.now) c.args.last (pinned_in c.args.pins.now) c.prepare_page.new.touched n (slot_at c.args.slots.now n).images (slot_at c.prepare_page.new.slots n).images
    (let less = c.loop-page-test.true in omega (arith, less))
    (none_readied c.args.numbers.now c.loop-page.page-index c.args.last (pinned_in c.args.pins.now) c.loop-page.touched c.prepare_page.new.touched c.args.slots.now c.loop-page.slots c.prepare_page.new.slots
    c.prepare_page.ensures.grows c.requires.ascend c.loop-page-test.true c.prepare_page.ensures.others c.loop-page.invariant.images c.in_err-prepare_page.ensures.refused n)

pub returns-in_err-prepare_page-clause-grows : goal.returns-in_err-prepare_page-clause-grows
returns-in_err-prepare_page-clause-grows g c = grows_then _ _ _ c.loop-page.invariant.grows c.prepare_page.ensures.grows

pub returns-in_err-prepare_page-clause-lists : goal.returns-in_err-prepare_page-clause-lists
returns-in_err-prepare_page-clause-lists g c = c.prepare_page.ensures.lists ∙ c.loop-page.invariant.lists

pub returns-in_err-prepare_page-clause-shown : goal.returns-in_err-prepare_page-clause-shown
returns-in_err-prepare_page-clause-shown g c = λ honest v n.
    let same = shown_same c.args.file.now c.loop-page.file (c.loop-page.invariant.version honest) in
    ap (λ (newest : ℕ → Option (List ℕ)). pages_at newest c.prepare_page.new.slots v n) (sym same) ∙ c.prepare_page.ensures.shown honest v n
    ∙ ap (λ (newest : ℕ → Option (List ℕ)). pages_at newest c.loop-page.slots v n) same ∙ c.loop-page.invariant.shown honest v n

pub returns-in_err-prepare_page-clause-version : goal.returns-in_err-prepare_page-clause-version
returns-in_err-prepare_page-clause-version g c = λ honest. c.prepare_page.ensures.version honest ∙ c.loop-page.invariant.version honest

pub returns-in_err-prepare_page-clause-reads : goal.returns-in_err-prepare_page-clause-reads
returns-in_err-prepare_page-clause-reads g c =
    reads_then g.D.Disk.is_honest g.D.Disk.is_durable g.D.Disk.bytes g.D.Disk.synced g.D.Disk.writes g.D.Disk.settled g.D.Disk.moment g.D.Disk.left_since g.D.Disk.may_leave
    (device_under c.args.file.now) (device_under c.loop-page.file) (device_under c.prepare_page.new.file) c.loop-page.invariant.reads c.prepare_page.ensures.reads

pub returns-in_err-prepare_page-clause-holds : goal.returns-in_err-prepare_page-clause-holds
returns-in_err-prepare_page-clause-holds g c = holds_then c.args.file.now c.loop-page.file c.prepare_page.new.file c.loop-page.invariant.holds c.prepare_page.ensures.holds

pub loop-page-init : goal.loop-page-init
loop-page-init g c = record {
  len = refl;
  images = λ n. inl refl;
  ready = λ k less. absurd (omega (arith, less));
  count = omega arith;
  grows = λ k m has. has;
  lists = refl;
  shown = λ honest v n. refl;
  version = λ honest. refl;
  rising = omega arith;
  reads = reads_none g.D.Disk.is_honest g.D.Disk.is_durable g.D.Disk.bytes g.D.Disk.synced g.D.Disk.writes g.D.Disk.settled g.D.Disk.moment g.D.Disk.left_since g.D.Disk.may_leave
      (λ d b durable left. g.met.D.Disk.only_now d b durable left) (device_under c.args.file.now);
  holds = holds_none c.args.file.now;
}

pub returns-clause-images : goal.returns-clause-images
returns-clause-images g c = λ n.
    maybe_more c.args.numbers.now c.loop-page.page-index (length c.args.numbers.now) c.args.last (pinned_in c.args.pins.now) c.loop-page.touched n (slot_at c.args.slots.now n).images (slot_at c.loop-page.slots n).images
    (omega arith) (c.loop-page.invariant.images n)

pub returns-clause-count : goal.returns-clause-count
returns-clause-count g c = count_all (needs (count_of c.args.file.now) (pinned_in c.args.pins.now) c.args.slots.now) c.args.numbers.now c.loop-page.page-index (images_in c.args.slots.now) (images_in c.loop-page.slots) (omega arith) c.loop-page.invariant.count

pub returns-clause-ready : goal.returns-clause-ready
returns-clause-ready g c = λ k less. c.loop-page.invariant.ready k (omega arith)
