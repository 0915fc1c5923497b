use Rattle.std.proofs.Common.{◌≡◌, ◌∙◌, ap, sym, ℕ, List}
use Rattle.pool.specs.Pages.{PageMap}
use Rattle.pool.specs.Versions.{versions_of}
use Rattle.snapshot_pins.specs.declared.reader.Reader.{Reader}
use Rattle.snapshot_pins.specs.Listed.{count_at}
use Rattle.snapshot_pins.proofs.ListedLemmas.{once_pushed, begun_by, pinned_back, kept_by_pages, kept_by_unpin}
use Rattle.snapshot_pins.proofs.readers.Readers.add.Goals as goal

pub returns-in_err-number-clause-pinned : goal.returns-in_err-number-clause-pinned
returns-in_err-number-clause-pinned g c = λ n. ap (λ (f : ℕ → ℕ). f n) c.in_err-number.ensures.refused ∙ c.requires.pinned n

pub returns-in_err-number-clause-kept : goal.returns-in_err-number-clause-kept
returns-in_err-number-clause-kept g c = kept_by_pages c.args.self.now.list (versions_of c.args.pool.now) (versions_of c.pin.new.self) c.pin.ensures.last c.pin.ensures.pages

pub invariant_of-self : goal.invariant_of-self
invariant_of-self g c = record {
  apart = once_pushed c.args.self.now.list c.push.new.self (record { reader = c.args.reader; number = c.in_ok-number.number }) c.push.result c.push.ensures.ok c.push.ensures.err c.args.self.now.apart c.requires.absent;
}

pub returns-in-Ok-clause-begun : goal.returns-in-Ok-clause-begun
returns-in-Ok-clause-begun g c =
    begun_by c.args.self.now.list c.push.new.self c.args.reader c.in_ok-number.number c.args.pool.now.last c.in-Ok.ensures.ok c.in_ok-number.ensures.number c.requires.absent

pub returns-in-Ok-clause-kept : goal.returns-in-Ok-clause-kept
returns-in-Ok-clause-kept g c = kept_by_pages c.push.new.self (versions_of c.args.pool.now) (versions_of c.pin.new.self) c.pin.ensures.last c.pin.ensures.pages

pub returns-in-Err-clause-pinned : goal.returns-in-Err-clause-pinned
returns-in-Err-clause-pinned g c = λ n.
    pinned_back (versions_of c.args.pool.now).pins (versions_of c.pin.new.self).pins (versions_of c.unpin.new.self).pins c.in_ok-number.number c.args.pool.now.last n
    c.in_ok-number.ensures.number (c.in_ok-number.ensures.pinned n) (c.unpin.ensures.pins n)
    ∙ c.requires.pinned n ∙ ap (λ (rs : List Reader). count_at rs n) (sym c.in-Err.ensures.err)

pub returns-in-Err-clause-kept : goal.returns-in-Err-clause-kept
returns-in-Err-clause-kept g c =
    kept_by_unpin c.push.new.self (versions_of c.args.pool.now) (versions_of c.unpin.new.self) (c.unpin.ensures.last ∙ c.pin.ensures.last)
    (λ n kept. c.unpin.ensures.kept n kept ∙ ap (λ (f : ℕ → PageMap). f n) c.pin.ensures.pages)
    (λ n. pinned_back (versions_of c.args.pool.now).pins (versions_of c.pin.new.self).pins (versions_of c.unpin.new.self).pins c.in_ok-number.number c.args.pool.now.last n
    c.in_ok-number.ensures.number (c.in_ok-number.ensures.pinned n) (c.unpin.ensures.pins n)
    ∙ c.requires.pinned n ∙ ap (λ (rs : List Reader). count_at rs n) (sym c.in-Err.ensures.err))
