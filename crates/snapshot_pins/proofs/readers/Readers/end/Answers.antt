use Rattle.std.proofs.Common.{◌≡◌, ◌∙◌, ap, sym, refl, ℕ, List}
use Rattle.std.proofs.lemmas.Option.{slice_get_within}
use Rattle.pool.specs.Versions.{versions_of}
use Rattle.snapshot_pins.specs.declared.reader.Reader.{Reader}
use Rattle.snapshot_pins.specs.Listed.{are_apart, numbers_in, count_at}
use Rattle.snapshot_pins.proofs.ListedLemmas.{once_without, ended_at, ended_none, counted_without, kept_by_pages, kept_by_unpin}
use Rattle.snapshot_pins.proofs.readers.Readers.end.Goals as goal

pub remove-requires : goal.remove-requires
remove-requires g c = slice_get_within c.args.self.now.list c.in-Some.place (record { reader = c.args.reader; number = c.in-Some.number }) (rw c.as_slice.ensures at c.in-Some.ensures.some)

pub invariant_of-self : goal.invariant_of-self
invariant_of-self g c = record {
  apart = ap are_apart c.remove.ensures.rest ∙ once_without c.args.self.now.list c.in-Some.place c.args.self.now.apart;
}

pub returns-in-Some-clause-ended : goal.returns-in-Some-clause-ended
returns-in-Some-clause-ended g c =
    ap numbers_in c.remove.ensures.rest
    ∙ ended_at c.args.self.now.list c.in-Some.place c.args.reader c.in-Some.number c.args.self.now.apart (rw c.as_slice.ensures at c.in-Some.ensures.some)

pub returns-in-Some-clause-pinned : goal.returns-in-Some-clause-pinned
returns-in-Some-clause-pinned g c = λ n.
    counted_without (versions_of c.args.pool.now).pins (versions_of c.unpin.new.self).pins c.args.self.now.list c.in-Some.place c.args.reader c.in-Some.number
    (rw c.as_slice.ensures at c.in-Some.ensures.some) c.requires c.unpin.ensures.pins n
    ∙ ap (λ (rs : List Reader). count_at rs n) (sym c.remove.ensures.rest)

pub returns-in-Some-clause-kept : goal.returns-in-Some-clause-kept
returns-in-Some-clause-kept g c =
    kept_by_unpin c.remove.new.self (versions_of c.args.pool.now) (versions_of c.unpin.new.self) c.unpin.ensures.last c.unpin.ensures.kept
    (λ n. counted_without (versions_of c.args.pool.now).pins (versions_of c.unpin.new.self).pins c.args.self.now.list c.in-Some.place c.args.reader c.in-Some.number
    (rw c.as_slice.ensures at c.in-Some.ensures.some) c.requires c.unpin.ensures.pins n
    ∙ ap (λ (rs : List Reader). count_at rs n) (sym c.remove.ensures.rest))

pub returns-in_default-clause-ended : goal.returns-in_default-clause-ended
returns-in_default-clause-ended g c = ended_none c.args.self.now.list c.args.reader (rw c.as_slice.ensures at c.in_default.ensures.none)

pub returns-in_default-clause-kept : goal.returns-in_default-clause-kept
returns-in_default-clause-kept g c = kept_by_pages c.args.self.now.list (versions_of c.args.pool.now) (versions_of c.args.pool.now) refl refl
