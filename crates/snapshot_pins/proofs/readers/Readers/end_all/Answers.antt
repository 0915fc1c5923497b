use Rattle.std.proofs.Common.{◌≡◌, ◌∙◌, sym, inl}
use Rattle.pool.specs.Versions.{versions_of}
use Rattle.snapshot_pins.proofs.ListedLemmas.{once_popped, counted_front, kept_none}
use Rattle.snapshot_pins.proofs.readers.Readers.end_all.Goals as goal

pub invariant_of-self : goal.invariant_of-self
invariant_of-self g c = record { apart = once_popped c.ended.self.list c.pop.new.self c.pop.result c.pop.ensures c.ended.self.apart }

pub ended-preserved : goal.ended-preserved
ended-preserved g c =
    let i = c.ended.invariant in
    record {
      pinned = λ n. counted_front (versions_of c.ended.pool).pins (versions_of c.unpin.new.self).pins c.pop.new.self c.ended.self.list c.in-Some.found c.in-Some.ensures i.pinned c.unpin.ensures.pins n;
      last = c.unpin.ensures.last ∙ i.last;
      newest = c.unpin.ensures.kept c.args.pool.now.last (inl (sym (c.unpin.ensures.last ∙ i.last))) ∙ i.newest;
      unwritten = c.unpin.ensures.unwritten ∙ i.unwritten;
      device = c.unpin.ensures.device ∙ i.device;
      refused = c.unpin.ensures.refused_calls ∙ i.refused;
    }

pub returns-clause-kept : goal.returns-clause-kept
returns-clause-kept g c =
    kept_none c.pop.new.self (versions_of c.args.pool.now) (versions_of c.ended.pool) c.in_default.ensures.1 c.ended.invariant.last c.ended.invariant.newest
