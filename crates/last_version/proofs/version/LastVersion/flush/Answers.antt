use Rattle.std.proofs.Common.{true, false, ◌≡◌, ◌∙◌, ℕ, List, Option, refl, sym, ap, inl, inr, arith}
use Rattle.last_version.specs.Standing.{version_of, shown_in}
use Rattle.last_version.proofs.HoldLemmas.{shown_stands, file_now}
use Rattle.last_version.proofs.ShownLemmas.{clean_as}
use Rattle.last_version.specs.Gates as gate
use Rattle.last_version.proofs.ShownLemmas.{counts_on, whole_answers, rest_whole}
use Rattle.last_version.proofs.HoldLemmas.{shown_same}
use Rattle.last_version.proofs.version.LastVersion.flush.Goals as goal

pub invariant_of-self : goal.invariant_of-self
invariant_of-self g c = record {
  stands = λ honest. file_now c.flush.new.self (version_of c.args.self.now.file) honest (c.flush.ensures.stands honest (version_of c.args.self.now.file) (c.args.self.now.stands honest));
  clean = λ honest.
      clean_as (shown_in c.args.self.now.file) (shown_in c.flush.new.self) _
      (shown_stands c.args.self.now.file c.flush.new.self c.flush.ensures.pages (c.flush.ensures.stands honest (version_of c.args.self.now.file) (c.args.self.now.stands honest)))
      (c.args.self.now.clean honest);
  few = let same = c.flush.ensures.few in let few = c.args.self.now.few in omega (arith, same, few);
  some = let same = c.flush.ensures.pages in let some = c.args.self.now.some in omega (arith, same, some);
}

pub returns-clause-shown : goal.returns-clause-shown
returns-clause-shown g c = λ honest. shown_stands c.args.self.now.file c.flush.new.self c.flush.ensures.pages (c.flush.ensures.stands honest (version_of c.args.self.now.file) (c.args.self.now.stands honest))

pub returns-clause-keeps : goal.returns-clause-keeps
returns-clause-keeps g c = λ durable honest whole.
    c.flush.ensures.keeps durable honest (version_of c.args.self.now.file) (version_of c.args.self.now.file) (version_of c.args.self.now.file) (inl refl) (c.args.self.now.stands honest)

pub returns-clause-count : goal.returns-clause-count
returns-clause-count g c =
    counts_on c.flush.result (g.D.Disk.refused c.args.self.now.file.disk) (g.D.Disk.refused c.flush.new.self.disk) (gate.answered_in c.args.self.now.file.gate) (gate.answered_in c.flush.new.self.gate)
    (whole_answers c.flush.new.self.gate c.flush.ensures.whole ∙ sym (whole_answers c.args.self.now.file.gate (sym c.is_broken.ensures ∙ c.if-is_broken.false))) c.flush.ensures.count

pub returns-then-is_broken-clause-shown : goal.returns-then-is_broken-clause-shown
returns-then-is_broken-clause-shown g c = λ honest n. ap (λ (p : ℕ → Option (List ℕ)). p n) (shown_same c.args.self.now c.refuse.new.self (c.refuse.ensures.version honest))

pub returns-then-is_broken-clause-fewer : goal.returns-then-is_broken-clause-fewer
returns-then-is_broken-clause-fewer g c = λ n. let same = c.refuse.ensures.holds.waits n in omega (arith, same)

pub returns-then-is_broken-clause-no_more : goal.returns-then-is_broken-clause-no_more
returns-then-is_broken-clause-no_more g c = let same = c.refuse.ensures.holds.left in omega (arith, same)

pub returns-then-is_broken-clause-keeps : goal.returns-then-is_broken-clause-keeps
returns-then-is_broken-clause-keeps g c = λ durable honest whole. let bad : true ≡ false = sym c.if-is_broken.true ∙ c.is_broken.ensures ∙ whole in absurd (cc)

pub returns-then-is_broken-clause-cause : goal.returns-then-is_broken-clause-cause
returns-then-is_broken-clause-cause g c = inr c.refuse.ensures.cause

pub returns-then-is_broken-clause-idle : goal.returns-then-is_broken-clause-idle
returns-then-is_broken-clause-idle g c = λ rests.
    let bad : true ≡ false = sym c.if-is_broken.true ∙ c.is_broken.ensures ∙ rest_whole c.args.self.now.file.gate rests in absurd (cc)
