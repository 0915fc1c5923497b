use Rattle.std.proofs.Common.{true, false, ◌≡◌, ◌∙◌, ℕ, List, Option, refl, sym, ap, inl, inr, arith}
use Rattle.last_version.specs.Standing.{version_of, shown_in, waits_in}
use Rattle.last_version.proofs.HoldLemmas.{shown_stands, file_now}
use Rattle.last_version.proofs.ShownLemmas.{clean_as}
use Rattle.last_version.specs.Gates as gate
use Rattle.last_version.proofs.ShownLemmas.{counts_on, whole_answers, settled_count}
use Rattle.journal.proofs.States.{ok_any, on_ok}
use Rattle.last_version.specs.declared.gate.Gate.TheVariants.{Shut}
use Rattle.last_version.proofs.StandingLemmas.{none_left}
use Rattle.last_version.proofs.HoldLemmas.{shown_same}
use Rattle.last_version.proofs.version.LastVersion.settle.Goals as goal

pub invariant_of-self : goal.invariant_of-self
invariant_of-self g c = record {
  stands = λ honest. file_now c.settle.new.self (version_of c.args.self.now.file) honest (c.settle.ensures.stands honest (version_of c.args.self.now.file) (c.args.self.now.stands honest));
  clean = λ honest.
      clean_as (shown_in c.args.self.now.file) (shown_in c.settle.new.self) _
      (shown_stands c.args.self.now.file c.settle.new.self c.settle.ensures.pages (c.settle.ensures.stands honest (version_of c.args.self.now.file) (c.args.self.now.stands honest)))
      (c.args.self.now.clean honest);
  few = let same = c.settle.ensures.few in let few = c.args.self.now.few in omega (arith, same, few);
  some = let same = c.settle.ensures.pages in let some = c.args.self.now.some in omega (arith, same, some);
}

pub returns-clause-shown : goal.returns-clause-shown
returns-clause-shown g c = λ honest. shown_stands c.args.self.now.file c.settle.new.self c.settle.ensures.pages (c.settle.ensures.stands honest (version_of c.args.self.now.file) (c.args.self.now.stands honest))

pub returns-clause-keeps : goal.returns-clause-keeps
returns-clause-keeps g c = λ durable honest whole.
    c.settle.ensures.keeps durable honest (version_of c.args.self.now.file) (version_of c.args.self.now.file) (version_of c.args.self.now.file) (inl refl) (c.args.self.now.stands honest)

pub returns-clause-count : goal.returns-clause-count
returns-clause-count g c =
    counts_on c.settle.result (g.D.Disk.refused c.args.self.now.file.disk) (g.D.Disk.refused c.settle.new.self.disk) (gate.answered_in c.args.self.now.file.gate) (gate.answered_in c.settle.new.self.gate)
    (whole_answers c.settle.new.self.gate c.settle.ensures.whole ∙ sym (whole_answers c.args.self.now.file.gate (sym c.is_broken.ensures ∙ c.if-is_broken.false))) c.settle.ensures.count

pub returns-clause-refused : goal.returns-clause-refused
returns-clause-refused g c =
    settled_count c.settle.result (g.D.Disk.refused c.args.self.now.file.disk) (g.D.Disk.refused c.settle.new.self.disk) (gate.answered_in c.args.self.now.file.gate)
    (whole_answers c.args.self.now.file.gate (sym c.is_broken.ensures ∙ c.if-is_broken.false)) c.settle.ensures.count

pub returns-clause-whole : goal.returns-clause-whole
returns-clause-whole g c = ok_any c.settle.result (sym c.is_broken.ensures ∙ c.if-is_broken.false)

pub returns-clause-none : goal.returns-clause-none
returns-clause-none g c =
    on_ok c.settle.result
    (λ (shut : c.settle.new.self.gate ≡ Shut). λ n.
    ap (λ (l : List (ℕ × List ℕ)). waits_in l n) (none_left c.settle.new.self.written c.settle.new.self.set (c.settle.new.self.rests (ap gate.is_shut shut))))
    c.settle.ensures.shut

pub returns-clause-rests : goal.returns-clause-rests
returns-clause-rests g c = on_ok c.settle.result (λ (shut : c.settle.new.self.gate ≡ Shut). ap gate.is_shut shut) c.settle.ensures.shut

pub returns-then-is_broken-clause-shown : goal.returns-then-is_broken-clause-shown
returns-then-is_broken-clause-shown g c = λ honest n. ap (λ (p : ℕ → Option (List ℕ)). p n) (shown_same c.args.self.now c.refuse.new.self (c.refuse.ensures.version honest))

pub returns-then-is_broken-clause-fewer : goal.returns-then-is_broken-clause-fewer
returns-then-is_broken-clause-fewer g c = λ n. let same = c.refuse.ensures.holds.waits n in omega (arith, same)

pub returns-then-is_broken-clause-no_more : goal.returns-then-is_broken-clause-no_more
returns-then-is_broken-clause-no_more g c = let same = c.refuse.ensures.holds.left in omega (arith, same)

pub returns-then-is_broken-clause-keeps : goal.returns-then-is_broken-clause-keeps
returns-then-is_broken-clause-keeps g c = λ durable honest whole. let bad : true ≡ false = sym c.if-is_broken.true ∙ c.is_broken.ensures ∙ whole in absurd (cc)

pub returns-then-is_broken-clause-cause : goal.returns-then-is_broken-clause-cause
returns-then-is_broken-clause-cause g c = inr c.refuse.ensures.cause

pub returns-clause-closed : goal.returns-clause-closed
returns-clause-closed g c =
    on_ok c.settle.result
    (λ (shut : c.settle.new.self.gate ≡ Shut). λ honest.
    ((c.settle.ensures.stands honest (version_of c.args.self.now.file) (c.args.self.now.stands honest)).rest shut).gate honest)
    c.settle.ensures.shut
