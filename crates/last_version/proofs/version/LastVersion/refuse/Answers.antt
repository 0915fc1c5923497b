use Rattle.std.proofs.Common.{◌∙◌, ℕ, List, Option, length, refl, sym, ap, arith}
use Rattle.last_version.specs.Standing.{version_of, shown_in, waits_in}
use Rattle.last_version.proofs.HoldLemmas.{version_same, shown_file, left_same, file_now}
use Rattle.last_version.proofs.ShownLemmas.{clean_as, risen_answer}
use Rattle.last_version.proofs.version.LastVersion.refuse.Goals as goal

pub invariant_of-self : goal.invariant_of-self
invariant_of-self g c = record {
  stands = λ honest. file_now c.refuse.new.self (version_of c.args.self.now.file) honest (c.refuse.ensures.stands (version_of c.args.self.now.file) (c.args.self.now.stands honest));
  clean = λ honest.
      clean_as (shown_in c.args.self.now.file) (shown_in c.refuse.new.self) _
      (λ n. ap (λ (p : ℕ → Option (List ℕ)). p n) (shown_file c.args.self.now.file c.refuse.new.self c.refuse.ensures.set c.refuse.ensures.written c.refuse.ensures.pages (ap g.D.Disk.bytes c.refuse.ensures.disk)))
      (c.args.self.now.clean honest);
  few = let same = ap (λ (l : List (ℕ × List ℕ)). length l) c.refuse.ensures.set in let few = c.args.self.now.few in omega (arith, same, few);
  some = let same = c.refuse.ensures.pages in let some = c.args.self.now.some in omega (arith, same, some);
}

pub returns-clause-version : goal.returns-clause-version
returns-clause-version g c = λ honest. version_same c.args.self.now.file c.refuse.new.self c.refuse.ensures.set c.refuse.ensures.written c.refuse.ensures.pages (ap g.D.Disk.bytes c.refuse.ensures.disk)

pub returns-clause-holds : goal.returns-clause-holds
returns-clause-holds g c =
    let left = left_same c.args.self.now.file c.refuse.new.self c.refuse.ensures.set c.refuse.ensures.written c.refuse.ensures.pages in
    record {
      count = c.refuse.ensures.pages;
      left = ap (λ (l : List (ℕ × List ℕ)). length l) left;
      waits = λ n. ap (λ (l : List (ℕ × List ℕ)). waits_in l n) left;
      broken = c.refuse.ensures.broken ∙ sym c.requires;
      room = refl;
    }

pub returns-clause-count : goal.returns-clause-count
returns-clause-count g c = risen_answer (g.D.Disk.refused c.args.self.now.file.disk) (g.D.Disk.refused c.refuse.new.self.disk) _ _ (ap g.D.Disk.refused c.refuse.ensures.disk) c.refuse.ensures.count c.refuse.ensures.rising

pub returns-clause-cause : goal.returns-clause-cause
returns-clause-cause g c = c.refuse.ensures.stays _ c.refuse.ensures.cause
