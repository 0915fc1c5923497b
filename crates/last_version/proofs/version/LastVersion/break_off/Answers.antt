use Rattle.std.proofs.Common.{ℕ, List, Option, length, ap, arith}
use Rattle.last_version.specs.Standing.{version_of, shown_in}
use Rattle.last_version.proofs.HoldLemmas.{version_same, shown_file, file_now}
use Rattle.last_version.proofs.ShownLemmas.{clean_as}
use Rattle.last_version.proofs.version.LastVersion.break_off.Goals as goal

pub invariant_of-self : goal.invariant_of-self
invariant_of-self g c = record {
  stands = λ honest. file_now c.break_off.new.self (version_of c.args.self.now.file) honest (c.break_off.ensures.stands (version_of c.args.self.now.file) (c.args.self.now.stands honest));
  clean = λ honest.
      clean_as (shown_in c.args.self.now.file) (shown_in c.break_off.new.self) _
      (λ n. ap (λ (p : ℕ → Option (List ℕ)). p n) (shown_file c.args.self.now.file c.break_off.new.self c.break_off.ensures.set c.break_off.ensures.written c.break_off.ensures.pages (ap g.D.Disk.bytes c.break_off.ensures.disk)))
      (c.args.self.now.clean honest);
  few = let same = ap (λ (l : List (ℕ × List ℕ)). length l) c.break_off.ensures.set in let few = c.args.self.now.few in omega (arith, same, few);
  some = let same = c.break_off.ensures.pages in let some = c.args.self.now.some in omega (arith, same, some);
}

pub returns-clause-version : goal.returns-clause-version
returns-clause-version g c = λ honest. version_same c.args.self.now.file c.break_off.new.self c.break_off.ensures.set c.break_off.ensures.written c.break_off.ensures.pages (ap g.D.Disk.bytes c.break_off.ensures.disk)
