use Rattle.std.proofs.Common.{ℕ, List, drop, length, refl, sym, ap, subst, arith}
use Rattle.journal.specs.Parts.{place}
use Rattle.journal.specs.Versions.{laid}
use Rattle.journaled_file.specs.Shown.{IsAtRest}
use Rattle.last_version.specs.Standing.{version_in, pages_below, waits_in}
use Rattle.last_version.specs.declared.gate.Gate.TheVariants.{Shut}
use Rattle.last_version.proofs.StandingLemmas.{rest_stands}
use Rattle.last_version.proofs.version.LastVersion.new.Goals as goal

pub returns-in-Ok-clause-shown : goal.returns-in-Ok-clause-shown
returns-in-Ok-clause-shown g c = ap (λ (set : List (ℕ × List ℕ)). pages_below c.args.count (laid (drop 0 set) (place (g.D.Disk.bytes c.args.disk)))) c.new-in-Ok.ensures

pub returns-in-Ok-clause-waits : goal.returns-in-Ok-clause-waits
returns-in-Ok-clause-waits g c = λ n. ap (λ (set : List (ℕ × List ℕ)). waits_in set n) c.new-in-Ok.ensures

pub invariant_of-result-in-Ok : goal.invariant_of-result-in-Ok
invariant_of-result-in-Ok g c = record {
  stands = λ honest.
      rest_stands g.D.Disk.is_honest g.D.Disk.is_durable Shut c.new-in-Ok.result 0 c.args.count
      (g.D.Disk.bytes c.args.disk) (g.D.Disk.may_leave c.args.disk) _ refl c.new-in-Ok.ensures honest
      (subst (λ (set : List (ℕ × List ℕ)). IsAtRest g.D.Disk.is_honest g.D.Disk.is_durable c.args.count (g.D.Disk.bytes c.args.disk) (g.D.Disk.may_leave c.args.disk)
      (version_in set 0 c.args.count (g.D.Disk.bytes c.args.disk))) (sym c.new-in-Ok.ensures) (c.requires.rest honest));
  clean = λ honest. c.in-Ok.ensures.clean _;
  few = let none = ap (λ (l : List (ℕ × List ℕ)). length l) c.new-in-Ok.ensures in omega (arith, none);
  some = c.requires.some;
}
