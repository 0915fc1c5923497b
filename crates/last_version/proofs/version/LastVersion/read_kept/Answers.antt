use Rattle.std.proofs.Common.{◌∙◌, ℕ, List, Option, Some, length, refl, sym, ap, arith}
use Rattle.last_version.specs.Gates as gate
use Rattle.last_version.specs.Standing.{version_of, shown_in, waits_in}
use Rattle.last_version.proofs.HoldLemmas.{version_same, shown_file, left_same, file_now}
use Rattle.last_version.proofs.ShownLemmas.{clean_as, shown_there}
use Rattle.last_version.proofs.ShownLemmas.{risen_on}
use Rattle.last_version.proofs.version.LastVersion.read_kept.Goals as goal

pub invariant_of-self : goal.invariant_of-self
invariant_of-self g c = record {
  stands = λ honest. file_now c.read.new.self (version_of c.args.self.now.file) honest (c.read.ensures.stands honest (version_of c.args.self.now.file) (c.args.self.now.stands honest));
  clean = λ honest.
      let same = shown_file c.args.self.now.file c.read.new.self c.read.ensures.set c.read.ensures.written c.read.ensures.pages (c.read.ensures.reads.same honest) in
      c.keep-known.ensures.clean (shown_in c.read.new.self)
      (ap (λ (p : ℕ → Option (List ℕ)). p c.args.number) same ∙ shown_there c.args.self.now.file.count (version_of c.args.self.now.file).pages c.args.number c.requires.within
      ∙ ap (λ (p : List ℕ). Some p) (sym (c.in-Ok.ensures.value honest (version_of c.args.self.now.file) (c.args.self.now.stands honest))))
      (clean_as (shown_in c.args.self.now.file) (shown_in c.read.new.self) _ (λ n. ap (λ (p : ℕ → Option (List ℕ)). p n) same) (c.args.self.now.clean honest));
  few = let same = ap (λ (l : List (ℕ × List ℕ)). length l) c.read.ensures.set in let few = c.args.self.now.few in omega (arith, same, few);
  some = let same = c.read.ensures.pages in let some = c.args.self.now.some in omega (arith, same, some);
}

pub invariant_of-self-in-Err-1 : goal.invariant_of-self-in-Err-1
invariant_of-self-in-Err-1 g c = record {
  stands = λ honest. file_now c.read.new.self (version_of c.args.self.now.file) honest (c.read.ensures.stands honest (version_of c.args.self.now.file) (c.args.self.now.stands honest));
  clean = λ honest.
      clean_as (shown_in c.args.self.now.file) (shown_in c.read.new.self) _
      (λ n. ap (λ (p : ℕ → Option (List ℕ)). p n) (shown_file c.args.self.now.file c.read.new.self c.read.ensures.set c.read.ensures.written c.read.ensures.pages (c.read.ensures.reads.same honest)))
      (c.args.self.now.clean honest);
  few = let same = ap (λ (l : List (ℕ × List ℕ)). length l) c.read.ensures.set in let few = c.args.self.now.few in omega (arith, same, few);
  some = let same = c.read.ensures.pages in let some = c.args.self.now.some in omega (arith, same, some);
}

pub returns-in-Ok-clause-value : goal.returns-in-Ok-clause-value
returns-in-Ok-clause-value g c = λ honest.
    shown_there c.args.self.now.file.count (version_of c.args.self.now.file).pages c.args.number c.requires.within
    ∙ ap (λ (p : List ℕ). Some p) (sym (c.in-Ok.ensures.value honest (version_of c.args.self.now.file) (c.args.self.now.stands honest)))

pub returns-in-Ok-clause-version : goal.returns-in-Ok-clause-version
returns-in-Ok-clause-version g c = λ honest. version_same c.args.self.now.file c.read.new.self c.read.ensures.set c.read.ensures.written c.read.ensures.pages (c.read.ensures.reads.same honest)

pub returns-in-Err-clause-version : goal.returns-in-Err-clause-version
returns-in-Err-clause-version g c = λ honest. version_same c.args.self.now.file c.read.new.self c.read.ensures.set c.read.ensures.written c.read.ensures.pages (c.read.ensures.reads.same honest)

pub returns-in-Err-clause-read_always : goal.returns-in-Err-clause-read_always
returns-in-Err-clause-read_always g c = λ honest always. c.in-Err.ensures.read_always honest always (version_of c.args.self.now.file) (c.args.self.now.stands honest)

pub returns-in-Ok-clause-holds : goal.returns-in-Ok-clause-holds
returns-in-Ok-clause-holds g c =
    let left = left_same c.args.self.now.file c.read.new.self c.read.ensures.set c.read.ensures.written c.read.ensures.pages in
    record {
      count = c.read.ensures.pages;
      left = ap (λ (l : List (ℕ × List ℕ)). length l) left;
      waits = λ n. ap (λ (l : List (ℕ × List ℕ)). waits_in l n) left;
      broken = ap gate.is_broken c.read.ensures.gate;
      room = c.keep-known.ensures.room;
    }

pub returns-in-Err-clause-holds : goal.returns-in-Err-clause-holds
returns-in-Err-clause-holds g c =
    let left = left_same c.args.self.now.file c.read.new.self c.read.ensures.set c.read.ensures.written c.read.ensures.pages in
    record {
      count = c.read.ensures.pages;
      left = ap (λ (l : List (ℕ × List ℕ)). length l) left;
      waits = λ n. ap (λ (l : List (ℕ × List ℕ)). waits_in l n) left;
      broken = ap gate.is_broken c.read.ensures.gate;
      room = refl;
    }

pub returns-in-Ok-clause-count : goal.returns-in-Ok-clause-count
returns-in-Ok-clause-count g c = let same = c.in-Ok.ensures.count in let more = ap gate.answered_in c.read.ensures.gate in omega (arith, same, more)

pub returns-in-Err-clause-count : goal.returns-in-Err-clause-count
returns-in-Err-clause-count g c =
    risen_on (g.D.Disk.refused c.args.self.now.file.disk) (g.D.Disk.refused c.read.new.self.disk) (gate.answered_in c.args.self.now.file.gate) (gate.answered_in c.read.new.self.gate)
    (ap gate.answered_in c.read.ensures.gate) c.in-Err.ensures.count
