use Rattle.std.proofs.Common.{◌≡◌, ◌≤◌, length, arith}
use Rattle.std.proofs.lemmas.List.{length-drop}
use Rattle.journal.proofs.States.{on_ok}
use Rattle.last_version.specs.declared.gate.Gate.TheVariants.{Shut}
use Rattle.last_version.specs.Standing.{left_in}
use Rattle.last_version.proofs.file.OpenFile.finish.Goals as goal

pub returns-clause-shut : goal.returns-clause-shut
returns-clause-shut g c =
    on_ok c.flush.result
    (λ (shut : length (left_in c.args.self.now) ≤ c.len-all.result → c.flush.new.self.gate ≡ Shut).
    shut (let left = length-drop c.args.self.now.written c.args.self.now.set in let all = c.len-all.ensures in omega (arith, left, all)))
    c.flush.ensures.shut
