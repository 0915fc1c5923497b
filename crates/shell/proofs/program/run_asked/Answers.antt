use Rattle.std.proofs.Common.{refl, ap}
use Rattle.disk.specs.Memory.{Held}
use Rattle.shell.proofs.Alone.{ends_alone, file_alone, has_name, runs_alone}
use Rattle.shell.proofs.program.run_asked.Goals as goal

pub returns-in-Some-clause-in_memory : goal.returns-in-Some-clause-in_memory
returns-in-Some-clause-in_memory g c = λ none. absurd (has_name c.args.settings.now.file c.in-Some.path c.in-Some.is none)

pub returns-in-None-clause-ends : goal.returns-in-None-clause-ends
returns-in-None-clause-ends g c = rw c.status_of-in-None.ensures (ends_alone _ _ _ _ _ _ _ _ _ _ (ap (λ (d : Held). d.refused) c.new.ensures) c.run_over_pages-ended.ensures.ends)

pub returns-in-None-clause-in_memory : goal.returns-in-None-clause-in_memory
returns-in-None-clause-in_memory g c = λ none rules are.
    rw c.status_of-in-None.ensures (runs_alone _ _ _ _ _ _ (c.run_over_pages-ended.ensures.new rules are refl (ap (λ (d : Held). d.bytes) c.new.ensures)) (λ left h. h.1))

pub returns-in-Some-clause-ends : goal.returns-in-Some-clause-ends
returns-in-Some-clause-ends g c = rw c.status_of.ensures (file_alone _ _ _ _ _ _ _ _ _ _ c.run_file-ended.ensures.ends)
