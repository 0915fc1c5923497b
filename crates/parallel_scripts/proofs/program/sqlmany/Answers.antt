use Rattle.std.proofs.Common.{◌≡◌, true, false, refl, ap, sym, ◌∙◌}
use Rattle.std.specs.Prelude.{length}
use Rattle.std.proofs.lemmas.List.{length-map}
use Rattle.parallel_scripts.proofs.Alone.{ends_for}
use Rattle.parallel_scripts.proofs.program.sqlmany.Goals as goal

pub returns-then-not-is_open-clause-asked : goal.returns-then-not-is_open-clause-asked
returns-then-not-is_open-clause-asked g c = λ count names asks. c.not_read.ensures.ends _

pub returns-then-not-is_open-clause-closed : goal.returns-then-not-is_open-clause-closed
returns-then-not-is_open-clause-closed g c = λ is count names asks. c.not_read.ensures.told

pub returns-then-not-is_open-clause-others : goal.returns-then-not-is_open-clause-others
returns-then-not-is_open-clause-others g c = λ none. absurd (none _ _ c.in-Ok.ensures.refused)

pub returns-else-not-is_open-clause-asked : goal.returns-else-not-is_open-clause-asked
returns-else-not-is_open-clause-asked g c = λ count names asks. ends_for (sym (length-map _ _) ∙ ap length (c.in-Ok.ensures.asked count names asks).1) c.run_files.ensures

pub returns-else-not-is_open-clause-closed : goal.returns-else-not-is_open-clause-closed
returns-else-not-is_open-clause-closed g c = λ is. let bad : true ≡ false = sym c.if-not-is_open.false ∙ is in absurd (cc)

pub returns-else-not-is_open-clause-others : goal.returns-else-not-is_open-clause-others
returns-else-not-is_open-clause-others g c = λ none. absurd (none _ _ c.in-Ok.ensures.refused)

pub returns-in-Err-clause-asked : goal.returns-in-Err-clause-asked
returns-in-Err-clause-asked g c = λ count names asks. absurd (c.in-Err.ensures.asked count names asks)

pub returns-in-Err-clause-closed : goal.returns-in-Err-clause-closed
returns-in-Err-clause-closed g c = λ is count names asks. absurd (c.in-Err.ensures.asked count names asks)

pub returns-in-Err-clause-others : goal.returns-in-Err-clause-others
returns-in-Err-clause-others g c = λ none. (refl, c.wrong_words.ensures.status)
