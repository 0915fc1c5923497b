use Rattle.parallel_scripts.proofs.Endings.{shown, not_shown}
use Rattle.parallel_scripts.proofs.closing.print_all.Goals as goal

pub returns-in-Ok-clause-shows : goal.returns-in-Ok-clause-shows
returns-in-Ok-clause-shows g c = λ before start least sound.
    shown _ _ _ _ _ _ _ _ c.in-Ok.refused _ _ _ c.in-Ok.is c.show_all-shown.ensures.writes c.in-Ok.ensures.refused c.status_for.ensures.is
    (c.close-back.ensures.closes before start least sound) c.say_unless_closed.ensures.puts

pub returns-in-Err-clause-shows : goal.returns-in-Err-clause-shows
returns-in-Err-clause-shows g c = λ before start least sound.
    not_shown _ _ _ _ _ _ _ _ _ _ c.in-Err.is c.show_all-shown.ensures.writes (c.close-back.ensures.closes before start least sound)
