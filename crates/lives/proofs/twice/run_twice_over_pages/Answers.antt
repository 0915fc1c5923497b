use Rattle.std.proofs.Common.{refl, inl}
use Rattle.std.specs.FinMap.{empty}
use Rattle.lives.proofs.twice.run_twice_over_pages.Goals as goal

pub returns-clause-saved : goal.returns-clause-saved
returns-clause-saved g c = λ rules db are saved good. c.run_twice.ensures.runs rules db are saved good

pub returns-clause-new : goal.returns-clause-new
returns-clause-new g c = λ rules are honest bare.
    c.run_twice.ensures.runs rules empty are (honest, inl (bare, refl)) (c.databases_stay_good.ensures.new_world rules.check).last

pub returns-clause-ends : goal.returns-clause-ends
returns-clause-ends g c = c.run_twice.ensures.ends
