use Rattle.std.proofs.Common.{rules, subst, sym}
use Rattle.sessions.specs.OfCore.{world_of}
use Rattle.scripts.specs.Settled.{HoldAll}
use Rattle.scripts.proofs.Keeping.{kept_made}
use Rattle.scripts.proofs.Limits.{not_made_told}
use Rattle.scripts.proofs.Placed.{held_made}
use Rattle.scripts.proofs.script.Sessions.session.Goals as goal

pub returns-in-Ok-clause-kept : goal.returns-in-Ok-clause-kept
returns-in-Ok-clause-kept g c = λ r are h.
    kept_made g.S.Store.is_sound g.S.Store.shows r c.in-Ok.session c.args.core.now c.new_session.new.self c.in-Ok.ensures.makes c.new_session.ensures.sound h

pub returns-in-Ok-clause-held : goal.returns-in-Ok-clause-held
returns-in-Ok-clause-held g c = λ held.
    held_made c.args.self.now.standing c.args.self.now.chosen c.in-Ok.session (world_of g.S.Store.shows c.args.core.now) (world_of g.S.Store.shows c.new_session.new.self) (search rules)
    c.in_default.is c.in-Ok.ensures.live.1 held

pub returns-in-Err-clause-limits : goal.returns-in-Err-clause-limits
returns-in-Err-clause-limits g c = not_made_told c.in-Err.refusal c.in-Err.ensures.refused.0

pub returns-in-Err-clause-held : goal.returns-in-Err-clause-held
returns-in-Err-clause-held g c = λ held. subst (λ core. HoldAll c.args.self.now.standing (world_of g.S.Store.shows core)) (sym c.in-Err.ensures.refused.1) held
