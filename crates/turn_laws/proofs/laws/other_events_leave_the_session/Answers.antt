use Rattle.turn_laws.proofs.Slots.{others_leave}
use Rattle.turn_laws.proofs.laws.other_events_leave_the_session.Goals as goal

pub returns : goal.returns
returns c rules old new s event = others_leave rules old new s event
