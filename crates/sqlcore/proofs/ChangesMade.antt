-- What a change makes, by a reading of the texts of CHECKs and by rules that have that reading.
use Rattle.std.proofs.Common.{◌≡◌}
use Rattle.refusals.specs.declared.refusal.Refusal.{Refusal}
use Rattle.typing.specs.declared.statement.Change.{Change}
use Rattle.denote.specs.Database.{Database}
use Rattle.replies.specs.declared.reply.Reply.{Reply}
use Rattle.session_definitions.specs.Rules.{Rules}
use Rattle.store.specs.Stored.{Stored}
use Rattle.constraints.specs.Changed as by_reading
use Rattle.table_changes.specs.Given.{HasAccepted}
use Rattle.sessions.specs.Changed.{HasChanged, RefusesChange}

pub has_changed : (rules : Rules) (old : Stored) (change : Change) (reply : Reply) (new : Stored) → HasAccepted rules.check old change reply new → HasChanged rules old change reply new
has_changed rules old change reply new h =
    record { contents = h.contents; marked = h.marked; count = h.count; accepted = h.accepted; says_so = h.says_so; leaves = h.leaves }

pub refuses_change : (rules : Rules) (db : Database) (change : Change) (refusal : Refusal) → by_reading.RefusesChange rules.check db change refusal → RefusesChange rules db change refusal
refuses_change rules db change refusal (by_reading.RefusesChange.withheld reserved) = RefusesChange.withheld reserved
refuses_change rules db change refusal (by_reading.RefusesChange.raises fault says_so one) = RefusesChange.raises fault says_so one
refuses_change rules db change refusal (by_reading.RefusesChange.violates name says_so one) = RefusesChange.violates name says_so one
