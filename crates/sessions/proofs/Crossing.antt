-- A core may go to another thread where its store and its language may.
use denote.RattleType.{RattleType}
use denote.Param.Send.{IsSend, sendable}
use denote.Param.SendFields.{declared_send}
use Rattle.std.proofs.Crossing.{crosses}
use Rattle.std.proofs.option.Option.TheSendSync as option
use Rattle.std.proofs.alloc.Global.TheSendSync as global
use Rattle.ast.proofs.statement.AccessMode.TheSendSync as mode
use Rattle.cursors.proofs.Crossing.{cursors_send}
use Rattle.sessions.specs.contracts.slots.Slot as slot
use Rattle.sessions.specs.contracts.slots.Slots as slots
use Rattle.sessions.specs.contracts.core_of.Core as core

ruleset plain = (sendable, crosses, option.the_send, option.the_field_send, global.the_send, mode.the_send, mode.the_field_send)

slot_send : IsSend slot.the_row
slot_send = declared_send slot.the_type (search plain, (search (cursors_send), tt))

slots_send : IsSend slots.the_row
slots_send = declared_send slots.the_type (search (plain, slot_send), tt)

pub core_send : (S L D : RattleType) → IsSend S → IsSend L → IsSend (core.the_row S L D)
core_send S L D s l = declared_send (core.the_type S L D) (search plain, (search (plain, l), (search (plain, s), (search (slots_send), (search plain, tt)))))
