-- A core that threads share may be lent to each of them, where its store and its language may go
-- to another thread.
use denote.RattleType.{RattleType}
use denote.Param.Send.{IsSend, IsSync, sendable, view_send}
use denote.Param.SendFields.{declared_send, declared_sync, as_row_sync}
use denote.Builtin.{u8}
use Rattle.std.proofs.Crossing.{crosses}
use Rattle.std.proofs.vec.Vec.TheSendSync as vec
use Rattle.std.specs.contracts.alloc.Global as allocator
use Rattle.std.specs.contracts.impls.GlobalAllocator.TheImpl as global_allocator
use Rattle.std.specs.contracts.vec.Vec as vector
use Rattle.std.proofs.marker.PhantomData.TheSendSync as phantom
use Rattle.std.proofs.sync.Mutex.TheSendSync as mutex
use Rattle.std.specs.contracts.sync.Mutex as lock
use Rattle.atomic_table.proofs.shared.Seat.TheSendSync as seat
use Rattle.crossbeam_utils.proofs.atomic.seq_cell.Doing.TheSendSync as doing
use Rattle.crossbeam_utils.proofs.atomic.seq_cell.Wide.TheSendSync as wide
use Rattle.store.specs.declared.storing.Store as Store
use Rattle.sessions.proofs.Crossing.{core_send}
use Rattle.shared.proofs.rule.View.TheSendSync as view
use Rattle.shared.specs.declared.rule.Room as Room
use Rattle.shared.specs.contracts.desk.Desk as desk
use Rattle.shared.specs.contracts.desk.Desk.TheInside as inside
use Rattle.shared.specs.contracts.lock.Shared as shared

ruleset passes = (sendable, crosses, phantom.the_send, seat.the_send, doing.the_send, view.the_send)

inside_send : (S L J D : RattleType) (s : Store.Ghosts S.Denot D.Denot) (j : Room.Ghosts J.Denot) → IsSend S → IsSend L → IsSend (inside.the_row S L J D s j)
inside_send S L J D s j a b = declared_send (inside.the_type S L J D s j) (search (core_send, a, b), (search sendable, (search passes, (search passes, tt))))

desk_send : (S L J D : RattleType) (s : Store.Ghosts S.Denot D.Denot) (j : Room.Ghosts J.Denot) → IsSend S → IsSend L → IsSend (desk.the_row S L J D s j)
desk_send S L J D s j a b = search (view_send, inside_send)

pub shared_sync : (S L J D : RattleType) (s : Store.Ghosts S.Denot D.Denot) (j : Room.Ghosts J.Denot) → IsSend S → IsSend L → IsSync (shared.the_row S L J D s j)
shared_sync S L J D s j a b = declared_sync (shared.the_type S L J D s j) (search (passes, wide.the_sync) depth 20, (as_row_sync (lock.the_field (desk.the_row S L J D s j)) (mutex.the_sync (desk.the_row S L J D s j) (desk_send S L J D s j a b)), tt))

-- the texts of a script
abbrev text : RattleType
text = vector.the_row u8 allocator.the_row global_allocator.ghosts

pub texts_sync : IsSync (vector.the_row text allocator.the_row global_allocator.ghosts)
texts_sync = search (sendable, crosses, vec.the_sync) depth 12
