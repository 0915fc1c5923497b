-- Which refusal a fault is, and which refusals may stand in place of nearly any reply. The codes
-- from X0001 on are our own choice.
use Rattle.std.specs.Prelude.{◌≡◌}
use Rattle.refusals.specs.declared.refusal.Refusal.{Refusal}
use Rattle.refusals.specs.declared.refusal.Refusal.TheVariants as refused
use Rattle.refusals.specs.declared.limit.Limit.{Limit}
use Rattle.refusals.specs.declared.limit.Limit.TheVariants as limit
use Rattle.denote.specs.declared.fault.Fault.{Fault}
use Rattle.denote.specs.declared.fault.Fault.TheVariants as fault
use Rattle.replies.specs.declared.reply.Reply.{Reply}
use Rattle.replies.specs.declared.reply.Reply.TheVariants as says
use Rattle.session_definitions.specs.Effect.{Effect}

abbrev pub refusal_of : Fault → Refusal
refusal_of fault.ManyRows = refused.ManyRows
refusal_of fault.TextTooLong = refused.TextTooLong
refusal_of fault.OutOfRange = refused.OutOfRange
refusal_of fault.DivisionByZero = refused.DivisionByZero
refusal_of fault.Record = refused.Exceeded limit.Record
refusal_of fault.Key = refused.Exceeded limit.Key

-- pages, private pages and kept page images are counted where they are stored, which the world does
-- not show
abbrev pub IsStoreLimit : Limit → Type 0
IsStoreLimit limit.Pages = Unit {0}
IsStoreLimit limit.Private = Unit {0}
IsStoreLimit limit.Kept = Unit {0}
IsStoreLimit _ = ⊥

-- a device that refused, or a limit of the store
abbrev pub IsOfStore : Refusal → Type 0
IsOfStore refused.Disk = Unit {0}
IsOfStore (refused.Exceeded which) = IsStoreLimit which
IsOfStore _ = ⊥

-- these, or want of memory
abbrev pub IsReserved : Refusal → Type 0
IsReserved refused.Memory = Unit {0}
IsReserved refusal = IsOfStore refusal

-- a flush is refused for want of memory, or by the device
abbrev pub StopsFlush : Refusal → Type 0
StopsFlush refused.Memory = Unit {0}
StopsFlush refused.Disk = Unit {0}
StopsFlush _ = ⊥

-- the statement is refused, and the world stays as it was
pub record Refuses (refusal : Refusal) (reply : Reply) (effect : Effect) : Type 0 where
  pub says_so : reply ≡ says.Refused refusal
  pub leaves_all : effect ≡ Effect.Nothing
