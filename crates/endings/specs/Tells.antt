-- What is said of a fault. All of this is our own choice.
use Rattle.std.specs.Prelude.{ℕ, Bool, List, Option}
use Rattle.refusals.specs.declared.refusal.Refusal.{Refusal}
use Rattle.replies.specs.declared.reply.Reply.TheVariants as says
use Rattle.replies.specs.Printed.{printed_reply}
use Rattle.replies.specs.Writes.{Writes}

-- of the line of a refusal a beginning was written, and all of it where it is told
abbrev pub Tells : Refusal → Bool → Option (List ℕ) → Option (List ℕ) → Type 0
Tells refusal is_told held holds = Writes held holds is_told (printed_reply (says.Refused refusal))
