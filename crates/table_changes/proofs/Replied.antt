-- What is answered where a change is carried out is no refusal.
use Rattle.std.proofs.Common.{◌≡◌, ℕ, zero, suc, Some}
use Rattle.replies.specs.declared.reply.Reply.{Reply}
use Rattle.session_definitions.specs.Statements.{counted}
use Rattle.transactions.specs.Refused.{IfRefused}

pub no_refusal : (n : ℕ) (reply : Reply) → reply ≡ counted (Some n) → IfRefused reply (λ refusal. ⊥)
no_refusal zero reply e = rw e tt
no_refusal (suc n) reply e = rw e tt
