-- What is printed of scripts that ran side by side. All of this is our own choice.
use Rattle.std.specs.Prelude.{ℕ, ◌+◌, Bool, false, ◌||◌, List, [], ◌∷◌, ◌++◌, codes, decimal, Result, Ok, Err}
use Rattle.std.specs.Global.{Vec}
use Rattle.std.specs.List.{list_any}
use Rattle.refusals.specs.declared.refusal.Refusal.{Refusal}
use Rattle.refusals.specs.declared.refusal.Refusal.TheVariants.{Invalid}
use Rattle.refusals.specs.declared.reason.Reason.TheVariants as reason
use Rattle.replies.specs.declared.reply.Reply.{Reply}
use Rattle.replies.specs.declared.reply.Reply.TheVariants as says
use Rattle.replies.specs.Printed.{printed_reply}
use Rattle.replies.specs.Refused.{is_refusal}
use Rattle.parallel_scripts.specs.declared.part.Part.{Part}
use Rattle.parallel_scripts.specs.declared.part.Part.TheVariants as part
use Rattle.parallel_scripts.specs.Cut.{Parts}

abbrev pub Answer : Type 0
Answer = Result Reply Refusal

-- where no session was made for a text, the refusal is its reply
abbrev pub reply_of : Answer → Reply
reply_of (Ok reply) = reply
reply_of (Err refusal) = says.Refused refusal

abbrev pub no_session : Reply
no_session = says.Refused (Invalid reason.Session)

-- The replies to the pieces of a script, in order: the answer to a call, and `session` for a piece
-- that is wrong. There is an answer for each call.
abbrev pub replies_to : List Part → List Answer → List Reply
replies_to [] answers = []
replies_to (part.Wrong ∷ parts) answers = no_session ∷ replies_to parts answers
replies_to (part.Calls ∷ parts) [] = no_session ∷ replies_to parts []
replies_to (part.Calls ∷ parts) (answer ∷ answers) = reply_of answer ∷ replies_to parts answers

abbrev pub printed_replies : List Reply → List ℕ
printed_replies [] = []
printed_replies (reply ∷ replies) = printed_reply reply ++ printed_replies replies

abbrev pub has_refusal : List Reply → Bool
has_refusal = list_any is_refusal

-- the line of script k
abbrev pub printed_number : ℕ → List ℕ
printed_number k = codes "-- " ++ (decimal k ++ codes "\n")

-- a script's line and its replies
abbrev pub printed_script : ℕ → List Part → List Answer → List ℕ
printed_script k parts answers = printed_number k ++ printed_replies (replies_to parts answers)

-- ---- scripts, each with its parts and its answers

abbrev pub Answers : Type 0
Answers = Vec Answer

-- each script's line and replies, the first of which has this number; there are answers for each
abbrev pub printed_scripts : ℕ → List Parts → List Answers → List ℕ
printed_scripts k [] all = []
printed_scripts k (parts ∷ scripts) [] = []
printed_scripts k (parts ∷ scripts) (answers ∷ all) = printed_script k parts.items answers.items ++ printed_scripts (k + 1) scripts all

-- whether a reply to one of them is a refusal
abbrev pub some_refused : List Parts → List Answers → Bool
some_refused [] all = false
some_refused (parts ∷ scripts) [] = false
some_refused (parts ∷ scripts) (answers ∷ all) = has_refusal (replies_to parts.items answers.items) || some_refused scripts all
