-- What scripts that ran side by side asked and were answered.
use Rattle.std.specs.Prelude.{Bool, true, false, Option, Some, None, Result, Ok, Err, ◌≡◌, ℕ, List, [], ◌∷◌, ◌++◌, map, length, slice_get}
use mathlib.Core.List.{IsPrefix}
use Rattle.std.specs.Global.{Vec}
use Rattle.refusals.specs.declared.refusal.Refusal.{Refusal}
use Rattle.refusals.specs.declared.refusal.Refusal.TheVariants.{Disk, Exceeded}
use Rattle.refusals.specs.declared.limit.Limit.TheVariants as limit
use Rattle.replies.specs.declared.reply.Reply.{Reply}
use Rattle.session_definitions.specs.World.{World, is_live}
use Rattle.sessions.specs.declared.core_of.Core.{Core}
use Rattle.store.specs.Errors.{HasRisen}
use Rattle.transactions.specs.Refused.{IfRefused, TellsReached}
use Rattle.shared.specs.declared.event.Event.{Event}
use Rattle.shared.specs.declared.event.Act.{Act}
use Rattle.shared.specs.declared.event.Act.TheVariants.{Connects, Refused, Says, Ends}
use Rattle.shared.specs.declared.event.Question.{Question}
use Rattle.shared.specs.declared.event.Question.TheVariants as question
use Rattle.shared.specs.History.{Stays, AllOf, AreOwn, IsCounted, TextMayReach, calls_by}
use Rattle.shared.specs.Views.{Past}

-- a text's answer: its reply, or why no session was made for it
abbrev pub Answer : Type 0
Answer = Result Reply Refusal

-- a call, but for the number of its session
pub data Ask : Type 0 where
  joins : Ask
  refused : Refusal → Ask
  says : Question → Reply → Ask
  leaves : Ask

abbrev pub ask_of : Act → Ask
ask_of (Connects id) = joins
ask_of (Refused refusal) = refused refusal
ask_of (Says id asked reply) = says asked reply
ask_of (Ends id) = leaves

abbrev pub asks : List Event → List Ask
asks [] = []
asks (e ∷ es) = ask_of e.act ∷ asks es

-- The calls for one text, by whether the session stands: it is made where it does not, and the text
-- is asked where it was made.
abbrev pub asked : Bool → List ℕ → Answer → List Ask
asked stands text (Err refusal) = refused refusal ∷ []
asked false text (Ok reply) = joins ∷ says (question.Text text) reply ∷ []
asked true text (Ok reply) = says (question.Text text) reply ∷ []

-- whether the session stands after an answer, and after these
abbrev pub after : Bool → Answer → Bool
after stands (Err refusal) = stands
after stands (Ok reply) = true

abbrev pub stood : Bool → List Answer → Bool
stood stands [] = stands
stood stands (a ∷ answers) = stood (after stands a) answers

abbrev pub opened : Bool → List (List ℕ) → List Answer → List Ask
opened stands [] answers = []
opened stands (t ∷ ts) [] = []
opened stands (t ∷ ts) (a ∷ answers) = asked stands t a ++ opened (after stands a) ts answers

abbrev pub closing : Bool → List Ask
closing true = leaves ∷ []
closing false = []

-- All calls of a script: its session is made before the first text for which it does not stand,
-- every text for which it stands is asked once and in order, and at the end the session is ended.
abbrev pub expected : List (List ℕ) → List Answer → List Ask
expected texts answers = opened false texts answers ++ closing (stood false answers)

-- no text was refused a session where one stands
abbrev pub RefusedWhereNone : Bool → List Answer → Type 0
RefusedWhereNone stands [] = Unit {0}
RefusedWhereNone stands (Err refusal ∷ answers) = (stands ≡ false) × RefusedWhereNone stands answers
RefusedWhereNone stands (Ok reply ∷ answers) = RefusedWhereNone true answers

-- these are all calls of a script of these texts that was answered so; each text has an answer, and
-- no session is refused where one stands
abbrev pub Played : List (List ℕ) → List Event → List Answer → Type 0
Played texts mine answers = (asks mine ≡ expected texts answers) × (length answers ≡ length texts)
    × RefusedWhereNone false answers

-- ---- the texts of scripts as the code has them

abbrev pub Text : Type 0
Text = Vec ℕ

abbrev pub Script : Type 0
Script = Vec Text

abbrev pub Answers : Type 0
Answers = Vec Answer

abbrev pub texts_of : List Text → List (List ℕ)
texts_of script = map (λ t. t.items) script

abbrev pub texts_or : Option Script → List (List ℕ)
texts_or None = []
texts_or (Some script) = texts_of script.items

abbrev pub texts_at : List Script → ℕ → List (List ℕ)
texts_at scripts k = texts_or (slice_get scripts k)

-- the caller made these calls more
pub record Asks (v : Past) (more : List Ask) (w : Past) : Type 0 where
  pub who : w.who ≡ v.who
  pub saw : IsPrefix v.seen w.seen
  pub mine : asks w.mine ≡ asks v.mine ++ more

-- the answer is X0002 only where the device refused a call, as `has_refused` says
abbrev pub TellsDeviceIf : Type 0 → Answer → Type 0
TellsDeviceIf has_refused (Err refusal) = refusal ≡ Disk → has_refused
TellsDeviceIf has_refused (Ok reply) = IfRefused reply (λ refusal. refusal ≡ Disk → has_refused)

-- and so each of a script's
abbrev pub AllTellDeviceIf : Type 0 → List Answer → Type 0
AllTellDeviceIf has_refused [] = Unit {0}
AllTellDeviceIf has_refused (a ∷ answers) = TellsDeviceIf has_refused a × AllTellDeviceIf has_refused answers

-- the answer to a text tells a limit of what the store counts only where the text may reach it; no
-- session is made only where as many stand as may
abbrev pub AnswerTellsLimits : List ℕ → Answer → Type 0
AnswerTellsLimits text (Err refusal) = refusal ≡ Exceeded limit.Sessions
AnswerTellsLimits text (Ok reply) = IfRefused reply (TellsReached (TextMayReach text))

-- and so those of a script
abbrev pub AnswersTellLimits : List (List ℕ) → List Answer → Type 0
AnswersTellLimits [] answers = Unit {0}
AnswersTellLimits (text ∷ texts) [] = Unit {0}
AnswersTellLimits (text ∷ texts) (a ∷ answers) = AnswerTellsLimits text a × AnswersTellLimits texts answers

abbrev pub store_of : {S L D : Type 0} → Core S L D → S
store_of core = core.store

-- There is one history. Each call in it is a script's, and of that script's own session; of each
-- script it has the calls of its texts, each once and in order, with the answers that are given,
-- and no others. Under the premise it is legal, and leads from the first world to the last.
pub record OneHistory (premise : Type 0) (start : World) (scripts : List Script) (replies : List Answers) (sound : Type 0) (end : World) : Type 0 where
  pub log : List Event
  pub all_of : AllOf (length scripts) log
  pub own : AreOwn log
  pub all : length replies ≡ length scripts
  pub each : (k : ℕ) (answers : Answers) → slice_get replies k ≡ Some answers
      → Played (texts_at scripts k) (calls_by k log) answers.items
  pub tells : premise → Stays start log sound end

-- There is one history of the scripts, from a core whose device had refused `before` calls to one
-- whose device has refused `after`. X0002 is told in it, and is an answer, only where the device
-- refused a call; a limit of what the store counts is told in it, and is an answer, only where the
-- text may reach it. No session stands then.
pub record RunSideBySide (premise : Type 0) (start : World) (before : ℕ) (scripts : List Script) (replies : List Answers) (sound : Type 0) (end : World) (after : ℕ) : Type 0 where
  pub history : OneHistory premise start scripts replies sound end
  pub counted : IsCounted before after history.log
  pub none_left : (id : ℕ) → is_live end id ≡ false
  pub device : (k : ℕ) (answers : Answers) → slice_get replies k ≡ Some answers
      → AllTellDeviceIf (HasRisen before after) answers.items
  pub limits : (k : ℕ) (answers : Answers) → slice_get replies k ≡ Some answers
      → AnswersTellLimits (texts_at scripts k) answers.items
