-- What `sqlsh load` and `sqlsh dump` do with a text of a form, over a store that was opened. All of
-- this is our own choice.
use Rattle.std.specs.Prelude.{◌≡◌, ℕ, List, Option, Ok, Err}
use Rattle.refusals.specs.declared.refusal.Refusal.{Refusal}
use Rattle.lexer.specs.Token.{Bytes}
use Rattle.replies.specs.declared.reply.Reply.{Reply}
use Rattle.replies.specs.declared.reply.Reply.TheVariants as says
use Rattle.session_definitions.specs.Rules.{Rules}
use Rattle.session_definitions.specs.Run.{MakesSession}
use Rattle.session_definitions.specs.World.{World}
use Rattle.csvio.specs.declared.form.Form.{Form}
use Rattle.csvio.specs.Formed.{DumpsFormed, LoadsFormed, LoadsFormedBatches}
use Rattle.transfers.specs.Transfers.{Notes}

-- A session is made, and in it the rows of the text are loaded; or none is made, and the refusal of
-- that is answered.
pub data LoadsFormedAlone (rules : Rules) (form : Form) (table : Bytes) (input : Option (List ℕ)) (old : World) (reply : Reply) (new : World) : Type 0 where
  unmade : (refusal : Refusal) → MakesSession old (Err refusal) new → reply ≡ says.Refused refusal
      → LoadsFormedAlone rules form table input old reply new
  loads : (s : ℕ) (begun : World) → MakesSession old (Ok s) begun
      → LoadsFormed rules form begun s table input reply new → LoadsFormedAlone rules form table input old reply new

-- the same by batches, where so many rows stand committed
pub data LoadsFormedBatchesAlone (rules : Rules) (form : Form) (table : Bytes) (most : ℕ) (input : Option (List ℕ)) (old : World) (reply : Reply) (committed : ℕ) (new : World) : Type 0 where
  unmade : (refusal : Refusal) → MakesSession old (Err refusal) new → reply ≡ says.Refused refusal → committed ≡ 0
      → LoadsFormedBatchesAlone rules form table most input old reply committed new
  loads : (s : ℕ) (begun : World) → MakesSession old (Ok s) begun
      → LoadsFormedBatches rules form begun s table most input reply committed new
      → LoadsFormedBatchesAlone rules form table most input old reply committed new

-- and a note says where that stopped
pub record LoadsFormedNoted (rules : Rules) (form : Form) (table : Bytes) (most : ℕ) (input noted notes : Option (List ℕ)) (old : World) (reply : Reply) (new : World) : Type 0 where
  pub committed : ℕ
  pub loads : LoadsFormedBatchesAlone rules form table most input old reply committed new
  pub says : Notes reply committed noted notes

-- A session is made, and in it the table is dumped; or none is made, and the refusal of that is
-- answered.
pub data DumpsFormedAlone (rules : Rules) (form : Form) (table : Bytes) (held holds : Option (List ℕ)) (old : World) (reply : Reply) (new : World) : Type 0 where
  unmade : (refusal : Refusal) → MakesSession old (Err refusal) new → reply ≡ says.Refused refusal → holds ≡ held
      → DumpsFormedAlone rules form table held holds old reply new
  dumps : (s : ℕ) (begun : World) → MakesSession old (Ok s) begun
      → DumpsFormed rules form begun s table held holds reply new
      → DumpsFormedAlone rules form table held holds old reply new
