-- A query in turns, put together of its calls.
use Rattle.std.proofs.Common.{◌≡◌, ◌<◌, ℕ, List, [], ◌∷◌, ◌++◌, length, Result, Ok, Err, refl, sym, subst}
use Rattle.std.specs.Prelude.{IfErr, IfOk}
use Rattle.sqlval.specs.Value.{Row}
use Rattle.refusals.specs.declared.refusal.Refusal.TheVariants.{Memory}
use Rattle.lexer.specs.Token.{Bytes}
use Rattle.replies.specs.declared.reply.Reply.{Reply}
use Rattle.replies.specs.declared.reply.Reply.TheVariants as says
use Rattle.session_definitions.specs.Asked.{Asked}
use Rattle.session_definitions.specs.Turns.{AreTaken, InTurns, exchange}
use Rattle.session_definitions.specs.World.{World}
use Rattle.sessions.specs.Turned.{TellsOpening, TellsRows}
use Rattle.shared.specs.declared.event.Question.TheVariants as question
use Rattle.shared.specs.Turned.{AreTurns, HasCome, HasTaken, InAllTurns, Turn}
use Rattle.shared.specs.Views.{Past}

pub ok_by : {A B : Type 0} (result : Result A B) (P Q : A → Type 0) → ((a : A) → P a → Q a) → IfOk result P → IfOk result Q
ok_by (Ok a) P Q step h = step a h
ok_by (Err e) P Q step h = tt

pub err_by : {A B : Type 0} (result : Result A B) (P Q : B → Type 0) → ((b : B) → P b → Q b) → IfErr result P → IfErr result Q
err_by (Ok a) P Q step h = tt
err_by (Err e) P Q step h = step e h

module _ (premise : Type 0) (start : World) (before : ℕ) (v : Past) (text : Bytes) (n : ℕ) where
  -- the first turn: the query is open
  pub begun : (w : Past) (reply : Reply) → reply ≡ says.Done → Turn premise start before v (question.Query text) reply w
      → HasTaken premise start before v text n [] w
  begun w reply is turn = record {
    exchanges = exchange (Asked.Query text) says.Done ∷ [];
    turns = subst (λ (r : Reply). AreTurns premise start before v (exchange (Asked.Query text) r ∷ []) w) is
        (AreTurns.more [] v w (question.Query text) reply AreTurns.none turn);
    taken = AreTaken.opened;
  }

  -- or it was refused
  pub not_begun : (w : Past) (reply : Reply) → TellsOpening reply → (reply ≡ says.Done → ⊥) → Turn premise start before v (question.Query text) reply w
      → InAllTurns premise start before v text n reply w
  not_begun w says.Done tells never turn = absurd (never refl)
  not_begun w (says.Refused refusal) tells never turn = record {
    exchanges = exchange (Asked.Query text) (says.Refused refusal) ∷ [];
    turns = AreTurns.more [] v w (question.Query text) (says.Refused refusal) AreTurns.none turn;
    told = InTurns.not_opened refusal;
  }
  not_begun w _ tells never turn = absurd tells

  -- a further turn gave rows
  pub come : (found rows : List Row) (mid w : Past) (reply : Reply) → reply ≡ says.Rows rows → HasTaken premise start before v text n found mid
      → Turn premise start before mid (question.Rows n) reply w
      → HasCome premise start before v text n found rows w
  come found rows mid w reply is h turn = record {
    earlier = h.exchanges;
    turns = subst (λ (r : Reply). AreTurns premise start before v (exchange (Asked.Rows n) r ∷ h.exchanges) w) is
        (AreTurns.more h.exchanges mid w (question.Rows n) reply h.turns turn);
    taken = h.taken;
  }

  -- or it was refused
  pub broken : (found : List Row) (mid w : Past) (reply : Reply) → TellsRows n reply → ((rows : List Row) → reply ≡ says.Rows rows → ⊥)
      → HasTaken premise start before v text n found mid → Turn premise start before mid (question.Rows n) reply w
      → InAllTurns premise start before v text n reply w
  broken found mid w (says.Rows rows) tells never h turn = absurd (never rows refl)
  broken found mid w (says.Refused refusal) tells never h turn = record {
    exchanges = exchange (Asked.Rows n) (says.Refused refusal) ∷ h.exchanges;
    turns = AreTurns.more h.exchanges mid w (question.Rows n) (says.Refused refusal) h.turns turn;
    told = InTurns.refused h.exchanges found refusal h.taken;
  }
  broken found mid w _ tells never h turn = absurd tells

  -- so many rows came, and the query stays open
  pub kept : (found rows all : List Row) (w : Past) → all ≡ found ++ rows → length rows ≡ n → HasCome premise start before v text n found rows w
      → HasTaken premise start before v text n all w
  kept found rows all w is so_many h = record {
    exchanges = exchange (Asked.Rows n) (says.Rows rows) ∷ h.earlier;
    turns = h.turns;
    taken = subst (λ (x : List Row). AreTaken text n (exchange (Asked.Rows n) (says.Rows rows) ∷ h.earlier) x) (sym is)
        (AreTaken.more h.earlier found rows h.taken so_many);
  }

  -- fewer came, and it was closed
  pub all_given : (found rows all : List Row) (mid w : Past) (closing : Reply) → all ≡ found ++ rows → length rows < n
      → HasCome premise start before v text n found rows mid → Turn premise start before mid question.Close closing w
      → InAllTurns premise start before v text n (says.Rows all) w
  all_given found rows all mid w closing is few h turn =
      subst (λ (x : List Row). InAllTurns premise start before v text n (says.Rows x) w) (sym is)
      (record {
        exchanges = exchange Asked.Close closing ∷ exchange (Asked.Rows n) (says.Rows rows) ∷ h.earlier;
        turns = AreTurns.more (exchange (Asked.Rows n) (says.Rows rows) ∷ h.earlier) mid w question.Close closing h.turns turn;
        told = InTurns.fewer h.earlier found rows closing h.taken few;
      })

  -- there was no memory for them, and it was closed
  pub unkept : (found rows : List Row) (mid w : Past) (closing : Reply) → HasCome premise start before v text n found rows mid
      → Turn premise start before mid question.Close closing w
      → InAllTurns premise start before v text n (says.Refused Memory) w
  unkept found rows mid w closing h turn = record {
    exchanges = exchange Asked.Close closing ∷ exchange (Asked.Rows n) (says.Rows rows) ∷ h.earlier;
    turns = AreTurns.more (exchange (Asked.Rows n) (says.Rows rows) ∷ h.earlier) mid w question.Close closing h.turns turn;
    told = InTurns.unkept h.earlier found rows closing h.taken;
  }
