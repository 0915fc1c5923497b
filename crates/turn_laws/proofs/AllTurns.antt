-- All turns of a query, from the first to the last.
use Rattle.std.proofs.Common.{◌≡◌, ◌<◌, ℕ, true, List, [], ◌∷◌, ◌++◌, length, refl}
use Rattle.sqlval.specs.Value.{Row}
use Rattle.refusals.specs.declared.refusal.Refusal.{Refusal}
use Rattle.lexer.specs.Token.{Bytes}
use Rattle.replies.specs.declared.reply.Reply.{Reply}
use Rattle.replies.specs.declared.reply.Reply.TheVariants as says
use Rattle.session_definitions.specs.Asked.{Asked}
use Rattle.session_definitions.specs.Rules.{Rules}
use Rattle.session_definitions.specs.Run.{Moment, Run}
use Rattle.session_definitions.specs.Turns.{AreTaken, Exchange, InTurns, TakesTurns, exchange, exchanges_in}
use Rattle.session_definitions.specs.World.{World}
use Rattle.turn_laws.proofs.Ends.{broken, closed_so, given_all, refused}
use Rattle.turn_laws.proofs.Latest.{Latest, latest, stands_in}
use Rattle.turn_laws.proofs.Openings.{first_refused}
use Rattle.turn_laws.proofs.Parts.{parted}
use Rattle.turn_laws.proofs.Taking.{first_among, first_here, taking}
use Rattle.turn_laws.specs.Answered.{CouldBeTold, IsAnswered, IsAtOnce, IsRefused}

module _ (rules : Rules) (s : ℕ) (text : Bytes) (n : ℕ) (start : World) where
  -- the calls of which rows are put together, taken one by one from the last
  rows_by_last : (earlier : List Exchange) (before last : List Row) (closing : Reply) (moments : List Moment) (end : World)
      → AreTaken text n earlier before → length last < n
      → (c : Latest rules s Asked.Close closing (exchange (Asked.Rows n) (says.Rows last) ∷ earlier) moments start end)
      → (l : Latest rules s (Asked.Rows n) (says.Rows last) earlier c.earlier start c.moment.before)
      → IsAnswered rules s text moments (says.Rows (before ++ last)) end
  rows_by_last earlier before last closing moments end taken few c l =
      closed_so rules s text n start (exchange (Asked.Rows n) (says.Rows last) ∷ earlier) (before ++ last) closing moments end c
      (given_all rules s text n start earlier before last c.earlier c.moment.before few l
      (taking rules s text n start earlier before taken l.earlier l.moment.before l.before l.run l.stood))

  rows_by_close : (earlier : List Exchange) (before last : List Row) (closing : Reply) (moments : List Moment) (end : World)
      → AreTaken text n earlier before → length last < n
      → (c : Latest rules s Asked.Close closing (exchange (Asked.Rows n) (says.Rows last) ∷ earlier) moments start end)
      → IsAnswered rules s text moments (says.Rows (before ++ last)) end
  rows_by_close earlier before last closing moments end taken few c =
      rows_by_last earlier before last closing moments end taken few c
      (latest rules s (Asked.Rows n) (says.Rows last) earlier start c.earlier c.moment.before c.before c.run c.stood)

  -- the call that was refused
  refused_by_last : (earlier : List Exchange) (before : List Row) (refusal : Refusal) (moments : List Moment) (end : World)
      → AreTaken text n earlier before
      → (l : Latest rules s (Asked.Rows n) (says.Refused refusal) earlier moments start end)
      → IsRefused rules s text moments refusal
  refused_by_last earlier before refusal moments end taken l =
      refused rules s text moments refusal end
      (broken rules s text n start earlier before refusal moments end l
      (taking rules s text n start earlier before taken l.earlier l.moment.before l.before l.run l.stood))

  refused_by_first : (refusal : Refusal) (moments : List Moment) (end : World)
      → (l : Latest rules s (Asked.Query text) (says.Refused refusal) [] moments start end)
      → IsAtOnce s text moments refusal
      → IsRefused rules s text moments refusal
  refused_by_first refusal moments end l once =
      first_refused rules s text moments
      (first_among s text (l.moment ∷ l.earlier) moments l.within (first_here s text l.moment l.earlier (says.Refused refusal) l.effect l.is))
      l.call.session l.call.stands refusal l.effect l.call.replies once

  rows_told : (moments : List Moment) (end : World) (exchanges : List Exchange) (rows : List Row) → InTurns text n exchanges (says.Rows rows)
      → exchanges_in s moments ≡ exchanges → Run rules start moments end → stands_in s moments ≡ true
      → IsAnswered rules s text moments (says.Rows rows) end
  rows_told moments end exchanges rows (InTurns.fewer earlier before last closing taken few) all run stands =
      rows_by_close earlier before last closing moments end taken few
      (latest rules s Asked.Close closing (exchange (Asked.Rows n) (says.Rows last) ∷ earlier) start moments end all run stands)

  refusal_told : (moments : List Moment) (end : World) (exchanges : List Exchange) (refusal : Refusal) → InTurns text n exchanges (says.Refused refusal)
      → exchanges_in s moments ≡ exchanges → Run rules start moments end → stands_in s moments ≡ true
      → IsRefused rules s text moments refusal
  refusal_told moments end exchanges refusal (InTurns.not_opened _) all run stands =
      refused_by_first refusal moments end (latest rules s (Asked.Query text) (says.Refused refusal) [] start moments end all run stands) all
  refusal_told moments end exchanges refusal (InTurns.refused earlier before _ taken) all run stands =
      refused_by_last earlier before refusal moments end taken
      (latest rules s (Asked.Rows n) (says.Refused refusal) earlier start moments end all run stands)
  refusal_told moments end exchanges refusal (InTurns.unkept earlier before last closing taken) all run stands = IsRefused.withheld tt

pub answers : (rules : Rules) (s : ℕ) (text : Bytes) (n : ℕ) (start end : World) (moments : List Moment) (rows : List Row)
    → Run rules start moments end → TakesTurns s text n moments (says.Rows rows)
    → IsAnswered rules s text moments (says.Rows rows) end
answers rules s text n start end moments rows run h =
    rows_told rules s text n start moments end (exchanges_in s moments) rows h.turns refl run h.stands

pub refuses : (rules : Rules) (s : ℕ) (text : Bytes) (n : ℕ) (start end : World) (moments : List Moment) (refusal : Refusal)
    → Run rules start moments end → TakesTurns s text n moments (says.Refused refusal)
    → IsRefused rules s text moments refusal
refuses rules s text n start end moments refusal run h =
    refusal_told rules s text n start moments end (exchanges_in s moments) refusal h.turns refl run h.stands

-- wherever they stand in a run
pub answers_in : (rules : Rules) (s : ℕ) (text : Bytes) (n : ℕ) (start end : World) (earlier turns later : List Moment) (rows : List Row)
    → Run rules start (later ++ (turns ++ earlier)) end → TakesTurns s text n turns (says.Rows rows)
    → CouldBeTold rules s text turns (says.Rows rows)
answers_in rules s text n start end earlier turns later rows run h =
    let through = parted rules start end (turns ++ earlier) later run in
    let before = parted rules start through.0 earlier turns through.1 in
    (answers rules s text n before.0 through.0 turns rows before.2 h).whole
