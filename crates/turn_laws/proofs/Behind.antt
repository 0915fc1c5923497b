-- What the turns of a query leave behind.
use Rattle.std.proofs.Common.{◌≡◌, ◌⊎◌, ℕ, true, List, [], ◌∷◌, ◌++◌, None, refl, sym, ap, ◌∙◌, inl, inr}
use Rattle.sqlval.specs.Value.{Row}
use Rattle.refusals.specs.declared.refusal.Refusal.{Refusal}
use Rattle.lexer.specs.Token.{Bytes}
use Rattle.replies.specs.declared.reply.Reply.{Reply}
use Rattle.replies.specs.declared.reply.Reply.TheVariants as says
use Rattle.session_definitions.specs.Asked.{Asked}
use Rattle.session_definitions.specs.Rules.{Rules}
use Rattle.session_definitions.specs.Run.{Moment, Run}
use Rattle.session_definitions.specs.Turns.{AreTaken, Exchange, InTurns, TakesTurns, exchange, exchanges_in}
use Rattle.session_definitions.specs.World.{World}
use Rattle.turn_laws.proofs.Ends.{broken, closed, closed_behind, closing_so}
use Rattle.turn_laws.proofs.Latest.{Latest, latest, stands_in}
use Rattle.turn_laws.proofs.Openings.{first_leaves, first_left}
use Rattle.turn_laws.proofs.Taking.{IsTaking, first_among, first_here, further_taken, slot, taking}
use Rattle.turn_laws.specs.Answered.{HasClosed, IsAsBefore}

same_asked : (e f : Exchange) (es fs : List Exchange) → e ∷ es ≡ f ∷ fs → e.asked ≡ f.asked
same_asked e f es fs h = let first : e ≡ f = cc in ap (λ (x : Exchange). x.asked) first

same_reply : (e f : Exchange) (es fs : List Exchange) → e ∷ es ≡ f ∷ fs → e.reply ≡ f.reply
same_reply e f es fs h = let first : e ≡ f = cc in ap (λ (x : Exchange). x.reply) first

query_closes : (text : Bytes) → Asked.Query text ≡ Asked.Close → ⊥
query_closes text e = cc

rows_close : (n : ℕ) → Asked.Rows n ≡ Asked.Close → ⊥
rows_close n e = cc

module _ (rules : Rules) (s : ℕ) (text : Bytes) (n : ℕ) (start : World) where
  -- the rows that came before a query was closed
  taken_before : (earlier : List Exchange) (before last : List Row) (others : List Exchange) (closing : Reply) (moments : List Moment) (end : World)
      → AreTaken text n earlier before
      → (c : Latest rules s Asked.Close closing others moments start end)
      → (l : Latest rules s (Asked.Rows n) (says.Rows last) earlier c.earlier start c.moment.before)
      → IsTaking rules s text c.earlier (before ++ last) c.moment.before
  taken_before earlier before last others closing moments end taken c l =
      further_taken rules s text n start earlier before last c.earlier c.moment.before l
      (taking rules s text n start earlier before taken l.earlier l.moment.before l.before l.run l.stood)

  taken_until : (earlier : List Exchange) (before last : List Row) (closing : Reply) (moments : List Moment) (end : World)
      → AreTaken text n earlier before
      → (c : Latest rules s Asked.Close closing (exchange (Asked.Rows n) (says.Rows last) ∷ earlier) moments start end)
      → IsTaking rules s text c.earlier (before ++ last) c.moment.before
  taken_until earlier before last closing moments end taken c =
      taken_before earlier before last (exchange (Asked.Rows n) (says.Rows last) ∷ earlier) closing moments end taken c
      (latest rules s (Asked.Rows n) (says.Rows last) earlier start c.earlier c.moment.before c.before c.run c.stood)

  -- ---- the call that closes it

  closing_told : (earlier : List Exchange) (before last : List Row) (closing : Reply) (moments : List Moment) (end : World)
      → AreTaken text n earlier before
      → Latest rules s Asked.Close closing (exchange (Asked.Rows n) (says.Rows last) ∷ earlier) moments start end
      → closing ≡ says.Done
  closing_told earlier before last closing moments end taken c =
      (closing_so rules s text n start (exchange (Asked.Rows n) (says.Rows last) ∷ earlier) (before ++ last) closing moments end c
      (taken_until earlier before last closing moments end taken c)).0

  told_at_close : (moments : List Moment) (end : World) (exchanges others : List Exchange) (reply closing : Reply) → InTurns text n exchanges reply
      → exchanges_in s moments ≡ exchanges → exchanges ≡ exchange Asked.Close closing ∷ others
      → Run rules start moments end → stands_in s moments ≡ true
      → closing ≡ says.Done
  told_at_close moments end exchanges others reply closing (InTurns.not_opened refusal) all ends run stands =
      absurd (query_closes text (same_asked _ _ _ _ ends))
  told_at_close moments end exchanges others reply closing (InTurns.refused earlier before refusal taken) all ends run stands =
      absurd (rows_close n (same_asked _ _ _ _ ends))
  told_at_close moments end exchanges others reply closing (InTurns.fewer earlier before last told taken few) all ends run stands =
      sym (same_reply _ _ _ _ ends)
      ∙ closing_told earlier before last told moments end taken
      (latest rules s Asked.Close told (exchange (Asked.Rows n) (says.Rows last) ∷ earlier) start moments end all run stands)
  told_at_close moments end exchanges others reply closing (InTurns.unkept earlier before last told taken) all ends run stands =
      sym (same_reply _ _ _ _ ends)
      ∙ closing_told earlier before last told moments end taken
      (latest rules s Asked.Close told (exchange (Asked.Rows n) (says.Rows last) ∷ earlier) start moments end all run stands)

  -- ---- the session behind them

  left_closed : (earlier : List Exchange) (before last : List Row) (closing : Reply) (moments : List Moment) (end : World)
      → (c : Latest rules s Asked.Close closing (exchange (Asked.Rows n) (says.Rows last) ∷ earlier) moments start end)
      → IsTaking rules s text c.earlier (before ++ last) c.moment.before
      → HasClosed end s
  left_closed earlier before last closing moments end c h = record {
    session = slot rules s text c.earlier h.opened None;
    stands = closed_behind rules s text n start (exchange (Asked.Rows n) (says.Rows last) ∷ earlier) (before ++ last) closing moments end c h;
    transaction = _;
    has = refl;
    closed = refl;
  }

  rows_left : (moments : List Moment) (end : World) (exchanges : List Exchange) (rows : List Row) → InTurns text n exchanges (says.Rows rows)
      → exchanges_in s moments ≡ exchanges → Run rules start moments end → stands_in s moments ≡ true
      → HasClosed end s
  rows_left moments end exchanges rows (InTurns.fewer earlier before last closing taken few) all run stands =
      left_by (latest rules s Asked.Close closing (exchange (Asked.Rows n) (says.Rows last) ∷ earlier) start moments end all run stands)
    where
      left_by : Latest rules s Asked.Close closing (exchange (Asked.Rows n) (says.Rows last) ∷ earlier) moments start end → HasClosed end s
      left_by c = left_closed earlier before last closing moments end c (taken_until earlier before last closing moments end taken c)

  left_refused : (earlier : List Exchange) (before : List Row) (refusal : Refusal) (moments : List Moment) (end : World)
      → AreTaken text n earlier before
      → Latest rules s (Asked.Rows n) (says.Refused refusal) earlier moments start end
      → HasClosed end s
  left_refused earlier before refusal moments end taken l =
      closed rules s text moments end
      (broken rules s text n start earlier before refusal moments end l
      (taking rules s text n start earlier before taken l.earlier l.moment.before l.before l.run l.stood)).turned

  left_as_before : (refusal : Refusal) (moments : List Moment) (end : World)
      → Latest rules s (Asked.Query text) (says.Refused refusal) [] moments start end
      → IsAsBefore s text moments end
  left_as_before refusal moments end l = record {
    turn = first_among s text (l.moment ∷ l.earlier) moments l.within (first_here s text l.moment l.earlier (says.Refused refusal) l.effect l.is);
    same = first_left rules s text l.moment.before l.behind end refusal l.effect l.call
        (first_leaves rules s text (l.moment ∷ l.earlier) (first_here s text l.moment l.earlier (says.Refused refusal) l.effect l.is)
        l.call.session l.call.stands refusal l.effect l.call.replies)
        l.kept;
  }

  refusal_left : (moments : List Moment) (end : World) (exchanges : List Exchange) (refusal : Refusal) → InTurns text n exchanges (says.Refused refusal)
      → exchanges_in s moments ≡ exchanges → Run rules start moments end → stands_in s moments ≡ true
      → HasClosed end s ⊎ IsAsBefore s text moments end
  refusal_left moments end exchanges refusal (InTurns.not_opened _) all run stands =
      inr (left_as_before refusal moments end (latest rules s (Asked.Query text) (says.Refused refusal) [] start moments end all run stands))
  refusal_left moments end exchanges refusal (InTurns.refused earlier before _ taken) all run stands =
      inl (left_refused earlier before refusal moments end taken
      (latest rules s (Asked.Rows n) (says.Refused refusal) earlier start moments end all run stands))
  refusal_left moments end exchanges refusal (InTurns.unkept earlier before last closing taken) all run stands =
      inl (left_by (latest rules s Asked.Close closing (exchange (Asked.Rows n) (says.Rows last) ∷ earlier) start moments end all run stands))
    where
      left_by : Latest rules s Asked.Close closing (exchange (Asked.Rows n) (says.Rows last) ∷ earlier) moments start end → HasClosed end s
      left_by c = left_closed earlier before last closing moments end c (taken_until earlier before last closing moments end taken c)

pub told_closed : (rules : Rules) (s : ℕ) (text : Bytes) (n : ℕ) (start end : World) (moments : List Moment) (reply closing : Reply) (others : List Exchange)
    → Run rules start moments end → TakesTurns s text n moments reply
    → exchanges_in s moments ≡ exchange Asked.Close closing ∷ others
    → closing ≡ says.Done
told_closed rules s text n start end moments reply closing others run h ends =
    told_at_close rules s text n start moments end (exchanges_in s moments) others reply closing h.turns refl ends run h.stands

pub closed_after_rows : (rules : Rules) (s : ℕ) (text : Bytes) (n : ℕ) (start end : World) (moments : List Moment) (rows : List Row)
    → Run rules start moments end → TakesTurns s text n moments (says.Rows rows)
    → HasClosed end s
closed_after_rows rules s text n start end moments rows run h =
    rows_left rules s text n start moments end (exchanges_in s moments) rows h.turns refl run h.stands

pub closed_after_refusal : (rules : Rules) (s : ℕ) (text : Bytes) (n : ℕ) (start end : World) (moments : List Moment) (refusal : Refusal)
    → Run rules start moments end → TakesTurns s text n moments (says.Refused refusal)
    → HasClosed end s ⊎ IsAsBefore s text moments end
closed_after_refusal rules s text n start end moments refusal run h =
    refusal_left rules s text n start moments end (exchanges_in s moments) refusal h.turns refl run h.stands
