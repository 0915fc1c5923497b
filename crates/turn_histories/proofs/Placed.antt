-- All turns of a caller, as the last moments of a legal history.
use Rattle.std.proofs.Common.{◌≡◌, ◌⊎◌, ◌∙◌, ℕ, List, [], ◌∷◌, ◌++◌, sym, ap, subst, inl, inr, true}
use Rattle.std.specs.List.{list_all}
use Rattle.lexer.specs.Token.{Bytes}
use Rattle.replies.specs.declared.reply.Reply.{Reply}
use Rattle.session_definitions.specs.Rules.{Rules}
use Rattle.session_definitions.specs.Run as runs
use Rattle.session_definitions.specs.Run.{Moment, Run}
use Rattle.session_definitions.specs.Turns.{Exchange, InTurns}
use Rattle.session_definitions.specs.World.{World}
use Rattle.shared.specs.History.{IsTold, acts_of, told_by}
use Rattle.shared.specs.Turned.{InAllTurns}
use Rattle.shared.specs.Views.{Past}
use Rattle.turn_histories.specs.Standing.{TurnsIn}
use Rattle.turn_histories.proofs.Cuts.{Cut, cut, events_in, told_in}
use Rattle.turn_histories.proofs.Held.{Held, acts-append, held}
use Rattle.turn_histories.proofs.Only.{only}
use Rattle.turn_histories.proofs.Said.{AllShared, all_said, all_shared, exchanges_told, is_shared_event, shared_part, stands_told, NoneEnds}

some_exchange : (text : Bytes) (n : ℕ) (exchanges : List Exchange) (reply : Reply) → InTurns text n exchanges reply → exchanges ≡ [] → ⊥
some_exchange text n exchanges reply (InTurns.not_opened refusal) e = cc
some_exchange text n exchanges reply (InTurns.refused earlier before refusal taken) e = cc
some_exchange text n exchanges reply (InTurns.fewer earlier before rows closing taken few) e = cc
some_exchange text n exchanges reply (InTurns.unkept earlier before rows closing taken) e = cc

module _ (rules : Rules) (start end : World) (text : Bytes) (n : ℕ) (reply : Reply) (exchanges : List Exchange) (w : Past) (told : InTurns text n exchanges reply) (h : Held exchanges w)
    (t : IsTold rules start w.seen end) where
  of_moments : told_in t.legal.moments ≡ acts_of h.before ++ acts_of h.rest
  of_moments = ap told_by t.legal.told ∙ t.told ∙ ap acts_of h.seen ∙ acts-append h.before h.rest

  placed_by : Cut t.legal.moments (acts_of h.before) (acts_of h.rest)
      → ((later earlier : List Moment) → Run rules start (later ++ earlier) end → (mid : World) × Run rules start earlier mid × Run rules mid later end)
      → TurnsIn rules start text n reply end
  placed_by c parts =
      let o = only w.who h.id h.before h.rest h.own h.holds h.asks in
      let shared : AllShared c.later =
      shared_part c.later c.earlier (subst AllShared c.all (all_shared t.legal.moments (ap (list_all is_shared_event) t.legal.told ∙ t.legal.shared))) in
      let run = parts c.later c.earlier (subst (λ (l : List Moment). Run rules start l end) c.all t.legal.run) in
      record {
        id = h.id;
        earlier = c.earlier;
        turns = c.later;
        first = run.0;
        before = run.1;
        run = run.2;
        takes = record {
          turns = subst (λ (l : List Exchange). InTurns text n l reply)
              (sym (exchanges_told h.id c.later shared ∙ ap (all_said h.id) c.last ∙ o.said ∙ h.told)) told;
          stands = stands_told h.id c.later shared (subst (NoneEnds h.id) (sym c.last) o.stands);
        };
      }

pub placed : (rules : Rules) (premise : Type 0) (start : World) (before : ℕ) (v w : Past) (text : Bytes) (n : ℕ) (reply : Reply) (end : World)
    → ((later earlier : List Moment) → Run rules start (later ++ earlier) end → (mid : World) × Run rules start earlier mid × Run rules mid later end)
    → InAllTurns premise start before v text n reply w → IsTold rules start w.seen end → TurnsIn rules start text n reply end
placed rules premise start before v w text n reply end parts h t = by (held premise start before v h.exchanges w h.turns)
  where
    by : (h.exchanges ≡ []) ⊎ Held h.exchanges w → TurnsIn rules start text n reply end
    by (inl none) = absurd (some_exchange text n h.exchanges reply h.told none)
    by (inr k) =
        placed_by rules start end text n reply h.exchanges w h.told k t
        (cut t.legal.moments (acts_of k.before) (acts_of k.rest) (of_moments rules start end text n reply h.exchanges w h.told k t)) parts
