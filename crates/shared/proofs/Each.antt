-- What holds of each call of a history, or of each call of a script.
use Rattle.std.proofs.Common.{ℕ, ◌==◌, Bool, true, false, List, [], ◌∷◌, ◌++◌, subst}
use Rattle.shared.specs.declared.event.Event.{Event}
use Rattle.shared.specs.declared.event.Act.{Act}
use Rattle.shared.specs.History.{EachAct, calls_by, kept}
use Rattle.shared.specs.Scripts.{Answer, Ask, Played, ask_of, asks, closing, opened, stood}

-- each call of a script is such a one
abbrev pub EachAsk : (Ask → Type 0) → List Ask → Type 0
EachAsk Q [] = Unit {0}
EachAsk Q (a ∷ more) = Q a × EachAsk Q more

module _ (P : Act → Type 0) where
  pub each_and : (log : List Event) (e : Event) → EachAct P log → P e.act → EachAct P (log ++ e ∷ [])
  each_and [] e h last = (last, tt)
  each_and (d ∷ log) e h last = (h.0, each_and log e h.1 last)

  each_kept : (b : Bool) (e : Event) (es : List Event) → P e.act → EachAct P es → EachAct P (kept b e es)
  each_kept true e es first h = (first, h)
  each_kept false e es first h = h

  each_by : (who : ℕ) (log : List Event) → EachAct P log → EachAct P (calls_by who log)
  each_by who [] h = tt
  each_by who (e ∷ log) h = each_kept (e.who == who) e (calls_by who log) h.0 (each_by who log h.1)

each_front : (Q : Ask → Type 0) (a b : List Ask) → EachAsk Q (a ++ b) → EachAsk Q a
each_front Q [] b h = tt
each_front Q (x ∷ a) b h = (h.0, each_front Q a b h.1)

module _ (P : Act → Type 0) (Q : Ask → Type 0) (step : (act : Act) → P act → Q (ask_of act)) where
  each_asks : (es : List Event) → EachAct P es → EachAsk Q (asks es)
  each_asks [] h = tt
  each_asks (e ∷ es) h = (step e.act h.0, each_asks es h.1)

  -- of the calls of a script for its texts
  pub each_played : (texts : List (List ℕ)) (who : ℕ) (log : List Event) (answers : List Answer) → Played texts (calls_by who log) answers → EachAct P log
      → EachAsk Q (opened false texts answers)
  each_played texts who log answers played h =
      each_front Q (opened false texts answers) (closing (stood false answers)) (subst (λ l. EachAsk Q l) played.0 (each_asks (calls_by who log) (each_by P who log h)))
