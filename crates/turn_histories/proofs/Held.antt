-- The turns of a caller in the history that it has seen.
use Rattle.std.proofs.Common.{◌≡◌, ◌⊎◌, ◌∙◌, ℕ, ◌==◌, Bool, true, false, if◌then◌else◌, List, [], ◌∷◌, ◌++◌, Some, refl, sym, ap, subst, inl, inr, append-nil, append_assoc}
use Rattle.std.proofs.lemmas.List.{append_cancel_left, append_cancel_right}
use Rattle.replies.specs.declared.reply.Reply.{Reply}
use Rattle.session_definitions.specs.Turns.{Exchange, exchange}
use Rattle.session_definitions.specs.World.{World}
use Rattle.shared.specs.declared.event.Act.TheVariants.{Says}
use Rattle.shared.specs.declared.event.Event.{Event}
use Rattle.shared.specs.declared.event.Question.{Question}
use Rattle.shared.specs.History.{AreOwnBehind, acts_of, asked_of, calls_by, event, holder_of, kept}
use Rattle.shared.specs.Turned.{AreTurns, Turn}
use Rattle.shared.specs.Views.{Extends, Past}
use Rattle.shared.proofs.Histories.{same}
use Rattle.turn_histories.proofs.Only.{AskOnly}
use Rattle.turn_histories.proofs.Said.{all_said, said-append}

-- Of the history that a caller has seen: what came before its turns, and the rest, in which its
-- calls are its turns, and tell these exchanges; and it had the session when they began.
pub record Held (exchanges : List Exchange) (w : Past) : Type 0 where
  pub id : ℕ
  pub at : w.at ≡ Some id
  pub made : calls_by w.who w.seen ≡ w.mine
  pub before : List Event
  pub rest : List Event
  pub seen : w.seen ≡ before ++ rest
  pub holds : holder_of id before ≡ Some w.who
  pub own : AreOwnBehind before rest
  pub asks : AskOnly id (calls_by w.who rest)
  pub told : all_said id (acts_of (calls_by w.who rest)) ≡ exchanges

kept-append : (b : Bool) (e : Event) (xs ys : List Event) → kept b e (xs ++ ys) ≡ kept b e xs ++ ys
kept-append true e xs ys = refl
kept-append false e xs ys = refl

calls-append : (who : ℕ) (xs ys : List Event) → calls_by who (xs ++ ys) ≡ calls_by who xs ++ calls_by who ys
calls-append who [] ys = refl
calls-append who (e ∷ xs) ys = ap (kept (e.who == who) e) (calls-append who xs ys) ∙ kept-append (e.who == who) e (calls_by who xs) (calls_by who ys)

pub acts-append : (xs ys : List Event) → acts_of (xs ++ ys) ≡ acts_of xs ++ acts_of ys
acts-append [] ys = refl
acts-append (e ∷ xs) ys = ap (λ l. e.act ∷ l) (acts-append xs ys)

own_part : (before xs ys : List Event) → AreOwnBehind before (xs ++ ys) → AreOwnBehind (before ++ xs) ys
own_part before [] ys own = subst (λ (l : List Event). AreOwnBehind l ys) (sym (append-nil before)) own
own_part before (e ∷ xs) ys own =
    subst (λ (l : List Event). AreOwnBehind l ys) (append_assoc before (e ∷ []) xs) (own_part (before ++ e ∷ []) xs ys own.1)

asks-append : (id : ℕ) (xs ys : List Event) → AskOnly id xs → AskOnly id ys → AskOnly id (xs ++ ys)
asks-append id [] ys h k = k
asks-append id (e ∷ xs) ys h k = (h.0, asks-append id xs ys h.1 k)

-- a call of its own, alone
one_call : (who k : ℕ) (e : Event) → e.who ≡ k → k ≡ who → calls_by who (e ∷ []) ≡ e ∷ []
one_call who k e is at = ap (λ b. kept b e []) (ap (λ x. x == who) (is ∙ at) ∙ same who)

one_told : (id k n : ℕ) (asked : Question) (reply : Reply) → all_said id (acts_of (event k (Says id asked reply) n ∷ [])) ≡ exchange (asked_of asked) reply ∷ []
one_told id k n asked reply = ap (λ b. if b then exchange (asked_of asked) reply ∷ [] else []) (same id)

module _ (premise : Type 0) (start : World) (before : ℕ) where
  first : (v w : Past) (asked : Question) (reply : Reply) → Turn premise start before v asked reply w → Held (exchange (asked_of asked) reply ∷ []) w
  first v w asked reply turn =
      let e = event v.who (Says turn.id asked reply) turn.call.refused in
      let one : calls_by w.who (e ∷ []) ≡ e ∷ [] = one_call w.who v.who e refl (sym turn.call.who) in
      let own = own_part [] (v.seen ++ turn.call.between) (e ∷ []) (subst (λ (l : List Event). AreOwnBehind [] l) turn.call.seen turn.call.own) in
      record {
        id = turn.id;
        at = turn.call.at ∙ turn.at;
        made = turn.call.made;
        before = v.seen ++ turn.call.between;
        rest = e ∷ [];
        seen = turn.call.seen;
        holds = own.0 ∙ ap Some (sym turn.call.who);
        own = own;
        asks = subst (λ (l : List Event). AskOnly turn.id l) (sym one) ((asked, reply, refl), tt);
        told = ap (λ l. all_said turn.id (acts_of l)) one ∙ one_told turn.id v.who turn.call.refused asked reply;
      }

  -- between two turns the caller made no call
  none_between : (mid w : Past) (asked : Question) (reply : Reply) (turn : Turn premise start before mid asked reply w) → calls_by mid.who mid.seen ≡ mid.mine
      → calls_by w.who turn.call.between ≡ []
  none_between mid w asked reply turn made =
      let e = event mid.who (Says turn.id asked reply) turn.call.refused in
      let one : calls_by w.who (e ∷ []) ≡ e ∷ [] = one_call w.who mid.who e refl (sym turn.call.who) in
      let was : calls_by w.who mid.seen ≡ mid.mine = ap (λ k. calls_by k mid.seen) turn.call.who ∙ made in
      let all : (mid.mine ++ calls_by w.who turn.call.between) ++ e ∷ [] ≡ mid.mine ++ e ∷ [] =
      ap (λ l. (l ++ calls_by w.who turn.call.between) ++ e ∷ []) (sym was)
      ∙ ap (λ l. l ++ e ∷ []) (sym (calls-append w.who mid.seen turn.call.between))
      ∙ ap (λ l. calls_by w.who (mid.seen ++ turn.call.between) ++ l) (sym one)
      ∙ sym (calls-append w.who (mid.seen ++ turn.call.between) (e ∷ []))
      ∙ ap (calls_by w.who) (sym turn.call.seen) ∙ turn.call.made ∙ turn.call.mine in
      append_cancel_left mid.mine (calls_by w.who turn.call.between) []
      (append_cancel_right (mid.mine ++ calls_by w.who turn.call.between) mid.mine (e ∷ []) all ∙ sym (append-nil mid.mine))

  next : (earlier : List Exchange) (mid w : Past) (asked : Question) (reply : Reply) → Held earlier mid → Turn premise start before mid asked reply w
      → Held (exchange (asked_of asked) reply ∷ earlier) w
  next earlier mid w asked reply h turn =
      let e = event mid.who (Says turn.id asked reply) turn.call.refused in
      let number : turn.id ≡ h.id = (let both : Some turn.id ≡ Some h.id = sym turn.at ∙ h.at in cc) in
      let one : calls_by w.who (e ∷ []) ≡ e ∷ [] = one_call w.who mid.who e refl (sym turn.call.who) in
      let more = turn.call.between ++ e ∷ [] in
      let seen : w.seen ≡ h.before ++ (h.rest ++ more) =
      turn.call.seen ∙ append_assoc mid.seen turn.call.between (e ∷ []) ∙ ap (λ l. l ++ more) h.seen ∙ append_assoc h.before h.rest more in
      let mine : calls_by w.who (h.rest ++ more) ≡ calls_by mid.who h.rest ++ e ∷ [] =
      calls-append w.who h.rest more ∙ ap (λ l. calls_by w.who h.rest ++ l) (calls-append w.who turn.call.between (e ∷ []))
      ∙ ap (λ l. calls_by w.who h.rest ++ (l ++ calls_by w.who (e ∷ []))) (none_between mid w asked reply turn h.made)
      ∙ ap (λ l. calls_by w.who h.rest ++ l) one
      ∙ ap (λ k. calls_by k h.rest ++ e ∷ []) turn.call.who in
      record {
        id = h.id;
        at = turn.call.at ∙ h.at;
        made = turn.call.made;
        before = h.before;
        rest = h.rest ++ more;
        seen = seen;
        holds = h.holds ∙ ap Some (sym turn.call.who);
        own = own_part [] h.before (h.rest ++ more) (subst (λ (l : List Event). AreOwnBehind [] l) seen turn.call.own);
        asks = subst (λ (l : List Event). AskOnly h.id l) (sym mine)
            (asks-append h.id (calls_by mid.who h.rest) (e ∷ []) h.asks ((asked, reply, ap (λ k. Says k asked reply) number), tt));
        told = ap (λ l. all_said h.id (acts_of l)) mine ∙ ap (all_said h.id) (acts-append (calls_by mid.who h.rest) (e ∷ []))
            ∙ said-append h.id (acts_of (calls_by mid.who h.rest)) (acts_of (e ∷ []))
            ∙ ap (λ l. l ++ all_said h.id (acts_of (calls_by mid.who h.rest)))
            (ap (λ k. all_said k (acts_of (e ∷ []))) (sym number) ∙ one_told turn.id mid.who turn.call.refused asked reply)
            ∙ ap (λ l. exchange (asked_of asked) reply ∷ l) h.told;
      }

  pub held : (v : Past) (exchanges : List Exchange) (w : Past) → AreTurns premise start before v exchanges w → (exchanges ≡ []) ⊎ Held exchanges w
  held v exchanges w AreTurns.none = inl refl
  held v exchanges w (AreTurns.more earlier mid w' asked reply turns turn) = by (held v earlier mid turns)
    where
      by : (earlier ≡ []) ⊎ Held earlier mid → (exchange (asked_of asked) reply ∷ earlier ≡ []) ⊎ Held (exchange (asked_of asked) reply ∷ earlier) w'
      by (inl e) = inr (subst (λ (l : List Exchange). Held (exchange (asked_of asked) reply ∷ l) w') (sym e) (first mid w' asked reply turn))
      by (inr h) = inr (next earlier mid w' asked reply h turn)
