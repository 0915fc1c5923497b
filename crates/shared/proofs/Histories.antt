-- A history that grows by one call.
use Rattle.std.proofs.Common.{◌≡◌, ◌≢◌, ℕ, ◌+◌, ◌<◌, ◌==◌, Bool, true, false, is_some, ◌||◌, ◌&&◌, List, [], ◌∷◌, ◌++◌, Some, None, Ok, Err, Option, refl, sym, ap, ◌∙◌, subst, arith, append_assoc, append-nil}
use Rattle.std.proofs.lemmas.Bool.Decides.{nat_tests}
use mathlib.Core.List.{IsPrefix}
use Rattle.std.specs.List.{list_all}
use Rattle.session_definitions.specs.World.{World}
use Rattle.session_definitions.specs.Asked.{Asked}
use Rattle.session_definitions.specs.Rules.{Rules}
use Rattle.session_definitions.specs.Run as runs
use Rattle.session_definitions.specs.Step.{StepOf}
use Rattle.refusals.specs.declared.refusal.Refusal.{Refusal}
use Rattle.replies.specs.declared.reply.Reply.{Reply}
use Rattle.shared.specs.declared.event.Event.{Event}
use Rattle.shared.specs.declared.event.Act.{Act}
use Rattle.shared.specs.declared.event.Act.TheVariants.{Connects, Refused, Says, Ends}
use Rattle.shared.specs.declared.event.Question.{Question}
use Rattle.shared.specs.declared.event.Question.TheVariants.{Text, Query, Rows, Close}
use Rattle.shared.specs.declared.rule.View.{View}
use Rattle.shared.specs.History.{IsTold, Happens, event, asked_of, told_of, acts_of, kept, calls_by, given, moved, holder_from, holder_of, IsOwn, AreOwnBehind, AllOf, at_after}
use Rattle.shared.specs.Views.{IsAt, May, Calls, extended}

pub same : (a : ℕ) → (a == a) ≡ true
same a = grind (arith, nat_tests)

pub differs : (a b : ℕ) → a ≢ b → (a == b) ≡ false
differs a b apart = go (a == b) refl
  where
    go : (t : Bool) → (a == b) ≡ t → t ≡ false
    go true e = absurd (apart (grind (arith, nat_tests)))
    go false e = refl

pub prefix_self : {A : Type 0} (xs : List A) → IsPrefix xs xs
prefix_self xs = ([], append-nil xs)

pub prefix_more : {A : Type 0} (xs ys zs : List A) → IsPrefix xs ys → IsPrefix xs (ys ++ zs)
prefix_more xs ys zs p = (p.0 ++ zs, sym (append_assoc xs p.0 zs) ∙ ap (λ w. w ++ zs) p.1)

kept_snoc : (b : Bool) (d : Event) (xs ys : List Event) → kept b d (xs ++ ys) ≡ kept b d xs ++ ys
kept_snoc true d xs ys = refl
kept_snoc false d xs ys = refl

pub calls_snoc : (who : ℕ) (log : List Event) (e : Event) → calls_by who (log ++ e ∷ []) ≡ calls_by who log ++ kept (e.who == who) e []
calls_snoc who [] e = refl
calls_snoc who (d ∷ log) e = ap (kept (d.who == who) d) (calls_snoc who log e) ∙ kept_snoc (d.who == who) d (calls_by who log) (kept (e.who == who) e [])

pub calls_own : (who : ℕ) (log mine : List Event) (e : Event) → e.who ≡ who → calls_by who log ≡ mine → calls_by who (log ++ e ∷ []) ≡ mine ++ e ∷ []
calls_own who log mine e is made = calls_snoc who log e ∙ ap (λ b. calls_by who log ++ kept b e []) (ap (λ k. k == who) is ∙ same who) ∙ ap (λ l. l ++ e ∷ []) made

pub calls_other : (who : ℕ) (log mine : List Event) (e : Event) → e.who ≢ who → calls_by who log ≡ mine → calls_by who (log ++ e ∷ []) ≡ mine
calls_other who log mine e apart made = calls_snoc who log e ∙ ap (λ b. calls_by who log ++ kept b e []) (differs e.who who apart) ∙ append-nil (calls_by who log) ∙ made

pub holder_snoc : (id : ℕ) (h : Option ℕ) (log : List Event) (e : Event) → holder_from id h (log ++ e ∷ []) ≡ moved id e.who e.act (holder_from id h log)
holder_snoc id h [] e = refl
holder_snoc id h (d ∷ log) e = holder_snoc id (moved id d.who d.act h) log e

pub all_snoc : (n : ℕ) (log : List Event) (e : Event) → AllOf n log → e.who < n → AllOf n (log ++ e ∷ [])
all_snoc n [] e all less = (less, tt)
all_snoc n (d ∷ log) e all less = (all.0, all_snoc n log e all.1 less)

pub own_snoc : (before log : List Event) (e : Event) → AreOwnBehind before log → IsOwn (before ++ log) e.who e.act → AreOwnBehind before (log ++ e ∷ [])
own_snoc before [] e all own = (subst (λ (l : List Event). IsOwn l e.who e.act) (append-nil before) own, tt)
own_snoc before (d ∷ log) e all own = (all.0, own_snoc (before ++ d ∷ []) log e all.1 (subst (λ (l : List Event). IsOwn l e.who e.act) (sym (append_assoc before (d ∷ []) log)) own))

pub all_more : (n : ℕ) (log : List Event) → AllOf n log → AllOf (n + 1) log
all_more n [] all = tt
all_more n (d ∷ log) all = (omega (arith, all.0), all_more n log all.1)

pub none_yet : (n : ℕ) (log : List Event) → AllOf n log → calls_by n log ≡ []
none_yet n [] all = refl
none_yet n (d ∷ log) all = ap (λ b. kept b d (calls_by n log)) (differs d.who n (λ e. omega (arith, e, all.0))) ∙ none_yet n log all.1

acts_more : (log more : List Event) → acts_of (log ++ more) ≡ acts_of log ++ acts_of more
acts_more [] more = refl
acts_more (d ∷ log) more = ap (λ l. d.act ∷ l) (acts_more log more)

-- a legal history goes on by one event of the engine
legal_on : (rules : Rules) (start : World) (events : List runs.Event) (mid end : World) (e : runs.Event) → (runs.is_call e || runs.is_flush e) ≡ true → runs.IsLegal rules start events mid → runs.Happens rules mid e end → runs.IsLegal rules start (e ∷ events) end
legal_on rules start events mid end e shared h happens = record {
  shared = ap (λ b. b && list_all (λ x. runs.is_call x || runs.is_flush x) events) shared ∙ h.shared;
  moments = record { before = mid; event = e } ∷ h.moments;
  told = ap (λ l. e ∷ l) h.told;
  run = (h.run, happens);
}

-- and tells one call more
pub told_snoc : (rules : Rules) (start : World) (log : List Event) (e : Event) (mid end : World) → IsTold rules start log mid → Happens rules mid e.act end → IsTold rules start (log ++ e ∷ []) end
told_snoc rules start log e mid end h x = record {
  events = x.event ∷ h.events;
  legal = legal_on rules start h.events mid end x.event x.shared h.legal x.happens;
  told = ap (λ l. l ++ told_of x.event) h.told ∙ ap (λ l. acts_of log ++ l) x.told ∙ sym (acts_more log (e ∷ []));
}

pub none_some : {X : Type 0} (who : ℕ) → None ≡ Some who → X
none_some who e = absurd (cc e)

pub moved_other : (v : View) (id who : ℕ) (act : Act) → May v act → IsAt v.log v.who v.at → who ≢ v.who → holder_of id v.log ≡ Some who → moved id v.who act (holder_of id v.log) ≡ Some who
moved_other v id who (Connects i) may at apart h = go (i == id) refl
  where
    go : (b : Bool) → (i == id) ≡ b → given b (Some v.who) (holder_of id v.log) ≡ Some who
    go true e = let is : i ≡ id = grind (arith, nat_tests) in none_some who (sym may.1 ∙ ap (λ k. holder_of k v.log) is ∙ h)
    go false e = h
moved_other v id who (Refused refusal) may at apart h = h
moved_other v id who (Says i asked reply) may at apart h = h
moved_other v id who (Ends i) may at apart h = go (i == id) refl
  where
    go : (b : Bool) → (i == id) ≡ b → given b None (holder_of id v.log) ≡ Some who
    go true e =
        let is : i ≡ id = grind (arith, nat_tests) in
        let mine : holder_of i v.log ≡ Some v.who = subst (IsAt v.log v.who) may at in
        let both : Some who ≡ Some v.who = sym h ∙ ap (λ k. holder_of k v.log) (sym is) ∙ mine in
        absurd (apart (cc both))
    go false e = h

pub stays_other : (v : View) (who : ℕ) (e : Event) (at : Option ℕ) → e.who ≡ v.who → May v e.act → IsAt v.log v.who v.at → who ≢ v.who → IsAt v.log who at → IsAt (v.log ++ e ∷ []) who at
stays_other v who e None is may own apart h = tt
stays_other v who e (Some id) is may own apart h = holder_snoc id None v.log e ∙ ap (λ k. moved id k e.act (holder_of id v.log)) is ∙ moved_other v id who e.act may own apart h

stays : (log : List Event) (who k : ℕ) (act : Act) (n : ℕ) (at : Option ℕ) → ((id : ℕ) → moved id k act (holder_of id log) ≡ holder_of id log) → IsAt log who at
    → IsAt (log ++ event k act n ∷ []) who at
stays log who k act n None same h = tt
stays log who k act n (Some id) same h = holder_snoc id None log (event k act n) ∙ same id ∙ h

own_at : (log : List Event) (who : ℕ) (act : Act) (n : ℕ) (at : Option ℕ) → IsAt log who at → IsAt (log ++ event who act n ∷ []) who (at_after act at)
own_at log who (Connects id) n at h = holder_snoc id None log (event who (Connects id) n) ∙ ap (λ b. given b (Some who) (holder_of id log)) (same id)
own_at log who (Refused refusal) n at h = stays log who who (Refused refusal) n at (λ id. refl) h
own_at log who (Says id asked reply) n at h = stays log who who (Says id asked reply) n at (λ i. refl) h
own_at log who (Ends id) n at h = tt

pub stays_own : (v : View) (e : Event) → e.who ≡ v.who → IsAt v.log v.who v.at → IsAt (v.log ++ e ∷ []) v.who (at_after e.act v.at)
stays_own v e is h = subst (λ (k : ℕ). IsAt (v.log ++ event k e.act e.refused ∷ []) v.who (at_after e.act v.at)) (sym is) (own_at v.log v.who e.act e.refused v.at h)

-- ---- whose a session is

-- after its own call a caller has no other session than the one that it knows
moved_own : (v : View) (id : ℕ) (act : Act) → May v act → (holder_of id v.log ≡ Some v.who → v.at ≡ Some id) → moved id v.who act (holder_of id v.log) ≡ Some v.who
    → at_after act v.at ≡ Some id
moved_own v id (Connects i) may alone h = go (i == id) refl h
  where
    go : (b : Bool) → (i == id) ≡ b → given b (Some v.who) (holder_of id v.log) ≡ Some v.who → Some i ≡ Some id
    go true e h = let is : i ≡ id = grind (arith, nat_tests) in ap Some is
    go false e h = none_some id (sym may.0 ∙ alone h)
moved_own v id (Refused refusal) may alone h = alone h
moved_own v id (Says i asked reply) may alone h = alone h
moved_own v id (Ends i) may alone h = go (i == id) refl h
  where
    go : (b : Bool) → (i == id) ≡ b → given b None (holder_of id v.log) ≡ Some v.who → None ≡ Some id
    go true e h = none_some v.who h
    go false e h =
        let both : Some i ≡ Some id = sym may ∙ alone h in
        let is : i ≡ id = cc both in
        let bad : true ≡ false = sym (same i) ∙ ap (λ k. i == k) is ∙ e in
        absurd (cc bad)

-- a session that another caller has after a call was its own before
moved_back : (v : View) (id who : ℕ) (act : Act) → who ≢ v.who → moved id v.who act (holder_of id v.log) ≡ Some who → holder_of id v.log ≡ Some who
moved_back v id who (Connects i) apart h = go (i == id) h
  where
    go : (b : Bool) → given b (Some v.who) (holder_of id v.log) ≡ Some who → holder_of id v.log ≡ Some who
    go true h = let is : who ≡ v.who = cc h in absurd (apart is)
    go false h = h
moved_back v id who (Refused refusal) apart h = h
moved_back v id who (Says i asked reply) apart h = h
moved_back v id who (Ends i) apart h = go (i == id) h
  where
    go : (b : Bool) → given b None (holder_of id v.log) ≡ Some who → holder_of id v.log ≡ Some who
    go true h = none_some who h
    go false h = h

moved_by : (v : View) (e : Event) (id : ℕ) (to : Option ℕ) → e.who ≡ v.who → holder_of id (v.log ++ e ∷ []) ≡ to → moved id v.who e.act (holder_of id v.log) ≡ to
moved_by v e id to is h = ap (λ k. moved id k e.act (holder_of id v.log)) (sym is) ∙ sym (holder_snoc id None v.log e) ∙ h

moved_below : (n id k : ℕ) (act : Act) (h : Option ℕ) → k < n → ((who : ℕ) → h ≡ Some who → who < n) → (who : ℕ) → moved id k act h ≡ Some who → who < n
moved_below n id k (Connects i) h less first who is = go (i == id) is
  where
    go : (b : Bool) → given b (Some k) h ≡ Some who → who < n
    go true is = let one : k ≡ who = cc is in subst (λ (x : ℕ). x < n) one less
    go false is = first who is
moved_below n id k (Refused refusal) h less first who is = first who is
moved_below n id k (Says i asked reply) h less first who is = first who is
moved_below n id k (Ends i) h less first who is = go (i == id) is
  where
    go : (b : Bool) → given b None h ≡ Some who → who < n
    go true is = none_some who is
    go false is = first who is

below_from : (n id : ℕ) (h : Option ℕ) (log : List Event) → ((who : ℕ) → h ≡ Some who → who < n) → AllOf n log → (who : ℕ) → holder_from id h log ≡ Some who → who < n
below_from n id h [] first all who is = first who is
below_from n id h (e ∷ log) first all who is = below_from n id (moved id e.who e.act h) log (moved_below n id e.who e.act h all.0 first) all.1 who is

-- a session is one of the callers'
pub holder_below : (n id : ℕ) (log : List Event) → AllOf n log → (who : ℕ) → holder_of id log ≡ Some who → who < n
holder_below n id log all who is = below_from n id None log (λ k none. none_some k none) all who is

-- where the history leaves none of them a session, none stands
pub none_stands : (n : ℕ) (log : List Event) → AllOf n log → ((k : ℕ) → k < n → (id : ℕ) → holder_of id log ≢ Some k) → (id : ℕ) → is_some (holder_of id log) ≡ false
none_stands n log all idle id = by (holder_of id log) refl
  where
    by : (h : Option ℕ) → holder_of id log ≡ h → is_some (holder_of id log) ≡ false
    by None e = ap is_some e
    by (Some k) e = absurd (idle k (holder_below n id log all k e) id e)

-- ---- a caller's call, and what it means for the others

pub calls_after : (v : View) (e : Event) → e.who ≡ v.who → May v e.act → Calls v.names v.log v → Calls v.names (v.log ++ e ∷ []) (extended e v)
calls_after v e is may c = record {
  named = c.named;
  saw = prefix_self (v.log ++ e ∷ []);
  made = calls_own v.who v.log v.mine e is c.made;
  stands = stays_own v e is c.stands;
  alone = λ id h. moved_own v id e.act may (c.alone id) (moved_by v e id (Some v.who) is h);
}

pub calls_beside : (v u : View) (e : Event) → e.who ≡ v.who → May v e.act → Calls v.names v.log v → u.who ≢ v.who → Calls v.names v.log u → Calls v.names (v.log ++ e ∷ []) u
calls_beside v u e is may own apart c = record {
  named = c.named;
  saw = prefix_more u.seen v.log (e ∷ []) c.saw;
  made = calls_other u.who v.log u.mine e (λ k. apart (sym k ∙ is)) c.made;
  stands = stays_other v u.who e u.at is may own.stands apart c.stands;
  alone = λ id h. c.alone id (moved_back v id u.who e.act apart (moved_by v e id (Some u.who) is h));
}

-- each kind of call is an event, of which just the call is told
pub says_happens : (rules : Rules) (w w' : World) (id : ℕ) (asked : Question) (reply : Reply) → StepOf rules w id (asked_of asked) reply w' → Happens rules w (Says id asked reply) w'
says_happens rules w w' id (Text text) reply step = record { event = runs.Event.Calls id (Asked.Text text) reply step.0; shared = refl; told = refl; happens = step.1 }
says_happens rules w w' id (Query text) reply step = record { event = runs.Event.Calls id (Asked.Query text) reply step.0; shared = refl; told = refl; happens = step.1 }
says_happens rules w w' id (Rows count) reply step = record { event = runs.Event.Calls id (Asked.Rows count) reply step.0; shared = refl; told = refl; happens = step.1 }
says_happens rules w w' id Close reply step = record { event = runs.Event.Calls id Asked.Close reply step.0; shared = refl; told = refl; happens = step.1 }

pub connects_happens : (rules : Rules) (w w' : World) (id : ℕ) → runs.MakesSession w (Ok id) w' → Happens rules w (Connects id) w'
connects_happens rules w w' id made = record { event = runs.Event.Makes (Ok id); shared = refl; told = refl; happens = made }

pub refused_happens : (rules : Rules) (w w' : World) (refusal : Refusal) → runs.MakesSession w (Err refusal) w' → Happens rules w (Refused refusal) w'
refused_happens rules w w' refusal made = record { event = runs.Event.Makes (Err refusal); shared = refl; told = refl; happens = made }

pub ends_happens : (rules : Rules) (w w' : World) (id : ℕ) → runs.DropsSession w id w' → Happens rules w (Ends id) w'
ends_happens rules w w' id dropped = record { event = runs.Event.Drops id; shared = refl; told = refl; happens = dropped }
