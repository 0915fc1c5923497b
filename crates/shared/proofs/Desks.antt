-- What a call under the lock does to what lies there, and what it tells its caller.
use Rattle.std.proofs.Common.{◌≡◌, ◌⊎◌, inl, inr, ℕ, ◌+◌, ◌%◌, ◌^◌, ◌==◌, Bool, true, false, not, ◌||◌, ◌&&◌, is_some, [], ◌∷◌, ◌++◌, length, Some, None, Option, Result, Ok, Err, IfErr, MatchResult, refl, sym, ap, ◌∙◌, subst, arith, length-append}
use Rattle.std.proofs.lemmas.Bool.{cases_eq}
use Rattle.std.proofs.lemmas.Bool.Decides.{nat_tests}
use Rattle.refusals.specs.declared.refusal.Refusal.{Refusal}
use Rattle.session_definitions.specs.Rules.{Rules, AreRules}
use Rattle.session_definitions.specs.Refusals.{StopsFlush}
use Rattle.session_definitions.specs.Run.{FlushesPages}
use Rattle.session_definitions.specs.World.{World, is_live}
use Rattle.session_laws.specs.Sound.{IsGoodWorld}
use Rattle.sessions.specs.OfCore.{StandBeside}
use Rattle.shared.specs.declared.event.Act.{Act}
use Rattle.shared.specs.declared.event.Act.TheVariants.{Connects, Refused, Says, Ends}
use Rattle.shared.specs.declared.rule.View.{View}
use Rattle.shared.specs.History.{Happens, IsCounted, IsOwn, IsTold, event, given, moved, holder_of, lives_after}
use Rattle.shared.specs.Views.{host, keeper_in, caller_in, one_more, extended, past, IsAt, Told, IsDesk, Extends}
use Rattle.shared.proofs.Goods.{KeepsGood, good_told}
use Rattle.shared.proofs.Histories.{same, differs, told_snoc, holder_snoc, all_snoc, own_snoc, all_more, none_some, calls_own}

count_on : (count n : ℕ) → count ≡ n % 2 ^ 64 → (count + 1) % 2 ^ 64 ≡ (n + 1) % 2 ^ 64
count_on count n is = omega (arith, is)

-- ---- which sessions stand

pub live_made : (old new : World) (s : ℕ) → is_live new s ≡ true → StandBeside s old new → (id : ℕ) → is_live new id ≡ ((id == s) || is_live old id)
live_made old new s there beside id = by (cases_eq id s)
  where
    by : (id ≡ s) ⊎ (id ≡ s → ⊥) → is_live new id ≡ ((id == s) || is_live old id)
    by (inl e) = ap (is_live new) e ∙ there ∙ ap (λ b. b || is_live old id) (sym (ap (λ k. k == s) e ∙ same s))
    by (inr ne) = beside id ne ∙ ap (λ b. b || is_live old id) (sym (differs id s ne))

pub live_ended : (old new : World) (s : ℕ) → is_live new s ≡ false → StandBeside s old new → (id : ℕ) → is_live new id ≡ (not (id == s) && is_live old id)
live_ended old new s gone beside id = by (cases_eq id s)
  where
    by : (id ≡ s) ⊎ (id ≡ s → ⊥) → is_live new id ≡ (not (id == s) && is_live old id)
    by (inl e) = ap (is_live new) e ∙ gone ∙ ap (λ b. not b && is_live old id) (sym (ap (λ k. k == s) e ∙ same s))
    by (inr ne) = beside id ne ∙ ap (λ b. not b && is_live old id) (sym (differs id s ne))

-- a session stands after a call where it is somebody's
lives_on : (id : ℕ) (who : ℕ) (act : Act) (b : Bool) (h : Option ℕ) → b ≡ is_some h → lives_after act id b ≡ is_some (moved id who act h)
lives_on id who (Connects i) b h live = go (i == id) refl
  where
    go : (t : Bool) → (i == id) ≡ t → ((id == i) || b) ≡ is_some (given t (Some who) h)
    go true e = let is : (id == i) ≡ true = grind (arith, nat_tests) in ap (λ t. t || b) is
    go false e = let is : (id == i) ≡ false = grind (arith, nat_tests) in ap (λ t. t || b) is ∙ live
lives_on id who (Refused refusal) b h live = live
lives_on id who (Says i asked reply) b h live = live
lives_on id who (Ends i) b h live = go (i == id) refl
  where
    go : (t : Bool) → (i == id) ≡ t → (not (id == i) && b) ≡ is_some (given t None h)
    go true e = let is : (id == i) ≡ true = grind (arith, nat_tests) in ap (λ t. not t && b) is
    go false e = let is : (id == i) ≡ false = grind (arith, nat_tests) in ap (λ t. not t && b) is ∙ live

-- the session of the caller that was taken in stands
pub stands_at : (premise : Type 0) (start : World) (callers : Option ℕ) (sound : Type 0) (w : World) (count : ℕ) (k m : View) (id : ℕ)
    → IsDesk premise start callers sound w count k → Told (host k m) → m.at ≡ Some id → is_live w id ≡ true
stands_at premise start callers sound w count k m id d told at =
    let held : holder_of id k.log ≡ Some m.who = subst (IsAt k.log m.who) at told.stands in
    d.live id ∙ ap is_some held

-- a session that does not stand is nobody's
pub nobodys : (premise : Type 0) (start : World) (callers : Option ℕ) (sound : Type 0) (w : World) (count : ℕ) (k : View) (id : ℕ)
    → IsDesk premise start callers sound w count k → is_live w id ≡ false → holder_of id k.log ≡ None
nobodys premise start callers sound w count k id d free = by (holder_of id k.log) refl
  where
    by : (h : Option ℕ) → holder_of id k.log ≡ h → holder_of id k.log ≡ None
    by None e = e
    by (Some who) e = let bad : false ≡ true = sym free ∙ d.live id ∙ ap is_some e in absurd (cc bad)

-- ---- calls

module _ (keeps : KeepsGood) (premise : Type 0) (start : World) (callers : Option ℕ) (sound sound' : Type 0) (w w' : World) (count : ℕ) (k m : View) (act : Act) (n : ℕ) where
  pub desk_after : IsDesk premise start callers sound w count k → Told (host k m) → IsOwn k.log m.who act
      → ((id : ℕ) → is_live w' id ≡ lives_after act id (is_live w id))
      → ((rules : Rules) → AreRules rules → sound → IsGoodWorld rules.check w → sound' × Happens rules w act w')
      → IsDesk premise start callers sound' w' ((count + 1) % 2 ^ 64) (keeper_in (extended (event m.who act n) (host k m)))
  desk_after d told own live on = record {
    keeps = refl;
    counted = count_on count (length k.log) d.counted ∙ ap (λ (n : ℕ). n % 2 ^ 64) (sym (length-append k.log (event m.who act n ∷ [])));
    live = λ id. live id ∙ lives_on id m.who act (is_live w id) (holder_of id k.log) (d.live id) ∙ ap is_some (sym (holder_snoc id None k.log (event m.who act n)));
    limit = d.limit;
    all_of = all_snoc k.names k.log (event m.who act n) d.all_of told.named;
    own = own_snoc [] k.log (event m.who act n) d.own own;
    tells = λ p rules are good.
        let was = d.tells p rules are good in
        let next = on rules are was.0 (good_told keeps rules are start k.log w good was.1) in
        (next.0, told_snoc rules start k.log (event m.who act n) w w' was.1 next.1);
  }

  pub extends_after : (before : ℕ) → IsDesk premise start callers sound w count k → Told (host k m) → IsOwn k.log m.who act → IsCounted before n (k.log ++ event m.who act n ∷ [])
      → ((rules : Rules) → AreRules rules → sound → IsGoodWorld rules.check w → sound' × Happens rules w act w')
      → Extends premise start before (past m) act (past (caller_in (extended (event m.who act n) (host k m))))
  extends_after before d told own counted on = record {
    who = refl;
    at = refl;
    refused = n;
    between = told.saw.0;
    seen = ap (λ l. l ++ event m.who act n ∷ []) (sym told.saw.1);
    mine = refl;
    made = calls_own m.who k.log m.mine (event m.who act n) refl told.made;
    own = own_snoc [] k.log (event m.who act n) d.own own;
    counted = counted;
    legal = λ p rules are good.
        let was = d.tells p rules are good in
        let next = on rules are was.0 (good_told keeps rules are start k.log w good was.1) in
        (w', told_snoc rules start k.log (event m.who act n) w w' was.1 next.1);
  }

-- nothing was called, and the world is as it was
pub desk_flushed : (premise : Type 0) (start : World) (callers : Option ℕ) (sound sound' : Type 0) (w w' : World) (count : ℕ) (v : View) → w' ≡ w → (sound → sound')
    → IsDesk premise start callers sound w count v → IsDesk premise start callers sound' w' count v
desk_flushed premise start callers sound sound' w w' count v is on d = record {
  keeps = d.keeps;
  counted = d.counted;
  live = λ id. ap (λ x. is_live x id) is ∙ d.live id;
  limit = d.limit;
  all_of = d.all_of;
  own = d.own;
  tells = λ p rules are good. let was = d.tells p rules are good in (on was.0, subst (λ x. IsTold rules start v.log x) (sym is) was.1);
}

-- a flush leaves the world
pub flush_stays : (result : Result ℕ Refusal) (w w' : World) → MatchResult result (λ left. FlushesPages w (Ok left) w') (λ refusal. FlushesPages w (Err refusal) w') → w' ≡ w
flush_stays (Ok left) w w' h = h
flush_stays (Err refusal) w w' h = h.1

-- what refuses it
pub flush_stops : (result : Result ℕ Refusal) (w w' : World) → MatchResult result (λ left. FlushesPages w (Ok left) w') (λ refusal. FlushesPages w (Err refusal) w') → IfErr result StopsFlush
flush_stops (Ok left) w w' h = tt
flush_stops (Err refusal) w w' h = h.0

-- one caller more
pub desk_opened : (premise : Type 0) (start : World) (callers : Option ℕ) (sound : Type 0) (w : World) (count : ℕ) (v : View) → callers ≡ None → IsDesk premise start callers sound w count v → IsDesk premise start callers sound w count (one_more v)
desk_opened premise start callers sound w count v none d = record {
  keeps = refl;
  counted = d.counted;
  live = d.live;
  limit = λ n e. none_some n (sym none ∙ e);
  all_of = all_more v.names v.log d.all_of;
  own = d.own;
  tells = d.tells;
}
