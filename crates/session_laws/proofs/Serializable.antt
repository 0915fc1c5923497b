-- Every run is serializable: what the events so far have come to, event by event.
use Rattle.std.proofs.Common.{◌≡◌, ◌≢◌, ◌⊎◌, ℕ, zero, suc, ◌+◌, Bool, true, false, cond, List, [], ◌∷◌, ◌++◌, length, Option, Some, None, Result, Ok, Err, refl, sym, ap, ◌∙◌, subst, inl, inr, arith, add-one, zero-add}
use Rattle.std.specs.Prelude.{slice_get, Contains}
use Rattle.std.specs.Option.{unwrap_or}
use Rattle.std.specs.Ordering.{nat_cmp}
use Rattle.std.specs.FinMap.{get, get-empty}
use Rattle.std.proofs.lemmas.Bool.{cases_eq, ne_eqb}
use Rattle.refusals.specs.declared.refusal.Refusal.{Refusal}
use Rattle.denote.specs.Bag.{Permutes}
use Rattle.denote.specs.Database.{Database}
use Rattle.replies.specs.declared.reply.Reply.{Reply}
use Rattle.session_definitions.specs.Asked.{Asked}
use Rattle.session_definitions.specs.Effect.{Effect, after}
use Rattle.session_definitions.specs.Rules.{Rules}
use Rattle.session_definitions.specs.Run.{Event, MakesSession, FlushesPages, Happens, Moment, Run, lengthened, history, without_session, without_sessions}
use Rattle.session_definitions.specs.Serial.{Saying, Talk, talked, talked_by, talk_with, talk, Committed, committed_by, with_ended, transactions, Says, RunsAlone, IsWriter, InSeries, IsSerializable}
use Rattle.session_laws.specs.Sound.{IsSoundTransaction, IsSoundSession, IsSound}
use Rattle.session_definitions.specs.Step.{Call, Responds}
use Rattle.session_definitions.specs.Transactions.{starting, begun, obstacle}
use Rattle.session_definitions.specs.World.{Transaction, Session, World, is_writer, new_session, opened, with_session}
use Rattle.session_laws.proofs.Alone.{lonely, BeganAt, call_alone, becomes_alone, writes_alone, commits_alone}
use Rattle.session_laws.proofs.Effects.{left_as, writes_after, IsAllowed, others_stay, own_session, others_write, own_writes, without_other, same_key}
use Rattle.session_laws.proofs.Maps.{get_here, get_there, get_gone, get_left}
use Rattle.session_laws.proofs.Series.{to_the_end, with_writer, Placed, with_reader, MadeBy, made_in_series, in_permuted, contains_from_in}
use Rattle.session_laws.proofs.Modes.{LeavesMode, call_mode}
use Rattle.session_laws.proofs.Shapes.{BeganWith, IsShaped, shape, runs_in}
use Rattle.session_laws.proofs.SoundSteps.{same_Some, allowed, committed_commits, committed_last, sound_after, sound_event, sound_empty}

-- ---- lists

got_before : {A : Type 0} {x : A} (xs ys : List A) (i : ℕ) → slice_get xs i ≡ Some x → slice_get (xs ++ ys) i ≡ Some x
got_before [] ys i is = cc
got_before (x ∷ xs) ys zero is = is
got_before (x ∷ xs) ys (suc i) is = got_before xs ys i is

got_last : {A : Type 0} (x : A) (xs : List A) (i : ℕ) → length xs ≡ i → slice_get (xs ++ x ∷ []) i ≡ Some x
got_last x [] zero e = refl
got_last x [] (suc i) e = absurd (omega arith)
got_last x (y ∷ ys) zero e = absurd (omega arith)
got_last x (y ∷ ys) (suc i) e = let f : length ys ≡ i = omega arith in got_last x ys i f

one_more : {A : Type 0} (x : A) (xs : List A) → length (xs ++ x ∷ []) ≡ length xs + 1
one_more x [] = refl
one_more x (y ∷ ys) = let e : length (ys ++ x ∷ []) ≡ length ys + 1 = one_more x ys in omega arith

-- ---- what the events so far have come to

-- a talk, run alone in the world in which its transaction began, leads to the session as it stands
-- now
pub record InTalk (rules : Rules) (s : ℕ) (talk : Talk) (writes : Bool) (session : Session) (t : Transaction) : Type 0 where
  pub says : Says rules (lonely t.beginning t.found s false talk.before) s talk.said (lonely t.beginning t.found s writes session)

pub record Story (rules : Rules) (dbs : List Database) (cs : List Committed) (talks : ℕ → Talk) (w : World) : Type 0 where
  pub sound : IsSound w
  pub counted : length dbs ≡ w.commits + 1
  pub latest : slice_get dbs w.commits ≡ Some w.last
  pub found : (s : ℕ) (session : Session) (t : Transaction) → get w.sessions s ≡ Some session → session.transaction ≡ Some t
      → slice_get dbs t.beginning ≡ Some t.found
  pub talking : (s : ℕ) (session : Session) (t : Transaction) → get w.sessions s ≡ Some session → session.transaction ≡ Some t
      → InTalk rules s (talks s) (is_writer w s) session t
  pub first : Database
  pub order : List Committed
  pub all : Permutes cs order
  pub series : InSeries rules 0 first order dbs

-- ---- a call

-- the statement leaves the transaction open
abbrev GoesOn : Effect → Type 0
GoesOn Effect.Nothing = Unit {0}
GoesOn (Effect.Becomes x) = Unit {0}
GoesOn (Effect.Writes x) = Unit {0}
GoesOn (Effect.Commits t) = ⊥
GoesOn Effect.RollsBack = ⊥

not_back : {A : Type 0} (e : Effect) → GoesOn e → e ≡ Effect.RollsBack → A
not_back Effect.Nothing h is = cc
not_back (Effect.Becomes x) h is = cc
not_back (Effect.Writes x) h is = cc
not_back (Effect.Commits t) h is = absurd h
not_back Effect.RollsBack h is = absurd h

left_alone : (n : ℕ) (db : Database) (s : ℕ) (writes : Bool) (session : Session) (e : Effect) → GoesOn e
    → after (lonely n db s writes session) s session e ≡ lonely n db s (writes_after writes e) (left_as session e)
left_alone n db s writes session Effect.Nothing h = refl
left_alone n db s writes session (Effect.Becomes x) h = becomes_alone n db s writes session x
left_alone n db s writes session (Effect.Writes x) h = writes_alone n db s writes session x
left_alone n db s writes session (Effect.Commits t) h = absurd h
left_alone n db s writes session Effect.RollsBack h = absurd h

-- the transaction in which a statement of an active session runs is its own
own_transaction : (w : World) (session : Session) (t : Transaction) → session.transaction ≡ Some t → begun w session ≡ t
own_transaction w session t is = ap (λ u. unwrap_or u (starting w session.next)) is

began_itself : (w : World) (session : Session) (t : Transaction) → session.transaction ≡ Some t → BeganWith t (begun w session)
began_itself w session t is = record {
  beginning = ap (λ (u : Transaction). u.beginning) (sym (own_transaction w session t is));
  found = ap (λ (u : Transaction). u.found) (sym (own_transaction w session t is));
}

-- the transaction that is left began where the statement's did
kept_began : (w : World) (session : Session) (obstacle : Option Refusal) (e : Effect) → GoesOn e → IsShaped session (begun w session) obstacle e
    → (t : Transaction) → (left_as session e).transaction ≡ Some t → BeganWith t (begun w session)
kept_began w session obstacle Effect.Nothing goes h t is = began_itself w session t is
kept_began w session obstacle (Effect.Becomes x) goes (inl same) t is = began_itself w session t (sym same ∙ is)
kept_began w session obstacle (Effect.Becomes x) goes (inr (u, left, b, k)) t is =
    subst (λ v. BeganWith v (begun w session)) (same_Some u t (sym left ∙ is)) b
kept_began w session obstacle (Effect.Writes x) goes h t is =
    subst (λ v. BeganWith v (begun w session)) (same_Some h.1.0 t (sym h.1.1 ∙ is)) h.1.2
kept_began w session obstacle (Effect.Commits u) goes h t is = absurd goes
kept_began w session obstacle Effect.RollsBack goes h t is = absurd goes

in_talk_along : (rules : Rules) (k s : ℕ) (talk now : Talk) (writes wrote : Bool) (x y : Session) (t : Transaction)
    → k ≡ s → talk ≡ now → writes ≡ wrote → x ≡ y → InTalk rules s now wrote y t → InTalk rules k talk writes x t
in_talk_along rules k s talk now writes wrote x y t p q r u h =
    subst (λ v. InTalk rules v talk writes x t) (sym p)
    (subst (λ v. InTalk rules s v writes x t) (sym q)
    (subst (λ v. InTalk rules s now v x t) (sym r)
    (subst (λ v. InTalk rules s now wrote v t) (sym u) h)))

module _ (rules : Rules) (dbs : List Database) (cs : List Committed) (talks : ℕ → Talk) (w : World) (story : Story rules dbs cs talks w)
    (s : ℕ) (asked : Asked) (reply : Reply) (session : Session) (stands : get w.sessions s ≡ Some session) where
  abbrev saying : Saying
  saying = record { asked = asked; reply = reply }

  -- the talk with this call, where the session's transaction is this
  abbrev talk_at : Option Transaction → Talk
  talk_at u = talked session u saying (talks s)

  abbrev begun_at : Option Transaction → Transaction
  begun_at u = unwrap_or u (starting w session.next)

  -- the transaction stands at the commit at which it began
  place : (u : Option Transaction) → session.transaction ≡ u → slice_get dbs (begun_at u).beginning ≡ Some (begun_at u).found
  place None is = story.latest
  place (Some t) is = story.found s session t stands is

  began_at : (u : Option Transaction) → BeganAt (begun_at u).beginning u
  began_at None = tt
  began_at (Some t) = refl

  same_begun : (u : Option Transaction) (writes : Bool)
      → unwrap_or u (starting (lonely (begun_at u).beginning (begun_at u).found s writes session) session.next) ≡ begun_at u
  same_begun None writes = refl
  same_begun (Some t) writes = refl

  -- what was said before this call leads to the session as it stands
  ready : (u : Option Transaction) → session.transaction ≡ u
      → (said : List Saying) × ((talk_at u).said ≡ saying ∷ said)
      × Says rules (lonely (begun_at u).beginning (begun_at u).found s false (talk_at u).before) s said
      (lonely (begun_at u).beginning (begun_at u).found s (is_writer w s) session)
  ready None is =
      let quiet : is_writer w s ≡ false = subst (IsSoundSession w.commits w.last (is_writer w s)) is (story.sound.sessions s session stands) in
      ([], refl, ap (λ b. lonely w.commits w.last s b session) quiet)
  ready (Some t) is = ((talks s).said, refl, (story.talking s session t stands is).says)

  -- and with this call to where it leads alone
  says_now : (e : Effect) (end : World)
      → Call rules (lonely (begun w session).beginning (begun w session).found s (is_writer w s) session) s asked reply e end
      → Says rules (lonely (begun w session).beginning (begun w session).found s false (talk_at session.transaction).before) s
      (talk_at session.transaction).said end
  says_now e end call = joined (ready session.transaction refl)
    where
      joined : ((said : List Saying) × ((talk_at session.transaction).said ≡ saying ∷ said)
          × Says rules (lonely (begun w session).beginning (begun w session).found s false (talk_at session.transaction).before) s said
          (lonely (begun w session).beginning (begun w session).found s (is_writer w s) session))
          → Says rules (lonely (begun w session).beginning (begun w session).found s false (talk_at session.transaction).before) s
          (talk_at session.transaction).said end
      joined (said, whole, says) =
          subst (λ all. Says rules (lonely (begun w session).beginning (begun w session).found s false (talk_at session.transaction).before) s all end)
          (sym whole) (lonely (begun w session).beginning (begun w session).found s (is_writer w s) session, says, (e, call))

  called_alone : (e : Effect) → Responds rules session (begun w session) (obstacle w s session) asked reply e
      → (e ≡ Effect.RollsBack)
      ⊎ Call rules (lonely (begun w session).beginning (begun w session).found s (is_writer w s) session) s asked reply e
      (after (lonely (begun w session).beginning (begun w session).found s (is_writer w s) session) s session e)
  called_alone e r =
      call_alone rules w (begun w session).beginning (begun w session).found s (is_writer w s) session asked reply e
      (began_at session.transaction) (same_begun session.transaction (is_writer w s)) r

  -- where the transaction stays open
  in_talk : (e : Effect) → GoesOn e
      → (e ≡ Effect.RollsBack)
      ⊎ Call rules (lonely (begun w session).beginning (begun w session).found s (is_writer w s) session) s asked reply e
      (after (lonely (begun w session).beginning (begun w session).found s (is_writer w s) session) s session e)
      → (t : Transaction) → BeganWith t (begun w session)
      → InTalk rules s (talk_at session.transaction) (writes_after (is_writer w s) e) (left_as session e) t
  in_talk e goes (inl back) t b = not_back e goes back
  in_talk e goes (inr call) t b =
      let base : Says rules (lonely (begun w session).beginning (begun w session).found s false (talk_at session.transaction).before) s
      (talk_at session.transaction).said
      (lonely (begun w session).beginning (begun w session).found s (writes_after (is_writer w s) e) (left_as session e))
      = subst (λ end. Says rules (lonely (begun w session).beginning (begun w session).found s false (talk_at session.transaction).before) s
      (talk_at session.transaction).said end)
      (left_alone (begun w session).beginning (begun w session).found s (is_writer w s) session e goes) (says_now e _ call) in
      record {
        says =
            subst (λ n. Says rules (lonely n t.found s false (talk_at session.transaction).before) s (talk_at session.transaction).said
            (lonely n t.found s (writes_after (is_writer w s) e) (left_as session e))) (sym b.beginning)
            (subst (λ db. Says rules (lonely (begun w session).beginning db s false (talk_at session.transaction).before) s (talk_at session.transaction).said
            (lonely (begun w session).beginning db s (writes_after (is_writer w s) e) (left_as session e))) (sym b.found) base);
      }

  -- ---- what is left, of any effect

  -- of the session's own transaction, if it has one afterwards
  abbrev OwnIsKept : Effect → Type 0
  OwnIsKept e = (t : Transaction) → (left_as session e).transaction ≡ Some t
      → BeganWith t (begun w session) × InTalk rules s (talk_at session.transaction) (writes_after (is_writer w s) e) (left_as session e) t

  abbrev talks_now : Effect → ℕ → Talk
  talks_now e k = talk_with k w (Event.Calls s asked reply e) (talks k)

  this_talk : (e : Effect) → talks_now e s ≡ talk_at session.transaction
  this_talk e =
      ap (λ b. cond b (talked_by (get w.sessions s) saying (talks s)) (talks s)) (same_key s)
      ∙ ap (λ o. talked_by o saying (talks s)) stands

  other_talk : (e : Effect) (k : ℕ) → k ≢ s → talks_now e k ≡ talks k
  other_talk e k ne = ap (λ b. cond b (talked_by (get w.sessions k) saying (talks k)) (talks k)) (ne_eqb s k (λ same. ne (sym same)))

  own_now : (e : Effect) (k : ℕ) (x : Session) → k ≡ s → get (after w s session e).sessions k ≡ Some x → x ≡ left_as session e
  own_now e k x same is =
      let own : get (after w s session e).sessions s ≡ Some x = subst (λ q. get (after w s session e).sessions q ≡ Some x) same is in
      same_Some x (left_as session e) (sym own ∙ own_session w s session e stands)

  found_after : (e : Effect) → OwnIsKept e → (k : ℕ) (x : Session) (t : Transaction) → get (after w s session e).sessions k ≡ Some x
      → x.transaction ≡ Some t → (k ≡ s) ⊎ (k ≡ s → ⊥) → slice_get dbs t.beginning ≡ Some t.found
  found_after e kept k x t is has (inl same) =
      let own : x ≡ left_as session e = own_now e k x same is in
      let b : BeganWith t (begun w session) = (kept t (ap (λ (y : Session). y.transaction) (sym own) ∙ has)).0 in
      ap (slice_get dbs) b.beginning ∙ place session.transaction refl ∙ ap Some (sym b.found)
  found_after e kept k x t is has (inr ne) = story.found k x t (sym (others_stay w s session e k ne) ∙ is) has

  talking_after : (e : Effect) → OwnIsKept e → IsAllowed w s e → (k : ℕ) (x : Session) (t : Transaction)
      → get (after w s session e).sessions k ≡ Some x → x.transaction ≡ Some t → (k ≡ s) ⊎ (k ≡ s → ⊥)
      → InTalk rules k (talks_now e k) (is_writer (after w s session e) k) x t
  talking_after e kept may k x t is has (inl same) =
      let own : x ≡ left_as session e = own_now e k x same is in
      in_talk_along rules k s (talks_now e k) (talk_at session.transaction) (is_writer (after w s session e) k) (writes_after (is_writer w s) e)
      x (left_as session e) t same (ap (talks_now e) same ∙ this_talk e)
      (ap (is_writer (after w s session e)) same ∙ own_writes w s session e) own
      (kept t (ap (λ (y : Session). y.transaction) (sym own) ∙ has)).1
  talking_after e kept may k x t is has (inr ne) =
      in_talk_along rules k k (talks_now e k) (talks k) (is_writer (after w s session e) k) (is_writer w k) x x t refl
      (other_talk e k ne) (others_write w s session e k ne may) refl
      (story.talking k x t (sym (others_stay w s session e k ne) ∙ is) has)

  -- ---- an effect that commits nothing

  story_keeps : (e : Effect) → (after w s session e).commits ≡ w.commits → (after w s session e).last ≡ w.last → OwnIsKept e
      → IsShaped session (begun w session) (obstacle w s session) e → LeavesMode e → Story rules dbs cs (talks_now e) (after w s session e)
  story_keeps e c l kept h m = record {
    sound = sound_after w s session story.sound stands e h m;
    counted = story.counted ∙ ap (λ n. n + 1) (sym c);
    latest = ap (slice_get dbs) c ∙ story.latest ∙ ap Some (sym l);
    found = λ k x t is has. found_after e kept k x t is has (cases_eq k s);
    talking = λ k x t is has. talking_after e kept (allowed w s session e h) k x t is has (cases_eq k s);
    first = story.first;
    order = story.order;
    all = story.all;
    series = story.series;
  }

  own_goes : (e : Effect) → GoesOn e → Responds rules session (begun w session) (obstacle w s session) asked reply e → OwnIsKept e
  own_goes e goes r t has =
      let b : BeganWith t (begun w session) = kept_began w session (obstacle w s session) e goes
      (shape rules session (begun w session) (obstacle w s session) reply e (runs_in w session) asked r) t has in
      (b, in_talk e goes (called_alone e r) t b)

  -- ---- a COMMIT

  nothing_left : (e : Effect) → (left_as session e).transaction ≡ None → OwnIsKept e
  nothing_left e none t has = let no_one : None ≡ Some t = sym none ∙ has in cc

  sound_own : (t : Transaction) → session.transaction ≡ Some t → IsSoundTransaction w.commits w.last (is_writer w s) t
  sound_own t is = subst (IsSoundSession w.commits w.last (is_writer w s)) is (story.sound.sessions s session stands)

  runs_alone : (t : Transaction) → session.transaction ≡ Some t
      → (Effect.Commits t ≡ Effect.RollsBack)
      ⊎ Call rules (lonely (begun w session).beginning (begun w session).found s (is_writer w s) session) s asked reply (Effect.Commits t)
      (after (lonely (begun w session).beginning (begun w session).found s (is_writer w s) session) s session (Effect.Commits t))
      → RunsAlone rules (committed_by s (talk_at session.transaction) t (is_writer w s))
  runs_alone t is (inl back) = cc
  runs_alone t is (inr call) =
      let b : BeganWith t (begun w session) = began_itself w session t is in
      record {
        end = after (lonely (begun w session).beginning (begun w session).found s (is_writer w s) session) s session (Effect.Commits t);
        says =
            subst (λ n. Says rules (lonely n t.found s false (talk_at session.transaction).before) s (talk_at session.transaction).said
            (after (lonely (begun w session).beginning (begun w session).found s (is_writer w s) session) s session (Effect.Commits t))) (sym b.beginning)
            (subst (λ db. Says rules (lonely (begun w session).beginning db s false (talk_at session.transaction).before) s (talk_at session.transaction).said
            (after (lonely (begun w session).beginning (begun w session).found s (is_writer w s) session) s session (Effect.Commits t))) (sym b.found)
            (says_now (Effect.Commits t) _ call));
        makes = commits_alone (begun w session).beginning (begun w session).found s (is_writer w s) session t
            (λ reads. (sound_own t is).unwritten reads ∙ b.found);
      }

  -- what the lists of databases and transactions are afterwards
  pub record Lists (c : Committed) (made : Database) (wrote : Bool) : Type 0 where
    counted : length (cond wrote (dbs ++ made ∷ []) dbs) ≡ cond wrote (w.commits + 1) w.commits + 1
    latest : slice_get (cond wrote (dbs ++ made ∷ []) dbs) (cond wrote (w.commits + 1) w.commits) ≡ Some (cond wrote made w.last)
    order : List Committed
    all : Permutes (c ∷ cs) order
    series : InSeries rules 0 story.first order (cond wrote (dbs ++ made ∷ []) dbs)

  lists : (c : Committed) (t : Transaction) (wrote : Bool) → is_writer w s ≡ wrote → session.transaction ≡ Some t
      → RunsAlone rules c → c.beginning ≡ t.beginning → c.found ≡ t.found → c.made ≡ t.working → c.wrote ≡ is_writer w s
      → Lists c t.working wrote
  lists c t true writes is runs b f m v =
      let now : t.beginning ≡ w.commits = (sound_own t is).written writes in
      let at_last : slice_get dbs w.commits ≡ Some c.found =
      ap (slice_get dbs) (sym now) ∙ story.found s session t stands is ∙ ap Some (sym f) in
      let counted_now : w.commits + 1 ≡ length dbs = sym story.counted in
      let series_now : InSeries rules 0 story.first (story.order ++ c ∷ []) (dbs ++ c.made ∷ []) =
      with_writer rules 0 story.first story.order dbs c w.commits story.series (v ∙ writes) runs (omega arith) counted_now at_last in
      record {
        counted = one_more t.working dbs ∙ ap (λ n. n + 1) story.counted;
        latest = got_last t.working dbs (w.commits + 1) story.counted;
        order = story.order ++ c ∷ [];
        all = Permutes.goes_on (Permutes.keeps c story.all) (to_the_end c story.order);
        series = subst (λ made. InSeries rules 0 story.first (story.order ++ c ∷ []) (dbs ++ made ∷ [])) m series_now;
      }
  lists c t false writes is runs b f m v =
      let there : slice_get dbs t.beginning ≡ Some c.found = story.found s session t stands is ∙ ap Some (sym f) in
      let placed : Placed rules 0 story.first story.order dbs c =
      with_reader rules 0 story.first story.order dbs c t.beginning story.series (v ∙ writes)
      (m ∙ (sound_own t is).unwritten writes ∙ sym f) runs (omega arith) there in
      record {
        counted = story.counted;
        latest = story.latest;
        order = placed.order;
        all = Permutes.goes_on (Permutes.keeps c story.all) placed.all;
        series = placed.series;
      }

  found_still : (t : Transaction) (wrote : Bool) (n : ℕ) (db : Database) → slice_get dbs n ≡ Some db
      → slice_get (cond wrote (dbs ++ t.working ∷ []) dbs) n ≡ Some db
  found_still t true n db is = got_before dbs (t.working ∷ []) n is
  found_still t false n db is = is

  story_commits : (t : Transaction) → session.transaction ≡ Some t
      → Responds rules session (begun w session) (obstacle w s session) asked reply (Effect.Commits t)
      → Story rules (cond (is_writer w s) (dbs ++ t.working ∷ []) dbs)
      (committed_by s (talks_now (Effect.Commits t) s) t (is_writer w s) ∷ cs) (talks_now (Effect.Commits t)) (after w s session (Effect.Commits t))
  story_commits t is r =
      let runs : RunsAlone rules (committed_by s (talks_now (Effect.Commits t) s) t (is_writer w s)) =
      subst (λ talk. RunsAlone rules (committed_by s talk t (is_writer w s))) (sym (this_talk (Effect.Commits t)))
      (runs_alone t is (called_alone (Effect.Commits t) r)) in
      let ls : Lists (committed_by s (talks_now (Effect.Commits t) s) t (is_writer w s)) t.working (is_writer w s) =
      lists (committed_by s (talks_now (Effect.Commits t) s) t (is_writer w s)) t (is_writer w s) refl is runs refl refl refl refl in
      record {
        sound = sound_after w s session story.sound stands (Effect.Commits t) is tt;
        counted = ls.counted ∙ ap (λ n. n + 1) (sym (committed_commits w s session t));
        latest = ap (slice_get (cond (is_writer w s) (dbs ++ t.working ∷ []) dbs)) (committed_commits w s session t)
            ∙ ls.latest ∙ ap Some (sym (committed_last w s session t));
        found = λ k x u stands_k has. found_still t (is_writer w s) u.beginning u.found
            (found_after (Effect.Commits t) (nothing_left (Effect.Commits t) refl) k x u stands_k has (cases_eq k s));
        talking = λ k x u stands_k has. talking_after (Effect.Commits t) (nothing_left (Effect.Commits t) refl) tt k x u stands_k has (cases_eq k s);
        first = story.first;
        order = ls.order;
        all = ls.all;
        series = ls.series;
      }

  story_call : (e : Effect) → Responds rules session (begun w session) (obstacle w s session) asked reply e
      → Story rules (lengthened w (Event.Calls s asked reply e) dbs) (with_ended w (Event.Calls s asked reply e) (talks_now e) cs) (talks_now e)
      (after w s session e)
  story_call Effect.Nothing r = story_keeps Effect.Nothing refl refl (own_goes Effect.Nothing tt r) tt tt
  story_call (Effect.Becomes x) r =
      story_keeps (Effect.Becomes x) refl refl (own_goes (Effect.Becomes x) tt r)
      (shape rules session (begun w session) (obstacle w s session) reply (Effect.Becomes x) (runs_in w session) asked r)
      (call_mode rules session (begun w session) (obstacle w s session) reply (Effect.Becomes x) (story.sound.modes s session stands) asked r)
  story_call (Effect.Writes x) r =
      story_keeps (Effect.Writes x) refl refl (own_goes (Effect.Writes x) tt r)
      (shape rules session (begun w session) (obstacle w s session) reply (Effect.Writes x) (runs_in w session) asked r)
      (call_mode rules session (begun w session) (obstacle w s session) reply (Effect.Writes x) (story.sound.modes s session stands) asked r)
  story_call (Effect.Commits t) r =
      story_commits t (shape rules session (begun w session) (obstacle w s session) reply (Effect.Commits t) (runs_in w session) asked r) r
  story_call Effect.RollsBack r = story_keeps Effect.RollsBack refl refl (nothing_left Effect.RollsBack refl) tt tt

-- ---- any event

module _ (rules : Rules) (dbs : List Database) (cs : List Committed) (talks : ℕ → Talk) (w : World) (story : Story rules dbs cs talks w) where
  story_made : (s : ℕ) → IsSound (with_session w s new_session) → Story rules dbs cs talks (with_session w s new_session)
  story_made s sound = record {
    sound = sound;
    counted = story.counted;
    latest = story.latest;
    found = λ k x t is has. found_with k x t is has (cases_eq k s);
    talking = λ k x t is has. talking_with k x t is has (cases_eq k s);
    first = story.first;
    order = story.order;
    all = story.all;
    series = story.series;
  }
    where
      fresh : {A : Type 0} (k : ℕ) (x : Session) (t : Transaction) → get (with_session w s new_session).sessions k ≡ Some x → x.transaction ≡ Some t
          → k ≡ s → A
      fresh k x t is has same =
          let own : get (with_session w s new_session).sessions s ≡ Some x = subst (λ q. get (with_session w s new_session).sessions q ≡ Some x) same is in
          let f : new_session ≡ x = same_Some new_session x (sym (get_here w.sessions s new_session) ∙ own) in
          let none : None ≡ Some t = ap (λ (y : Session). y.transaction) f ∙ has in cc

      found_with : (k : ℕ) (x : Session) (t : Transaction) → get (with_session w s new_session).sessions k ≡ Some x → x.transaction ≡ Some t
          → (k ≡ s) ⊎ (k ≡ s → ⊥) → slice_get dbs t.beginning ≡ Some t.found
      found_with k x t is has (inl same) = fresh k x t is has same
      found_with k x t is has (inr ne) = story.found k x t (sym (get_there w.sessions s new_session k ne) ∙ is) has

      talking_with : (k : ℕ) (x : Session) (t : Transaction) → get (with_session w s new_session).sessions k ≡ Some x → x.transaction ≡ Some t
          → (k ≡ s) ⊎ (k ≡ s → ⊥) → InTalk rules k (talks k) (is_writer w k) x t
      talking_with k x t is has (inl same) = fresh k x t is has same
      talking_with k x t is has (inr ne) = story.talking k x t (sym (get_there w.sessions s new_session k ne) ∙ is) has

  story_dropped : (s : ℕ) → IsSound (without_session w s) → Story rules dbs cs talks (without_session w s)
  story_dropped s sound = record {
    sound = sound;
    counted = story.counted;
    latest = story.latest;
    found = λ k x t is has. found_with k x t is has (cases_eq k s);
    talking = λ k x t is has. talking_with k x t is has (cases_eq k s);
    first = story.first;
    order = story.order;
    all = story.all;
    series = story.series;
  }
    where
      gone : {A : Type 0} (k : ℕ) (x : Session) → get (without_session w s).sessions k ≡ Some x → k ≡ s → A
      gone k x is same =
          let own : get (without_session w s).sessions s ≡ Some x = subst (λ q. get (without_session w s).sessions q ≡ Some x) same is in
          let none : None ≡ Some x = sym (get_gone w.sessions s) ∙ own in cc

      found_with : (k : ℕ) (x : Session) (t : Transaction) → get (without_session w s).sessions k ≡ Some x → x.transaction ≡ Some t
          → (k ≡ s) ⊎ (k ≡ s → ⊥) → slice_get dbs t.beginning ≡ Some t.found
      found_with k x t is has (inl same) = gone k x is same
      found_with k x t is has (inr ne) = story.found k x t (sym (get_left w.sessions s k ne) ∙ is) has

      talking_with : (k : ℕ) (x : Session) (t : Transaction) → get (without_session w s).sessions k ≡ Some x → x.transaction ≡ Some t
          → (k ≡ s) ⊎ (k ≡ s → ⊥) → InTalk rules k (talks k) (is_writer (without_session w s) k) x t
      talking_with k x t is has (inl same) = gone k x is same
      talking_with k x t is has (inr ne) =
          in_talk_along rules k k (talks k) (talks k) (is_writer (without_session w s) k) (is_writer w k) x x t refl refl
          (without_other s k w.writer ne) refl (story.talking k x t (sym (get_left w.sessions s k ne) ∙ is) has)

  story_closed : Story rules dbs cs talks (without_sessions w)
  story_closed = record {
    sound = sound_empty w.commits w.last;
    counted = story.counted;
    latest = story.latest;
    found = λ k x t is has. let none : None ≡ Some x = sym (get-empty nat_cmp k) ∙ is in cc;
    talking = λ k x t is has. nobody (sym (get-empty nat_cmp k) ∙ is);
    first = story.first;
    order = story.order;
    all = story.all;
    series = story.series;
  }
    where
      nobody : {A : Type 0} {x : Session} → None ≡ Some x → A
      nobody none = cc

-- the beginning of a history
story_opened : (rules : Rules) (talks : ℕ → Talk) (db : Database) → Story rules (db ∷ []) [] talks (opened db)
story_opened rules talks db = record {
  sound = sound_empty 0 db;
  counted = refl;
  latest = refl;
  found = λ k x t is has. let none : None ≡ Some x = sym (get-empty nat_cmp k) ∙ is in cc;
  talking = λ k x t is has. nobody (sym (get-empty nat_cmp k) ∙ is);
  first = db;
  order = [];
  all = Permutes.nothing;
  series = refl;
}
  where
    nobody : {A : Type 0} {x : Session} → None ≡ Some x → A
    nobody none = cc

abbrev StoryAfter : Rules → List Database → List Committed → (ℕ → Talk) → World → Event → World → Type 0
StoryAfter rules dbs cs talks w event new =
    Story rules (lengthened w event dbs) (with_ended w event (λ k. talk_with k w event (talks k)) cs) (λ k. talk_with k w event (talks k)) new

module _ (rules : Rules) (dbs : List Database) (cs : List Committed) (talks : ℕ → Talk) (w : World) (story : Story rules dbs cs talks w) where
  story_makes : (made : Result ℕ Refusal) (new : World) → IsSound new → MakesSession w made new → Story rules dbs cs talks new
  story_makes (Ok s) new sound h = subst (Story rules dbs cs talks) (sym h.2) (story_made rules dbs cs talks w story s (subst IsSound h.2 sound))
  story_makes (Err refusal) new sound h = subst (Story rules dbs cs talks) (sym h.1) story

  story_flushes : (left : Result ℕ Refusal) (new : World) → FlushesPages w left new → Story rules dbs cs talks new
  story_flushes (Ok left) new h = subst (Story rules dbs cs talks) (sym h) story
  story_flushes (Err refusal) new h = subst (Story rules dbs cs talks) (sym h.1) story

  story_event : (event : Event) (new : World) → Happens rules w event new → StoryAfter rules dbs cs talks w event new
  story_event (Event.Makes made) new h = story_makes made new (sound_event rules w (Event.Makes made) new story.sound h) h
  story_event (Event.Calls s asked reply e) new h =
      subst (StoryAfter rules dbs cs talks w (Event.Calls s asked reply e)) (sym h.leaves)
      (story_call rules dbs cs talks w story s asked reply h.session h.stands e h.replies)
  story_event (Event.Drops s) new h =
      subst (Story rules dbs cs talks) (sym h.leaves)
      (story_dropped rules dbs cs talks w story s (subst IsSound h.leaves (sound_event rules w (Event.Drops s) new story.sound h)))
  story_event (Event.Flushes left) new h = story_flushes left new h
  story_event (Event.SetsPieces pieces) new h = subst (Story rules dbs cs talks) (sym h) story
  story_event (Event.FailsToClose refusal) new h = subst (Story rules dbs cs talks) (sym h.1) (story_closed rules dbs cs talks w story)
  story_event Event.Reopens new h = subst (Story rules (w.last ∷ []) [] talks) (sym h) (story_opened rules talks w.last)

-- ---- runs

pub story_of : (rules : Rules) (db : Database) (moments : List Moment) (end : World) → Run rules (opened db) moments end
    → Story rules (history (opened db) moments) (transactions moments) (λ s. talk s moments) end
story_of rules db [] end run = subst (Story rules (db ∷ []) [] (λ s. talk s [])) (sym run) (story_opened rules (λ s. talk s []) db)
story_of rules db (moment ∷ earlier) end run =
    story_event rules (history (opened db) earlier) (transactions earlier) (λ s. talk s earlier) moment.before
    (story_of rules db earlier moment.before run.0) moment.event end run.1

pub serializable : (rules : Rules) (db : Database) (moments : List Moment) (end : World) → Run rules (opened db) moments end
    → IsSerializable rules (opened db) moments
serializable rules db moments end run =
    let story : Story rules (history (opened db) moments) (transactions moments) (λ s. talk s moments) end = story_of rules db moments end run in
    record { first = story.first; order = story.order; all = story.all; series = story.series }

pub history_counted : (rules : Rules) (db : Database) (moments : List Moment) (end : World) → Run rules (opened db) moments end
    → length (history (opened db) moments) ≡ end.commits + 1
history_counted rules db moments end run =
    let story : Story rules (history (opened db) moments) (transactions moments) (λ s. talk s moments) end = story_of rules db moments end run in
    story.counted

pub history_latest : (rules : Rules) (db : Database) (moments : List Moment) (end : World) → Run rules (opened db) moments end
    → slice_get (history (opened db) moments) end.commits ≡ Some end.last
history_latest rules db moments end run =
    let story : Story rules (history (opened db) moments) (transactions moments) (λ s. talk s moments) end = story_of rules db moments end run in
    story.latest

pub stays_sound : (rules : Rules) (db : Database) (moments : List Moment) (end : World) → Run rules (opened db) moments end → IsSound end
stays_sound rules db moments end run =
    let story : Story rules (history (opened db) moments) (transactions moments) (λ s. talk s moments) end = story_of rules db moments end run in
    story.sound

pub made_by : (rules : Rules) (db : Database) (moments : List Moment) (end : World) (k : ℕ) (before next : Database) → Run rules (opened db) moments end
    → slice_get (history (opened db) moments) k ≡ Some before → slice_get (history (opened db) moments) (k + 1) ≡ Some next
    → (c : Committed) × Contains (transactions moments) c × IsWriter rules k before c × (c.made ≡ next)
made_by rules db moments end k before next run here there =
    let story : Story rules (history (opened db) moments) (transactions moments) (λ s. talk s moments) end = story_of rules db moments end run in
    let later : slice_get (history (opened db) moments) (suc k) ≡ Some next = ap (slice_get (history (opened db) moments)) (sym (add-one k)) ∙ there in
    let made : MadeBy rules 0 story.order k before next = made_in_series rules 0 story.first story.order (history (opened db) moments) k before next story.series here later in (
      made.by,
      contains_from_in made.by (transactions moments) (in_permuted made.by story.all made.is_in),
      subst (λ n. IsWriter rules n before made.by) (zero-add k) made.writer,
      made.makes,
    )
