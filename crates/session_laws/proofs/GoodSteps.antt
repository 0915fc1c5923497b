-- Every event leaves good databases good.
use Rattle.std.proofs.Common.{◌≡◌, ◌⊎◌, ℕ, Bool, true, false, cond, List, [], ◌∷◌, ◌++◌, Option, Some, None, Result, Ok, Err, refl, sym, ap, ◌∙◌, subst, inl, inr}
use Rattle.std.proofs.lemmas.Bool.{cases_eq}
use Rattle.std.proofs.lemmas.List.Elements.{All-nil, All-cons, All-push}
use Rattle.std.specs.Prelude.{All}
use Rattle.std.specs.Option.{unwrap_or}
use Rattle.std.specs.FinMap.{get, empty, get-empty}
use Rattle.std.specs.Ordering.{nat_cmp}
use Rattle.sqlval.specs.Comparison.{text_order}
use Rattle.refusals.specs.declared.refusal.Refusal.{Refusal}
use Rattle.denote.specs.Database.{Database, IsGood, CheckReading}
use Rattle.replies.specs.declared.reply.Reply.{Reply}
use Rattle.session_definitions.specs.Asked.{Asked}
use Rattle.session_definitions.specs.Effect.{Effect, after}
use Rattle.session_definitions.specs.Rules.{Rules}
use Rattle.session_definitions.specs.Run.{Event, MakesSession, DropsSession, FlushesPages, Happens, without_session, Moment, Run, lengthened, history}
use Rattle.session_laws.specs.Sound.{IsGoodWorld}
use Rattle.session_definitions.specs.Step.{Call}
use Rattle.session_definitions.specs.Transactions.{starting, begun, obstacle}
use Rattle.session_definitions.specs.World.{Transaction, Session, World, is_writer, new_session, new_world, with_session}
use Rattle.session_laws.proofs.Effects.{left_as, others_stay, own_session}
use Rattle.session_laws.proofs.GoodReplies.{IsGoodTransaction, IsGoodIfAny, LeavesGood, call_good}
use Rattle.session_laws.proofs.Declarations.{DeclareRightly}
use Rattle.session_laws.proofs.Maps.{get_here, get_there, get_gone, get_left}
use Rattle.session_laws.proofs.SoundSteps.{same_Some}

-- a world without sessions
pub good_alone : (reading : CheckReading) (commits : ℕ) (db : Database) → IsGood reading db
    → IsGoodWorld reading (record { commits = commits; last = db; writer = None; sessions = empty })
good_alone reading commits db good = record {
  last = good;
  transactions = λ s session t is u. let none : None ≡ Some session = sym (get-empty nat_cmp s) ∙ is in cc;
}

pub good_new : (reading : CheckReading) → IsGoodWorld reading new_world
good_new reading = good_alone reading 0 empty (λ name table is. let none : None ≡ Some table = sym (get-empty text_order name) ∙ is in cc)

module _ (rules : Rules) where
  good_begun : (u : Option Transaction) (t : Transaction) → IsGoodIfAny rules u → IsGoodTransaction rules t → IsGoodTransaction rules (unwrap_or u t)
  good_begun None t h good = good
  good_begun (Some u) t h good = h

  in_session : (u : Option Transaction) (t : Transaction) → u ≡ Some t → IsGoodIfAny rules u → IsGoodTransaction rules t
  in_session u t is h = subst (IsGoodIfAny rules) is h

  any_good : (u : Option Transaction) → ((t : Transaction) → u ≡ Some t → IsGoodTransaction rules t) → IsGoodIfAny rules u
  any_good None h = tt
  any_good (Some t) h = h t refl

  either_last : (b : Bool) (x y : World) → IsGood rules.check x.last → IsGood rules.check y.last → IsGood rules.check (cond b x y).last
  either_last true x y h k = h
  either_last false x y h k = k

  -- ---- a call

  module _ (w : World) (s : ℕ) (session : Session) (good : IsGoodWorld rules.check w) (stands : get w.sessions s ≡ Some session) where
    own_good : IsGoodIfAny rules session.transaction
    own_good = any_good session.transaction (λ t is. good.transactions s session t stands is)

    begun_good : IsGoodTransaction rules (begun w session)
    begun_good = good_begun session.transaction (starting w session.next) own_good (good.last, good.last)

    left_good : (e : Effect) → LeavesGood rules e → IsGoodIfAny rules (left_as session e).transaction
    left_good Effect.Nothing h = own_good
    left_good (Effect.Becomes x) h = h
    left_good (Effect.Writes x) h = h
    left_good (Effect.Commits t) h = tt
    left_good Effect.RollsBack h = tt

    last_good : (e : Effect) → LeavesGood rules e → IsGood rules.check (after w s session e).last
    last_good Effect.Nothing h = good.last
    last_good (Effect.Becomes x) h = good.last
    last_good (Effect.Writes x) h = good.last
    last_good (Effect.Commits t) h = either_last (is_writer w s) _ _ h good.last
    last_good Effect.RollsBack h = good.last

    good_after : (e : Effect) → LeavesGood rules e → IsGoodWorld rules.check (after w s session e)
    good_after e h = record {
      last = last_good e h;
      transactions = λ k x t is u. each k x t is u (cases_eq k s);
    }
      where
        each : (k : ℕ) (x : Session) (t : Transaction) → get (after w s session e).sessions k ≡ Some x → x.transaction ≡ Some t → (k ≡ s) ⊎ (k ≡ s → ⊥)
            → IsGoodTransaction rules t
        each k x t is u (inl same) =
            let own : get (after w s session e).sessions s ≡ Some x = subst (λ q. get (after w s session e).sessions q ≡ Some x) same is in
            let f : x ≡ left_as session e = same_Some x (left_as session e) (sym own ∙ own_session w s session e stands) in
            in_session (left_as session e).transaction t (ap (λ y. y.transaction) (sym f) ∙ u) (left_good e h)
        each k x t is u (inr ne) = good.transactions k x t (sym (others_stay w s session e k ne) ∙ is) u

  -- the effect of a call leaves what is good
  call_leaves_good : DeclareRightly rules → (old : World) (s : ℕ) (asked : Asked) (reply : Reply) (effect : Effect) (new : World) → IsGoodWorld rules.check old
      → Call rules old s asked reply effect new → LeavesGood rules effect
  call_leaves_good keeps old s asked reply effect new good call =
      call_good rules call.session (begun old call.session) (obstacle old s call.session) reply effect
      (own_good old s call.session good call.stands) (begun_good old s call.session good call.stands) keeps asked call.replies

  good_call : DeclareRightly rules → (old : World) (s : ℕ) (asked : Asked) (reply : Reply) (effect : Effect) (new : World) → IsGoodWorld rules.check old
      → Call rules old s asked reply effect new → IsGoodWorld rules.check new
  good_call keeps old s asked reply effect new good call =
      subst (IsGoodWorld rules.check) (sym call.leaves)
      (good_after old s call.session good call.stands effect (call_leaves_good keeps old s asked reply effect new good call))

  -- ---- other events

  good_made : (old : World) (s : ℕ) → IsGoodWorld rules.check old → IsGoodWorld rules.check (with_session old s new_session)
  good_made old s good = record {
    last = good.last;
    transactions = λ k x t is u. each k x t is u (cases_eq k s);
  }
    where
      each : (k : ℕ) (x : Session) (t : Transaction) → get (with_session old s new_session).sessions k ≡ Some x → x.transaction ≡ Some t
          → (k ≡ s) ⊎ (k ≡ s → ⊥) → IsGoodTransaction rules t
      each k x t is u (inl same) =
          let own : get (with_session old s new_session).sessions s ≡ Some x = subst (λ q. get (with_session old s new_session).sessions q ≡ Some x) same is in
          let f : x ≡ new_session = same_Some x new_session (sym own ∙ get_here old.sessions s new_session) in
          let none : None ≡ Some t = ap (λ y. y.transaction) (sym f) ∙ u in absurd (cc)
      each k x t is u (inr ne) = good.transactions k x t (sym (get_there old.sessions s new_session k ne) ∙ is) u

  good_dropped : (old : World) (s : ℕ) → IsGoodWorld rules.check old → IsGoodWorld rules.check (without_session old s)
  good_dropped old s good = record {
    last = good.last;
    transactions = λ k x t is u. each k x t is u (cases_eq k s);
  }
    where
      each : (k : ℕ) (x : Session) (t : Transaction) → get (without_session old s).sessions k ≡ Some x → x.transaction ≡ Some t
          → (k ≡ s) ⊎ (k ≡ s → ⊥) → IsGoodTransaction rules t
      each k x t is u (inl same) =
          let own : get (without_session old s).sessions s ≡ Some x = subst (λ q. get (without_session old s).sessions q ≡ Some x) same is in
          let none : None ≡ Some x = sym (get_gone old.sessions s) ∙ own in absurd (cc)
      each k x t is u (inr ne) = good.transactions k x t (sym (get_left old.sessions s k ne) ∙ is) u

  pub good_drops : (old : World) (s : ℕ) (new : World) → IsGoodWorld rules.check old → DropsSession old s new → IsGoodWorld rules.check new
  good_drops old s new good h = subst (IsGoodWorld rules.check) (sym h.leaves) (good_dropped old s good)

  pub good_made_or_not : (old : World) (made : Result ℕ Refusal) (new : World) → IsGoodWorld rules.check old → MakesSession old made new
      → IsGoodWorld rules.check new
  good_made_or_not old (Ok s) new good h = subst (IsGoodWorld rules.check) (sym h.2) (good_made old s good)
  good_made_or_not old (Err refusal) new good h = subst (IsGoodWorld rules.check) (sym h.1) good

  good_flushed : (old : World) (left : Result ℕ Refusal) (new : World) → IsGoodWorld rules.check old → FlushesPages old left new
      → IsGoodWorld rules.check new
  good_flushed old (Ok left) new good h = subst (IsGoodWorld rules.check) (sym h) good
  good_flushed old (Err refusal) new good h = subst (IsGoodWorld rules.check) (sym h.1) good

  good_event : DeclareRightly rules → (old : World) (event : Event) (new : World) → IsGoodWorld rules.check old → Happens rules old event new → IsGoodWorld rules.check new
  good_event keeps old (Event.Makes made) new good h = good_made_or_not old made new good h
  good_event keeps old (Event.Calls s asked reply effect) new good h = good_call keeps old s asked reply effect new good h
  good_event keeps old (Event.Drops s) new good h = good_drops old s new good h
  good_event keeps old (Event.Flushes left) new good h = good_flushed old left new good h
  good_event keeps old (Event.SetsPieces pieces) new good h = subst (IsGoodWorld rules.check) (sym h) good
  good_event keeps old (Event.FailsToClose refusal) new good h =
      subst (IsGoodWorld rules.check) (sym h.1) (good_alone rules.check old.commits old.last good.last)
  good_event keeps old Event.Reopens new good h = subst (IsGoodWorld rules.check) (sym h) (good_alone rules.check 0 old.last good.last)

  -- ---- runs

  pub good_run : DeclareRightly rules → (start end : World) (moments : List Moment) → IsGoodWorld rules.check start → Run rules start moments end → IsGoodWorld rules.check end
  good_run keeps start end [] good run = subst (IsGoodWorld rules.check) (sym run) good
  good_run keeps start end (moment ∷ earlier) good run =
      good_event keeps moment.before moment.event end (good_run keeps start moment.before earlier good run.0) run.1

  one_more : (b : Bool) (dbs : List Database) (db : Database) → All (IsGood rules.check) dbs → IsGood rules.check db
      → All (IsGood rules.check) (cond b (dbs ++ db ∷ []) dbs)
  one_more true dbs db h k = All-push (IsGood rules.check) dbs db h k
  one_more false dbs db h k = h

  good_lengthened : DeclareRightly rules → (old : World) (event : Event) (new : World) (dbs : List Database) → IsGoodWorld rules.check old → Happens rules old event new
      → All (IsGood rules.check) dbs → All (IsGood rules.check) (lengthened old event dbs)
  good_lengthened keeps old (Event.Calls s asked reply (Effect.Commits t)) new dbs good h k =
      one_more (is_writer old s) dbs t.working k (call_leaves_good keeps old s asked reply (Effect.Commits t) new good h)
  good_lengthened keeps old (Event.Calls s asked reply Effect.Nothing) new dbs good h k = k
  good_lengthened keeps old (Event.Calls s asked reply (Effect.Becomes session)) new dbs good h k = k
  good_lengthened keeps old (Event.Calls s asked reply (Effect.Writes session)) new dbs good h k = k
  good_lengthened keeps old (Event.Calls s asked reply Effect.RollsBack) new dbs good h k = k
  good_lengthened keeps old (Event.Makes made) new dbs good h k = k
  good_lengthened keeps old (Event.Drops s) new dbs good h k = k
  good_lengthened keeps old (Event.Flushes left) new dbs good h k = k
  good_lengthened keeps old (Event.SetsPieces pieces) new dbs good h k = k
  good_lengthened keeps old (Event.FailsToClose refusal) new dbs good h k = k
  good_lengthened keeps old Event.Reopens new dbs good h k = All-cons (IsGood rules.check) old.last [] good.last (All-nil (IsGood rules.check))

  pub good_history : DeclareRightly rules → (start end : World) (moments : List Moment) → IsGoodWorld rules.check start → Run rules start moments end
      → All (IsGood rules.check) (history start moments)
  good_history keeps start end [] good run = All-cons (IsGood rules.check) start.last [] good.last (All-nil (IsGood rules.check))
  good_history keeps start end (moment ∷ earlier) good run =
      good_lengthened keeps moment.before moment.event end (history start earlier) (good_run keeps start moment.before earlier good run.0) run.1
      (good_history keeps start moment.before earlier good run.0)
