-- The last turns of a query.
use Rattle.std.proofs.Common.{◌≡◌, ◌⊎◌, ◌<◌, ℕ, true, List, [], ◌∷◌, ◌++◌, length, Some, None, refl, sym, subst, inl, inr}
use Rattle.std.proofs.lemmas.List.Elements.{Contains-append_right}
use Rattle.std.specs.FinMap.{get}
use Rattle.std.specs.Prelude.{Contains}
use Rattle.sqlval.specs.Value.{Row}
use Rattle.refusals.specs.declared.refusal.Refusal.{Refusal}
use Rattle.lexer.specs.Token.{Bytes}
use Rattle.denote.specs.declared.fault.Fault.{Fault}
use Rattle.replies.specs.declared.reply.Reply.{Reply}
use Rattle.replies.specs.declared.reply.Reply.TheVariants as says
use Rattle.session_definitions.specs.Asked.{Asked}
use Rattle.session_definitions.specs.Calls.{ClosesQuery}
use Rattle.session_definitions.specs.Cursor.{IsAtEnd}
use Rattle.session_definitions.specs.Effect.{Effect}
use Rattle.session_definitions.specs.Refusals.{IsReserved, refusal_of}
use Rattle.session_definitions.specs.Rules.{Rules}
use Rattle.session_definitions.specs.Run.{Moment}
use Rattle.session_definitions.specs.Turns.{Exchange}
use Rattle.session_definitions.specs.World.{Session, World, is_live}
use Rattle.turn_laws.proofs.Latest.{Latest, still}
use Rattle.turn_laws.proofs.Taking.{IsTaking, Opened, as_left, became, cursor_at, opened_among, slot, taken_more, taken_so, taking_later}
use Rattle.turn_laws.proofs.Turning.{closed_in, refused_in}
use Rattle.turn_laws.proofs.Wholes.{answered, faulted}
use Rattle.turn_laws.specs.Answered.{CouldBeTold, HasClosed, IsAnswered, IsRefused}

-- the query has been closed
pub record HasTurned (rules : Rules) (s : ℕ) (text : Bytes) (moments : List Moment) (w : World) : Type 0 where
  pub opened : Opened rules s text moments
  pub stands : get w.sessions s ≡ Some (slot rules s text moments opened None)

-- all its rows have been taken
pub record HasGivenAll (rules : Rules) (s : ℕ) (text : Bytes) (moments : List Moment) (rows : List Row) (w : World) : Type 0 where
  pub taking : IsTaking rules s text moments rows w
  pub ended : IsAtEnd (cursor_at rules s text moments taking.opened rows)

-- it was refused, and with that closed
pub record HasBroken (rules : Rules) (s : ℕ) (text : Bytes) (moments : List Moment) (refusal : Refusal) (w : World) : Type 0 where
  pub turned : HasTurned rules s text moments w
  pub why : IsReserved refusal
      ⊎ ((fault : Fault) × Contains turned.opened.outcome.unordered.faults fault × (refusal ≡ refusal_of fault))

-- behind further events of others, and among more moments
abbrev turned_later : (rules : Rules) (s : ℕ) (text : Bytes) (few all : List Moment) (behind end : World)
    → ((x : Moment) → Contains few x → Contains all x)
    → (is_live behind s ≡ true → get end.sessions s ≡ get behind.sessions s)
    → HasTurned rules s text few behind → HasTurned rules s text all end
turned_later rules s text few all behind end within kept h =
    record { opened = opened_among rules s text few all within h.opened; stands = still s behind end _ kept h.stands }

before_it : (rules : Rules) (s : ℕ) (asked : Asked) (reply : Reply) (others : List Exchange) (moments : List Moment) (start end : World)
    → (l : Latest rules s asked reply others moments start end) → (x : Moment) → Contains l.earlier x → Contains moments x
before_it rules s asked reply others moments start end l x c =
    l.within x (Contains-append_right (l.moment ∷ []) l.earlier x c)

module _ (rules : Rules) (s : ℕ) (text : Bytes) (n : ℕ) (start : World) where
  -- ---- rows

  pub given_all : (others : List Exchange) (before rows : List Row) (moments : List Moment) (end : World) → length rows < n
      → (l : Latest rules s (Asked.Rows n) (says.Rows rows) others moments start end)
      → IsTaking rules s text l.earlier before l.moment.before
      → HasGivenAll rules s text moments (before ++ rows) end
  given_all others before rows moments end few l h =
      let more = taken_more rules s text l.earlier before l.moment.before h n rows l.effect l.behind l.call in
      record {
        taking = taking_later rules s text l.earlier moments (before ++ rows) l.behind end
            (before_it rules s (Asked.Rows n) (says.Rows rows) others moments start end l) l.kept
            (record { opened = h.opened; stands = more.0 });
        ended = more.1 few;
      }

  -- the call that closes it
  pub closing_so : (others : List Exchange) (rows : List Row) (closing : Reply) (moments : List Moment) (end : World)
      → (l : Latest rules s Asked.Close closing others moments start end)
      → (h : IsTaking rules s text l.earlier rows l.moment.before)
      → (closing ≡ says.Done) × (l.effect ≡ Effect.Becomes (slot rules s text l.earlier h.opened None))
  closing_so others rows closing moments end l h =
      let same = as_left rules s text l.earlier rows l.moment.before h Asked.Close closing l.effect l.behind l.call in
      closed_in _ _ (cursor_at rules s text l.earlier h.opened rows) refl l.effect closing
      (subst (λ (x : Session). ClosesQuery x x.transaction closing l.effect) same l.call.replies)

  pub closed_behind : (others : List Exchange) (rows : List Row) (closing : Reply) (moments : List Moment) (end : World)
      → (l : Latest rules s Asked.Close closing others moments start end)
      → (h : IsTaking rules s text l.earlier rows l.moment.before)
      → get end.sessions s ≡ Some (slot rules s text l.earlier h.opened None)
  closed_behind others rows closing moments end l h =
      still s l.behind end _ l.kept
      (became rules l.moment.before l.behind s Asked.Close closing l.effect l.call _ (closing_so others rows closing moments end l h).1)

  pub closed_so : (others : List Exchange) (rows : List Row) (closing : Reply) (moments : List Moment) (end : World)
      → (l : Latest rules s Asked.Close closing others moments start end)
      → (h : HasGivenAll rules s text l.earlier rows l.moment.before)
      → IsAnswered rules s text moments (says.Rows rows) end
  closed_so others rows closing moments end l h =
      answered rules s text moments
      (opened_among rules s text l.earlier moments (before_it rules s Asked.Close closing others moments start end l) h.taking.opened)
      rows h.ended end (closed_behind others rows closing moments end l h.taking)

  -- ---- a refusal, where the query is open

  pub broken : (others : List Exchange) (before : List Row) (refusal : Refusal) (moments : List Moment) (end : World)
      → (l : Latest rules s (Asked.Rows n) (says.Refused refusal) others moments start end)
      → IsTaking rules s text l.earlier before l.moment.before
      → HasBroken rules s text moments refusal end
  broken others before refusal moments end l h =
      let told = refused_in _ _ (cursor_at rules s text l.earlier h.opened before) refl l.effect n refusal
      (taken_so rules s text l.earlier before l.moment.before h n (says.Refused refusal) l.effect l.behind l.call) in
      record {
        turned = turned_later rules s text l.earlier moments l.behind end
            (before_it rules s (Asked.Rows n) (says.Refused refusal) others moments start end l) l.kept
            (record { opened = h.opened; stands = became rules l.moment.before l.behind s (Asked.Rows n) (says.Refused refusal) l.effect l.call _ told.0 });
        why = told.1;
      }

-- ---- what is said of it

pub closed : (rules : Rules) (s : ℕ) (text : Bytes) (moments : List Moment) (w : World) → HasTurned rules s text moments w → HasClosed w s
closed rules s text moments w h = record {
  session = slot rules s text moments h.opened None;
  stands = h.stands;
  transaction = _;
  has = refl;
  closed = refl;
}

pub refused : (rules : Rules) (s : ℕ) (text : Bytes) (moments : List Moment) (refusal : Refusal) (w : World)
    → HasBroken rules s text moments refusal w → IsRefused rules s text moments refusal
refused rules s text moments refusal w h = by h.why
  where
    by : IsReserved refusal ⊎ ((fault : Fault) × Contains h.turned.opened.outcome.unordered.faults fault × (refusal ≡ refusal_of fault))
        → IsRefused rules s text moments refusal
    by (inl of) = IsRefused.withheld of
    by (inr (fault, may, is)) =
        IsRefused.as_whole (subst (λ r. CouldBeTold rules s text moments (says.Refused r)) (sym is) (faulted rules s text moments h.turned.opened fault may))
