-- What is known of a session while it takes a query in turns.
use Rattle.std.proofs.Common.{◌≡◌, ◌<◌, ℕ, true, List, [], ◌∷◌, ◌++◌, length, Option, Some, None, refl, sym, ap, ◌∙◌, subst, arith}
use Rattle.std.proofs.lemmas.List.Elements.{Contains-append_right}
use Rattle.std.specs.FinMap.{get}
use Rattle.std.specs.Prelude.{Contains}
use Rattle.sqlval.specs.Value.{Row}
use Rattle.refusals.specs.declared.refusal.Refusal.{Refusal}
use Rattle.lexer.specs.Token.{Bytes}
use Rattle.ast.specs.declared.statement.OrderedQuery.{OrderedQuery}
use Rattle.ast.specs.declared.statement.Statement.TheVariants as asks
use Rattle.statement_definitions.specs.Reading.{IsRead}
use Rattle.typing.specs.declared.statement.Typed.TheVariants as does
use Rattle.typing.specs.declared.typed.OrderedQuery as typed
use Rattle.denote.specs.Outcome.{OrderedOutcome}
use Rattle.denote.specs.Query.{denotes}
use Rattle.replies.specs.declared.reply.Reply.{Reply}
use Rattle.replies.specs.declared.reply.Reply.TheVariants as says
use Rattle.session_definitions.specs.Asked.{Asked}
use Rattle.session_definitions.specs.Calls.{OpensQuery, TakesRows, TakesIn}
use Rattle.session_definitions.specs.Cursor.{IsAtEnd}
use Rattle.session_definitions.specs.Effect.{Effect, after}
use Rattle.session_definitions.specs.Rules.{Rules, Means}
use Rattle.session_definitions.specs.Run.{Event, Moment, Run}
use Rattle.session_definitions.specs.Statements.{IsSameOutcome}
use Rattle.session_definitions.specs.Step.{Call}
use Rattle.session_definitions.specs.Transactions.{active, begun, with_unnamed}
use Rattle.session_definitions.specs.Turns.{AreTaken, Exchange, exchanges_in}
use Rattle.session_definitions.specs.World.{Cursor, Session, Transaction, World, is_live}
use Rattle.turn_laws.proofs.Latest.{Latest, latest, stands_in, still}
use Rattle.turn_laws.proofs.Slots.{get_here}
use Rattle.turn_laws.proofs.Turning.{given_in}
use Rattle.turn_laws.specs.Answered.{HasFirst}

-- The first turn, and what it found: the session as it was, and the query with its outcome.
pub record Opened (rules : Rules) (s : ℕ) (text : Bytes) (moments : List Moment) : Type 0 where
  pub turn : HasFirst s text moments
  pub session : Session
  pub stood : get turn.first.before.sessions s ≡ Some session
  pub x : OrderedQuery
  pub read : IsRead text (asks.Query x)
  pub free : (begun turn.first.before session).unnamed ≡ None
  pub query : typed.OrderedQuery
  pub means : Means rules (begun turn.first.before session).working (asks.Query x) (does.Query query)
  pub outcome : OrderedOutcome
  pub same : IsSameOutcome outcome (denotes (begun turn.first.before session).working query)

-- the transaction in which the query was opened
abbrev pub found : (rules : Rules) (s : ℕ) (text : Bytes) (moments : List Moment) → Opened rules s text moments → Transaction
found rules s text moments o = begun o.turn.first.before o.session

-- the session as it was found, but active, and with this cursor
abbrev pub slot : (rules : Rules) (s : ℕ) (text : Bytes) (moments : List Moment) → Opened rules s text moments → Option Cursor → Session
slot rules s text moments o cursor = active o.session (with_unnamed (found rules s text moments o) cursor)

abbrev pub cursor_at : (rules : Rules) (s : ℕ) (text : Bytes) (moments : List Moment) → Opened rules s text moments → List Row → Cursor
cursor_at rules s text moments o rows = record { outcome = o.outcome; given = rows }

-- these rows have come, and the query is open still
pub record IsTaking (rules : Rules) (s : ℕ) (text : Bytes) (moments : List Moment) (rows : List Row) (w : World) : Type 0 where
  pub opened : Opened rules s text moments
  pub stands : get w.sessions s ≡ Some (slot rules s text moments opened (Some (cursor_at rules s text moments opened rows)))

same_Some : {A : Type 0} (x y : A) → Some x ≡ Some y → x ≡ y
same_Some x y e = cc

pub became : (rules : Rules) (old new : World) (s : ℕ) (asked : Asked) (reply : Reply) (effect : Effect)
    → (call : Call rules old s asked reply effect new) (x : Session) → effect ≡ Effect.Becomes x
    → get new.sessions s ≡ Some x
became rules old new s asked reply effect call x e =
    ap (λ (w : World). get w.sessions s) (call.leaves ∙ ap (after old s call.session) e) ∙ get_here old.sessions s x

not_refused : (refusal : Refusal) → says.Done ≡ says.Refused refusal → ⊥
not_refused refusal e = cc

-- ---- among more moments

abbrev pub first_among : (s : ℕ) (text : Bytes) (few all : List Moment) → ((x : Moment) → Contains few x → Contains all x) → HasFirst s text few
    → HasFirst s text all
first_among s text few all within h = record {
  first = h.first;
  among = within h.first h.among;
  opening = h.opening;
  effect = h.effect;
  opens = h.opens;
}

abbrev pub opened_among : (rules : Rules) (s : ℕ) (text : Bytes) (few all : List Moment) → ((x : Moment) → Contains few x → Contains all x)
    → Opened rules s text few → Opened rules s text all
opened_among rules s text few all within o = record {
  turn = first_among s text few all within o.turn;
  session = o.session;
  stood = o.stood;
  x = o.x;
  read = o.read;
  free = o.free;
  query = o.query;
  means = o.means;
  outcome = o.outcome;
  same = o.same;
}

-- ---- the first turn

abbrev pub first_here : (s : ℕ) (text : Bytes) (moment : Moment) (earlier : List Moment) (opening : Reply) (effect : Effect)
    → moment.event ≡ Event.Calls s (Asked.Query text) opening effect → HasFirst s text (moment ∷ earlier)
first_here s text moment earlier opening effect is =
    record { first = moment; among = (0, omega arith, refl); opening = opening; effect = effect; opens = is }

module _ (rules : Rules) (s : ℕ) (text : Bytes) (moment : Moment) (earlier : List Moment) (new : World) (effect : Effect)
    (is : moment.event ≡ Event.Calls s (Asked.Query text) says.Done effect)
    (call : Call rules moment.before s (Asked.Query text) says.Done effect new) where
  opened_now : (x : OrderedQuery) (query : typed.OrderedQuery) (outcome : OrderedOutcome) → IsRead text (asks.Query x)
      → (begun moment.before call.session).unnamed ≡ None
      → Means rules (begun moment.before call.session).working (asks.Query x) (does.Query query)
      → IsSameOutcome outcome (denotes (begun moment.before call.session).working query)
      → effect ≡ Effect.Becomes (active call.session (with_unnamed (begun moment.before call.session) (Some (record { outcome = outcome; given = [] }))))
      → IsTaking rules s text (moment ∷ earlier) [] new
  opened_now x query outcome read free means same e = record {
    opened = record {
      turn = first_here s text moment earlier says.Done effect is;
      session = call.session;
      stood = call.stands;
      x = x;
      read = read;
      free = free;
      query = query;
      means = means;
      outcome = outcome;
      same = same;
    };
    stands = became rules moment.before new s (Asked.Query text) says.Done effect call _ e;
  }

  opened_so : OpensQuery rules call.session (begun moment.before call.session) text says.Done effect
      → IsTaking rules s text (moment ∷ earlier) [] new
  opened_so (OpensQuery.unread refusal why r) = absurd (not_refused refusal r.says_so)
  opened_so (OpensQuery.other x read differs r) = absurd (not_refused _ r.says_so)
  opened_so (OpensQuery.open_already x read has r) = absurd (not_refused _ r.says_so)
  opened_so (OpensQuery.wrong x refusal read free why r) = absurd (not_refused refusal r.says_so)
  opened_so (OpensQuery.opens x query outcome read free means same done e) = opened_now x query outcome read free means same e
  opened_so (OpensQuery.withheld refusal of r) = absurd (not_refused refusal r.says_so)

-- ---- a further turn

module _ (rules : Rules) (s : ℕ) (text : Bytes) (moments : List Moment) (rows : List Row) (old : World) (h : IsTaking rules s text moments rows old) where
  -- the call is of the session as it was left
  pub as_left : (asked : Asked) (reply : Reply) (effect : Effect) (new : World) (call : Call rules old s asked reply effect new)
      → call.session ≡ slot rules s text moments h.opened (Some (cursor_at rules s text moments h.opened rows))
  as_left asked reply effect new call = same_Some _ _ (sym call.stands ∙ h.stands)

  pub taken_so : (n : ℕ) (reply : Reply) (effect : Effect) (new : World) (call : Call rules old s (Asked.Rows n) reply effect new)
      → TakesIn (slot rules s text moments h.opened (Some (cursor_at rules s text moments h.opened rows)))
      (with_unnamed (found rules s text moments h.opened) (Some (cursor_at rules s text moments h.opened rows))) n reply effect
  taken_so n reply effect new call =
      subst (λ (x : Session). TakesRows x x.transaction n reply effect) (as_left (Asked.Rows n) reply effect new call) call.replies

  -- rows come: they stand behind those from before, and fewer than asked for are the last
  pub taken_more : (n : ℕ) (more : List Row) (effect : Effect) (new : World) → Call rules old s (Asked.Rows n) (says.Rows more) effect new
      → (get new.sessions s ≡ Some (slot rules s text moments h.opened (Some (cursor_at rules s text moments h.opened (rows ++ more)))))
      × (length more < n → IsAtEnd (cursor_at rules s text moments h.opened (rows ++ more)))
  taken_more n more effect new call =
      let given = given_in _ _ (cursor_at rules s text moments h.opened rows) refl effect n more (taken_so n (says.Rows more) effect new call) in
      (became rules old new s (Asked.Rows n) (says.Rows more) effect call _ given.0, given.1)

-- ---- all turns so far

-- behind further events of others, and among more moments
abbrev pub taking_later : (rules : Rules) (s : ℕ) (text : Bytes) (few all : List Moment) (rows : List Row) (behind end : World)
    → ((x : Moment) → Contains few x → Contains all x)
    → (is_live behind s ≡ true → get end.sessions s ≡ get behind.sessions s)
    → IsTaking rules s text few rows behind → IsTaking rules s text all rows end
taking_later rules s text few all rows behind end within kept h =
    record { opened = opened_among rules s text few all within h.opened; stands = still s behind end _ kept h.stands }

module _ (rules : Rules) (s : ℕ) (text : Bytes) (n : ℕ) (start : World) where
  first_taken : (moments : List Moment) (end : World) → Latest rules s (Asked.Query text) says.Done [] moments start end
      → IsTaking rules s text moments [] end
  first_taken moments end l =
      taking_later rules s text (l.moment ∷ l.earlier) moments [] l.behind end l.within l.kept
      (opened_so rules s text l.moment l.earlier l.behind l.effect l.is l.call l.call.replies)

  pub further_taken : (others : List Exchange) (before more : List Row) (moments : List Moment) (end : World)
      → (l : Latest rules s (Asked.Rows n) (says.Rows more) others moments start end)
      → IsTaking rules s text l.earlier before l.moment.before
      → IsTaking rules s text moments (before ++ more) end
  further_taken others before more moments end l h =
      taking_later rules s text l.earlier moments (before ++ more) l.behind end
      (λ x c. l.within x (Contains-append_right (l.moment ∷ []) l.earlier x c)) l.kept
      (record {
        opened = h.opened;
        stands = (taken_more rules s text l.earlier before l.moment.before h n more l.effect l.behind l.call).0;
      })

  pub taking : (exchanges : List Exchange) (rows : List Row) → AreTaken text n exchanges rows
      → (moments : List Moment) (end : World) → exchanges_in s moments ≡ exchanges
      → Run rules start moments end → stands_in s moments ≡ true
      → IsTaking rules s text moments rows end
  taking exchanges rows AreTaken.opened moments end all run stands =
      first_taken moments end (latest rules s (Asked.Query text) says.Done [] start moments end all run stands)
  taking exchanges rows (AreTaken.more earlier before more taken long) moments end all run stands =
      let l = latest rules s (Asked.Rows n) (says.Rows more) earlier start moments end all run stands in
      further_taken earlier before more moments end l (taking earlier before taken l.earlier l.moment.before l.before l.run l.stood)
