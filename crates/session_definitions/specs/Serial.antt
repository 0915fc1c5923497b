-- Serial order: each transaction as if it ran alone, after those before it (ISO/IEC 9075:1992,
-- 4.28, serializable).
use Rattle.std.specs.Prelude.{◌≡◌, ◌⊎◌, ℕ, ◌+◌, ◌==◌, Bool, true, false, List, [], ◌∷◌, Option, Some, None, if◌then◌else◌}
use Rattle.std.specs.FinMap.{get, insert, empty}
use Rattle.denote.specs.Bag.{Permutes}
use Rattle.denote.specs.Database.{Database}
use Rattle.replies.specs.declared.reply.Reply.{Reply}
use Rattle.session_definitions.specs.Asked.{Asked}
use Rattle.session_definitions.specs.Effect.{Effect}
use Rattle.session_definitions.specs.Rules.{Rules}
use Rattle.session_definitions.specs.Run.{Event, Moment, history}
use Rattle.session_definitions.specs.Step.{StepOf}
use Rattle.session_definitions.specs.World.{Transaction, Session, World, is_writer, new_session}

-- what was asked, and the reply to it
pub record Saying : Type 0 where
  pub asked : Asked
  pub reply : Reply

-- What a session has said since it was last idle, the latest first; and how the session stood then.
pub record Talk : Type 0 where
  pub before : Session
  pub said : List Saying

abbrev pub no_talk : Talk
no_talk = record { before = new_session; said = [] }

-- one more saying, of a session that stood as given: in an idle session it begins a talk
abbrev pub talked : Session → Option Transaction → Saying → Talk → Talk
talked session None saying earlier = record { before = session; said = saying ∷ [] }
talked session (Some t) saying earlier = record earlier { said = saying ∷ earlier.said }

abbrev pub talked_by : Option Session → Saying → Talk → Talk
talked_by None saying earlier = earlier
talked_by (Some session) saying earlier = talked session session.transaction saying earlier

abbrev pub talk_with : ℕ → World → Event → Talk → Talk
talk_with s w (Event.Calls k asked reply effect) earlier =
    if k == s then talked_by (get w.sessions s) (record { asked = asked; reply = reply }) earlier else earlier
talk_with s w (Event.Makes made) earlier = earlier
talk_with s w (Event.Drops k) earlier = earlier
talk_with s w (Event.Flushes left) earlier = earlier
talk_with s w (Event.SetsPieces pieces) earlier = earlier
talk_with s w (Event.FailsToClose refusal) earlier = earlier
talk_with s w Event.Reopens earlier = earlier

abbrev pub talk : ℕ → List Moment → Talk
talk s [] = no_talk
talk s (moment ∷ earlier) = talk_with s moment.before moment.event (talk s earlier)

-- ---- transactions that ended by COMMIT

-- Who made it, how the session stood before; the committed database that it found, and that one's
-- number; all that was said in it, with the replies, from the statement that began it to its
-- COMMIT, the latest first; its working database at the end; whether it wrote.
pub record Committed : Type 0 where
  pub session : ℕ
  pub before : Session
  pub beginning : ℕ
  pub found : Database
  pub said : List Saying
  pub made : Database
  pub wrote : Bool

abbrev pub committed_by : ℕ → Talk → Transaction → Bool → Committed
committed_by s talk t wrote =
    record { session = s; before = talk.before; beginning = t.beginning; found = t.found; said = talk.said; made = t.working; wrote = wrote }

abbrev pub with_ended : World → Event → (ℕ → Talk) → List Committed → List Committed
with_ended w (Event.Calls s asked reply (Effect.Commits t)) talks others = committed_by s (talks s) t (is_writer w s) ∷ others
with_ended w (Event.Calls s asked reply Effect.Nothing) talks others = others
with_ended w (Event.Calls s asked reply (Effect.Becomes session)) talks others = others
with_ended w (Event.Calls s asked reply (Effect.Writes session)) talks others = others
with_ended w (Event.Calls s asked reply Effect.RollsBack) talks others = others
with_ended w (Event.Makes made) talks others = others
with_ended w (Event.Drops k) talks others = others
with_ended w (Event.Flushes left) talks others = others
with_ended w (Event.SetsPieces pieces) talks others = others
with_ended w (Event.FailsToClose refusal) talks others = others
with_ended w Event.Reopens talks others = []

-- the transactions since the last open that ended by COMMIT, the latest first
abbrev pub transactions : List Moment → List Committed
transactions [] = []
transactions (moment ∷ earlier) =
    with_ended moment.before moment.event (λ s. talk s (moment ∷ earlier)) (transactions earlier)

-- ---- run alone

-- The sayings, the latest first, are calls of one session from the one world to the other, with
-- replies that are allowed there.
abbrev pub Says : Rules → World → ℕ → List Saying → World → Type 0
Says rules start s [] end = end ≡ start
Says rules start s (saying ∷ earlier) end = (mid : World) × Says rules start s earlier mid
    × StepOf rules mid s saying.asked saying.reply end

-- the world in which a transaction runs alone: that of the database that it found, with its session
-- and no other
abbrev pub alone : Committed → World
alone c = record { commits = c.beginning; last = c.found; writer = None; sessions = insert empty c.session c.before }

-- Run alone, the transaction gets the same replies and ends at the same database, which is then the
-- last committed one.
pub record RunsAlone (rules : Rules) (c : Committed) : Type 0 where
  pub end : World
  pub says : Says rules (alone c) c.session c.said end
  pub makes : end.last ≡ c.made

-- ---- one after another

-- it only reads, and stands behind the commit at which it began: the database stays
pub record IsReader (rules : Rules) (n : ℕ) (db : Database) (c : Committed) : Type 0 where
  pub only_reads : c.wrote ≡ false
  pub place : c.beginning ≡ n
  pub finds : c.found ≡ db
  pub keeps : c.made ≡ db
  pub runs : RunsAlone rules c

-- it writes, and makes the next committed database
pub record IsWriter (rules : Rules) (n : ℕ) (db : Database) (c : Committed) : Type 0 where
  pub writes : c.wrote ≡ true
  pub place : c.beginning ≡ n
  pub finds : c.found ≡ db
  pub runs : RunsAlone rules c

-- The transactions run in this order, one after another, from this committed database, which has
-- this number; and these are the committed databases from there on.
abbrev pub InSeries : Rules → ℕ → Database → List Committed → List Database → Type 0
InSeries rules n db [] dbs = dbs ≡ db ∷ []
InSeries rules n db (c ∷ cs) dbs =
    (IsReader rules n db c × InSeries rules n db cs dbs)
    ⊎ ((others : List Database) × IsWriter rules n db c × InSeries rules (n + 1) c.made cs others × (dbs ≡ db ∷ others))

-- The transactions of a run that ended by COMMIT have an order in which they run one after another,
-- from the first database of the history and through all of it.
pub record IsSerializable (rules : Rules) (start : World) (moments : List Moment) : Type 0 where
  pub first : Database
  pub order : List Committed
  pub all : Permutes (transactions moments) order
  pub series : InSeries rules 0 first order (history start moments)
