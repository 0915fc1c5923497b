-- The databases that were committed while a device was closed and opened again, as one list, and
-- the transactions that made them. All of this is our own choice.
use Rattle.std.specs.Prelude.{◌≡◌, true, List, [], ◌∷◌, ◌++◌, filter}
use Rattle.denote.specs.Database.{Database}
use Rattle.session_definitions.specs.Rules.{Rules}
use Rattle.session_definitions.specs.Run.{Event, Moment, lengthened}
use Rattle.session_definitions.specs.Serial.{Committed, RunsAlone, talk, with_ended}
use Rattle.session_definitions.specs.World.{World}

-- with what an event commits; a later open begins with the database that stands last already
abbrev pub with_committed : World → Event → List Database → List Database
with_committed w Event.Reopens dbs = dbs
with_committed w event dbs = lengthened w event dbs

-- The databases that were committed from this one on, which stands first, in the order of their
-- commits. (`history` has those since the last open alone.)
abbrev pub committed_from : Database → List Moment → List Database
committed_from db [] = db ∷ []
committed_from db (moment ∷ earlier) = with_committed moment.before moment.event (committed_from db earlier)

-- the transactions that wrote and ended by COMMIT, in the order of their commits
abbrev pub writers : List Moment → List Committed
writers [] = []
writers (moment ∷ earlier) = writers earlier ++ filter (λ (c : Committed). c.wrote) (with_ended moment.before moment.event (λ s. talk s (moment ∷ earlier)) [])

-- A transaction that wrote found this database. Run alone there, it gets the same replies, and
-- makes the database that it committed.
pub record IsMaker (rules : Rules) (db : Database) (c : Committed) : Type 0 where
  pub writes : c.wrote ≡ true
  pub finds : c.found ≡ db
  pub runs : RunsAlone rules c

-- From the first database on, each of these transactions, in this order, finds the database that
-- the one before it made, and makes the next; these are all of the databases, and the last is this.
abbrev pub AreMade : Rules → Database → List Committed → List Database → Database → Type 0
AreMade rules db [] dbs last = (dbs ≡ db ∷ []) × (last ≡ db)
AreMade rules db (c ∷ cs) dbs last = IsMaker rules db c × (others : List Database) × AreMade rules c.made cs others last
    × (dbs ≡ db ∷ others)
