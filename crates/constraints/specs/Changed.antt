-- What a change leaves of a store, and what it may be refused for (ISO/IEC 9075:1992, 11.3, 11.18,
-- 13.7, 13.8, 13.10).
use Rattle.std.specs.Prelude.{◌≡◌, ℕ, Option}
use Rattle.refusals.specs.declared.refusal.Refusal.{Refusal}
use Rattle.refusals.specs.declared.refusal.Refusal.TheVariants.{Violated}
use Rattle.typing.specs.declared.statement.Change.{Change}
use Rattle.denote.specs.declared.fault.Fault.{Fault}
use Rattle.denote.specs.Change.{changed, IsRaised, IsNamed}
use Rattle.denote.specs.Change.Changed.{Makes}
use Rattle.denote.specs.Database.{Name, Database, CheckReading}
use Rattle.replies.specs.declared.reply.Reply.{Reply}
use Rattle.session_definitions.specs.Refusals.{IsReserved, refusal_of}
use Rattle.session_definitions.specs.Statements.{counted}
use Rattle.store.specs.Contents.{Contents, database_of}
use Rattle.store.specs.Stored.{Stored}

-- the newest version holds what the change makes of it; nothing else is changed, but the mark
pub record HasChanged (reading : CheckReading) (old : Stored) (change : Change) (reply : Reply) (new : Stored) : Type 0 where
  pub contents : Contents
  pub marked : Contents
  pub count : Option ℕ
  pub makes : changed reading (database_of old.working) change ≡ Makes (database_of contents) count
  pub says_so : reply ≡ counted count
  pub leaves : new ≡ record old { working = contents; marked = marked }

-- what may stand in place of any reply; a fault; or a constraint that is violated
pub data RefusesChange (reading : CheckReading) (db : Database) (change : Change) (refusal : Refusal) : Type 0 where
  withheld : IsReserved refusal → RefusesChange reading db change refusal
  raises : (fault : Fault) → refusal ≡ refusal_of fault → IsRaised (changed reading db change) fault
      → RefusesChange reading db change refusal
  violates : (name : Name) → refusal ≡ Violated name → IsNamed (changed reading db change) name
      → RefusesChange reading db change refusal
