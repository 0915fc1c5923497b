-- What a change leaves of a store, and what it may be refused for (ISO/IEC 9075:1992, 11.3, 11.18,
-- 13.7, 13.8, 13.10).
use Rattle.std.specs.Prelude.{◌≡◌, ℕ, Option}
use Rattle.refusals.specs.declared.refusal.Refusal.{Refusal}
use Rattle.refusals.specs.declared.refusal.Refusal.TheVariants.{Violated}
use Rattle.ast.specs.declared.statement.Statement.{Statement}
use Rattle.typing.specs.declared.statement.Change.{Change}
use Rattle.typing.specs.declared.statement.Typed.TheVariants as does
use Rattle.denote.specs.declared.fault.Fault.{Fault}
use Rattle.denote.specs.Change.{changed, IsAccepted, IsRaised, IsNamed}
use Rattle.denote.specs.Database.{Name, Database}
use Rattle.replies.specs.declared.reply.Reply.{Reply}
use Rattle.session_definitions.specs.Refusals.{IsReserved, refusal_of}
use Rattle.session_definitions.specs.Rules.{Rules, Means, IsReason}
use Rattle.session_definitions.specs.Statements.{counted}
use Rattle.store.specs.Contents.{Contents, database_of}
use Rattle.store.specs.Stored.{Stored}

-- the newest version holds what the change makes of it; nothing else is changed, but the mark
pub record HasChanged (rules : Rules) (old : Stored) (change : Change) (reply : Reply) (new : Stored) : Type 0 where
  pub contents : Contents
  pub marked : Contents
  pub count : Option ℕ
  pub accepted : IsAccepted (changed rules.check (database_of old.working) change) (database_of contents) count
  pub says_so : reply ≡ counted count
  pub leaves : new ≡ record old { working = contents; marked = marked }

-- what may stand in place of any reply; a fault; or a constraint that is violated
pub data RefusesChange (rules : Rules) (db : Database) (change : Change) (refusal : Refusal) : Type 0 where
  withheld : IsReserved refusal → RefusesChange rules db change refusal
  raises : (fault : Fault) → refusal ≡ refusal_of fault → IsRaised (changed rules.check db change) fault
      → RefusesChange rules db change refusal
  violates : (name : Name) → refusal ≡ Violated name → IsNamed (changed rules.check db change) name
      → RefusesChange rules db change refusal

-- the statement stands for a change, which is carried out
pub record MakesChange (rules : Rules) (old : Stored) (x : Statement) (reply : Reply) (new : Stored) : Type 0 where
  pub change : Change
  pub means : Means rules (database_of old.working) x (does.Change change)
  pub made : HasChanged rules old change reply new

-- a reason against it, or what the change that it stands for may be refused for
pub data RefusesStatement (rules : Rules) (db : Database) (x : Statement) (refusal : Refusal) : Type 0 where
  withheld : IsReserved refusal → RefusesStatement rules db x refusal
  wrong : IsReason rules db x refusal → RefusesStatement rules db x refusal
  refused : (change : Change) → Means rules db x (does.Change change) → RefusesChange rules db change refusal
      → RefusesStatement rules db x refusal
