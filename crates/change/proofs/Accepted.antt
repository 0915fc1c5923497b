-- A change that is made exactly is accepted.
use Rattle.std.proofs.Common.{refl, sym, subst, Option, Some, None}
use Rattle.std.specs.FinMap.{get}
use Rattle.typing.specs.declared.statement.Change.{Change}
use Rattle.denote.specs.Change.{Changed, IsAccepted}
use Rattle.denote.specs.Database.{Table, Database, AreSame, IsSameDatabase}
use Rattle.operator_laws.proofs.Permuting.{Permutes-refl}
use Rattle.replies.specs.declared.reply.Reply.{Reply}
use Rattle.denote.specs.Database.{CheckReading}
use Rattle.store.specs.Contents.{database_of}
use Rattle.store.specs.Stored.{Stored}
use Rattle.constraints.specs.Changed.{HasChanged}
use Rattle.table_changes.specs.Given.{HasAccepted}

itself : (o : Option Table) → AreSame o o
itself None = tt
itself (Some t) = record { columns = refl; constraints = refl; indexes = refl; rows = Permutes-refl t.rows }

same_database : (db : Database) → IsSameDatabase db db
same_database db = λ name. itself (get db name)

pub accepted_of : (reading : CheckReading) (old : Stored) (change : Change) (reply : Reply) (new : Stored) → HasChanged reading old change reply new → HasAccepted reading old change reply new
accepted_of reading old change reply new h = record {
  contents = h.contents;
  marked = h.marked;
  count = h.count;
  accepted = subst (λ (c : Changed). IsAccepted c (database_of h.contents) h.count) (sym h.makes) (same_database (database_of h.contents), refl);
  says_so = h.says_so;
  leaves = h.leaves;
}
