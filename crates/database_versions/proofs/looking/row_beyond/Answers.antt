use Rattle.std.proofs.Common.{ap, ◌∙◌}
use Rattle.std.specs.FinMap.{get}
use Rattle.std.specs.Option.{option_map}
use Rattle.store.specs.Contents.{Contents}
use Rattle.store.specs.Indexes.{next_entry}
use Rattle.store.specs.View.{IsEntry, position_of}
use Rattle.store.specs.Errors.{Never}
use Rattle.pool.specs.Versions.{Versions, versions_of, refused_of}
use Rattle.overlay.specs.WriteSet.{private_of}
use Rattle.database_versions.specs.Databases.{IsDatabase}
use Rattle.database_versions.specs.Refusals.{of_fault}
use Rattle.database_versions.proofs.RefusalLemmas.{header_fails}
use Rattle.database_versions.proofs.StepLemmas.{fails_as, read_database, database_fail_at}
use Rattle.database_versions.proofs.looking.row_beyond.Goals as goal

pub returns-in-Ok-next_in_from-clause-row : goal.returns-in-Ok-next_in_from-clause-row
returns-in-Ok-next_in_from-clause-row g c =
    read_database (λ (t : Contents). IsEntry c.in-Ok-next_in_from.found (next_entry (get t c.args.name.now) c.args.index (option_map (λ p. position_of p.now) c.args.after))) ((versions_of c.args.pool.now).pages c.args.at) ((versions_of c.read_header.new.pool).pages c.args.at) (private_of c.args.changes.now) c.in-Ok.header c.in-Ok.ensures.says
    (ap (λ (v : Versions). v.pages c.args.at) c.read_header.ensures.versions) c.in-Ok-next_in_from.ensures.row

pub returns-in-Ok-next_in_from-clause-versions : goal.returns-in-Ok-next_in_from-clause-versions
returns-in-Ok-next_in_from-clause-versions g c = c.next_in_from.ensures.versions ∙ c.read_header.ensures.versions

pub returns-in-Err-next_in_from-clause-versions : goal.returns-in-Err-next_in_from-clause-versions
returns-in-Err-next_in_from-clause-versions g c = c.next_in_from.ensures.versions ∙ c.read_header.ensures.versions

pub returns-in-Err-next_in_from-clause-refused : goal.returns-in-Err-next_in_from-clause-refused
returns-in-Err-next_in_from-clause-refused g c =
    database_fail_at ((versions_of c.args.pool.now).pages c.args.at) ((versions_of c.read_header.new.pool).pages c.args.at) (private_of c.args.changes.now) c.in-Ok.header Never
    (refused_of c.args.pool.now) (refused_of c.read_header.new.pool) (refused_of c.next_in_from.new.pool) c.in-Err-next_in_from.fault c.of_fault.result c.of_fault.ensures c.in-Ok.ensures.says
    (ap (λ (v : Versions). v.pages c.args.at) c.read_header.ensures.versions) c.read_header.ensures.rising c.in-Err-next_in_from.ensures.refusal

pub returns-in-Err-clause-refused : goal.returns-in-Err-clause-refused
returns-in-Err-clause-refused g c =
    fails_as (IsDatabase ((versions_of c.args.pool.now).pages c.args.at) (private_of c.args.changes.now)) (refused_of c.args.pool.now) (refused_of c.read_header.new.pool) Never
    c.of_fault-in-Err.result (of_fault c.in-Err.fault) c.of_fault-in-Err.ensures
    (header_fails ((versions_of c.args.pool.now).pages c.args.at) (private_of c.args.changes.now) Never (refused_of c.args.pool.now) (refused_of c.read_header.new.pool) c.in-Err.fault c.in-Err.ensures.refusal)

pub returns-in-Ok-next_in_from-clause-writes : goal.returns-in-Ok-next_in_from-clause-writes
returns-in-Ok-next_in_from-clause-writes g c = c.next_in_from.ensures.writes ∙ c.read_header.ensures.writes

pub returns-in-Err-next_in_from-clause-writes : goal.returns-in-Err-next_in_from-clause-writes
returns-in-Err-next_in_from-clause-writes g c = c.next_in_from.ensures.writes ∙ c.read_header.ensures.writes
