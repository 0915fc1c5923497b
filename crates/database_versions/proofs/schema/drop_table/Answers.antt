use Rattle.std.proofs.Common.{ap, ◌∙◌, arith}
use Rattle.store.specs.Errors.{ChangingReaches}
use Rattle.store.specs.Contents.{Contents, without_table}
use Rattle.pool.specs.Versions.{Versions, versions_of, refused_of}
use Rattle.overlay.specs.WriteSet.{private_of}
use Rattle.database_versions.specs.Databases.{IsDatabase}
use Rattle.database_versions.specs.Refusals.{of_fault, IsCounted}
use Rattle.database_versions.proofs.RefusalLemmas.{header_fails}
use Rattle.database_versions.proofs.StepLemmas.{fails_as, changed_of, owned_of, root_fails, table_fail}
use Rattle.database_versions.proofs.schema.drop_table.Goals as goal

pub returns-in-Ok-put_root-clause-dropped : goal.returns-in-Ok-put_root-clause-dropped
returns-in-Ok-put_root-clause-dropped g c =
    changed_of (λ (t : Contents). without_table t c.args.name.now) ((versions_of c.args.pool.now).pages c.args.at) ((versions_of c.read_header.new.pool).pages c.args.at) ((versions_of c.drop_from.new.pool).pages c.args.at) (private_of c.args.changes.now) (private_of c.drop_from.new.changes) c.in-Ok.header c.in-Ok-drop_from.top c.in-Ok.ensures.says
    (ap (λ (v : Versions). v.pages c.args.at) c.read_header.ensures.versions) (ap (λ (v : Versions). v.pages c.args.at) c.drop_from.ensures.versions) c.in-Ok-drop_from.ensures.dropped c.in-Ok-drop_from.ensures.whole
    (private_of c.put_root.new.changes) c.in-Ok-put_root.ensures.put

pub returns-in-Ok-put_root-clause-owned : goal.returns-in-Ok-put_root-clause-owned
returns-in-Ok-put_root-clause-owned g c =
    owned_of (λ (t : Contents). without_table t c.args.name.now) ((versions_of c.args.pool.now).pages c.args.at) ((versions_of c.read_header.new.pool).pages c.args.at) ((versions_of c.drop_from.new.pool).pages c.args.at) (private_of c.args.changes.now) (private_of c.drop_from.new.changes) c.in-Ok.header c.in-Ok-drop_from.top c.in-Ok.ensures.says
    (ap (λ (v : Versions). v.pages c.args.at) c.read_header.ensures.versions) (ap (λ (v : Versions). v.pages c.args.at) c.drop_from.ensures.versions) c.in-Ok-drop_from.ensures.owned c.in-Ok-drop_from.ensures.whole
    (private_of c.put_root.new.changes) c.in-Ok-put_root.ensures.owned

pub returns-in-Ok-put_root-clause-versions : goal.returns-in-Ok-put_root-clause-versions
returns-in-Ok-put_root-clause-versions g c = c.put_root.ensures.versions ∙ c.drop_from.ensures.versions ∙ c.read_header.ensures.versions

pub returns-in-Ok-put_root-clause-settled : goal.returns-in-Ok-put_root-clause-settled
returns-in-Ok-put_root-clause-settled g c = c.put_root.ensures.settled ∙ c.drop_from.ensures.settled

pub returns-in-Err-put_root-clause-versions : goal.returns-in-Err-put_root-clause-versions
returns-in-Err-put_root-clause-versions g c = c.put_root.ensures.versions ∙ c.drop_from.ensures.versions ∙ c.read_header.ensures.versions

pub returns-in-Err-put_root-clause-settled : goal.returns-in-Err-put_root-clause-settled
returns-in-Err-put_root-clause-settled g c = c.put_root.ensures.settled ∙ c.drop_from.ensures.settled

pub returns-in-Err-put_root-clause-refused : goal.returns-in-Err-put_root-clause-refused
returns-in-Err-put_root-clause-refused g c =
    root_fails (λ (t : Contents). without_table t c.args.name.now) ((versions_of c.args.pool.now).pages c.args.at) ((versions_of c.read_header.new.pool).pages c.args.at) ((versions_of c.drop_from.new.pool).pages c.args.at) (private_of c.args.changes.now) (private_of c.drop_from.new.changes) c.in-Ok.header c.in-Ok-drop_from.top c.in-Ok.ensures.says
    (ap (λ (v : Versions). v.pages c.args.at) c.read_header.ensures.versions) (ap (λ (v : Versions). v.pages c.args.at) c.drop_from.ensures.versions) c.in-Ok-drop_from.ensures.dropped c.in-Ok-drop_from.ensures.whole
    (private_of c.put_root.new.changes) (ChangingReaches (IsCounted ((versions_of c.args.pool.now).pages c.args.at) (private_of c.put_root.new.changes)))
    (refused_of c.args.pool.now) (refused_of c.drop_from.new.pool) (refused_of c.put_root.new.pool) c.in-Err-put_root.fault c.of_fault.result c.of_fault.ensures
    (let a = c.read_header.ensures.rising in let b = c.drop_from.ensures.rising in omega (arith, a, b)) (λ r. r) (λ r. r) c.in-Err-put_root.ensures.refusal

pub returns-in-Err-drop_from-clause-versions : goal.returns-in-Err-drop_from-clause-versions
returns-in-Err-drop_from-clause-versions g c = c.drop_from.ensures.versions ∙ c.read_header.ensures.versions

pub returns-in-Err-drop_from-clause-refused : goal.returns-in-Err-drop_from-clause-refused
returns-in-Err-drop_from-clause-refused g c =
    table_fail ((versions_of c.args.pool.now).pages c.args.at) ((versions_of c.read_header.new.pool).pages c.args.at) (private_of c.args.changes.now) (private_of c.drop_from.new.changes) c.in-Ok.header
    (refused_of c.args.pool.now) (refused_of c.read_header.new.pool) (refused_of c.drop_from.new.pool) c.in-Err-drop_from.error c.of_change.result
    c.in-Ok.ensures.says (ap (λ (v : Versions). v.pages c.args.at) c.read_header.ensures.versions) c.read_header.ensures.rising c.in-Err-drop_from.ensures.refusal c.of_change.ensures

pub returns-in-Err-clause-refused : goal.returns-in-Err-clause-refused
returns-in-Err-clause-refused g c =
    fails_as (IsDatabase ((versions_of c.args.pool.now).pages c.args.at) (private_of c.args.changes.now)) (refused_of c.args.pool.now) (refused_of c.read_header.new.pool) (ChangingReaches (IsCounted ((versions_of c.args.pool.now).pages c.args.at) (private_of c.args.changes.now)))
    c.of_fault-in-Err.result (of_fault c.in-Err.fault) c.of_fault-in-Err.ensures
    (header_fails ((versions_of c.args.pool.now).pages c.args.at) (private_of c.args.changes.now) (ChangingReaches (IsCounted ((versions_of c.args.pool.now).pages c.args.at) (private_of c.args.changes.now))) (refused_of c.args.pool.now) (refused_of c.read_header.new.pool) c.in-Err.fault c.in-Err.ensures.refusal)

pub returns-in-Ok-put_root-clause-writes : goal.returns-in-Ok-put_root-clause-writes
returns-in-Ok-put_root-clause-writes g c = c.put_root.ensures.writes ∙ c.drop_from.ensures.writes ∙ c.read_header.ensures.writes

pub returns-in-Err-put_root-clause-writes : goal.returns-in-Err-put_root-clause-writes
returns-in-Err-put_root-clause-writes g c = c.put_root.ensures.writes ∙ c.drop_from.ensures.writes ∙ c.read_header.ensures.writes

pub returns-in-Err-drop_from-clause-writes : goal.returns-in-Err-drop_from-clause-writes
returns-in-Err-drop_from-clause-writes g c = c.drop_from.ensures.writes ∙ c.read_header.ensures.writes
