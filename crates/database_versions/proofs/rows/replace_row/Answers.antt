use Rattle.std.proofs.Common.{◌∷◌, [], ap, ◌∙◌, arith}
use Rattle.store.specs.Contents.{Contents, replaced}
use Rattle.pool.specs.Versions.{Versions, versions_of, refused_of}
use Rattle.overlay.specs.WriteSet.{private_of}
use Rattle.database_versions.specs.Databases.{IsDatabase}
use Rattle.database_versions.specs.Refusals.{of_fault, IsCounted, RowsReach}
use Rattle.database_versions.proofs.RefusalLemmas.{header_fails}
use Rattle.database_versions.proofs.StepLemmas.{fails_as, changed_of, owned_of, root_fails, row_fail}
use Rattle.database_versions.proofs.rows.replace_row.Goals as goal

pub returns-in-Ok-put_root-clause-replaced : goal.returns-in-Ok-put_root-clause-replaced
returns-in-Ok-put_root-clause-replaced g c =
    changed_of (λ (t : Contents). replaced t c.args.name.now c.args.number c.args.row) ((versions_of c.args.pool.now).pages c.args.at) ((versions_of c.read_header.new.pool).pages c.args.at) ((versions_of c.replace_from.new.pool).pages c.args.at) (private_of c.args.changes.now) (private_of c.replace_from.new.changes) c.in-Ok.header c.in-Ok-replace_from.top c.in-Ok.ensures.says
    (ap (λ (v : Versions). v.pages c.args.at) c.read_header.ensures.versions) (ap (λ (v : Versions). v.pages c.args.at) c.replace_from.ensures.versions) c.in-Ok-replace_from.ensures.replaced c.in-Ok-replace_from.ensures.whole
    (private_of c.put_root.new.changes) c.in-Ok-put_root.ensures.put

pub returns-in-Ok-put_root-clause-owned : goal.returns-in-Ok-put_root-clause-owned
returns-in-Ok-put_root-clause-owned g c =
    owned_of (λ (t : Contents). replaced t c.args.name.now c.args.number c.args.row) ((versions_of c.args.pool.now).pages c.args.at) ((versions_of c.read_header.new.pool).pages c.args.at) ((versions_of c.replace_from.new.pool).pages c.args.at) (private_of c.args.changes.now) (private_of c.replace_from.new.changes) c.in-Ok.header c.in-Ok-replace_from.top c.in-Ok.ensures.says
    (ap (λ (v : Versions). v.pages c.args.at) c.read_header.ensures.versions) (ap (λ (v : Versions). v.pages c.args.at) c.replace_from.ensures.versions) c.in-Ok-replace_from.ensures.owned c.in-Ok-replace_from.ensures.whole
    (private_of c.put_root.new.changes) c.in-Ok-put_root.ensures.owned

pub returns-in-Ok-put_root-clause-versions : goal.returns-in-Ok-put_root-clause-versions
returns-in-Ok-put_root-clause-versions g c = c.put_root.ensures.versions ∙ c.replace_from.ensures.versions ∙ c.read_header.ensures.versions

pub returns-in-Ok-put_root-clause-settled : goal.returns-in-Ok-put_root-clause-settled
returns-in-Ok-put_root-clause-settled g c = c.put_root.ensures.settled ∙ c.replace_from.ensures.settled

pub returns-in-Err-put_root-clause-versions : goal.returns-in-Err-put_root-clause-versions
returns-in-Err-put_root-clause-versions g c = c.put_root.ensures.versions ∙ c.replace_from.ensures.versions ∙ c.read_header.ensures.versions

pub returns-in-Err-put_root-clause-settled : goal.returns-in-Err-put_root-clause-settled
returns-in-Err-put_root-clause-settled g c = c.put_root.ensures.settled ∙ c.replace_from.ensures.settled

pub returns-in-Err-put_root-clause-refused : goal.returns-in-Err-put_root-clause-refused
returns-in-Err-put_root-clause-refused g c =
    root_fails (λ (t : Contents). replaced t c.args.name.now c.args.number c.args.row) ((versions_of c.args.pool.now).pages c.args.at) ((versions_of c.read_header.new.pool).pages c.args.at) ((versions_of c.replace_from.new.pool).pages c.args.at) (private_of c.args.changes.now) (private_of c.replace_from.new.changes) c.in-Ok.header c.in-Ok-replace_from.top c.in-Ok.ensures.says
    (ap (λ (v : Versions). v.pages c.args.at) c.read_header.ensures.versions) (ap (λ (v : Versions). v.pages c.args.at) c.replace_from.ensures.versions) c.in-Ok-replace_from.ensures.replaced c.in-Ok-replace_from.ensures.whole
    (private_of c.put_root.new.changes) (RowsReach (IsCounted ((versions_of c.args.pool.now).pages c.args.at) (private_of c.put_root.new.changes)) (c.args.row ∷ []))
    (refused_of c.args.pool.now) (refused_of c.replace_from.new.pool) (refused_of c.put_root.new.pool) c.in-Err-put_root.fault c.of_fault.result c.of_fault.ensures
    (let a = c.read_header.ensures.rising in let b = c.replace_from.ensures.rising in omega (arith, a, b)) (λ r. r) (λ r. r) c.in-Err-put_root.ensures.refusal

pub returns-in-Err-replace_from-clause-versions : goal.returns-in-Err-replace_from-clause-versions
returns-in-Err-replace_from-clause-versions g c = c.replace_from.ensures.versions ∙ c.read_header.ensures.versions

pub returns-in-Err-replace_from-clause-refused : goal.returns-in-Err-replace_from-clause-refused
returns-in-Err-replace_from-clause-refused g c =
    row_fail ((versions_of c.args.pool.now).pages c.args.at) ((versions_of c.read_header.new.pool).pages c.args.at) (private_of c.args.changes.now) (private_of c.replace_from.new.changes) c.in-Ok.header
    (refused_of c.args.pool.now) (refused_of c.read_header.new.pool) (refused_of c.replace_from.new.pool) c.in-Err-replace_from.error c.of_rows.result
    c.in-Ok.ensures.says (ap (λ (v : Versions). v.pages c.args.at) c.read_header.ensures.versions) c.read_header.ensures.rising c.in-Err-replace_from.ensures.refusal c.args.name.now (c.args.row ∷ []) c.of_rows.ensures c.in-Err-replace_from.ensures.limits

pub returns-in-Err-clause-refused : goal.returns-in-Err-clause-refused
returns-in-Err-clause-refused g c =
    fails_as (IsDatabase ((versions_of c.args.pool.now).pages c.args.at) (private_of c.args.changes.now)) (refused_of c.args.pool.now) (refused_of c.read_header.new.pool) (RowsReach (IsCounted ((versions_of c.args.pool.now).pages c.args.at) (private_of c.args.changes.now)) (c.args.row ∷ []))
    c.of_fault-in-Err.result (of_fault c.in-Err.fault) c.of_fault-in-Err.ensures
    (header_fails ((versions_of c.args.pool.now).pages c.args.at) (private_of c.args.changes.now) (RowsReach (IsCounted ((versions_of c.args.pool.now).pages c.args.at) (private_of c.args.changes.now)) (c.args.row ∷ [])) (refused_of c.args.pool.now) (refused_of c.read_header.new.pool) c.in-Err.fault c.in-Err.ensures.refusal)

pub returns-in-Ok-put_root-clause-writes : goal.returns-in-Ok-put_root-clause-writes
returns-in-Ok-put_root-clause-writes g c = c.put_root.ensures.writes ∙ c.replace_from.ensures.writes ∙ c.read_header.ensures.writes

pub returns-in-Err-put_root-clause-writes : goal.returns-in-Err-put_root-clause-writes
returns-in-Err-put_root-clause-writes g c = c.put_root.ensures.writes ∙ c.replace_from.ensures.writes ∙ c.read_header.ensures.writes

pub returns-in-Err-replace_from-clause-writes : goal.returns-in-Err-replace_from-clause-writes
returns-in-Err-replace_from-clause-writes g c = c.replace_from.ensures.writes ∙ c.read_header.ensures.writes
