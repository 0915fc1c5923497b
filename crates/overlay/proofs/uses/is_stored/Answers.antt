use Rattle.std.proofs.Common.{ap}
use Rattle.pool.specs.Versions.{Versions, versions_of, refused_of}
use Rattle.overlay.specs.WriteSet.{private_of}
use Rattle.overlay.proofs.InUseLemmas.{stored_behind, stored_free, stored_writable}
use Rattle.std.proofs.Common.{◌≡◌, None, subst, sym, ◌∙◌, arith}
use Rattle.std.proofs.lemmas.Result.{err_from_is_err_and}
use Rattle.page_space.specs.Space.{ReadRefused}
use Rattle.pool.specs.Pages.{over}
use Rattle.pool.specs.Versions.{device_of}
use Rattle.overlay.specs.InUse.{in_use}
use Rattle.overlay.proofs.InUseLemmas.{none_there, none_unwritten, unread_there}
use Rattle.overlay.proofs.RefusalLemmas.{read_weaker}
use Rattle.overlay.proofs.uses.is_stored.Goals as goal

pub returns-then-page-count-clause-unused : goal.returns-then-page-count-clause-unused
returns-then-page-count-clause-unused g c = λ _.
    stored_behind ((versions_of c.args.pool.now).pages c.args.at) (private_of c.args.changes.now) c.args.page _ c.requires c.in_ok-count.ensures.count c.if-page-count.true

pub returns-then-bytes-eq-FREE-clause-unused : goal.returns-then-bytes-eq-FREE-clause-unused
returns-then-bytes-eq-FREE-clause-unused g c = λ _.
    stored_free ((versions_of c.args.pool.now).pages c.args.at) ((versions_of c.page_count.new.pool).pages c.args.at) (private_of c.args.changes.now) c.args.page _
    (ap (λ (v : Versions). v.pages c.args.at) c.page_count.ensures.versions) c.requires c.in_ok-read_version.ensures.value c.if-bytes-eq-FREE.true

pub returns-clause-used : goal.returns-clause-used
returns-clause-used g c = λ _.
    stored_writable ((versions_of c.args.pool.now).pages c.args.at) ((versions_of c.page_count.new.pool).pages c.args.at) (private_of c.args.changes.now) c.args.page _ _
    (ap (λ (v : Versions). v.pages c.args.at) c.page_count.ensures.versions) c.requires c.in_ok-read_version.ensures.value c.if-bytes-eq-FREE.false
    c.in_ok-count.ensures.count c.if-page-count.false

pub returns-in_err-count-clause-refusal : goal.returns-in_err-count-clause-refusal
returns-in_err-count-clause-refusal g c =
    let p = err_from_is_err_and c.from_residual.result c.from_residual.ensures.1 in
    let k = refused_of c.args.pool.now in
    let m = refused_of c.page_count.new.pool in
    rw p.1 (read_weaker p.0 (over (private_of c.args.changes.now) ((versions_of c.args.pool.now).pages c.args.at) 0 ≡ None) (in_use ((versions_of c.args.pool.now).pages c.args.at) (private_of c.args.changes.now) c.args.page ≡ None) k k m
    (none_unwritten ((versions_of c.args.pool.now).pages c.args.at) (private_of c.args.changes.now) c.args.page c.requires) (omega arith)
    (subst (ReadRefused (over (private_of c.args.changes.now) ((versions_of c.args.pool.now).pages c.args.at) 0 ≡ None) k m) (sym p.2) c.in_err-count.ensures.refusal))

pub returns-in_err-read_version-clause-refusal : goal.returns-in_err-read_version-clause-refusal
returns-in_err-read_version-clause-refusal g c =
    let p = err_from_is_err_and c.from_residual-in_err-read_version.result c.from_residual-in_err-read_version.ensures.1 in
    let k = refused_of c.args.pool.now in
    let b = refused_of c.page_count.new.pool in
    let m = refused_of c.read_version.new.pool in
    let H = (versions_of c.page_count.new.pool).pages c.args.at c.args.page ≡ None in
    rw p.1 (read_weaker p.0 H (in_use ((versions_of c.args.pool.now).pages c.args.at) (private_of c.args.changes.now) c.args.page ≡ None) k b m
    (unread_there ((versions_of c.args.pool.now).pages c.args.at) ((versions_of c.page_count.new.pool).pages c.args.at) (private_of c.args.changes.now) c.args.page (ap (λ (v : Versions). v.pages c.args.at) c.page_count.ensures.versions) c.requires) c.page_count.ensures.rising
    (subst (ReadRefused H b m) (sym p.2) c.in_err-read_version.ensures.refusal))
