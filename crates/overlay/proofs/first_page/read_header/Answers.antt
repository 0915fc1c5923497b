use Rattle.std.proofs.Common.{refl}
use Rattle.pool.specs.Pages.{over}
use Rattle.pool.specs.Versions.{versions_of, refused_of}
use Rattle.overlay.specs.WriteSet.{private_of}
use Rattle.overlay.proofs.HeaderLemmas.{header_read, no_header}
use Rattle.std.proofs.Common.{◌≡◌, None, subst, sym, arith}
use Rattle.std.proofs.lemmas.Result.{err_from_is_err_and}
use Rattle.page_space.specs.Space.{ReadRefused}
use Rattle.pagefile.specs.declared.header.FileHeader.{FileHeader}
use Rattle.pool.specs.Versions.{device_of}
use Rattle.overlay.specs.Whole.{IsSaid}
use Rattle.overlay.proofs.RefusalLemmas.{read_weaker}
use Rattle.overlay.proofs.first_page.read_header.Goals as goal

pub returns-in-Some-clause-says : goal.returns-in-Some-clause-says
returns-in-Some-clause-says g c = λ first e.
    header_read c.read_changed.new.into first c.in-Some.header (c.in_ok-read_changed.ensures.value first e) c.in-Some.ensures.header

pub returns-in-None-clause-refusal : goal.returns-in-None-clause-refusal
returns-in-None-clause-refusal g c =
    no_header (over (private_of c.args.changes.now) ((versions_of c.args.pool.now).pages c.args.at) 0) c.read_changed.new.into c.in_ok-read_changed.ensures.value (c.in-None.ensures.none refl)

pub returns-in_err-read_changed-clause-refusal : goal.returns-in_err-read_changed-clause-refusal
returns-in_err-read_changed-clause-refusal g c =
    let p = err_from_is_err_and c.from_residual.result c.from_residual.ensures.1 in
    let k = refused_of c.args.pool.now in
    let m = refused_of c.read_changed.new.pool in
    let H = over (private_of c.args.changes.now) ((versions_of c.args.pool.now).pages c.args.at) 0 ≡ None in
    rw p.1 (read_weaker p.0 H ((header : FileHeader) → IsSaid (over (private_of c.args.changes.now) ((versions_of c.args.pool.now).pages c.args.at) 0) header → ⊥) k k m
    (λ gone header said. subst (λ o. IsSaid o header) gone said) (omega arith)
    (subst (ReadRefused H k m) (sym p.2) c.in_err-read_changed.ensures.refusal))
