use Rattle.std.proofs.Common.{◌≡◌, None, refl, subst, sym, arith}
use Rattle.std.proofs.lemmas.Result.{err_from_is_err_and}
use Rattle.page_space.specs.Space.{ReadRefused}
use Rattle.pagefile.specs.declared.header.FileHeader.{FileHeader}
use Rattle.pool.specs.Pages.{over}
use Rattle.pool.specs.Versions.{versions_of, refused_of}
use Rattle.overlay.specs.WriteSet.{private_of}
use Rattle.overlay.specs.Whole.{IsTakable}
use Rattle.overlay.proofs.HeaderLemmas.{header_read, no_header, never_takable, takes_zeros}
use Rattle.overlay.proofs.RefusalLemmas.{read_weaker}
use Rattle.overlay.proofs.first_page.header_to_change.Goals as goal

pub returns-then-not-is_takable-clause-refusal : goal.returns-then-not-is_takable-clause-refusal
returns-then-not-is_takable-clause-refusal g c =
    never_takable (over (private_of c.args.changes.now) ((versions_of c.args.pool.now).pages c.args.at) 0) c.read_changed.new.into c.in_ok-read_changed.ensures.value
    (c.is_takable.ensures.never c.if-not-is_takable.true)

pub returns-in-Some-clause-says : goal.returns-in-Some-clause-says
returns-in-Some-clause-says g c = λ first e.
    header_read c.read_changed.new.into first c.in-Some.header (c.in_ok-read_changed.ensures.value first e) c.in-Some.ensures.header

pub returns-in-Some-clause-zeros : goal.returns-in-Some-clause-zeros
returns-in-Some-clause-zeros g c =
    takes_zeros ((versions_of c.args.pool.now).pages c.args.at) (private_of c.args.changes.now) c.read_changed.new.into c.in_ok-read_changed.ensures.value
    (c.is_takable.ensures.zeros c.if-not-is_takable.false)

pub returns-in-None-clause-refusal : goal.returns-in-None-clause-refusal
returns-in-None-clause-refusal g c = λ header said.
    no_header (over (private_of c.args.changes.now) ((versions_of c.args.pool.now).pages c.args.at) 0) c.read_changed.new.into c.in_ok-read_changed.ensures.value (c.in-None.ensures.none refl) header said.0

pub returns-in_err-read_changed-clause-refusal : goal.returns-in_err-read_changed-clause-refusal
returns-in_err-read_changed-clause-refusal g c =
    let p = err_from_is_err_and c.from_residual.result c.from_residual.ensures.1 in
    let k = refused_of c.args.pool.now in
    let m = refused_of c.read_changed.new.pool in
    let H = over (private_of c.args.changes.now) ((versions_of c.args.pool.now).pages c.args.at) 0 ≡ None in
    rw p.1 (read_weaker p.0 H ((header : FileHeader) → IsTakable (over (private_of c.args.changes.now) ((versions_of c.args.pool.now).pages c.args.at) 0) header → ⊥) k k m
    (λ gone header said. (subst (λ o. IsTakable o header) gone said).0) (omega arith)
    (subst (ReadRefused H k m) (sym p.2) c.in_err-read_changed.ensures.refusal))
