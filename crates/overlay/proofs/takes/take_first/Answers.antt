use Rattle.std.proofs.Common.{refl}
use Rattle.pool.specs.Pages.{over}
use Rattle.pool.specs.Versions.{versions_of, refused_of}
use Rattle.overlay.specs.WriteSet.{private_of}
use Rattle.overlay.proofs.TakeLemmas.{takes_first, never_first}
use Rattle.std.proofs.Common.{◌≡◌, None, subst, sym, arith}
use Rattle.std.proofs.lemmas.Result.{err_from_is_err_and}
use Rattle.page_space.specs.Space.{ReadRefused}
use Rattle.pool.specs.Versions.{device_of}
use Rattle.overlay.specs.Whole.{IsWhole}
use Rattle.overlay.proofs.TakeLemmas.{never_missing}
use Rattle.overlay.proofs.RefusalLemmas.{read_weaker}
use Rattle.overlay.proofs.takes.take_first.Goals as goal

pub returns-in-Some-clause-taken : goal.returns-in-Some-clause-taken
returns-in-Some-clause-taken g c =
    takes_first ((versions_of c.args.pool.now).pages c.args.at) (private_of c.args.changes.now) c.args.header (record { page_count = c.args.header.page_count; first_free = c.in-Some.next; catalog_root = c.args.header.catalog_root })
    c.read_changed.new.into c.requires.some c.requires.bounds c.in_ok-read_changed.ensures.value c.in-Some.ensures.free c.in-Some.ensures.below refl refl

pub returns-in-None-clause-refusal : goal.returns-in-None-clause-refusal
returns-in-None-clause-refusal g c =
    never_first (over (private_of c.args.changes.now) ((versions_of c.args.pool.now).pages c.args.at)) c.args.header c.read_changed.new.into c.requires.some c.requires.says c.requires.bounds
    c.in_ok-read_changed.ensures.value (c.in-None.ensures.none refl)

pub returns-in_err-read_changed-clause-refusal : goal.returns-in_err-read_changed-clause-refusal
returns-in_err-read_changed-clause-refusal g c =
    let p = err_from_is_err_and c.from_residual.result c.from_residual.ensures.1 in
    let k = refused_of c.args.pool.now in
    let m = refused_of c.read_changed.new.pool in
    let H = over (private_of c.args.changes.now) ((versions_of c.args.pool.now).pages c.args.at) c.args.header.first_free ≡ None in
    rw p.1 (read_weaker p.0 H (IsWhole (over (private_of c.args.changes.now) ((versions_of c.args.pool.now).pages c.args.at)) → ⊥) k k m
    (λ gone. never_missing (over (private_of c.args.changes.now) ((versions_of c.args.pool.now).pages c.args.at)) c.args.header c.requires.some c.requires.says c.requires.bounds gone) (omega arith)
    (subst (ReadRefused H k m) (sym p.2) c.in_err-read_changed.ensures.refusal))
