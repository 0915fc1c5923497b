use Rattle.std.proofs.Common.{◌≡◌, None, subst, sym, arith}
use Rattle.std.proofs.lemmas.Result.{err_from_is_err_and}
use Rattle.page_space.specs.Space.{ReadRefused}
use Rattle.pool.specs.Pages.{over}
use Rattle.pool.specs.Versions.{versions_of, refused_of}
use Rattle.overlay.specs.WriteSet.{private_of}
use Rattle.overlay.specs.InUse.{in_use}
use Rattle.overlay.specs.Layers.{size_of}
use Rattle.overlay.specs.Whole.{AtLimit}
use Rattle.overlay.proofs.FreeLemmas.{read_more}
use Rattle.overlay.proofs.uses.write_page.Goals as goal

pub returns-in_err-used-clause-refusal : goal.returns-in_err-used-clause-refusal
returns-in_err-used-clause-refusal g c =
    let p = err_from_is_err_and c.from_residual.result c.from_residual.ensures.1 in
    let k = refused_of c.args.pool.now in
    let m = refused_of c.is_in_use.new.pool in
    let H = in_use ((versions_of c.args.pool.now).pages c.args.at) (private_of c.args.changes.now) c.args.page ≡ None in
    rw p.1 (read_more p.0 (AtLimit (over (private_of c.args.changes.now) ((versions_of c.is_in_use.new.pool).pages c.args.at) 0) (size_of (private_of c.args.changes.now))) H H k k m (λ gone. gone) (omega arith)
    (subst (ReadRefused H k m) (sym p.2) c.in_err-used.ensures.refusal))
