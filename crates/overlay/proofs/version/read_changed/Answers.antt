use Rattle.std.proofs.Common.{◌≡◌, Option, None, List, ℕ, ap, ◌∙◌, sym}
use Rattle.pool.specs.Pages.{pick}
use Rattle.pool.specs.Versions.{versions_of, refused_of}
use Rattle.overlay.proofs.RefusalLemmas.{reads_weaker}
use Rattle.overlay.proofs.version.read_changed.Goals as goal

pub returns-in-None-clause-refusal : goal.returns-in-None-clause-refusal
returns-in-None-clause-refusal g c = reads_weaker c.read_version.result _ _ (refused_of c.args.pool.now) (refused_of c.read_version.new.pool)
    (λ gone. ap (λ (o : Option (List ℕ)). pick o ((versions_of c.args.pool.now).pages c.args.at c.args.page)) (sym c.in-None.ensures) ∙ gone) c.read_version.ensures.refusal
