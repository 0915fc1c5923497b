use Rattle.std.proofs.Common.{ap, sym, subst}
use Rattle.pool.specs.Versions.{Versions, versions_of, refused_of}
use Rattle.overlay.specs.WriteSet.{private_of}
use Rattle.overlay.specs.InUse.{in_use}
use Rattle.overlay.specs.Whole.{IsWholeOver}
use Rattle.overlay.proofs.InUseLemmas.{reads_in_use}
use Rattle.pool.specs.Versions.{device_of}
use Rattle.overlay.proofs.InUseLemmas.{none_there}
use Rattle.overlay.proofs.RefusalLemmas.{reads_weaker}
use Rattle.overlay.proofs.space.OverlayPageReader.read.Goals as goal

pub returns-clause-bytes : goal.returns-clause-bytes
returns-clause-bytes g c =
    reads_in_use c.read_changed.result ((versions_of c.args.self.now.pool.now).pages c.args.self.now.at) (private_of c.args.self.now.changes.now) c.args.page _ c.read_changed.ensures.value

pub returns-clause-same : goal.returns-clause-same
returns-clause-same g c = ap (λ (v : Versions). in_use (v.pages c.args.self.now.at) (private_of c.args.self.now.changes.now)) c.read_changed.ensures.versions

pub returns-clause-whole : goal.returns-clause-whole
returns-clause-whole g c = subst (λ (v : Versions). IsWholeOver (v.pages c.args.self.now.at) (private_of c.args.self.now.changes.now)) (sym c.read_changed.ensures.versions)

pub returns-clause-refusal : goal.returns-clause-refusal
returns-clause-refusal g c = reads_weaker c.read_changed.result _ _ (refused_of c.args.self.now.pool.now) (refused_of c.read_changed.new.pool)
    (λ gone. none_there ((versions_of c.args.self.now.pool.now).pages c.args.self.now.at) (private_of c.args.self.now.changes.now) c.args.page gone) c.read_changed.ensures.refusal
