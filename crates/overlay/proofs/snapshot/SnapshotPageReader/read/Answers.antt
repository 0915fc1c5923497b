use Rattle.std.proofs.Common.{None, ap, sym, subst}
use Rattle.pool.specs.Versions.{Versions, versions_of, refused_of}
use Rattle.overlay.specs.InUse.{in_use}
use Rattle.overlay.specs.Whole.{IsWhole}
use Rattle.overlay.proofs.InUseLemmas.{reads_in_use}
use Rattle.pool.specs.Versions.{device_of}
use Rattle.overlay.proofs.InUseLemmas.{none_there}
use Rattle.overlay.proofs.RefusalLemmas.{reads_weaker}
use Rattle.overlay.proofs.snapshot.SnapshotPageReader.read.Goals as goal

pub returns-clause-bytes : goal.returns-clause-bytes
returns-clause-bytes g c = reads_in_use c.read_version.result ((versions_of c.args.self.now.pool.now).pages c.args.self.now.at) (λ n. None) c.args.page _ c.read_version.ensures.value

pub returns-clause-same : goal.returns-clause-same
returns-clause-same g c = ap (λ (v : Versions). in_use (v.pages c.args.self.now.at) (λ n. None)) c.read_version.ensures.versions

pub returns-clause-whole : goal.returns-clause-whole
returns-clause-whole g c = subst (λ (v : Versions). IsWhole (v.pages c.args.self.now.at)) (sym c.read_version.ensures.versions)

pub returns-clause-refusal : goal.returns-clause-refusal
returns-clause-refusal g c = reads_weaker c.read_version.result _ _ (refused_of c.args.self.now.pool.now) (refused_of c.read_version.new.pool)
    (λ gone. none_there ((versions_of c.args.self.now.pool.now).pages c.args.self.now.at) (λ n. None) c.args.page gone) c.read_version.ensures.refusal
