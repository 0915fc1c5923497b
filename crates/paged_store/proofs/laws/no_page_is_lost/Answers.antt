use Rattle.std.proofs.Common.{refl, inl}
use Rattle.paged_store.proofs.OpenLemmas.{none_lost}
use Rattle.paged_store.proofs.laws.no_page_is_lost.Goals as goal

pub returns-clause-new : goal.returns-clause-new
returns-clause-new g c = λ device honest bare. (honest, inl (bare, refl))

pub returns-clause-owned : goal.returns-clause-owned
returns-clause-owned g c = λ device db saved. none_lost g.D.Disk.is_honest (g.D.Disk.bytes device) db saved
