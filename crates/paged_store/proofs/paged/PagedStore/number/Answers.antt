use Rattle.std.proofs.Common.{◌∙◌, sym, ap}
use Rattle.std.specs.FinMap.{get}
use Rattle.std.specs.Option.{option_map}
use Rattle.store.specs.Stored.{Found}
use Rattle.pool.specs.Versions.{versions_of}
use Rattle.snapshot_pins.specs.Pinned.{numbers_of}
use Rattle.paged_store.specs.Shown.{found_at}
use Rattle.paged_store.specs.SeenLemmas.{get-found}
use Rattle.paged_store.proofs.ShownLemmas.{numbers_again}
use Rattle.paged_store.proofs.paged.PagedStore.number.Goals as goal

pub returns : goal.returns
returns g c =
    let s = c.args.self.now in
    c.number.ensures ∙ numbers_again g.D.Disk.is_honest (versions_of s.pool) (get (numbers_of s.readers) c.args.reader)
    ∙ ap (option_map (λ (x : Found). x.number)) (sym (get-found (found_at g.D.Disk.is_honest (versions_of s.pool)) (numbers_of s.readers) c.args.reader))
