use Rattle.std.proofs.Common.{ℕ, List, [], Option, ap, ◌∙◌}
use Rattle.journal.specs.Parts.{place}
use Rattle.last_version.specs.Lasts.{shown_by}
use Rattle.last_version.specs.Standing.{pages_below}
use Rattle.pool.specs.declared.slot.Slot.{Slot}
use Rattle.pool.specs.Slots.{pages_at}
use Rattle.pool.proofs.PoolLemmas.{known_same}
use Rattle.pool.proofs.pool.Pool.new.Goals as goal

pub returns-in-Ok-clause-pages : goal.returns-in-Ok-clause-pages
returns-in-Ok-clause-pages g c = λ i v. known_same g.D.Disk.is_honest (pages_at (shown_by c.in-Ok.file) c.new-in-Ok.result v) (pages_below c.args.page_count (place (g.D.Disk.bytes c.args.disk)))
    (λ honest n. ap (λ (slots : List Slot). pages_at (shown_by c.in-Ok.file) slots v n) c.new-in-Ok.ensures
    ∙ ap (λ (newest : ℕ → Option (List ℕ)). pages_at newest [] v n) c.in-Ok.ensures.shown) i
