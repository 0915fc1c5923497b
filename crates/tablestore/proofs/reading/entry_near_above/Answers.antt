use Rattle.std.proofs.Common.{◌≡◌, Option, Some, ap, ◌∙◌}
use Rattle.std.specs.Option.{option_map}
use Rattle.std.proofs.lemmas.Result.{IfOk-weaker}
use Rattle.store.specs.Indexes.{entry_after}
use Rattle.btree_read.specs.declared.entry.Entry.{Entry}
use Rattle.btree_read.specs.declared.entry.Start.TheVariants.{Behind}
use Rattle.btree_read.specs.Nodes.{Key}
use Rattle.btree_read.specs.Sorted.{first_from}
use Rattle.tablestore.specs.Held.{row_entry, entries_of}
use Rattle.tablestore.proofs.NumberLemmas.{found_after}
use Rattle.tablestore.proofs.reading.entry_near_above.Goals as goal

pub returns-clause-found : goal.returns-clause-found
returns-clause-found g c = λ owned rows held.
    IfOk-weaker c.next_near.result (λ (x : Option Entry). x ≡ first_from Behind c.to_be_bytes.result (entries_of rows)) (λ (x : Option Entry). x ≡ option_map row_entry (entry_after (Some c.args.number) rows))
    (λ x e. e ∙ ap (λ (k : Key). first_from Behind k (entries_of rows)) c.to_be_bytes.ensures ∙ found_after c.args.number rows c.ranges.number.fits held.kept)
    (c.next_near.ensures.found owned (entries_of rows) held.tree)
