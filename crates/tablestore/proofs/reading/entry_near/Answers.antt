use Rattle.std.proofs.Common.{◌≡◌, ℕ, Option, [], sym, ap, subst, ◌∙◌}
use Rattle.std.specs.Option.{option_map}
use Rattle.std.proofs.lemmas.Result.{IfOk-weaker}
use Rattle.store.specs.Indexes.{entry_after}
use Rattle.btree_read.specs.declared.entry.Entry.{Entry}
use Rattle.btree_read.specs.declared.entry.Start.TheVariants.{At}
use Rattle.page_space.specs.Space.{PageMap}
use Rattle.btree_read.specs.Near.{LiesIn}
use Rattle.btree_read.specs.Sorted.{first_from}
use Rattle.tablestore.specs.Held.{row_entry, entries_of}
use Rattle.tablestore.proofs.NumberLemmas.{found_first}
use Rattle.tablestore.proofs.reading.entry_near.Goals as goal

pub returns-in-None-clause-found : goal.returns-in-None-clause-found
returns-in-None-clause-found g c = λ owned rows held.
    IfOk-weaker c.seek.result (λ (x : Option Entry). x ≡ first_from At [] (entries_of rows)) (λ (x : Option Entry). x ≡ option_map row_entry (entry_after c.args.after rows))
    (λ x e. e ∙ found_first rows ∙ ap (λ (a : Option ℕ). option_map row_entry (entry_after a rows)) (sym c.in-None.is))
    (c.seek.ensures.found owned (entries_of rows) held.tree)

pub returns-in-None-clause-lies : goal.returns-in-None-clause-lies
returns-in-None-clause-lies g c = subst (λ (pages : PageMap). LiesIn pages c.args.root c.args.last.now) (sym c.seek.ensures.same) c.requires
