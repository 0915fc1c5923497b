use Rattle.std.proofs.Common.{◌≡◌, ◌∙◌, true, ap, ℕ, List, take}
use Rattle.btree_read.specs.declared.entry.Start.TheVariants.{Behind}
use Rattle.btree_read.specs.Search.{IsNoTree}
use Rattle.btree_read.specs.Sorted.{from_on}
use Rattle.stored_tables.proofs.RefusalLemmas.{read_harm}
use Rattle.index_lookups.specs.Walked.{HoldsNoIndexed}
use Rattle.index_lookups.proofs.AheadLemmas.{has_first_entry, passes_within, passes_beyond}
use Rattle.index_lookups.proofs.walking.pass.Goals as goal

pub returns-in-Ok-clause-stands : goal.returns-in-Ok-clause-stands
returns-in-Ok-clause-stands g c = λ rows rest e h s.
    passes_beyond (g.R.PageReader.pages c.args.space.now) c.args.place.now.root c.args.place.now.rows_root c.args.place.now.types c.args.place.now.columns rows h c.remove-entry.result e rest c.args.ahead.now c.in-Ok.more 15 c.remove-entry.ensures.item
    (c.in-Ok.ensures.found h.owned h.index.entries h.index.tree ∙ ap (λ (k : List ℕ). take 16 (from_on Behind k h.index.entries)) c.as_slice-key.ensures) s

pub returns-clause-refusal : goal.returns-clause-refusal
returns-clause-refusal g c =
    read_harm c.in-Err.fault (IsNoTree (g.R.PageReader.pages c.args.space.now) c.args.place.now.root) (HoldsNoIndexed (g.R.PageReader.pages c.args.space.now) c.args.place.now.root c.args.place.now.rows_root c.args.place.now.types c.args.place.now.columns)
    (g.R.PageReader.refused c.args.space.now) (g.R.PageReader.refused c.entries_from.new.space) (λ none rows h. none h.owned h.index.entries h.index.tree) c.in-Err.ensures.refusal

pub remove-entry-requires : goal.remove-entry-requires
remove-entry-requires g c = has_first_entry c.args.ahead.now c.requires

pub returns-then-not-is_empty-clause-stands : goal.returns-then-not-is_empty-clause-stands
returns-then-not-is_empty-clause-stands g c = λ rows rest e h s.
    passes_within (g.R.PageReader.pages c.args.space.now) c.args.place.now.root c.args.place.now.rows_root c.args.place.now.types c.args.place.now.columns rows h c.args.ahead.now _ e rest c.remove-entry.ensures.rest
    (λ none. let yes : c.is_empty.result ≡ true = c.is_empty.ensures.1 none in let not_so = c.if-not-is_empty.true in absurd (cc)) s
