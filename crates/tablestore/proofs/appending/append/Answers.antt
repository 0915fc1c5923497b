use Rattle.std.proofs.Common.{◌≡◌, ◌∙◌, sym, subst}
use Rattle.std.specs.List.{AllByRecursion}
use Rattle.btree_read.specs.Nodes.{IsSmall}
use Rattle.btree.proofs.PageLossLemmas.{no_page_lost_by_insertions}
use Rattle.tablestore.proofs.AppendLemmas.{all_small, rows_appended}
use Rattle.tablestore.proofs.appending.append.Goals as goal

pub insert_all-requires : goal.insert_all-requires
insert_all-requires g c = subst (AllByRecursion IsSmall) (sym (c.as_slice.ensures ∙ c.in_ok-entries.ensures.entries)) (all_small _ c.in_ok-entries.ensures.kept)

pub returns-in-Ok-clause-appended : goal.returns-in-Ok-clause-appended
returns-in-Ok-clause-appended g c =
    λ owned held h. rows_appended _ _ _ c.args.root c.in-Ok.top c.in_ok-first.first c.args.rows.now c.as_slice.result.now c.in_ok-first.ensures.same
    (c.as_slice.ensures ∙ c.in_ok-entries.ensures.entries) c.in_ok-entries.ensures.kept c.in-Ok.ensures.inserts owned held (c.in_ok-first.ensures.found owned held h) h

pub returns-in-Ok-clause-keeps : goal.returns-in-Ok-clause-keeps
returns-in-Ok-clause-keeps g c = no_page_lost_by_insertions _ _ _ _ _ c.as_slice.result.now c.in_ok-first.ensures.same c.in-Ok.ensures.inserts c.in-Ok.ensures.keeps
