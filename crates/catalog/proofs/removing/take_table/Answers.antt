use Rattle.std.proofs.Common.{◌∙◌, ◌++◌, List, sym, subst}
use Rattle.btree.specs.Overfull.{IsNoTreeIn}
use Rattle.btree_read.specs.Tree.{IsTree}
use Rattle.catalog_records.specs.declared.record.Record.{Record}
use Rattle.catalog.specs.Held.{entries_of}
use Rattle.catalog.proofs.RefusalLemmas.{record_refused}
use Rattle.catalog.proofs.removing.take_table.Goals as goal

pub returns-clause-taken : goal.returns-clause-taken
returns-clause-taken g c = λ owned before behind t.
    c.remove_records.ensures.removed owned before behind
    (subst (λ (rs : List Record). IsTree (g.S.PageReader.pages c.args.space.now) c.args.root owned (before ++ (entries_of rs ++ behind))) (sym (c.as_slice.ensures ∙ c.in_ok-records.ensures.records)) t)

pub returns-in_err-records-clause-refusal : goal.returns-in_err-records-clause-refusal
returns-in_err-records-clause-refusal g c = record_refused _ c.in_err-records.field-0.0 (g.S.PageSpace.at_limit c.args.space.now)
    (IsNoTreeIn (g.S.PageReader.pages c.args.space.now) c.args.root (g.S.PageReader.is_whole c.args.space.now)) _ _ c.from_residual.ensures.1 c.in_err-records.ensures.refusal
