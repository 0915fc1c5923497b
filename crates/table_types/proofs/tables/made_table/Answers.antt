use Rattle.std.proofs.lemmas.Result.{err_from_is_err_and}
use Rattle.type_rules.proofs.FindsLemmas.{Finds-ok, then-err, then-ok}
use Rattle.table_types.proofs.tables.made_table.Goals as goal

pub returns-in_err-columns : goal.returns-in_err-columns
returns-in_err-columns c = λ x h.
    let p = err_from_is_err_and c.from_residual.result c.from_residual.ensures.1 in
    rw (p.1, p.2) (then-err c.args.parts _ x _ c.in_err-columns.was h)

pub returns : goal.returns
returns c = λ x h. then-ok c.args.parts _ _ x _ c.in_ok-columns.was h (rw (c.in_ok-copy.ensures.copied, c.as_text.ensures.text) (Finds-ok _))
