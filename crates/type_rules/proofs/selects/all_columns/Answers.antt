use Rattle.std.proofs.Common.{arith}
use Rattle.std.specs.Option.{option_copied}
use Rattle.typing.specs.Select.{columns_from}
use Rattle.type_rules.proofs.FindsLemmas.{Finds-ok}
use Rattle.scopes.proofs.Scopes.{frames-inside, frames-outermost}
use Rattle.type_rules.proofs.Stars.{limited-is, limited-refused, star-length}
use Rattle.type_rules.proofs.selects.all_columns.Goals as goal

pub returns-in_default : goal.returns-in_default
returns-in_default c = rw (c.in_default.is, frames-outermost, c.new.ensures) (Finds-ok _)

pub returns-then-len-gt-MAXIMUM_RESULT_COLUMNS : goal.returns-then-len-gt-MAXIMUM_RESULT_COLUMNS
returns-then-len-gt-MAXIMUM_RESULT_COLUMNS c =
    rw (c.in-Inside.is, frames-inside c.in-Inside.frame c.in-Inside.key c.in-Inside.field-2)
    (limited-refused (columns_from (option_copied c.in-Inside.key) 0 c.in-Inside.frame.now.columns)
    (rw (star-length (option_copied c.in-Inside.key) 0 c.in-Inside.frame.now.columns) (omega (arith, c.len.ensures, c.if-len-gt-MAXIMUM_RESULT_COLUMNS.true))))

pub returns : goal.returns
returns c =
    rw (c.in-Inside.is, frames-inside c.in-Inside.frame c.in-Inside.key c.in-Inside.field-2)
    (rw (limited-is (columns_from (option_copied c.in-Inside.key) 0 c.in-Inside.frame.now.columns)
    (rw (star-length (option_copied c.in-Inside.key) 0 c.in-Inside.frame.now.columns) (omega (arith, c.len.ensures, c.if-len-gt-MAXIMUM_RESULT_COLUMNS.false))))
    (rw c.as_slice.ensures at c.columns_of.ensures))
