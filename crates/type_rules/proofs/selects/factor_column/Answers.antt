use Rattle.std.proofs.Common.{sym}
use Rattle.type_rules.proofs.ColumnNames.{aggregate_alone, count_alone, number_alone, parenthesized_alone, subquery_alone, text_alone}
use Rattle.type_rules.proofs.selects.factor_column.Goals as goal

pub returns-in-Number : goal.returns-in-Number
returns-in-Number c = λ k. sym (number_alone k c.args.tree.now _ c.in-Number.is)

pub returns-in-Text : goal.returns-in-Text
returns-in-Text c = λ k. sym (text_alone k c.args.tree.now _ c.in-Text.is)

pub returns-in-CountRows : goal.returns-in-CountRows
returns-in-CountRows c = λ k. sym (count_alone k c.args.tree.now c.in-CountRows.is)

pub returns-in-Aggregate : goal.returns-in-Aggregate
returns-in-Aggregate c = λ k. sym (aggregate_alone k c.args.tree.now _ _ _ c.in-Aggregate.is)

pub returns-in-Parenthesized : goal.returns-in-Parenthesized
returns-in-Parenthesized c = λ k. sym (parenthesized_alone k c.args.tree.now _ c.in-Parenthesized.is)

pub returns-in-Subquery : goal.returns-in-Subquery
returns-in-Subquery c = λ k. sym (subquery_alone k c.args.tree.now _ c.in-Subquery.is)
