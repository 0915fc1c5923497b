use Rattle.std.proofs.Common.{◌∙◌, ap, List}
use Rattle.ast.specs.declared.statement.TableElement.{TableElement}
use Rattle.table_types.specs.Tables.{defined}
use Rattle.typing.specs.Known.{known}
use Rattle.table_types.proofs.Bridges.{create-is}
use Rattle.table_types.proofs.tables.typed_create_table.Goals as goal

pub typed_constraints-constraints-requires : goal.typed_constraints-constraints-requires
typed_constraints-constraints-requires c = record { defined = c.as_slice-3.ensures ∙ c.in_ok-definitions.ensures ∙ ap (λ (xs : List TableElement). defined xs) c.as_slice.ensures }

pub returns : goal.returns
returns c =
    let columns = rw (c.as_slice-2.ensures, c.in_ok-definitions.ensures, c.as_slice.ensures) at c.typed_columns-columns.ensures in
    let constraints = rw (c.as_slice-3.ensures, c.in_ok-definitions.ensures, c.as_slice.ensures) at c.typed_constraints-constraints.ensures in
    rw (create-is (known c.args.schema.now) c.args.tree.now)
    (c.made_table.ensures _ (c.both.ensures _ _ (rw c.as_text.ensures.text at c.new_table-name.ensures) (c.both-parts.ensures _ _ columns constraints)))
