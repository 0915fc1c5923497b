-- FROM and its joins (ISO/IEC 9075:1992, 6.3, 7.4, 7.5).
use Rattle.std.specs.Prelude.{ℕ, List, [], ◌∷◌, ◌++◌, map, length, Option, Some, None, Ok}
use Rattle.sqlval.specs.declared.schema.Column.{Column}
use Rattle.refusals.specs.declared.reason.Reason.TheVariants.{Syntax}
use Rattle.ast.specs.declared.operator.Alias.{Alias}
use Rattle.typing.specs.declared.typed.Condition.{Condition}
use Rattle.typing.specs.declared.typed.Source.{Source}
use Rattle.typing.specs.declared.typed.Source.TheVariants as source
use Rattle.typing.specs.declared.scope.Offer.{Offer}
use Rattle.typing.specs.declared.scope.Frame.{Frame}
use Rattle.typing.specs.declared.scope.ResultColumn.{ResultColumn}
use Rattle.typing.specs.declared.scope.Sides.{Sides}
use Rattle.typing.specs.declared.scope.TypedFrom.{TypedFrom}
use Rattle.typing.specs.declared.scope.TypedQuery.{TypedQuery}
use Rattle.typing.specs.Finding.{Finding, ◌>>=◌, also, invalid}
use Rattle.typing.specs.Scope.{Scope}
use Rattle.typing.specs.Part.{Plain, Part}
use Rattle.typing.specs.Table.{offer_of}

-- A FROM or a part of it: its tables' names; and, in the FROMs of the outer queries, the columns
-- that it offers, in order, and what it stands for. What is wrong in an ON leaves the columns as
-- they are.
pub record From : Type 0 where
  pub names : List (List ℕ)
  pub columns : Scope → Finding (List Offer)
  pub source : Scope → Finding Source

abbrev pub frame_over : List (List ℕ) → List Offer → Frame
frame_over names columns = record { tables = names; columns = columns; key = None }

-- ---- tables

-- a table has the name of its alias, where that is written
abbrev pub shown_name : List ℕ → Option Alias → List ℕ
shown_name name None = name
shown_name name (Some alias) = alias.name

abbrev pub stored_table : (List ℕ → Finding (List Column)) → List ℕ → List ℕ → From
stored_table columns_of name shown = record {
  names = shown ∷ [];
  columns = λ outer. columns_of name >>= (λ columns. Ok (map (offer_of shown) columns));
  source = λ outer. columns_of name >>= (λ columns. Ok (source.Table name));
}

-- a derived table sees the outer queries, and nothing of the FROM in which it stands
abbrev pub result_offer : List ℕ → ResultColumn → Offer
result_offer shown column = record { table = shown; name = column.name; value_type = column.value_type }

abbrev pub derived_table : (Scope → Finding TypedQuery) → List ℕ → From
derived_table query shown = record {
  names = shown ∷ [];
  columns = λ outer. query outer >>= (λ q. Ok (map (result_offer shown) q.columns));
  source = λ outer. query outer >>= (λ q. Ok (source.Derived q.query));
}

-- ---- joins

-- the columns of the left side and then those of the right one
abbrev pub joined_columns : From → From → Scope → Finding (List Offer)
joined_columns left right outer = also (left.columns outer) (right.columns outer) >>= (λ p. Ok (p.0 ++ p.1))

-- `,` and CROSS JOIN
abbrev pub crossed : From → From → From
crossed left right = record {
  names = left.names ++ right.names;
  columns = joined_columns left right;
  source = λ outer. also (left.source outer) (right.source outer) >>= (λ p. Ok (source.Product p.0 p.1));
}

-- ON sees the tables on the left in its own reference and the one that it joins, and the outer
-- queries
abbrev pub on_found : Part Condition → From → From → Scope → Finding Condition
on_found on left right outer =
    joined_columns left right outer >>= (λ columns.
    on.found (record { scope = frame_over (left.names ++ right.names) columns ∷ outer; clause = Plain }))

-- what is found of both sides of a join, and of its ON
abbrev pub sides_found : Part Condition → From → From → Scope → Finding Sides
sides_found on left right outer =
    also (also (left.source outer) (right.source outer)) (also (right.columns outer) (on_found on left right outer)) >>= (λ p.
    Ok (record { left = (p.0).0; right = (p.0).1; right_width = length (p.1).0; on = (p.1).1 }))

abbrev pub joined_on : (Sides → Source) → Part Condition → From → From → From
joined_on joined on left right = record {
  names = left.names ++ right.names;
  columns = joined_columns left right;
  source = λ outer. sides_found on left right outer >>= (λ sides. Ok (joined sides));
}

abbrev pub inner_join : Sides → Source
inner_join sides = source.Inner sides.on sides.left sides.right

abbrev pub left_join : Sides → Source
left_join sides = source.Left sides.on sides.left sides.right sides.right_width

-- a table, and the joins after it, one after the other
abbrev pub joined_by : List (From → From) → From → From
joined_by [] from = from
joined_by (join ∷ joins) from = joined_by joins (join from)

-- the references of a FROM, of which the grammar has at least one
abbrev pub all_crossed : List From → From → From
all_crossed [] from = from
all_crossed (other ∷ others) from = all_crossed others (crossed from other)

abbrev pub from_of : List From → From
from_of [] = record { names = []; columns = λ outer. invalid Syntax; source = λ outer. invalid Syntax }
from_of (first ∷ others) = all_crossed others first

-- what a FROM, or a part of it, is found to be as a whole
abbrev pub from_found : From → Scope → Finding TypedFrom
from_found from outer =
    also (from.columns outer) (from.source outer) >>= (λ p. Ok (record { frame = frame_over from.names p.0; source = p.1 }))
