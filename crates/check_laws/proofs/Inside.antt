-- A condition that stands in a statement nests no deeper than the statement.
use Rattle.std.proofs.Common.{◌≡◌, ◌∙◌, ap, ◌++◌, Some, append_assoc}
use Rattle.ast.specs.Nesting.{IsNestedWithin}
use Rattle.ast.specs.Notation.{Tokens}
use Rattle.typing.specs.Printed.{condition_tokens}
use Rattle.typing.proofs.KeptTexts.{only}
use Rattle.round_trip.proofs.Inside.{where_it_stands}
use Rattle.check_laws.proofs.Readable.{NestsInside}

nested_front : (ts front_kinds rest : Tokens) → ts ≡ front_kinds ++ rest → IsNestedWithin 64 ts → IsNestedWithin 64 front_kinds
nested_front ts front_kinds rest e nested front back f = nested front (back ++ rest) (e ∙ ap (λ k. k ++ rest) f ∙ append_assoc front back rest)

pub nests_inside : NestsInside
nests_inside x y kinds nested parsed inside =
    where_it_stands x (IsNestedWithin 64 (condition_tokens x)) (λ ts rest within begins.
    nested_front ts (condition_tokens x) rest (only (Some 64) begins.depth ts rest x begins.condition) within) y kinds nested parsed inside
