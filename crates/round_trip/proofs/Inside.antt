-- What stands inside a statement is found in its tokens.
use Rattle.std.proofs.Common.{ℕ, Some, zero, suc, Option}
use Rattle.std.specs.List.{All}
use Rattle.std.proofs.lemmas.List.Elements.{All-contains}
use Rattle.ast.specs.declared.statement.Statement.{Statement}
use Rattle.ast.specs.declared.tree.Condition.{Condition}
use Rattle.ast.specs.Grammar.{nested_at, IsText}
use Rattle.ast.specs.Nesting.{IsNestedWithin}
use Rattle.ast.specs.Notation.{Tokens}
use Rattle.ast.specs.Parts.{Node, statement, query, addend, operand, select, select_item, table_reference, join, table_source, condition, conjunction, negation, test, predicate, expression, term, factor, primary, parts, Inside, itself, deeper, StandsIn}
use Rattle.printer.specs.Printed.{BeginsWithCondition}
use Rattle.round_trip.proofs.Leads.{at_once, nested_from}
use Rattle.round_trip.proofs.Found.{Stands, Found, found_behind}
use Rattle.round_trip.proofs.FoundExpressions.{Inner, primary_parts_found, factor_parts_found, term_parts_found, expression_parts_found, an_expression, predicate_parts_found, test_parts_found, negation_parts_found, conjunction_parts_found, condition_parts_found, a_condition}
use Rattle.round_trip.proofs.FoundQueries.{table_source_parts_found, join_parts_found, table_reference_parts_found, select_item_parts_found, select_parts_found, operand_parts_found, addend_parts_found, query_parts_found, a_query}
use Rattle.round_trip.proofs.FoundStatements.{statement_holds}

module _ (limit : Option ℕ) where
  inner_at : (depth : ℕ) → Inner limit (nested_at limit depth)
  inner_at zero = record {
    expression = record { at = λ ts x rest h. absurd h };
    condition = record { at = λ ts x rest h. absurd h };
    query = record { at = λ ts x rest h. absurd h };
  }
  inner_at (suc depth) = record {
    expression = an_expression limit depth (inner_at depth);
    condition = a_condition limit depth (inner_at depth);
    query = a_query limit depth (inner_at depth);
  }

  parts_found : (depth : ℕ) (x : Node) (ts rest : Tokens) → Stands limit depth x ts rest → All (Found limit ts) (parts x)
  parts_found d (statement x) ts rest h = (statement_holds limit (nested_at limit d) (inner_at d) ts x rest h).found
  parts_found d (query x) ts rest h = ((query_parts_found limit d (inner_at d)).at ts x rest h).found
  parts_found d (addend x) ts rest h = ((addend_parts_found limit d (inner_at d)).at ts x rest h).found
  parts_found d (operand x) ts rest h = ((operand_parts_found limit d (inner_at d)).at ts x rest h).found
  parts_found d (select x) ts rest h = ((select_parts_found limit d (inner_at d)).at ts x rest h).found
  parts_found d (select_item x) ts rest h = ((select_item_parts_found limit d (inner_at d)).at ts x rest h).found
  parts_found d (table_reference x) ts rest h = ((table_reference_parts_found limit d (inner_at d)).at ts x rest h).found
  parts_found d (join x) ts rest h = ((join_parts_found limit d (inner_at d)).at ts x rest h).found
  parts_found d (table_source x) ts rest h = ((table_source_parts_found limit d (inner_at d)).at ts x rest h).found
  parts_found d (condition x) ts rest h = ((condition_parts_found limit d (inner_at d)).at ts x rest h).found
  parts_found d (conjunction x) ts rest h = ((conjunction_parts_found limit d (inner_at d)).at ts x rest h).found
  parts_found d (negation x) ts rest h = ((negation_parts_found limit d (inner_at d)).at ts x rest h).found
  parts_found d (test x) ts rest h = ((test_parts_found limit d (inner_at d)).at ts x rest h).found
  parts_found d (predicate x) ts rest h = ((predicate_parts_found limit d (inner_at d)).at ts x rest h).found
  parts_found d (expression x) ts rest h = ((expression_parts_found limit d (inner_at d)).at ts x rest h).found
  parts_found d (term x) ts rest h = ((term_parts_found limit d (inner_at d)).at ts x rest h).found
  parts_found d (factor x) ts rest h = ((factor_parts_found limit d (inner_at d)).at ts x rest h).found
  parts_found d (primary x) ts rest h = ((primary_parts_found limit d (inner_at d)).at ts x rest h).found

  pub found_inside : {y x : Node} → Inside y x → (depth : ℕ) (ts rest : Tokens) → Stands limit depth x ts rest → Found limit ts y
  found_inside itself depth ts rest h = record { depth = depth; from = ts; rest = rest; leads = at_once; stands = h }
  found_inside (deeper {x = x} {part = part} member more) depth ts rest h =
      let f = All-contains (Found limit ts) (parts x) part (parts_found depth x ts rest h) member in
      found_behind f.leads (found_inside more f.depth f.from f.rest f.stands)

-- The tokens from where the condition stands begin with it, and nest no deeper than those of the
-- whole statement.
pub record IsBegun (x : Condition) : Type 0 where
  pub kinds : Tokens
  pub rest : Tokens
  pub nested : IsNestedWithin 64 kinds
  pub begins : BeginsWithCondition (Some 64) kinds x rest

begun : (x : Condition) (y : Statement) (ts : Tokens) → IsNestedWithin 64 ts → IsText (Some 64) ts y → StandsIn x y → IsBegun x
begun x y ts nested is inside =
    let f = found_inside (Some 64) inside is.depth ts is.rest is.statement in
    record {
      kinds = f.from;
      rest = f.rest;
      nested = nested_from ts f.from 64 f.leads nested;
      begins = record { depth = suc f.depth; condition = f.stands };
    }

-- what holds where tokens begin with the condition holds where it stands in a statement
pub where_it_stands : (x : Condition) (P : Type 0) → ((kinds rest : Tokens) → IsNestedWithin 64 kinds → BeginsWithCondition (Some 64) kinds x rest → P)
    → (y : Statement) (kinds : Tokens) → IsNestedWithin 64 kinds → IsText (Some 64) kinds y → StandsIn x y → P
where_it_stands x P f y ts nested is inside =
    let b = begun x y ts nested is inside in
    f b.kinds b.rest b.nested b.begins
