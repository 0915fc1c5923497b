-- What is handed to bodies.
use Rattle.algebra.proofs.Nodes.{value_constant, value_column, value_calculation, value_concatenation, value_negation, value_scalar, truth_or, truth_and, truth_negation, truth_test, truth_compare, truth_between, truth_in_list, truth_in_query, truth_like, truth_null, truth_exists, tree_scan, tree_filter, tree_product, tree_inner, tree_left, tree_half, tree_opposite, tree_group, tree_project, tree_distinct, tree_set, tree_sort, tree_seek, tree_range, tree_index_loop, tree_hash_join, tree_member, function_rows, function_over}
use Rattle.executor.proofs.GivesLemmas.{Gives-first, Gives-second, end-is}

pub ruleset value_nodes = (value_constant, value_column, value_calculation, value_concatenation, value_negation, value_scalar, Gives-first, Gives-second)

pub ruleset truth_nodes = (truth_or, truth_and, truth_negation, truth_test, truth_compare, truth_between, truth_in_list, truth_in_query, truth_like, truth_null, truth_exists, Gives-first, Gives-second)

pub ruleset list_nodes = (tree_scan, tree_filter, tree_product, tree_inner, tree_left, tree_half, tree_opposite, tree_group, tree_project, tree_distinct, tree_set, tree_sort, tree_seek, tree_range, tree_index_loop, tree_hash_join, tree_member)

pub ruleset list_ends = (end-is)

pub ruleset function_nodes = (function_rows, function_over)
