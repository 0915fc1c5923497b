-- What set functions of trees mean, node by node.
use Rattle.algebra.proofs.Nodes.{function_rows, function_over}

pub ruleset function_nodes = (function_rows, function_over)
