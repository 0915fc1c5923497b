use Rattle.parse_queries.proofs.entry.+parser.Given as goal

abbrev pub decreases-expression : goal.decreases-expression
decreases-expression l = l.depth

abbrev pub decreases-condition : goal.decreases-condition
decreases-condition l = l.depth

abbrev pub decreases-query : goal.decreases-query
decreases-query l = l.depth
