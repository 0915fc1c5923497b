use Rattle.scopes.specs.Seen.{frames}
use Rattle.query_types.specs.Selects.{filter_part, list_part}
use Rattle.query_types.proofs.functions.shown_functions.Goals as goal

pub returns : goal.returns
returns c = λ k.
    c.joined.ensures (frames c.args.scope.now) (list_part k c.args.items.now).functions (filter_part k c.args.having.now).functions
    (c.functions_in_list-listed.ensures k) (c.functions_in_filter.ensures k)
