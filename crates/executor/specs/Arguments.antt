-- The arguments of set functions at rows.
use Rattle.std.specs.Prelude.{List, map}
use Rattle.sqlval.specs.Value.{Row}
use Rattle.algebra.specs.declared.tree.SetFunction.{SetFunction}
use Rattle.algebra.specs.Listing.{listing_step}
use Rattle.algebra.specs.Meaning.{MeantFunction, function_by}
use Rattle.denote.specs.Evaluation.{Env, Evaluation, together}
use Rattle.denote.specs.Meaning.{Tables}
use Rattle.kernels.specs.Aggregates.{argument_value, argument_values}

-- the values of all functions' arguments in the rows round them, or the faults of every one
abbrev pub arguments_in : List MeantFunction → Env → Evaluation Row
arguments_in functions env = together (map (argument_value env) functions)

-- at each row
abbrev pub arguments_at : List MeantFunction → Env → List Row → Evaluation (List Row)
arguments_at functions env rows = together (map (argument_values functions env) rows)

-- what set functions mean over these tables
abbrev pub meant_functions : Tables → List SetFunction → List MeantFunction
meant_functions tables functions = map (function_by (listing_step tables)) functions
