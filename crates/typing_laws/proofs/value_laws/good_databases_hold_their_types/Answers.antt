use Rattle.typing.specs.Known.{known}
use Rattle.typing_laws.proofs.Databases.{good-holds}
use Rattle.typing_laws.proofs.value_laws.good_databases_hold_their_types.Goals as goal

pub returns-clause-tables : goal.returns-clause-tables
returns-clause-tables c reading schema db of good = good-holds reading schema db of good

pub returns-clause-answers : goal.returns-clause-answers
returns-clause-answers c reading schema db tree found query answer of good is ordered answers =
    c.queries_have_rows_of_their_types.ensures.found (known schema) db tree found query answer (good-holds reading schema db of good) is ordered answers
