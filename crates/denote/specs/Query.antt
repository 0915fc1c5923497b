-- What a query with its ORDER BY denotes over a database (ISO/IEC 9075:1992, 7.10, 13.1).
use Rattle.std.specs.Prelude.{[]}
use Rattle.typing.specs.declared.typed.OrderedQuery.{OrderedQuery}
use Rattle.denote.specs.Outcome.{OrderedOutcome}
use Rattle.denote.specs.Meaning.{query_outcome}
use Rattle.denote.specs.Database.{Database, rows_in}

-- the outcome of the query, which stands inside no other, and the keys of its ORDER BY
abbrev pub denotes : Database → OrderedQuery → OrderedOutcome
denotes db ordered = record { unordered = query_outcome (rows_in db) ordered.query []; keys = ordered.keys }
