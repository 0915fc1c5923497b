-- What is found at rows that come to a table, without a look at the others.
use Rattle.std.specs.Prelude.{◌≡◌, List, [], Contains}
use Rattle.sqlval.specs.declared.schema.Table.{Table}
use Rattle.sqlval.specs.Value.{Row}
use Rattle.denote.specs.Database.{Name, CheckReading, table_of, violated_by}
use Rattle.constraints.specs.declared.foreseeing.Alone.{Alone}
use Rattle.constraints.specs.declared.foreseeing.Alone.TheVariants.{Violates, Keys}
use Rattle.constraints.specs.Foreseen.{keys_asked}

abbrev pub IsAlone : CheckReading → Name → Table → List Row → Alone → Type 0
IsAlone reading name table rows (Violates constraint) = Contains (violated_by reading name (table_of table rows)) constraint
IsAlone reading name table rows (Keys keys) = (keys ≡ keys_asked table.indexes table.constraints)
    × (violated_by reading name (table_of table rows) ≡ [])

-- what is to be looked up are the keys of the table
abbrev pub HasKeys : Table → Alone → Type 0
HasKeys table (Violates constraint) = Unit {0}
HasKeys table (Keys keys) = keys ≡ keys_asked table.indexes table.constraints
