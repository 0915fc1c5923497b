use Rattle.std.proofs.Common.{◌≡◌, ◌++◌, map}
use Rattle.store.specs.Contents.{Entry, rows_of}
use Rattle.range_lookups.proofs.numbers.apart.Given as goal

abbrev pub invariant-loop-entry : goal.invariant-loop-entry
invariant-loop-entry l = (l.numbers ++ map (λ (e : Entry). e.0) l.entry-iterator.rest.items ≡ map (λ (e : Entry). e.0) l.fn.entries) × (l.rows ++ rows_of l.entry-iterator.rest.items ≡ rows_of l.fn.entries)
