use Rattle.std.proofs.Common.{◌≡◌, List, [], ◌∷◌, refl, sym, ap, ◌∙◌, subst}
use Rattle.sqlval.specs.declared.schema.Table.{Table}
use Rattle.btree_read.specs.declared.entry.Entry.{Entry}
use Rattle.catalog_records.specs.Records.{schema_records}
use Rattle.catalog_records.specs.References.{AreReferencesOver}
use Rattle.catalog.specs.Held.{entries_of}
use Rattle.catalog.proofs.known.KnownSchema.new.Goals as goal

none : (tables : List Table) → [] ≡ entries_of (schema_records tables) → [] ≡ tables
none [] e = refl
none (t ∷ tables) e = absurd (cc)

pub invariant_of-result : goal.invariant_of-result
invariant_of-result c = record {
  decoded = λ tables range references coded is. c.new-2.ensures ∙ none tables (sym c.new.ensures ∙ is);
  references = subst AreReferencesOver (sym c.new-2.ensures) refl;
}
