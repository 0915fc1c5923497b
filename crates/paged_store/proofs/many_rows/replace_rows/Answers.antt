use Rattle.std.proofs.Common.{rules, ◌≡◌, ◌∙◌, sym, ap, subst, arith, List, ◌∷◌}
use Rattle.store.specs.Contents.{Entry, Contents, rows_of, replaced, replaced_all}
use Rattle.store.specs.Errors.{HasLongRow}
use Rattle.pool.specs.Versions.{Versions, versions_of, refused_of}
use Rattle.overlay.specs.WriteSet.{private_of}
use Rattle.paged_store.proofs.ManyLemmas.{changed_on, long_later, replacing_fails}
use Rattle.paged_store.proofs.many_rows.replace_rows.Goals as goal

pub loop-entry-preserved : goal.loop-entry-preserved
loop-entry-preserved g c =
    let rest : List Entry = c.next.new.self.rest.items in
    let moved : c.loop-entry.entry-iterator.rest.items ≡ c.in-Some.entry ∷ rest = search (rules) in
    record {
      versions = c.replace_row.ensures.versions ∙ c.loop-entry.invariant.versions;
      settled = c.replace_row.ensures.settled ∙ c.loop-entry.invariant.settled;
      rising = omega (arith, c.loop-entry.invariant.rising, c.replace_row.ensures.rising);
      writes = c.replace_row.ensures.writes ∙ c.loop-entry.invariant.writes;
      changed = changed_on ((versions_of c.args.pool.now).pages c.args.at) ((versions_of c.loop-entry.pool).pages c.args.at) (private_of c.args.changes.now) (private_of c.loop-entry.changes) (private_of c.replace_row.new.changes)
          (λ (x : Contents). replaced_all x c.args.name.now c.args.rows) (λ (x : Contents). replaced_all x c.args.name.now c.loop-entry.entry-iterator.rest.items) (λ (x : Contents). replaced_all x c.args.name.now rest)
          (λ (x : Contents). replaced x c.args.name.now c.in-Some.entry.0 c.in-Some.entry.1) (ap (λ (v : Versions). v.pages c.args.at) c.loop-entry.invariant.versions)
          (λ x. ap (λ (found : List Entry). replaced_all x c.args.name.now found) moved) c.loop-entry.invariant.changed c.in-Ok.ensures.replaced c.in-Ok.ensures.owned;
      long = λ h. c.loop-entry.invariant.long (subst (λ (found : List Entry). HasLongRow (rows_of found)) (sym moved) (long_later c.in-Some.entry rest h));
    }

pub returns-in-Err-clause-refused : goal.returns-in-Err-clause-refused
returns-in-Err-clause-refused g c =
    let rest : List Entry = c.next.new.self.rest.items in
    let moved : c.loop-entry.entry-iterator.rest.items ≡ c.in-Some.entry ∷ rest = search (rules) in
    replacing_fails ((versions_of c.args.pool.now).pages c.args.at) ((versions_of c.loop-entry.pool).pages c.args.at) (private_of c.args.changes.now) (private_of c.loop-entry.changes) (private_of c.replace_row.new.changes)
    (λ (x : Contents). replaced_all x c.args.name.now c.args.rows) (λ (x : Contents). replaced_all x c.args.name.now c.loop-entry.entry-iterator.rest.items) (ap (λ (v : Versions). v.pages c.args.at) c.loop-entry.invariant.versions) c.loop-entry.invariant.changed
    (refused_of c.args.pool.now) (refused_of c.loop-entry.pool) (refused_of c.replace_row.new.pool) c.loop-entry.invariant.rising c.in-Err.error
    c.in-Some.entry rest c.args.rows (subst (λ (found : List Entry). HasLongRow (rows_of found) → HasLongRow (rows_of c.args.rows)) moved c.loop-entry.invariant.long) c.in-Err.ensures.refused
