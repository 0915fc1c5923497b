use Rattle.std.proofs.Common.{◌≡◌, [], ◌∷◌, ◌++◌, length, map, option_map, refl, ap, sym, ◌∙◌, inl, inr, rules}
use Rattle.std.proofs.lemmas.List.{map-append}
use Rattle.csv.specs.Reading.{Reached, default_config, strip_bom}
use Rattle.csv.specs.Records.{fields_of}
use Rattle.csv.specs.declared.parser.State.TheVariants as st
use Rattle.csv.proofs.ReadFacts.{rows-end, rows-more}
use Rattle.csv_rows.proofs.Lengths.{length-more, one_length, uneven_records}
use Rattle.csv_rows.proofs.Records.{read_next, goes_on, told_uneven}
use Rattle.csv_rows.proofs.all_records.read_records.Goals as goal

pub loop-found-init : goal.loop-found-init
unfolding Reached
loop-found-init g c =
    let fr = c.from_reader-reading.ensures in
    let e = c.has_headers.ensures in
    let start = c.into_iter-found-iterator.ensures.into_iter_gives ∙ refl in
    let rdr = c.into_byte_records-found-items.ensures.rdr in
    let left = c.into_byte_records-found-items.ensures.left in
    rw (start, rdr, c.new-records.ensures) (
      rw (e) at fr.trim ∙ c.new.ensures.trim,
      inr (inr (rw e at fr.has_headers, fr.headers)),
      left,
      rw e at fr.config ∙ c.new.ensures.config,
      rw e at fr.flexible ∙ c.new.ensures.flexible,
      rw fr.expected refl,
      λ bytes known. (strip_bom bytes, fr.source ∙ ap (option_map strip_bom) known, (sym fr.state, refl)),
    )

pub loop-found-preserved : goal.loop-found-preserved
loop-found-preserved g c =
    let inv = c.loop-found.invariant in
    let steps = c.next.ensures.steps inv.2 inv.0 in
    let s = rw (c.in-Some.is, c.in-Ok.is) at (steps.0 inv.1) in
    let flexible = rw (c.in-Some.is, c.in-Ok.is) at steps.3 in
    let expects = s.0.5 refl inv.4 in
    let records : map fields_of c.push.new.self ≡ map fields_of c.loop-found.records ++ fields_of c.in-Ok.record ∷ [] =
    ap (map fields_of) (search rules) ∙ map-append fields_of c.loop-found.records (c.in-Ok.record ∷ []) in (
      s.0.3 ∙ inv.0,
      inl s.1,
      s.2,
      s.0.2 ∙ inv.3,
      flexible ∙ inv.4,
      rw (records, expects.1) (length-more _ (map fields_of c.loop-found.records) (fields_of c.in-Ok.record) (length (fields_of c.in-Ok.record)) inv.5 (rw expects.1 at expects.0) refl),
      λ bytes known.
          let was = inv.6 bytes known in
          let m = rows-more g.R.Read.remaining c.loop-found.found-iterator.rdr c.next.new.self.rdr (fields_of c.in-Ok.record) default_config st.StartRecord (strip_bom bytes) was.0
          (map fields_of c.loop-found.records) inv.3 was.1 was.2 s.0 in
          (m.0, m.1, rw records m.2),
    )

pub returns-clause-records : goal.returns-clause-records
returns-clause-records g c bytes known =
    let inv = c.loop-found.invariant in
    let was = inv.6 bytes known in
    let s = rw c.in-None.is at ((c.next.ensures.steps inv.2 inv.0).0 inv.1) in
    let width = one_length _ (map fields_of c.loop-found.records) inv.5 in
    record {
      are = (
        c.loop-found.found-iterator.rdr.state,
        was.0,
        was.2,
        rows-end g.R.Read.remaining c.loop-found.found-iterator.rdr c.next.new.self.rdr [] default_config was.0 inv.3 was.1 s,
      );
      width = width.0;
      even = width.1;
    }

pub returns-in-Err-clause-field : goal.returns-in-Err-clause-field
returns-in-Err-clause-field g c is bytes known all are =
    let inv = c.loop-found.invariant in
    let was = inv.6 bytes known in
    let s = rw (c.in-Some.is, c.in-Err.is) at ((c.next.ensures.steps inv.2 inv.0).0 inv.1) in
    let told = told_uneven g.R.Read.remaining c.loop-found.found-iterator.rdr c.next.new.self.rdr c.in-Err.error.kind (sym c.cause.ensures ∙ is) s in
    let next = read_next _ _ _ _ _ was.0 told.fields _ inv.3 was.1 told.took in
    let continued = goes_on default_config st.StartRecord (strip_bom bytes) (map fields_of c.loop-found.records) all _ was.0 told.fields was.2 next are.are in
    uneven_records told.expected told.len (map fields_of c.loop-found.records) all told.fields continued.rest are.width (rw told.known at inv.5) continued.is are.even told.long told.other
