use Rattle.std.proofs.Common.{◌≡◌, ℕ, ◌∷◌, [], refl, sym, ap, ◌∙◌, arith}
use Rattle.std.proofs.lemmas.List.{drop_all}
use Rattle.sqlval.specs.declared.schema.Column.{Column}
use Rattle.catalog_records.specs.declared.record.Record.{Record}
use Rattle.catalog_records.specs.Records.{key_of, column_record}
use Rattle.catalog_records.specs.Keepable.{IsColumn}
use Rattle.catalog_records.specs.Rows.{column_row}
use Rattle.catalog_records.proofs.Exits.{refused_front}
use Rattle.catalog_records.proofs.NumberedLemmas.{numbered_one, numbered_next, numbered_end, numbered_more, first_left, other_key, record_is, count_more, all_more}
use Rattle.catalog_records.proofs.reading.columns_first.Goals as goal

pub returns-then-not-is_key-clause-again : goal.returns-then-not-is_key-clause-again
returns-then-not-is_key-clause-again c = λ all more good ends e.
    let first = first_left c.args.records.now _ _ c.loop-place-test.true c.index-records-place.is in
    let none = other_key _ _ _ _ _ first c.as_slice.ensures (c.is_key.ensures.no c.if-not-is_key.true) in
    let known = c.loop-place.invariant.again all more good ends e in
    let p = numbered_end (λ (x : ℕ × Column). column_record c.args.name.now x.0 x.1) IsColumn (key_of c.args.name.now 1) all _ c.loop-place.place _ more (λ m y. refl) known none in
    (p.0, c.split_at.ensures.back ∙ p.1)

pub returns-in_err-column-clause-again : goal.returns-in_err-column-clause-again
returns-in_err-column-clause-again c = λ all more good ends e.
    let first = first_left c.args.records.now _ _ c.loop-place-test.true c.index-records-place.is in
    let own = sym c.as_slice.ensures ∙ c.is_key.ensures.yes c.if-not-is_key.false in
    let known = c.loop-place.invariant.again all more good ends e in
    numbered_one (λ (x : ℕ × Column). column_record c.args.name.now x.0 x.1) IsColumn (key_of c.args.name.now 1) all _ c.loop-place.place _ more _ _ _ known first own ends
    (λ y ys keep others is left whole. refused_front _ c.in_err-column.field-0.0 all more c.from_residual.ensures.1
    (c.in_err-column.ensures.again y keep (ap (λ (r : Record). r.row) is ∙ sym c.as_slice-in-loop-place.ensures)))

pub loop-place-preserved : goal.loop-place-preserved
loop-place-preserved c =
    let first = first_left c.args.records.now _ _ c.loop-place-test.true c.index-records-place.is in
    let own = sym c.as_slice.ensures ∙ c.is_key.ensures.yes c.if-not-is_key.false in
    let f = λ (x : ℕ × Column). column_record c.args.name.now x.0 x.1 in
    let put = c.in_ok-push.ensures.ok in
    let is = record_is c.index-records-place.result (key_of c.args.name.now 1 c.loop-place.place) (column_row c.in_ok-column.column) own (c.in_ok-column.ensures.sound ∙ c.as_slice-in-loop-place.ensures) in
    record {
      sound = rw put (numbered_more f 0 _ _ _ _ _ c.in_ok-column.column c.loop-place.place c.loop-place.place c.loop-place.invariant.sound c.loop-place.invariant.count (omega arith) first is);
      count = rw put (count_more _ c.in_ok-column.column _ c.loop-place.invariant.count);
      kept = rw put (all_more IsColumn _ c.in_ok-column.column c.loop-place.invariant.kept c.in_ok-column.ensures.kept);
      again = λ all more good ends e.
          rw put (numbered_next f IsColumn (key_of c.args.name.now 1) all _ c.loop-place.place _ more _ _ c.in_ok-column.column (c.loop-place.invariant.again all more good ends e) first own ends
          (λ y keep same. c.in_ok-column.ensures.again y keep (ap (λ (r : Record). r.row) same ∙ sym c.as_slice-in-loop-place.ensures)));
    }

pub returns-clause-again : goal.returns-clause-again
returns-clause-again c = λ all more good ends e.
    let gone = drop_all c.loop-place.place c.args.records.now c.loop-place-test.false in
    let known = c.loop-place.invariant.again all more good ends e in
    let p = numbered_end (λ (x : ℕ × Column). column_record c.args.name.now x.0 x.1) IsColumn (key_of c.args.name.now 1) all _ c.loop-place.place _ more (λ m y. refl) known (λ r rs is. absurd (let none : [] ≡ r ∷ rs = sym gone ∙ is in cc)) in
    (p.0, sym gone ∙ p.1)
