use Rattle.std.proofs.Common.{◌≡◌, suc, [], ◌∷◌, ◌++◌, map, take, Some, None, sym, ap, ◌∙◌, rules}
use Rattle.std.proofs.lemmas.List.{map-append}
use Rattle.csv.specs.Records.{fields_of, field_at}
use Rattle.replies.specs.Printed.{printed_value}
use Rattle.csv_rows.proofs.Fields.{take-field, take-fields, take-row, printed_at}
use Rattle.csv_rows.proofs.record.row_of.Goals as goal

pub loop-field-preserved : goal.loop-field-preserved
loop-field-preserved c =
    let fields = fields_of c.args.fields.now in
    let at = c.loop-field.field-iterator.at in
    let was = c.loop-field.invariant in
    let same : c.next.new.self.row.now ≡ c.args.fields.now = search rules in
    let here : field_at fields at ≡ Some c.in-Some.field.now = search rules in
    let next : c.next.new.self.at ≡ suc at = search rules in
    let printed : printed_value c.in-Some-2.value ≡ c.in-Some.field.now = search rules in
    let row : c.push.new.self ≡ c.loop-field.row ++ c.in-Some-2.value ∷ [] = search rules in (
      same,
      ap (map printed_value) row ∙ map-append printed_value c.loop-field.row (c.in-Some-2.value ∷ []) ∙ ap (λ xs. xs ++ printed_value c.in-Some-2.value ∷ []) was.1
          ∙ ap (λ x. take at fields ++ x ∷ []) printed ∙ sym (take-field fields at c.in-Some.field.now here) ∙ ap (λ n. take n fields) (sym next),
      λ other all e.
          let there = printed_at other at c.in-Some.field.now all (ap (λ f. field_at f at) e ∙ here) in
          let value : c.in-Some-2.value ≡ there.value = let found = c.value_of.ensures.again there.value there.storable there.printed in search rules in
          row ∙ ap (λ xs. xs ++ c.in-Some-2.value ∷ []) (was.2 other all e) ∙ ap (λ x. take at other ++ x ∷ []) value ∙ sym there.more ∙ ap (λ n. take n other) (sym next),
    )

pub returns-in-None-2-clause-again : goal.returns-in-None-2-clause-again
returns-in-None-2-clause-again c other all e =
    let fields = fields_of c.args.fields.now in
    let at = c.loop-field.field-iterator.at in
    let here : field_at fields at ≡ Some c.in-Some.field.now = search rules in
    let there = printed_at other at c.in-Some.field.now all (ap (λ f. field_at f at) e ∙ here) in
    let found = c.value_of.ensures.again there.value there.storable there.printed in search rules

pub returns-clause-sound : goal.returns-clause-sound
returns-clause-sound c other e =
    let fields = fields_of c.args.fields.now in
    let at = c.loop-field.field-iterator.at in
    let end : field_at fields at ≡ None = search rules in
    let row : other ≡ c.loop-field.row = cc e in
    ap (map printed_value) row ∙ c.loop-field.invariant.1 ∙ take-fields fields at end

pub returns-clause-again : goal.returns-clause-again
returns-clause-again c other all e =
    let fields = fields_of c.args.fields.now in
    let at = c.loop-field.field-iterator.at in
    let end : field_at fields at ≡ None = search rules in
    ap Some (c.loop-field.invariant.2 other all e ∙ take-row other at (ap (λ f. field_at f at) e ∙ end))
