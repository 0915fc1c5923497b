use Rattle.std.proofs.Common.{◌≡◌, [], ◌∷◌, ◌++◌, ap, sym, subst, rules, Some, List}
use Rattle.csv.specs.Records.{fields_of}
use Rattle.sqlval.specs.declared.value.Value.{Value}
use Rattle.sqlrecord.specs.Storable.{IsStorable}
use Rattle.csv_rows.specs.Paired.{ArePaired}
use Rattle.csv_rows.specs.Written.{IsValueBy}
use Rattle.std.proofs.lemmas.List.{nil_from_length}
use Rattle.csv_rows.proofs.Paired.{all_left, less_left, next_left, none_left, so_all, so_more}
use Rattle.csv_rows.proofs.by_source.row_by.Goals as goal

pub loop-source-init : goal.loop-source-init
loop-source-init c = rw c.new-row.ensures (λ more are. are, λ all good are. all_left (IsValueBy (fields_of c.args.fields.now)) IsStorable c.args.sources.now all good are)

pub loop-source-preserved : goal.loop-source-preserved
loop-source-preserved c =
    let P = IsValueBy (fields_of c.args.fields.now) in
    let left = c.in-Some.ensures.cases.0 in
    let row : c.push.new.self ≡ c.loop-source.row ++ c.in-Some-2.value ∷ [] = search rules in
    rw row (
      so_more P c.args.sources.now c.loop-source.left.now c.in-Some.others.now c.loop-source.row c.in-Some.source.now c.in-Some-2.value left
          (let found = c.value_by.ensures.sound in search rules) c.loop-source.invariant.0,
      λ all good are. less_left P IsStorable c.loop-source.left.now c.in-Some.others.now c.loop-source.row all c.in-Some.source.now c.in-Some-2.value left
          (λ y fine is. let found = c.value_by.ensures.again y fine is in search rules) (c.loop-source.invariant.1 all good are),
    )

pub returns-clause-sound : goal.returns-clause-sound
returns-clause-sound c other e =
    let P = IsValueBy (fields_of c.args.fields.now) in
    let none : c.loop-source.left.now ≡ [] = nil_from_length c.loop-source.left.now c.in_default.ensures.cases in
    let row : c.loop-source.row ≡ other = cc e in
    subst (λ (xs : List Value). ArePaired P c.args.sources.now xs) row (so_all P c.args.sources.now c.loop-source.left.now c.loop-source.row none c.loop-source.invariant.0)

pub returns-clause-again : goal.returns-clause-again
returns-clause-again c other all are =
    let P = IsValueBy (fields_of c.args.fields.now) in
    let none : c.loop-source.left.now ≡ [] = nil_from_length c.loop-source.left.now c.in_default.ensures.cases in
    ap Some (sym (none_left P IsStorable c.loop-source.left.now c.loop-source.row other none (c.loop-source.invariant.1 other all are)))

pub returns-in-None-clause-again : goal.returns-in-None-clause-again
returns-in-None-clause-again c other all are =
    let P = IsValueBy (fields_of c.args.fields.now) in
    let next = next_left P IsStorable c.loop-source.left.now c.in-Some.others.now c.loop-source.row other c.in-Some.source.now c.in-Some.ensures.cases.0 (c.loop-source.invariant.1 other all are) in
    let found = c.value_by.ensures.again next.item next.good next.is in search rules
