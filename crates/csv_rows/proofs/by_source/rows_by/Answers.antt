use Rattle.std.proofs.Common.{◌≡◌, [], ◌∷◌, ◌++◌, map, ap, sym, subst, rules, Some, List}
use Rattle.csv.specs.Records.{fields_of}
use Rattle.sqlval.specs.Value.{Row}
use Rattle.sqlrecord.specs.Storable.{AllStorable}
use Rattle.csv_rows.specs.Paired.{ArePaired}
use Rattle.csv_rows.specs.Written.{IsRowBy}
use Rattle.std.proofs.lemmas.List.{nil_from_length}
use Rattle.csv_rows.proofs.Paired.{all_left, less_left, next_left, none_left, so_all, so_more}
use Rattle.csv_rows.proofs.by_source.rows_by.Goals as goal

pub loop-record-init : goal.loop-record-init
loop-record-init c = rw c.new-rows.ensures (λ more are. are, λ all good are. all_left (IsRowBy c.args.sources.now) AllStorable (map fields_of c.args.records.now) all good are)

pub loop-record-preserved : goal.loop-record-preserved
loop-record-preserved c =
    let P = IsRowBy c.args.sources.now in
    let left = ap (map fields_of) c.in-Some.ensures.cases.0 in
    let rows : c.push.new.self ≡ c.loop-record.rows ++ c.in-Some-2.row ∷ [] = search rules in
    rw rows (
      so_more P (map fields_of c.args.records.now) (map fields_of c.loop-record.left.now) (map fields_of c.in-Some.others.now) c.loop-record.rows (fields_of c.in-Some.record.now) c.in-Some-2.row left
          (let found = c.row_by.ensures.sound in search rules) c.loop-record.invariant.0,
      λ all good are. less_left P AllStorable (map fields_of c.loop-record.left.now) (map fields_of c.in-Some.others.now) c.loop-record.rows all (fields_of c.in-Some.record.now) c.in-Some-2.row left
          (λ y fine is. let found = c.row_by.ensures.again y fine is in search rules) (c.loop-record.invariant.1 all good are),
    )

pub returns-clause-sound : goal.returns-clause-sound
returns-clause-sound c other e =
    let P = IsRowBy c.args.sources.now in
    let none : map fields_of c.loop-record.left.now ≡ [] = ap (map fields_of) (nil_from_length c.loop-record.left.now c.in_default.ensures.cases) in
    let rows : c.loop-record.rows ≡ other = cc e in
    subst (λ (xs : List Row). ArePaired P (map fields_of c.args.records.now) xs) rows
    (so_all P (map fields_of c.args.records.now) (map fields_of c.loop-record.left.now) c.loop-record.rows none c.loop-record.invariant.0)

pub returns-clause-again : goal.returns-clause-again
returns-clause-again c other all are =
    let P = IsRowBy c.args.sources.now in
    let none : map fields_of c.loop-record.left.now ≡ [] = ap (map fields_of) (nil_from_length c.loop-record.left.now c.in_default.ensures.cases) in
    ap Some (sym (none_left P AllStorable (map fields_of c.loop-record.left.now) c.loop-record.rows other none (c.loop-record.invariant.1 other all are)))

pub returns-in-None-clause-again : goal.returns-in-None-clause-again
returns-in-None-clause-again c other all are =
    let P = IsRowBy c.args.sources.now in
    let next = next_left P AllStorable (map fields_of c.loop-record.left.now) (map fields_of c.in-Some.others.now) c.loop-record.rows other (fields_of c.in-Some.record.now)
    (ap (map fields_of) c.in-Some.ensures.cases.0) (c.loop-record.invariant.1 other all are) in
    let found = c.row_by.ensures.again next.item next.good next.is in search rules
