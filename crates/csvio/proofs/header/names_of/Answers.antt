use Rattle.std.proofs.Common.{◌≡◌, suc, [], ◌∷◌, ◌++◌, take, Some, None, sym, ap, ◌∙◌, rules}
use Rattle.csv.specs.Records.{fields_of, field_at}
use Rattle.csvio.specs.TableName.{IsNameIn}
use Rattle.csvio.proofs.Headers.{paired_at, paired_more, paired_whole, taken_whole}
use Rattle.csvio.proofs.header.names_of.Goals as goal

pub loop-field-preserved : goal.loop-field-preserved
loop-field-preserved c =
    let fields = fields_of c.args.fields.now in
    let at = c.loop-field.field-iterator.at in
    let was = c.loop-field.invariant in
    let same : c.next.new.self.row.now ≡ c.args.fields.now = search rules in
    let here : field_at fields at ≡ Some c.in-Some.field.now = search rules in
    let next : c.next.new.self.at ≡ suc at = search rules in
    let names : c.push.new.self ≡ c.loop-field.names ++ c.in-Ok.name ∷ [] = search rules in (
      same,
      rw (next, names) (paired_more IsNameIn fields c.loop-field.names at c.in-Some.field.now c.in-Ok.name was.1 here c.in-Ok.ensures.gives),
      λ others are.
          let there = paired_at IsNameIn fields others at c.in-Some.field.now are here in
          let one : there.item ≡ c.in-Ok.name = c.in-Ok.ensures.only there.item there.is in
          rw (next, names) (there.more ∙ ap (λ x. take at others ++ x ∷ []) one ∙ ap (λ xs. xs ++ c.in-Ok.name ∷ []) (was.2 others are)),
    )

pub returns-clause-names : goal.returns-clause-names
returns-clause-names c =
    let fields = fields_of c.args.fields.now in
    let at = c.loop-field.field-iterator.at in
    let end : field_at fields at ≡ None = search rules in
    paired_whole IsNameIn fields c.loop-field.names at c.loop-field.invariant.1 end

pub returns-clause-only : goal.returns-clause-only
returns-clause-only c = λ others are.
    let fields = fields_of c.args.fields.now in
    let at = c.loop-field.field-iterator.at in
    let end : field_at fields at ≡ None = search rules in
    sym (taken_whole IsNameIn fields others at are end) ∙ c.loop-field.invariant.2 others are

pub returns-in-Err-clause-refused : goal.returns-in-Err-clause-refused
returns-in-Err-clause-refused c = λ ne.
    let fields = fields_of c.args.fields.now in
    let at = c.loop-field.field-iterator.at in
    let here : field_at fields at ≡ Some c.in-Some.field.now = search rules in
    let h = c.in-Err.ensures.refused ne in
    (h.0, λ names are. let there = paired_at IsNameIn fields names at c.in-Some.field.now are here in h.1 there.item there.is)
