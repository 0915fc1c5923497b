use Rattle.std.proofs.Common.{◌≡◌, ◌∙◌, [], ◌∷◌, ◌++◌, map, take, sym, ap}
use Rattle.std.proofs.lemmas.List.{map_more}
use Rattle.csv_rows.specs.declared.source.Source.{Source}
use Rattle.csvio.specs.Forms.{named_source}
use Rattle.csvio.proofs.formed.named_sources.Goals as goal

pub loop-column-preserved : goal.loop-column-preserved
loop-column-preserved c =
    let columns = c.args.columns.now in
    let column = c.column-item.result in
    let at = c.loop-column.column-index in
    let source = named_source c.args.plain c.args.names.now in
    let made : Source = record { place = c.place_of.result; writing = c.writing_of.result } in
    let is : made ≡ source column = λ i. record { place = c.place_of.ensures i; writing = c.writing_of.ensures i } in
    let pushed : c.push.new.self ≡ c.loop-column.sources ++ made ∷ [] = c.in_ok-push.ensures.ok in
    pushed ∙ ap (λ xs. xs ++ made ∷ []) c.loop-column.invariant ∙ ap (λ x. map source (take at columns) ++ x ∷ []) (is ∙ ap source c.column-item.is)
    ∙ sym (map_more source columns at column c.loop-column-test.true)
