use Rattle.std.proofs.Common.{◌≡◌, true, false, sym, ◌∙◌}
use Rattle.catalog_records.specs.Keepable.{IsConstraintOver, IsIndexOver}
use Rattle.catalog_records.proofs.Exits.{refused_front}
use Rattle.catalog_records.proofs.TableLemmas.{table_front, table_parts, table_is, all_over}
use Rattle.catalog_records.proofs.schema.table_first.Goals as goal

pub returns-in_err-name-clause-again : goal.returns-in_err-name-clause-again
returns-in_err-name-clause-again c = λ t more good ends e.
    let bad : false ≡ true = c.in_err-name.ensures.again t.name t.root good.root (table_front t more _ _ e) in absurd (cc)

pub returns-in_err-columns-clause-again : goal.returns-in_err-columns-clause-again
returns-in_err-columns-clause-again c = λ t more good ends e.
    let p = table_parts t more c.in_ok-name.name.now c.in_ok-name.root _ _ ends c.in_ok-name.ensures.sound e in
    refused_front _ c.in_err-columns.field-0.0 t more c.from_residual-in_err-columns.ensures.1 (c.in_err-columns.ensures.again t.columns _ good.columns p.columns_end p.left)

pub returns-in_err-constraints-clause-again : goal.returns-in_err-constraints-clause-again
returns-in_err-constraints-clause-again c = λ t more good ends e.
    let p = table_parts t more c.in_ok-name.name.now c.in_ok-name.root _ _ ends c.in_ok-name.ensures.sound e in
    let q = c.in_ok-columns.ensures.again t.columns _ good.columns p.columns_end p.left in
    refused_front _ c.in_err-constraints.field-0.0 t more c.from_residual-in_err-constraints.ensures.1 (c.in_err-constraints.ensures.again t.constraints _ good.constraints p.constraints_end (sym q.1))

pub returns-in_err-indexes-clause-again : goal.returns-in_err-indexes-clause-again
returns-in_err-indexes-clause-again c = λ t more good ends e.
    let p = table_parts t more c.in_ok-name.name.now c.in_ok-name.root _ _ ends c.in_ok-name.ensures.sound e in
    let q = c.in_ok-columns.ensures.again t.columns _ good.columns p.columns_end p.left in
    let r = c.in_ok-constraints.ensures.again t.constraints _ good.constraints p.constraints_end (sym q.1) in
    refused_front _ c.in_err-indexes.field-0.0 t more c.from_residual-in_err-indexes.ensures.1 (c.in_err-indexes.ensures.again t.indexes _ good.indexes p.indexes_end (sym r.1))

pub returns-then-not-are_constraints_over-clause-again : goal.returns-then-not-are_constraints_over-clause-again
returns-then-not-are_constraints_over-clause-again c = λ t more good ends e.
    let p = table_parts t more c.in_ok-name.name.now c.in_ok-name.root _ _ ends c.in_ok-name.ensures.sound e in
    let q = c.in_ok-columns.ensures.again t.columns _ good.columns p.columns_end p.left in
    let r = c.in_ok-constraints.ensures.again t.constraints _ good.constraints p.constraints_end (sym q.1) in
    let yes : c.are_constraints_over.result ≡ true = c.are_constraints_over.ensures.1 (all_over IsConstraintOver c.len.result _ t.columns c.as_slice.result.now _ t.constraints c.len.ensures q.0 c.as_slice.ensures r.0 good.constraints_over) in
    absurd (cc (yes, c.if-not-are_constraints_over.true))

pub returns-then-not-are_indexes_over-clause-again : goal.returns-then-not-are_indexes_over-clause-again
returns-then-not-are_indexes_over-clause-again c = λ t more good ends e.
    let p = table_parts t more c.in_ok-name.name.now c.in_ok-name.root _ _ ends c.in_ok-name.ensures.sound e in
    let q = c.in_ok-columns.ensures.again t.columns _ good.columns p.columns_end p.left in
    let r = c.in_ok-constraints.ensures.again t.constraints _ good.constraints p.constraints_end (sym q.1) in
    let s = c.in_ok-indexes.ensures.again t.indexes _ good.indexes p.indexes_end (sym r.1) in
    let yes : c.are_indexes_over.result ≡ true = c.are_indexes_over.ensures.1 (all_over IsIndexOver c.len-2.result _ t.columns c.as_slice-2.result.now _ t.indexes c.len-2.ensures q.0 c.as_slice-2.ensures s.0 good.indexes_over) in
    absurd (cc (yes, c.if-not-are_indexes_over.true))

pub returns-clause-again : goal.returns-clause-again
returns-clause-again c = λ t more good ends e.
    let p = table_parts t more c.in_ok-name.name.now c.in_ok-name.root _ _ ends c.in_ok-name.ensures.sound e in
    let q = c.in_ok-columns.ensures.again t.columns _ good.columns p.columns_end p.left in
    let r = c.in_ok-constraints.ensures.again t.constraints _ good.constraints p.constraints_end (sym q.1) in
    let s = c.in_ok-indexes.ensures.again t.indexes _ good.indexes p.indexes_end (sym r.1) in
    (table_is t _ _ _ _ _ (c.in_ok-name-2.ensures.copied ∙ p.name_is) q.0 r.0 s.0 p.root_is, s.1)
