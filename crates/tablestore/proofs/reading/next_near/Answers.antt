use Rattle.std.proofs.Common.{◌≡◌, sym, ◌∙◌}
use Rattle.sqlrecord.specs.declared.error.DecodeError.TheVariants as decode
use Rattle.store.specs.Indexes.{entry_after}
use Rattle.tablestore.specs.Held.{HoldsNoRows, HoldsNoFitting}
use Rattle.tablestore.proofs.NumberLemmas.{kept_after, fitting_after}
use Rattle.tablestore.proofs.RefusalLemmas.{reads_weaker}
use Rattle.tablestore.proofs.reading.next_near.Goals as goal

pub returns-in-Ok-clause-found : goal.returns-in-Ok-clause-found
returns-in-Ok-clause-found g c = λ owned rows h.
    c.in-Ok.ensures.kept (entry_after c.args.after rows) (kept_after c.args.after rows h.holds.kept) (fitting_after c.args.columns.now c.args.after rows h.fits) (c.in_ok-found.ensures.found owned rows h.holds)

pub returns-in_err-found-clause-refusal : goal.returns-in_err-found-clause-refusal
returns-in_err-found-clause-refusal g c =
    reads_weaker _ c.in_err-found.field-0.0 (HoldsNoRows (g.R.PageReader.pages c.args.space.now) c.args.root) (HoldsNoFitting (g.R.PageReader.pages c.args.space.now) c.args.root c.args.columns.now)
    _ _ c.from_residual.ensures.1 (λ none owned rows h. none owned rows h.holds) c.in_err-found.ensures.refusal

pub returns-clause-refusal : goal.returns-clause-refusal
returns-clause-refusal g c = λ owned rows h.
    let bad : decode.Damaged ≡ decode.OutOfMemory = sym c.in-Err-Damaged.field-0-is
    ∙ c.in-Err-Damaged.ensures.kept (entry_after c.args.after rows) (kept_after c.args.after rows h.holds.kept) (fitting_after c.args.columns.now c.args.after rows h.fits) (c.in_ok-found.ensures.found owned rows h.holds) in
    absurd (cc)
