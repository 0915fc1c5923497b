use Rattle.std.proofs.Common.{◌≡◌, sym, ◌∙◌}
use Rattle.sqlrecord.specs.declared.error.DecodeError.TheVariants as decode
use Rattle.store.specs.Indexes.{some_after}
use Rattle.tablestore.specs.Held.{IsKept, Fits, HoldsNoRows, HoldsNoFitting}
use Rattle.tablestore.proofs.BlockLemmas.{some_all}
use Rattle.tablestore.proofs.RefusalLemmas.{reads_weaker}
use Rattle.tablestore.proofs.reading.some_rows.Goals as goal

pub returns-in-Ok-clause-found : goal.returns-in-Ok-clause-found
returns-in-Ok-clause-found g c = λ owned rows h.
    c.in-Ok.ensures.kept (some_after c.args.after c.args.most rows) (some_all IsKept c.args.after c.args.most rows h.holds.kept)
    (some_all (Fits c.args.columns.now) c.args.after c.args.most rows h.fits) (c.in_ok-block.ensures.found owned rows h.holds)

pub returns-in_err-block-clause-refusal : goal.returns-in_err-block-clause-refusal
returns-in_err-block-clause-refusal g c =
    reads_weaker _ c.in_err-block.field-0.0 (HoldsNoRows (g.R.PageReader.pages c.args.space.now) c.args.root) (HoldsNoFitting (g.R.PageReader.pages c.args.space.now) c.args.root c.args.columns.now)
    _ _ c.from_residual.ensures.1 (λ none owned rows h. none owned rows h.holds) c.in_err-block.ensures.refusal

pub returns-clause-refusal : goal.returns-clause-refusal
returns-clause-refusal g c = λ owned rows h.
    let bad : decode.Damaged ≡ decode.OutOfMemory = sym c.in-Err-Damaged.field-0-is
    ∙ c.in-Err-Damaged.ensures.kept (some_after c.args.after c.args.most rows) (some_all IsKept c.args.after c.args.most rows h.holds.kept)
    (some_all (Fits c.args.columns.now) c.args.after c.args.most rows h.fits) (c.in_ok-block.ensures.found owned rows h.holds) in
    absurd (cc)
