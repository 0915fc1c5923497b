use Rattle.std.proofs.Common.{◌+◌, true, false, refl, sym, ◌∙◌, arith}
use Rattle.pool.specs.Pages.{over}
use Rattle.pool.specs.Versions.{versions_of, refused_of}
use Rattle.overlay.specs.WriteSet.{private_of}
use Rattle.overlay.specs.Layers.{size_of}
use Rattle.overlay.specs.Whole.{IsWhole, AtLimit}
use Rattle.overlay.proofs.FreeLemmas.{read_more}
use Rattle.overlay.proofs.TakeLemmas.{takes_new, never_behind, at_most_pages, is_none, written_there}
use Rattle.overlay.proofs.takes.page_to_take.Goals as goal

pub returns-in-Ok-clause-taken : goal.returns-in-Ok-clause-taken
returns-in-Ok-clause-taken g c = c.in-Ok.ensures.taken

pub returns-in-Err-clause-refusal : goal.returns-in-Err-clause-refusal
returns-in-Err-clause-refusal g c =
    read_more c.in-Err.fault (AtLimit (over (private_of c.args.changes.now) ((versions_of c.take_first.new.pool).pages c.args.at) 0) (size_of (private_of c.args.changes.now)))
    (IsWhole (over (private_of c.args.changes.now) ((versions_of c.args.pool.now).pages c.args.at)) → ⊥) (IsWhole (over (private_of c.args.changes.now) ((versions_of c.args.pool.now).pages c.args.at)) → ⊥)
    (refused_of c.args.pool.now) (refused_of c.args.pool.now) (refused_of c.take_first.new.pool)
    (λ never. never) (omega arith) c.in-Err.ensures.refusal

pub returns-then-page-ge-MOST_PAGES-clause-refusal : goal.returns-then-page-ge-MOST_PAGES-clause-refusal
returns-then-page-ge-MOST_PAGES-clause-refusal g c =
    at_most_pages (over (private_of c.args.changes.now) ((versions_of c.args.pool.now).pages c.args.at) 0) c.args.header c.requires.says c.if-page-ge-MOST_PAGES.true (let none = c.if-first-gt0.false in omega (arith, none))

pub returns-then-has-clause-refusal : goal.returns-then-has-clause-refusal
returns-then-has-clause-refusal g c =
    never_behind (over (private_of c.args.changes.now) ((versions_of c.args.pool.now).pages c.args.at)) c.args.header c.requires.says c.requires.bounds (written_there ((versions_of c.args.pool.now).pages c.args.at) (private_of c.args.changes.now) c.args.header.page_count (sym c.has.ensures ∙ c.if-has.true))

pub returns-clause-taken : goal.returns-clause-taken
returns-clause-taken g c =
    takes_new ((versions_of c.args.pool.now).pages c.args.at) (private_of c.args.changes.now) c.args.header (record { page_count = c.args.header.page_count + 1; first_free = 0; catalog_root = c.args.header.catalog_root })
    c.requires.says c.requires.bounds (let none = c.if-first-gt0.false in omega (arith, none)) (let few = c.if-page-ge-MOST_PAGES.false in omega (arith, few))
    (is_none ((private_of c.args.changes.now) c.args.header.page_count) (sym c.has.ensures ∙ c.if-has.false)) refl refl refl
