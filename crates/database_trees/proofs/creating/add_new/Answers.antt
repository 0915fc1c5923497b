use Rattle.std.proofs.Common.{arith, sym, subst, ◌∙◌, IfOk}
use Rattle.stored_tables.proofs.ChangeLemmas.{whole_later}
use Rattle.page_space.specs.Space.{PageMap}
use Rattle.btree.specs.Kept.{LosesNoPage}
use Rattle.catalog.specs.Held.{HoldsSchema, HoldsNoSchema}
use Rattle.catalog.specs.Changed.{with_table, SchemaWritten, HoldsNoSchemaIn}
use Rattle.database_trees.proofs.RefusalLemmas.{read_refused, refused_later}
use Rattle.database_trees.proofs.creating.add_new.Goals as goal

pub returns-then-are-clause-added : goal.returns-then-are-clause-added
returns-then-are-clause-added g c = λ owned tables held good free.
    subst (λ (p : PageMap). IfOk c.add_fitting.result (SchemaWritten p (g.S.PageReader.pages c.add_fitting.new.space) owned (with_table c.args.table.now tables))) c.are_references_in.ensures.same
    (c.add_fitting.ensures.added owned tables (subst (λ (p : PageMap). HoldsSchema p c.args.root owned tables) (sym c.are_references_in.ensures.same) held) good free (sym (c.in-Ok.ensures.found owned tables held) ∙ c.if-are.true))

pub returns-then-are-clause-keeps : goal.returns-then-are-clause-keeps
returns-then-are-clause-keeps g c = subst (λ (p : PageMap). IfOk c.add_fitting.result (LosesNoPage p (g.S.PageReader.pages c.add_fitting.new.space) c.args.root)) c.are_references_in.ensures.same c.add_fitting.ensures.keeps

pub returns-then-are-clause-limits : goal.returns-then-are-clause-limits
returns-then-are-clause-limits g c = c.add_fitting.ensures.limits

pub returns-then-are-clause-whole : goal.returns-then-are-clause-whole
returns-then-are-clause-whole g c = whole_later c.add_fitting.result (g.S.PageReader.is_whole c.args.space.now) (g.S.PageReader.is_whole c.are_references_in.new.space) (g.S.PageReader.is_whole c.add_fitting.new.space) c.are_references_in.ensures.whole c.add_fitting.ensures.whole

pub returns-then-are-clause-refusal : goal.returns-then-are-clause-refusal
returns-then-are-clause-refusal g c =
    refused_later c.add_fitting.result (g.S.PageSpace.at_limit c.add_fitting.new.space) (HoldsNoSchemaIn (g.S.PageReader.pages c.are_references_in.new.space) c.args.root (g.S.PageReader.is_whole c.are_references_in.new.space)) (HoldsNoSchemaIn (g.S.PageReader.pages c.args.space.now) c.args.root (g.S.PageReader.is_whole c.args.space.now)) (g.S.PageReader.refused c.args.space.now) (g.S.PageReader.refused c.are_references_in.new.space) (g.S.PageReader.refused c.add_fitting.new.space)
    (λ none owned tables held whole. none owned tables (subst (λ (p : PageMap). HoldsSchema p c.args.root owned tables) (sym c.are_references_in.ensures.same) held) (c.are_references_in.ensures.whole whole)) c.are_references_in.ensures.rising c.add_fitting.ensures.refusal

pub returns-then-are-clause-rising : goal.returns-then-are-clause-rising
returns-then-are-clause-rising g c = omega (arith, c.are_references_in.ensures.rising, c.add_fitting.ensures.rising)

pub returns-then-are-clause-follows : goal.returns-then-are-clause-follows
returns-then-are-clause-follows g c = g.met.S.PageReader.follows_trans _ _ _ c.are_references_in.ensures.follows c.add_fitting.ensures.follows

pub returns-else-are-clause-rising : goal.returns-else-are-clause-rising
returns-else-are-clause-rising g c = c.are_references_in.ensures.rising

pub returns-else-are-clause-follows : goal.returns-else-are-clause-follows
returns-else-are-clause-follows g c = c.are_references_in.ensures.follows

pub returns-in-Err-clause-refusal : goal.returns-in-Err-clause-refusal
returns-in-Err-clause-refusal g c =
    read_refused c.in-Err.fault (g.S.PageSpace.at_limit c.are_references_in.new.space) (HoldsNoSchema (g.S.PageReader.pages c.args.space.now) c.args.root) (HoldsNoSchemaIn (g.S.PageReader.pages c.args.space.now) c.args.root (g.S.PageReader.is_whole c.args.space.now)) (g.S.PageReader.refused c.args.space.now) (g.S.PageReader.refused c.are_references_in.new.space)
    (λ none owned tables held whole. none owned tables held) c.in-Err.ensures.refusal
