use Rattle.std.proofs.Common.{◌≡◌, ◌∙◌, sym, ap, true, false, List, ℕ}
use Rattle.sqlval.specs.Schema.{is_named}
use Rattle.database_trees.proofs.UnindexLemmas.{not_both}
use Rattle.database_trees.proofs.unindexing.drop_if_named.Goals as goal

pub returns-then-is_named-clause-dropped : goal.returns-then-is_named-clause-dropped
returns-then-is_named-clause-dropped g c = λ named. c.drop_tree.ensures.dropped

pub returns-then-is_named-clause-same : goal.returns-then-is_named-clause-same
returns-then-is_named-clause-same g c = λ other. absurd (not_both _ (sym (c.is_named.ensures ∙ ap (λ (n : List ℕ). is_named n c.args.index.now.name) c.as_slice.ensures.codes) ∙ c.if-is_named.true) other)

pub returns-else-is_named-clause-dropped : goal.returns-else-is_named-clause-dropped
returns-else-is_named-clause-dropped g c = λ named. absurd (not_both _ named (sym (c.is_named.ensures ∙ ap (λ (n : List ℕ). is_named n c.args.index.now.name) c.as_slice.ensures.codes) ∙ c.if-is_named.false))

pub returns-else-is_named-clause-follows : goal.returns-else-is_named-clause-follows
returns-else-is_named-clause-follows g c = g.met.S.PageReader.follows_refl _
