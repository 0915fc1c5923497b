use Rattle.std.proofs.Common.{◌∙◌, sym, ap, subst, Some, List, ℕ}
use Rattle.sqlrecord.specs.Page.{IsNode}
use Rattle.page_cache.proofs.FrameLemmas.{looked_up, still_clean}
use Rattle.page_cache.proofs.cache.PageCache.copy.Goals as goal

pub returns-clause-found : goal.returns-clause-found
returns-clause-found c shows clean = looked_up shows c.args.self.now.frames.entries c.args.number c.in-Some.frame.now clean (sym c.in-Some.ensures) ∙ ap (λ (p : List ℕ). Some p) (sym c.page.ensures)

pub returns-clause-clean : goal.returns-clause-clean
returns-clause-clean c shows clean = still_clean shows c.args.self.now.frames c.promote.new.self c.args.number c.promote.ensures.entries clean

pub returns-clause-node : goal.returns-clause-node
returns-clause-node c = λ known. subst (λ (p : List ℕ). IsNode p) (sym c.page.ensures) (c.is_node-known.ensures known)
