use Rattle.std.proofs.Common.{◌∙◌, sym, ap, subst, Some, List, ℕ}
use Rattle.sqlrecord.specs.Page.{IsNode}
use Rattle.page_cache.proofs.FrameLemmas.{put_clean}
use Rattle.page_cache.proofs.cache.PageCache.keep.Goals as goal

pub returns-in-Ok-clause-clean : goal.returns-in-Ok-clause-clean
returns-in-Ok-clause-clean c shows is clean = put_clean c.put.result c.args.self.now.frames c.put.new.self c.args.number c.in-Ok.frame shows c.put.ensures.entries c.put.ensures.err (is ∙ ap (λ (p : List ℕ). Some p) (sym c.in-Ok.ensures)) clean

pub returns-in-Ok-clause-node : goal.returns-in-Ok-clause-node
returns-in-Ok-clause-node c = λ known. subst (λ (p : List ℕ). IsNode p) c.in-Ok.ensures (c.is_node-known.ensures known)
