use Rattle.std.proofs.Common.{List, ℕ, sym, subst}
use Rattle.sqlrecord.specs.Page.{IsNode}
use Rattle.page_cache.proofs.frame.Frame.new.Goals as goal

pub invariant_of-result : goal.invariant_of-result
invariant_of-result c = λ known. subst (λ (p : List ℕ). IsNode p) (sym c.in_ok-bytes.ensures) (c.is_node-known.ensures known)
