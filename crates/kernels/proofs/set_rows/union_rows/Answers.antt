use Rattle.std.proofs.Common.{◌≡◌, sym, ◌∙◌, ap}
use Rattle.std.proofs.lemmas.Result.{IfOk-weaker}
use Rattle.typing.specs.declared.typed.SetOperator.TheVariants.{Union}
use Rattle.algebra.specs.Listing.{combined_in_order}
use Rattle.denote.specs.Bag.{distinct}
use Rattle.kernels.proofs.Firsts.{union-all, union-distinct}
use Rattle.kernels.proofs.set_rows.union_rows.Goals as goal

pub returns-then-all : goal.returns-then-all
returns-then-all c = c.in_ok-append.ensures.ok ∙ sym (union-all c.args.left c.args.right)
    ∙ ap (λ all. combined_in_order (record { operator = Union; all = all }) c.args.left c.args.right) (sym c.if-all.true)

pub returns-else-all : goal.returns-else-all
returns-else-all c = IfOk-weaker c.distinct_rows.result (λ found. found ≡ distinct c.append.new.self) (λ found. found ≡ combined_in_order (record { operator = Union; all = c.args.all }) c.args.left c.args.right)
    (λ found h. h ∙ ap distinct c.in_ok-append.ensures.ok ∙ sym (union-distinct c.args.left c.args.right)
    ∙ ap (λ all. combined_in_order (record { operator = Union; all = all }) c.args.left c.args.right) (sym c.if-all.false)) c.distinct_rows.ensures
