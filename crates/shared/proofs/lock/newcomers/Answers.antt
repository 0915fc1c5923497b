use Rattle.std.proofs.Common.{rules, ◌≡◌, ℕ, ◌+◌, Some, [], ◌∷◌, ◌++◌, List, length, length-append, slice_get, sym, ap, ◌∙◌, subst}
use Rattle.shared.specs.declared.rule.View.{View}
use Rattle.shared.specs.Views.{IsNew, Past, one_more}
use Rattle.shared.proofs.Asking.{each_reply}
use Rattle.shared.proofs.lock.newcomers.Goals as goal

pub loop-number-preserved : goal.loop-number-preserved
loop-number-preserved g c =
    let was = c.loop-number.invariant in
    let n = c.newcomer-caller.ensures in
    let old = c.loop-number.callers.items in
    let one : Past = c.newcomer-caller.result in
    let pushed : c.push.new.self.items ≡ old ++ one ∷ [] = search rules in
    let new : IsNew (length old) one = (n.caller.0 ∙ ap (λ (v : View). v.names) was.1 ∙ sym was.2, n.caller.1, n.caller.2, n.caller.3) in (
      n.keeper.0 ∙ was.0,
      n.keeper.1 ∙ ap one_more was.1,
      ap length pushed ∙ length-append old (one ∷ []) ∙ ap (λ k. k + 1) was.2,
      subst (λ (l : List Past). (k : ℕ) (caller : Past) → slice_get l k ≡ Some caller → IsNew k caller) (sym pushed) (each_reply IsNew old one was.3 new),
    )
