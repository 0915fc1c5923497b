use Rattle.std.proofs.Common.{◌≡◌, None, add-one, ap, arith, length, refl, sym, ◌∙◌}
use Rattle.cursors.specs.ByName.{changed_at, closed_upto, with_cursor}
use Rattle.cursors.proofs.Declarations.{closes_one}
use Rattle.cursors.proofs.named.close_each.Goals as goal

pub loop-at-init : goal.loop-at-init
loop-at-init c = refl

pub loop-at-preserved : goal.loop-at-preserved
loop-at-preserved c =
    c.put_open.ensures.puts ∙ ap (changed_at (with_cursor None) c.loop-at.at) c.loop-at.invariant ∙ closes_one c.loop-at.at c.args.declared.now
    ∙ ap (λ count. closed_upto count c.args.declared.now) (sym (add-one c.loop-at.at))

pub returns : goal.returns
returns c =
    let end : c.loop-at.at ≡ length c.args.declared.now = omega (arith, c.loop-at-test.false, c.loop-at.auto.at-end, c.len-at-end.ensures) in
    c.loop-at.invariant ∙ ap (λ count. closed_upto count c.args.declared.now) end
