use Rattle.std.proofs.Common.{◌+◌, ◌<◌, ◌^◌, ◌∙◌, sym, rules, arith}
use Rattle.pool.specs.Pages.{pages_in}
use Rattle.overlay.proofs.LayerLemmas.{size_put, size_put_more, count_fits}
use Rattle.overlay.proofs.layers.put_counted.Goals as goal

pub returns-then-has_page-clause-counted : goal.returns-then-has_page-clause-counted
returns-then-has_page-clause-counted c = size_put c.args.number c.args.page.now (pages_in c.args.set.now) _ _ c.in_ok-put_copy.ensures.put (sym c.has_page.ensures ∙ c.if-has_page.true) c.requires

pub overflow_add-count : goal.overflow_add-count
overflow_add-count c = let fits : c.args.count.now + 1 < 2 ^ 64 = count_fits (pages_in c.args.set.now) _ c.requires in search rules

pub returns-clause-counted : goal.returns-clause-counted
returns-clause-counted c =
    size_put_more c.args.number c.args.page.now (pages_in c.args.set.now) _ _ c.in_ok-put_copy-2.ensures.put c.ranges.number.fits (sym c.has_page.ensures ∙ c.if-has_page.false) c.requires

pub returns-then-has_page-clause-long : goal.returns-then-has_page-clause-long
returns-then-has_page-clause-long c le = let same = c.in_ok-put_copy.ensures.same_len (sym c.has_page.ensures ∙ c.if-has_page.true) in omega (arith, le, same)

pub returns-clause-long : goal.returns-clause-long
returns-clause-long c le = let more = c.in_ok-put_copy-2.ensures.len in omega (arith, le, more)
