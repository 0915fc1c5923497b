use Rattle.std.proofs.Common.{◌≡◌, ◌≤◌, ℕ, None, ap, sym, ◌∙◌, arith, length}
use Rattle.pool.specs.Pages.{PageMap, pages_in, over}
use Rattle.overlay.specs.Layers.{size_of}
use Rattle.overlay.proofs.LayerLemmas.{size_empty, over_none}
use Rattle.overlay.proofs.write_set.WriteSet.all_pages.Goals as goal

pub settle_all-requires-clause-counted : goal.settle_all-requires-clause-counted
settle_all-requires-clause-counted c = sym (size_empty (pages_in c.new-set.result) (ap pages_in c.new-set.ensures))

pub returns-clause-pages : goal.returns-clause-pages
returns-clause-pages c =
    let s = c.args.self.now in
    let none : pages_in c.new-set.result ≡ (λ n. None) = ap pages_in c.new-set.ensures in
    c.in_ok-settle_all-3.ensures.settled ∙ ap (over (pages_in s.fresh)) (c.in_ok-settle_all-2.ensures.settled ∙ ap (over (pages_in s.newer)) (c.in_ok-settle_all.ensures.settled ∙ over_none (pages_in s.older) (pages_in c.new-set.result) none))

pub returns-clause-most : goal.returns-clause-most
returns-clause-most c =
    let s = c.args.self.now in
    let none : pages_in c.new-set.result ≡ (λ n. None) = ap pages_in c.new-set.ensures in
    let long = c.settle_all-3.ensures.long (c.settle_all-2.ensures.long (c.settle_all.ensures.long (let empty = ap length c.new-set.ensures in omega (arith, empty)))) in
    let size = ap size_of (c.in_ok-settle_all-3.ensures.settled ∙ ap (over (pages_in s.fresh)) (c.in_ok-settle_all-2.ensures.settled ∙ ap (over (pages_in s.newer)) (c.in_ok-settle_all.ensures.settled ∙ over_none (pages_in s.older) (pages_in c.new-set.result) none))) in
    let count = c.settle_all-3.ensures.counted in let private = s.private_counted in let few = s.few in
    fits _ _ _ _ long count size _ private few
  where
    fits : (a b x y : ℕ) → a ≤ b → b ≡ x → x ≡ y → (n : ℕ) → n ≡ y → n ≤ 1024 → a ≤ 1024
    fits a b x y le e f n g h = omega (arith, le, e, f, g, h)
