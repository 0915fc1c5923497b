use Rattle.std.proofs.Common.{◌≡◌, ◌≤◌, length}
use Rattle.pool.specs.Pages.{pages_in}
use Rattle.overlay.specs.Layers.{size_of}
use Rattle.overlay.proofs.LayerLemmas.{IsSettling}
use Rattle.overlay.proofs.layers.settle_all.Given as goal

abbrev pub invariant-loop-number : goal.invariant-loop-number
invariant-loop-number l = record {
  settling : IsSettling (pages_in l.fresh) (pages_in l.initial.settled) (pages_in l.settled) l.numbers l.number-index;
  long : length l.fn.settled ≤ l.fn.count → length l.settled ≤ l.count;
  counted : l.count ≡ size_of (pages_in l.settled);
}
