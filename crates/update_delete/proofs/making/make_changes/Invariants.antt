use Rattle.store.specs.Going.{Going}
use Rattle.store.specs.Stored.{IsAlone}
use Rattle.update_delete.proofs.Reaching.{LeavesNone}
use Rattle.update_delete.proofs.Standing.{StandsAt}
use Rattle.update_delete.proofs.making.make_changes.Given as goal

-- where the store stands, with the numbers and the changes that are left; these put no row where
-- none of all does
abbrev pub invariant-loop-change : goal.invariant-loop-change
invariant-loop-change g l = record {
  stands : g.S.Store.is_sound l.fn.store → StandsAt (g.S.Store.shows l.fn.store) l.name l.numbers l.fn.changes (g.S.Store.shows l.store) l.rest l.change-iterator.rest.items;
  none : LeavesNone l.fn.changes l.change-iterator.rest.items;
  alone : IsAlone (g.S.Store.shows l.fn.store) (g.S.Store.shows l.store);
  goes : g.S.Store.goes_on l.fn.store l.store Going.changes;
}
