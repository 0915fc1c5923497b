-- What a reading of a store keeps.
use Rattle.std.specs.Prelude.{◌≡◌, ℕ, ◌≤◌}
use Rattle.std.proofs.Common.{ap}
use Rattle.store.specs.declared.view.View.{View}
use Rattle.store.specs.Going.{Noted, Goes, reads}
use Rattle.store.specs.View.{Shown, Keeps, seen_by, shown_by}

abbrev pub shown_of : Noted → View → Shown
shown_of a v = shown_by a.shows v a.refused a.damaged a.read

pub goes_keeps : (s t p q : Type 0) (a b : Noted) (v w : View) → Goes reads s t p q a b → w ≡ v
    → Keeps (shown_of a v) (shown_of b w)
goes_keeps s t p q a b v w h e = rw e (record { contents = ap (λ shown. seen_by shown v) h.stays.shows; refused = h.refused; damaged = h.damaged; read = h.read })
