-- What reading keeps.
use Rattle.std.specs.Prelude.{◌≡◌, ℕ, ◌≤◌, refl}
use Rattle.std.proofs.Common.{◌∙◌, arith}
use Rattle.pool.specs.Versions.{Versions}
use Rattle.overlay.specs.declared.write_set.WriteSet.{WriteSet}
use Rattle.overlay.specs.WriteSet.{settled_of, undone_of}

-- the pool shows what it showed, the count of refused calls does not fall, and nothing was written
-- on the device
pub record IsRead (old new : Versions) (refused_old refused_new writes_old writes_new : ℕ) : Type 0 where
  pub versions : new ≡ old
  pub rising : refused_old ≤ refused_new
  pub writes : writes_new ≡ writes_old

pub read_none : (v : Versions) (n w : ℕ) → IsRead v v n n w w
read_none v n w = record { versions = refl; rising = omega arith; writes = refl }

pub read_on : (u v w : Versions) (k m n i j l : ℕ) → IsRead u v k m i j → IsRead v w m n j l → IsRead u w k n i l
read_on u v w k m n i j l h g =
    let x = h.rising in
    let y = g.rising in
    record { versions = g.versions ∙ h.versions; rising = omega arith; writes = g.writes ∙ h.writes }

-- the pages that a transaction wrote before the mark stay, and so does what is kept of the pages
-- that were undone last
pub record IsAfterMark (old new : WriteSet) : Type 0 where
  pub settled : settled_of new ≡ settled_of old
  pub undone : undone_of new ≡ undone_of old

pub mark_none : (c : WriteSet) → IsAfterMark c c
mark_none c = record { settled = refl; undone = refl }

pub mark_on : (a b c : WriteSet) → IsAfterMark a b → IsAfterMark b c → IsAfterMark a c
mark_on a b c h g = record { settled = g.settled ∙ h.settled; undone = g.undone ∙ h.undone }
