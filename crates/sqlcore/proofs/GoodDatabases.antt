-- What a session sees of a good world.
use Rattle.std.proofs.Common.{◌≡◌, ℕ, [], Option, Some, None, refl, sym, subst}
use Rattle.denote.specs.Database.{Database, CheckReading, IsGood}
use Rattle.session_definitions.specs.World.{Transaction}
use Rattle.session_laws.specs.Sound.{IsGoodWorld}
use Rattle.store.specs.Stored.{Stored}
use Rattle.transactions.specs.Orderly.{IsOrderly}
use Rattle.transactions.specs.Shown.{Kept, Slots, slot_at, session_of, shown}
use Rattle.transactions.proofs.Obstacles.{runs}
use Rattle.transactions.proofs.SlotLemmas.{stands}
use Rattle.sessions.specs.Seen.{seen_in}
use Rattle.sessions.proofs.QuerySteps.{sees}

pub good_seen : (reading : CheckReading) (st : Stored) (writer : Option ℕ) (slots : Slots) (s : ℕ) (kept : Kept) → IsOrderly st writer → slot_at slots s ≡ Some kept
    → IsGoodWorld reading (shown st writer slots) → IsGood reading (seen_in st writer s)
good_seen reading st writer slots s kept order is good =
    subst (λ (db : Database). IsGood reading db) (sym (sees st writer s kept order)) (by (session_of st writer s kept).transaction refl)
  where
    by : (o : Option Transaction) → (session_of st writer s kept).transaction ≡ o → IsGood reading (runs st writer s kept).working
    by None e = rw e good.last
    by (Some t) e = rw e (good.transactions s (session_of st writer s kept) t (stands st writer slots s kept is) e).1
