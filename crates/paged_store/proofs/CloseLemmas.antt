-- What closing leaves.
use Rattle.std.proofs.Common.{◌≡◌, ◌∙◌, sym, ap, subst, ℕ, Bool, List, IsTrue, inr}
use Rattle.std.specs.Ordering.{nat_cmp}
use Rattle.std.specs.FinMap.{FinMap, empty}
use Rattle.denote.specs.Database.{Database}
use Rattle.store.specs.Contents.{database_of}
use Rattle.store.specs.Errors.{HasRisen}
use Rattle.store.specs.Stored.{closed}
use Rattle.store.specs.declared.error.StoreError.{StoreError}
use Rattle.store.specs.declared.error.StoreError.TheVariants as refused
use Rattle.pool.specs.Pages.{PageMap, over}
use Rattle.pool.specs.Refused.{IsOfDevice}
use Rattle.pool.specs.Versions.{Versions}
use Rattle.pool.specs.declared.error.PoolError.{PoolError}
use Rattle.snapshot_pins.specs.Pinned.{KeepsFound}
use Rattle.database_versions.specs.Databases.{nothing, contents_in, known_contents, IsDatabase, IsOwned}
use Rattle.database_versions.specs.Refusals.{of_pool}
use Rattle.database_versions.specs.Saved.{HoldsDatabase, HoldsOwned, IsClosed}
use Rattle.database_versions.proofs.RefusalLemmas.{of_device}
use Rattle.paged_store.specs.Saved.{IsSavedAlone}
use Rattle.paged_store.specs.SeenLemmas.{known_is}
use Rattle.paged_store.specs.Shown.{stored}
use Rattle.paged_store.specs.Sound.{IsSound}
use Rattle.paged_store.proofs.PageLemmas.{newest_kept, none_private}
use Rattle.paged_store.proofs.ShownLemmas.{shown_closed}
use Rattle.paged_store.proofs.SoundLemmas.{sound_alone, sound_moved}

pub closed_saved : (honest : Bool) (file : List ℕ) (v w : Versions) (numbers now : FinMap nat_cmp ℕ) (written settled : PageMap)
    → (IsTrue honest → IsDatabase (w.pages w.last) nothing → HoldsDatabase file (database_of (contents_in (w.pages w.last) nothing)))
    → (IsTrue honest → IsOwned (w.pages w.last) nothing → HoldsOwned file) → (IsTrue honest → IsDatabase (w.pages w.last) nothing → IsClosed file) → KeepsFound now v w
    → IsSound honest v numbers written settled → IsSavedAlone honest file (database_of (known_contents honest (v.pages v.last) nothing))
closed_saved honest file v w numbers now written settled held owned shut kept sound =
    let newest : w.pages w.last ≡ v.pages v.last = newest_kept v w kept.last kept.newest in
    let last : IsOwned (w.pages w.last) nothing = subst (λ (p : PageMap). IsOwned p nothing) (sym newest) sound.last in (
      sound.device,
      inr (record {
        holds = subst (λ (db : Database). HoldsDatabase file db)
            (ap database_of (ap (λ (p : PageMap). contents_in p nothing) newest ∙ sym (known_is honest (v.pages v.last) nothing sound.device))) (held sound.device last.is);
        owned = owned sound.device last;
        closed = shut sound.device last.is;
      }),
    )

module _ (honest : Bool) (v w x : Versions) (numbers now : FinMap nat_cmp ℕ) (written settled fresh_now settled_now : PageMap) (none : now ≡ empty) (kept : KeepsFound now v w) (same : x ≡ w)
    (a : fresh_now ≡ nothing) (b : settled_now ≡ nothing) where
  pub closed_shows : stored honest x now (over fresh_now settled_now) settled_now ≡ closed (stored honest v numbers written settled)
  closed_shows = ap (λ (y : Versions). stored honest y now (over fresh_now settled_now) settled_now) same
      ∙ shown_closed honest v w numbers now written settled fresh_now settled_now none kept (none_private fresh_now settled_now a b) b

  pub closed_sound : IsSound honest v numbers written settled → IsSound honest x now (over fresh_now settled_now) settled_now
  closed_sound sound = sound_moved honest w x now written settled (over fresh_now settled_now) settled_now same (inr (inr (none_private fresh_now settled_now a b))) (inr (inr b))
      (sound_alone honest v w numbers now written settled none kept sound)

-- a refusal is that of the device
pub closed_refused : (k m n : ℕ) (error : PoolError) (told : StoreError) → told ≡ of_pool error → m ≡ k → IsOfDevice m n error
    → (told ≡ refused.Device) × HasRisen k n
closed_refused k m n error told is same h =
    let risen = of_device m n error h in
    (is ∙ risen.0, subst (λ (c : ℕ). HasRisen c n) same risen.1)
