-- What stands under a last version.
use Rattle.std.proofs.Common.{◌≡◌, ℕ, false, List, Some, refl, inl}
use Rattle.std.specs.Prelude.{IsTrue}
use Rattle.disk.specs.declared.device.Disk.{Ghosts}
use Rattle.disk.specs.Crashes.{Bytes, Always, LeavesOnly}
use Rattle.disk.specs.Keeping.{started}
use Rattle.journal.specs.Versions.{Version, OneOf, IsAmong}
use Rattle.last_version.specs.declared.version.LastVersion.{LastVersion}
use Rattle.last_version.specs.Lasts.{device_under, version_under, shown_by, is_broken, waits_at}
use Rattle.last_version.specs.Standing.{padded_of, left_in, version_of}
use Rattle.last_version.proofs.StandingLemmas.{stands_room, stands_among}
use Rattle.last_version.proofs.ShownLemmas.{stored_page}

module _ {D : Type 0} {device : Ghosts D} (last : LastVersion D device) (honest : IsTrue device.is_honest) (whole : is_broken last ≡ false) where
  -- a page that is not to be written stands in the file
  pub stored_in : (n : ℕ) (page : List ℕ) → waits_at last n ≡ 0 → shown_by last n ≡ Some page → padded_of (device.bytes (device_under last)) n ≡ Some page
  stored_in n page none is =
      stored_page (left_in last.file) last.file.count (device.bytes (device_under last)) n page
      (stands_room device.is_honest device.is_durable last.file.gate last.file.set last.file.written last.file.count (device.bytes (device_under last)) (device.may_leave (device_under last))
      (version_of last.file) (last.stands honest) whole honest)
      none is

  -- whatever a crash leaves stands for its version
  pub is_safe : (x y : Version) → OneOf x y (version_under last) → IsTrue device.is_durable → Always (device.may_leave (device_under last)) (IsAmong x y)
  is_safe x y one durable =
      stands_among device.is_honest device.is_durable last.file.gate last.file.set last.file.written last.file.count (device.bytes (device_under last)) (device.may_leave (device_under last))
      (version_of last.file) (last.stands honest) whole x y one durable honest

  -- where no call is made, nothing else is left
  pub is_calm : ((d : D) (c : Bytes) → IsTrue device.is_durable → device.left_since d (device.moment d) c → device.may_leave d c) → (w : Version) → IsTrue device.is_durable
      → Always (device.may_leave (device_under last)) (IsAmong (version_under last) w)
      × LeavesOnly device.moment device.left_since (device_under last) (device_under last) (IsAmong (version_under last) w)
  is_calm only_now w durable =
      let all = is_safe (version_under last) w (inl refl) durable in
      (all, started device.moment device.left_since (device_under last) (IsAmong (version_under last) w) (λ c left. all c (only_now (device_under last) c durable left)))
