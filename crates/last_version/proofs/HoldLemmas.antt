-- What calls leave as it was, one behind another.
use Rattle.std.proofs.Common.{◌≡◌, ◌∙◌, ℕ, drop, refl, ap}
use Rattle.std.specs.Prelude.{IsTrue}
use Rattle.disk.specs.declared.device.Disk.{Ghosts}
use Rattle.journal.specs.Parts.{place}
use Rattle.journal.specs.Versions.{Version, laid}
use Rattle.last_version.specs.declared.file.OpenFile.{OpenFile}
use Rattle.last_version.specs.declared.version.LastVersion.{LastVersion}
use Rattle.last_version.specs.Lasts.{HoldsAs, shown_by, version_under}
use Rattle.last_version.specs.Standing.{StandsAs, version_in, version_of, shown_in, left_in, pages_below}
use Rattle.last_version.proofs.ShownLemmas.{shown_as}
use Rattle.last_version.proofs.StandingLemmas.{stands_now}

module _ {D : Type 0} {device : Ghosts D} where
  pub holds_none : (a : LastVersion D device) → HoldsAs a a
  holds_none a = record { count = refl; left = refl; waits = λ n. refl; broken = refl; room = refl }

  pub holds_then : (a b c : LastVersion D device) → HoldsAs a b → HoldsAs b c → HoldsAs a c
  holds_then a b c h g = record {
    count = g.count ∙ h.count;
    left = g.left ∙ h.left;
    waits = λ n. g.waits n ∙ h.waits n;
    broken = g.broken ∙ h.broken;
    room = g.room ∙ h.room;
  }

  -- the same version shows the same pages
  pub shown_same : (a b : LastVersion D device) → version_under b ≡ version_under a → shown_by b ≡ shown_by a
  shown_same a b same = ap (λ (v : Version). pages_below v.count v.pages) same

module _ {D : Type 0} {device : Ghosts D} (a b : OpenFile D device) (set : b.set ≡ a.set) (written : b.written ≡ a.written) (count : b.count ≡ a.count) where
  -- the same pages over the same bytes are the same version
  pub version_same : device.bytes b.disk ≡ device.bytes a.disk → version_of b ≡ version_of a
  version_same bytes = λ i. version_in (set i) (written i) (count i) (bytes i)

  pub shown_file : device.bytes b.disk ≡ device.bytes a.disk → shown_in b ≡ shown_in a
  shown_file bytes = ap (λ (v : Version). pages_below v.count v.pages) (version_same bytes)

  pub left_same : left_in b ≡ left_in a
  left_same = λ i. drop (written i) (set i)

-- a file that stands for the version of another shows its pages
pub shown_stands : {D : Type 0} {device : Ghosts D} (a b : OpenFile D device) → b.count ≡ a.count → StandsAs b (version_of a) → (n : ℕ) → shown_in b n ≡ shown_in a n
shown_stands {D} {device} a b count stands n =
    shown_as b.count (laid (drop b.written b.set) (place (device.bytes b.disk))) (laid (drop a.written a.set) (place (device.bytes a.disk))) stands.pages n
    ∙ ap (λ (k : ℕ). pages_below k (laid (drop a.written a.set) (place (device.bytes a.disk))) n) count

-- the version that a file has is one for which it stands
pub file_now : {D : Type 0} {device : Ghosts D} (b : OpenFile D device) (v : Version) → IsTrue device.is_honest → StandsAs b v → StandsAs b (version_of b)
file_now {D} {device} b v h s =
    stands_now device.is_honest device.is_durable b.gate b.set b.written b.count (device.bytes b.disk) (device.may_leave b.disk) v h s
