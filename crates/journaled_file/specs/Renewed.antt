-- A version of which page 0 has the magic of format 2. Our own choice.
use Rattle.std.specs.Prelude.{◌≡◌, ◌⊎◌, ℕ, zero, suc, ◌<◌, ◌≤◌, List, [], ◌++◌, drop}
use Rattle.disk.specs.Crashes.{Bytes, Always}
use Rattle.pagefile.specs.declared.header.FileHeader.{FileHeader}
use Rattle.pagefile.specs.Number.{number_at}
use Rattle.journal.specs.declared.found.Found.{Found}
use Rattle.journal.specs.Headers.{IsFile, magic_2}
use Rattle.journal.specs.Parts.{HasLength}
use Rattle.journal.specs.Versions.{Version, OneOf, IsAmong, IsShut, StandsFor}
use Rattle.journaled_file.specs.Shown.{placed}

-- the bytes are a file of either format with this header, as its journal makes it
abbrev pub IsHeaderIn : Bytes → FileHeader → Type 0
IsHeaderIn c h = (found : Found) × IsFile c found × (h ≡ found.header)

-- what pages show once page 0 has the magic of format 2
abbrev pub renewed_pages : (ℕ → List ℕ) → ℕ → List ℕ
renewed_pages pages zero = magic_2 ++ drop 8 (pages 0)
renewed_pages pages (suc n) = pages (suc n)

-- the first pages of a version, as a file shows them that was opened
abbrev pub renewed : Version → ℕ → Version
renewed v count = record { set = []; count = count; pages = renewed_pages v.pages }

-- the first pages of a version
abbrev pub first_pages : Version → ℕ → Version
first_pages v count = record { set = []; count = count; pages = v.pages }

-- A file was opened: it stood for one of two versions, and has the pages of that one now.
pub record Opens (x y : Version) (h : FileHeader) (read : Bytes) (outcomes : Bytes → Type 0) : Type 0 where
  pub version : Version
  pub one : OneOf x y version
  pub stood : StandsFor version read
  pub rest : Always outcomes (IsShut (renewed version h.page_count))

-- a file that a crash may leave while it is opened: the pages that the header of a version counts,
-- as they were or with the new magic
pub record IsRenewing (x y : Version) (c : Bytes) : Type 0 where
  pub version : Version
  pub one : OneOf x y version
  pub new : Version
  pub counted : number_at (version.pages 0) 8 ≡ new.count
  pub fewer : new.count ≤ version.count
  pub pages : (n : ℕ) → n < new.count → new.pages n ≡ renewed_pages version.pages n
  pub state : IsAmong (first_pages version new.count) new c

abbrev pub IsOpening : Version → Version → Bytes → Type 0
IsOpening x y c = IsAmong x y c ⊎ IsRenewing x y c

-- A file of page 0 alone that is opened, as a crash may leave it while it is made one of format 2.
pub record IsRenewingAlone (c : Bytes) : Type 0 where
  pub file : Bytes
  pub found : Found
  pub opens : IsFile file found
  pub short : HasLength 4096 file
  pub state : IsOpening (placed found.header.page_count file) (placed found.header.page_count file) c

-- what a crash may leave of a file of page 0 alone while it is opened
abbrev pub IsOpeningAlone : Bytes → Type 0
IsOpeningAlone c = HasLength 4096 c ⊎ IsRenewingAlone c
