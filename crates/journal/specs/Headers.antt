-- Which files are opened: by their length, their gate with the journal behind it, and the header of
-- page 0 as the journal makes it. Our own choice.
use Rattle.std.specs.Prelude.{◌≡◌, ◌≢◌, ◌==◌, ℕ, zero, suc, ◌+◌, ◌*◌, ◌%◌, ◌≤◌, List, [], ◌∷◌, length, take, Bool, IsTrue, if◌then◌else◌}
use Rattle.byteorder.specs.Endian.{big_number}
use Rattle.pagefile.specs.declared.header.FileHeader.{FileHeader}
use Rattle.pagefile.specs.Header.{magic, header_size, IsInBounds}
use Rattle.pagefile.specs.Number.{number_at}
use Rattle.pagefile.specs.Parts.{gate_part, start_part}
use Rattle.disk.specs.Crashes.{Bytes, Always, Only}
use Rattle.journal.specs.declared.found.Format.{Format}
use Rattle.journal.specs.declared.found.Format.TheVariants.{One, Two}
use Rattle.journal.specs.declared.found.Gate.{Gate}
use Rattle.journal.specs.declared.found.Gate.TheVariants.{Shut, Torn, Open}
use Rattle.journal.specs.declared.found.Found.{Found}
use Rattle.journal.specs.Lists.{listed, IsList, HasNumbers}
use Rattle.journal.specs.Parts.{place, block}
use Rattle.journal.specs.Versions.{Version, OneOf, StandsFor, IsShut}

-- the text RSQLPG01
abbrev pub magic_1 : List ℕ
magic_1 = 82 ∷ 83 ∷ 81 ∷ 76 ∷ 80 ∷ 71 ∷ 48 ∷ 49 ∷ []

-- the text RSQLPG02
abbrev pub magic_2 : List ℕ
magic_2 = magic

abbrev pub magic_of : Format → List ℕ
magic_of One = magic_1
magic_of Two = magic_2

-- A journal that is whole, from a block on: its list, and that all its blocks lie within the file.
pub record IsJournal (c : Bytes) (start size : ℕ) : Type 0 where
  pub some : 1 ≤ start
  pub list : IsList (block c start) start size
  pub long : 4096 * (start + 1 + size) ≤ length c

-- what the gate of a file says; where it is open the journal is whole
abbrev pub IsGate : Bytes → Gate → Type 0
IsGate c Shut = gate_part c ≡ 0 ∷ []
IsGate c Torn = (g : ℕ) × (g ≢ 0) × (g ≢ 1) × (gate_part c ≡ g ∷ [])
IsGate c (Open start size) = (gate_part c ≡ 1 ∷ []) × (start ≡ big_number 4 (start_part c)) × IsJournal c start size

-- the header of page 0 as the journal makes it: its image is the first one, where it has one
abbrev pub header_part : Bytes → Gate → List ℕ
header_part c Shut = place c 0
header_part c Torn = place c 0
header_part c (Open start zero) = place c 0
header_part c (Open start (suc size)) =
    if listed (block c start) 0 == 0 then take header_size (block c (start + 1)) else place c 0

-- a header of either format, of a file of so many bytes
pub record IsHeaderOf (len : ℕ) (part : List ℕ) (format : Format) (h : FileHeader) : Type 0 where
  pub begins : take 8 part ≡ magic_of format
  pub page_count : number_at part 8 ≡ h.page_count
  pub first_free : number_at part 12 ≡ h.first_free
  pub catalog_root : number_at part 16 ≡ h.catalog_root
  pub bounds : IsInBounds h
  pub long : 4096 * h.page_count ≤ len

-- A file that is opened, and what is found in it.
pub record IsFile (c : Bytes) (found : Found) : Type 0 where
  pub some : 4096 ≤ length c
  pub even : length c % 4096 ≡ 0
  pub gate : IsGate c found.gate
  pub header : IsHeaderOf (length c) (header_part c found.gate) found.format found.header

-- nothing of the kind is in the file
abbrev pub IsNoFile : Bytes → Type 0
IsNoFile c = (found : Found) → IsFile c found → ⊥

-- a version whose page 0 is the header of a file of so many pages
pub record IsGood (v : Version) : Type 0 where
  pub format : Format
  pub header : FileHeader
  pub fits : IsHeaderOf (4096 * v.count) (v.pages 0) format header

-- these bytes are the list of the journal, where the gate is open
abbrev pub HasList : Bytes → List ℕ → Gate → Type 0
HasList c list Shut = Unit {0}
HasList c list Torn = Unit {0}
HasList c list (Open start size) = list ≡ block c start

-- The list, the first block and the size of a journal are those of a version.
pub record NamesPages (v : Version) (start size : ℕ) (list : List ℕ) : Type 0 where
  pub from_block : start ≡ v.count
  pub many : size ≡ length v.set
  pub numbers : HasNumbers list v.set

-- A recovery has found one of two versions, with this header: the one for which the file stood, as
-- it was read. It stands in its places now, and the gate is shut.
pub record Finds (x y : Version) (found : Found) (read : Bytes) (outcomes : Bytes → Type 0) : Type 0 where
  pub version : Version
  pub one : OneOf x y version
  pub stood : StandsFor version read
  pub header : IsHeaderOf (length read) (version.pages 0) found.format found.header
  pub shut : Always outcomes (IsShut version)

-- the journal behind the gate has at most 1,024 pages
abbrev pub IsSmall : Gate → Type 0
IsSmall Shut = Unit {0}
IsSmall Torn = Unit {0}
IsSmall (Open start size) = size ≤ 1024

-- What a recovery tells is what was found, and the file is as that says.
pub record IsFinished (found told : Found) (honest durable : Bool) (old new : Bytes) (left_old left_new : Bytes → Type 0) : Type 0 where
  pub same : told ≡ found
  pub shut : IsTrue honest → (v : Version) → StandsFor v old → IsShut v new
  pub only : IsTrue durable → IsTrue honest → Only old left_old → Only new left_new
  pub closed : IsTrue honest → gate_part new ≡ 0 ∷ []
  pub size : IsTrue honest → 4096 ≤ length old → length new ≡ length old
