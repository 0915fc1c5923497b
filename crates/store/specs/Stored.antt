-- What a store shows of its versions.
use Rattle.std.specs.Prelude.{◌≡◌, ℕ, ◌+◌, if◌then◌else◌, Option, Some, None}
use Rattle.std.specs.Ordering.{nat_cmp}
use Rattle.std.specs.FinMap.{FinMap, get, insert, remove, contains_key, empty}
use Rattle.denote.specs.Database.{Database}
use Rattle.store.specs.Contents.{Contents, database_of}

-- the version that a reader found: the number of its commit, and what it holds
pub record Found : Type 0 where
  pub number : ℕ
  pub contents : Contents

-- How many commits there were since the store was opened, which is also the number of the newest
-- version; what that version holds; what each reader found; what the newest version is with the
-- changes that are not committed yet; and what that was at the last mark.
pub record Stored : Type 0 where
  pub commits : ℕ
  pub last : Contents
  pub readers : FinMap nat_cmp Found
  pub working : Contents
  pub marked : Contents

-- nobody reads or writes
pub record IsOpened (db : Database) (s : Stored) : Type 0 where
  pub commits : s.commits ≡ 0
  pub holds : database_of s.last ≡ db
  pub readers : s.readers ≡ empty
  pub working : s.working ≡ s.last
  pub marked : s.marked ≡ s.last

-- a reader begins at the newest version, unless it has begun
abbrev pub begun : Stored → ℕ → Stored
begun s r = if contains_key s.readers r then s else record s { readers = insert s.readers r (record { number = s.commits; contents = s.last }) }

abbrev pub ended : Stored → ℕ → Stored
ended s r = record s { readers = remove s.readers r }

abbrev pub marked_now : Stored → Stored
marked_now s = record s { marked = s.working }

abbrev pub undone : Stored → Stored
undone s = record s { working = s.marked }

abbrev pub committed : Stored → Stored
committed s = record s { commits = s.commits + 1; last = s.working; marked = s.working }

abbrev pub discarded : Stored → Stored
discarded s = record s { working = s.last; marked = s.last }

-- all readers and the writer have ended
abbrev pub closed : Stored → Stored
closed s = record s { readers = empty; working = s.last; marked = s.last }

-- with changes made
abbrev pub working_on : Stored → Contents → Stored
working_on s c = record s { working = c }

-- all is as it was, but for the mark
pub record SameButMark (a b : Stored) : Type 0 where
  pub commits : b.commits ≡ a.commits
  pub last : b.last ≡ a.last
  pub readers : b.readers ≡ a.readers
  pub working : b.working ≡ a.working

-- a change that succeeds changes the working version alone
abbrev pub IsAlone : Stored → Stored → Type 0
IsAlone a b = b ≡ working_on a b.working
