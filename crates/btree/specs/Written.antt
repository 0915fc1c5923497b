-- What a change of a whole tree leaves.
use Rattle.std.specs.Prelude.{◌≡◌, ℕ, ◌⊎◌, List, [], ◌∷◌, ◌++◌, None, IsSome, Result, IfOk}
use Rattle.page_space.specs.declared.error.SpaceError.{SpaceError}
use Rattle.page_space.specs.Space.{PageMap}
use Rattle.btree_read.specs.declared.entry.Entry.{Entry}
use Rattle.btree_read.specs.Lists.{Has}
use Rattle.btree_read.specs.Nodes.{Key}
use Rattle.btree_read.specs.Sorted.{put, Ascends}
use Rattle.btree_read.specs.Tree.{IsTree}
use Rattle.btree.specs.Grow.{AreKept}

-- at the root is now a tree of these entries, in pages that the tree owned before or that were not
-- in use; no other page in use has changed
pub record IsWritten (old new : PageMap) (owned : List ℕ) (entries : List Entry) (root : ℕ) : Type 0 where
  pub now_owned : List ℕ
  pub stored : IsTree new root now_owned entries
  pub own : (n : ℕ) → Has n now_owned → Has n owned ⊎ (old n ≡ None)
  pub others : (n : ℕ) → (Has n owned → ⊥) → IsSome (old n) → new n ≡ old n

-- whatever tree is at the root, the answer is the root of the tree with the key put in
abbrev pub Inserts : PageMap → PageMap → ℕ → Key → List ℕ → Result ℕ SpaceError → Type 0
Inserts old new root k v result = (owned : List ℕ) (entries : List Entry) → IsTree old root owned entries
    → IfOk result (IsWritten old new owned (put k v entries))

-- whatever tree was at the root, and whatever tree is at the one answered: no page is lost
abbrev pub KeepsPages : PageMap → PageMap → ℕ → Result ℕ SpaceError → Type 0
KeepsPages old new root result =
    (owned : List ℕ) (entries : List Entry) → IsTree old root owned entries
    → IfOk result (λ now. (now_owned : List ℕ) (after : List Entry) → IsTree new now now_owned after
    → AreKept old new owned now_owned)

-- the entries with all of these put in, one after another
abbrev pub put_all : List Entry → List Entry → List Entry
put_all [] entries = entries
put_all (e ∷ more) entries = put_all more (put e.key e.value entries)

-- whatever tree is at the root, the answer is the root of the tree with all of these put in
abbrev pub InsertsAll : PageMap → PageMap → ℕ → List Entry → Result ℕ SpaceError → Type 0
InsertsAll old new root more result = (owned : List ℕ) (entries : List Entry) → IsTree old root owned entries
    → IfOk result (IsWritten old new owned (put_all more entries))

-- where they stand in order behind all that a tree has, they are then behind them
abbrev pub Appends : PageMap → PageMap → ℕ → List Entry → Result ℕ SpaceError → Type 0
Appends old new root more result =
    (owned : List ℕ) (entries : List Entry) → IsTree old root owned entries → Ascends (entries ++ more)
    → IfOk result (IsWritten old new owned (entries ++ more))
