-- That a change of a tree loses no page.
use Rattle.std.specs.Prelude.{ℕ, ◌⊎◌, List, IsSome}
use Rattle.page_space.specs.Space.{PageMap}
use Rattle.btree_read.specs.declared.entry.Entry.{Entry}
use Rattle.btree_read.specs.Lists.{Has}
use Rattle.btree_read.specs.Tree.{IsTree}

-- A page in use now is one of these, or it was in use before and was none of those: what was owned
-- and is owned no more is free, and no other page came into use.
abbrev pub LosesNone : PageMap → PageMap → List ℕ → List ℕ → Type 0
LosesNone old new owned now_owned = (n : ℕ) → IsSome (new n) → Has n now_owned ⊎ (IsSome (old n) × (Has n owned → ⊥))

-- a tree is at the root, where one was in these pages, and no page is lost
pub record TreeLeft (old new : PageMap) (owned : List ℕ) (root : ℕ) : Type 0 where
  pub now_owned : List ℕ
  pub entries : List Entry
  pub tree : IsTree new root now_owned entries
  pub loses : LosesNone old new owned now_owned

-- whatever tree was at a root, there is one at another now, and no page is lost
abbrev pub LosesNoPage : PageMap → PageMap → ℕ → ℕ → Type 0
LosesNoPage old new root now = (owned : List ℕ) (entries : List Entry) → IsTree old root owned entries
    → TreeLeft old new owned now
