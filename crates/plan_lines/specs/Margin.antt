-- Lines of a plan behind a margin.
use Rattle.std.specs.Prelude.{◌≡◌, ℕ, List, ◌++◌, map}
use Rattle.algebra.specs.declared.tree.Tree.{Tree, out-Tree}
use Rattle.plan_lines.specs.Lines.{Lines, node_line, shown}

-- the line of the root of a tree
unfoldable pub root_line : Tree → List ℕ
root_line tree = node_line (out-Tree tree)

-- what is shown of a line behind a margin
abbrev pub behind : List ℕ → List ℕ → List ℕ
behind margin line = shown (margin ++ line)

-- these lines, each behind the margin, are put to those that were there
abbrev pub Adds : List ℕ → Lines → Lines → Lines → Type 0
Adds margin lines old new = new ≡ old ++ map (behind margin) lines
