use Rattle.std.proofs.Common.{◌≡◌, ◌-◌}
use Rattle.parse_terminals.specs.Readers.{kinds, Reader, ReadsAfter, FindsBy}
use Rattle.parse_terminals.specs.Readers as read
use Rattle.parse_terminals.specs.contracts.lists.many.B-Fn as begin
use Rattle.parse_terminals.specs.contracts.lists.many.F-Fn as item
use Rattle.parse_terminals.proofs.lists.many.Given as goal

-- what is left to read, from what is found
abbrev pub invariant-loop-turn : goal.invariant-loop-turn
invariant-loop-turn g l = (begins : Reader g.row.O.Denot) (reads : g.row.O.Denot → Reader g.row.T.Denot)
    → FindsBy ((begin.words g.row.O g.row.T g.row.B g.row.F g.B.Fn).post l.begin) begins
    → ReadsAfter ((item.words g.row.O g.row.T g.row.B g.row.F g.F.Fn).post l.item) reads
    → read.many l.fn.limit begins reads l.fn.found (kinds l.fn.tokens) ≡ read.many_from l.fn.limit begins reads (l._turn-end - l._turn) l.found (kinds l.rest)
