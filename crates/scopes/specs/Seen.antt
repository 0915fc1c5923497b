-- What a view of the code is, in the words of the definitions.
use Rattle.std.specs.Prelude.{ℕ, ◌+◌, ◌-◌, ◌^◌, min, List, [], ◌∷◌, length, Option}
use Rattle.std.specs.Option.{option_copied}
use Rattle.typing.specs.declared.scope.Frame.{Frame}
use Rattle.typing.specs.Scope.{Located, Scope as Frames, ungrouped}
use Rattle.typing.specs.Part as part
use Rattle.typing.specs.Part.{Part, View as Seen}
use Rattle.scopes.specs.declared.columns.Located.{Located as Place}
use Rattle.scopes.specs.declared.view.Clause.{Clause}
use Rattle.scopes.specs.declared.view.Clause.TheVariants.{Shown, Plain, Argument, Checked}
use Rattle.scopes.specs.declared.view.Scope.{Scope, Scope-F, fold-Scope}
use Rattle.scopes.specs.declared.view.View.{View}

-- the FROMs, with the grouping columns that are seen there
abbrev pub frame_step : Scope-F Frames → Frames
frame_step Scope-F.Outermost = []
frame_step (Scope-F.Inside frame key outer) = record frame.now { key = option_copied key } ∷ outer.now

unfoldable pub frames : Scope → Frames
frames = fold-Scope _ frame_step

abbrev pub clause_in : Clause → part.Clause
clause_in (Shown first) = part.Shown first
clause_in Plain = part.Plain
clause_in Argument = part.Argument
clause_in Checked = part.Checked

-- the argument of a set function sees the rows of FROM
abbrev pub scope_in : Clause → Frames → Frames
scope_in Argument scope = ungrouped scope
scope_in (Shown first) scope = scope
scope_in Plain scope = scope
scope_in Checked scope = scope

abbrev pub clause_of : View → part.Clause
clause_of view = clause_in view.clause

abbrev pub scope_of : View → Frames
scope_of view = scope_in view.clause (frames view.scope.now)

abbrev pub seen : View → Seen
seen view = record { scope = scope_of view; clause = clause_of view }

-- after so many set functions
abbrev pub moved_in : ℕ → Clause → Clause
moved_in count (Shown first) = Shown (first + count)
moved_in count Plain = Plain
moved_in count Argument = Argument
moved_in count Checked = Checked

abbrev pub moved_on : ℕ → View → View
moved_on count view = record view { clause = moved_in count view.clause }

abbrev pub located_of : Place → Located
located_of l = record { depth = l.depth; frame = record l.frame.now { key = option_copied l.key }; column = l.column }

-- as far as the numbers of the machine reach
abbrev pub capped : ℕ → ℕ
capped n = min n (2 ^ 64 - 1)

-- how many set functions a part has
abbrev pub count_of : {A : Type 0} → Part A → ℕ
count_of x = length x.functions
