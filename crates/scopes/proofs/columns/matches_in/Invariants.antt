use Rattle.std.proofs.Common.{◌≡◌, ◌++◌, drop}
use Rattle.std.specs.Option.{option_to_list}
use Rattle.typing.specs.Scope.{meant}
use Rattle.scopes.proofs.columns.matches_in.Given as goal

-- the column found so far, and those after it, are all that are meant
abbrev pub invariant-loop-place : goal.invariant-loop-place
invariant-loop-place l = option_to_list l.first ++ meant l.name l.place (drop l.place l.offers) ≡ meant l.name 0 l.offers
