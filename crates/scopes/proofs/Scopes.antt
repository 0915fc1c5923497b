-- The FROMs of a scope, and where a column stands in them.
use Rattle.std.proofs.Common.{◌≡◌, refl, sym, ap, ◌∙◌, ℕ, ◌+◌, ◌==◌, zero, suc, Bool, true, false, List, [], ◌∷◌, Option, Some, None, Ok, Err, rules, length, drop, drop-cons, get_or, arith, add-one, ◌<◌, ◌≤◌}
use Rattle.std.specs.Prelude.{if◌then◌else◌, IfOk, IfErr}
use Rattle.std.specs.List.{position_from}
use Rattle.std.specs.Option.{option_copied}
use Rattle.std.proofs.lemmas.List.{drop_all}
use Rattle.refusals.specs.declared.reason.Reason.TheVariants as reason
use Rattle.refusals.specs.declared.refusal.Refusal.{Refusal}
use Rattle.refusals.specs.declared.refusal.Refusal.TheVariants.{Invalid}
use Rattle.ast.specs.declared.operator.Column.{Column}
use Rattle.typing.specs.declared.scope.Frame.{Frame}
use Rattle.typing.specs.declared.scope.Found.{Found}
use Rattle.typing.specs.declared.scope.Matches.{Matches}
use Rattle.typing.specs.declared.scope.Matches.TheVariants.{Nothing, One, Several}
use Rattle.typing.specs.Finding.{Finding, invalid}
use Rattle.typing.specs.Finds.{Finds}
use Rattle.typing.specs.Scope.{Located, Scope as Frames, as_matches, column_at, seen_in, has_table, located_from, meant, own_column, ungrouped}
use Rattle.scopes.specs.declared.view.Scope.{Scope, the_lemmas}
use Rattle.scopes.specs.declared.view.Scope.TheVariants as scope
use Rattle.scopes.specs.Seen.{frames}

pub frames-outermost : frames scope.Outermost ≡ []
unfolding frames
frames-outermost = search (rules, the_lemmas)

pub frames-inside : (frame : _) (key : _) (outer : _) → frames (scope.Inside frame key outer) ≡ record frame.now { key = option_copied key } ∷ frames outer.now
unfolding frames
frames-inside frame key outer = search (rules, the_lemmas)

table-of : (table : Option (List ℕ)) (frame : Frame) (key : Option (List ℕ)) → has_table table (record frame { key = key }) ≡ has_table table frame
table-of None frame key = refl
table-of (Some name) frame key = refl

module _ (depth : ℕ) (name : Column) (s : Scope) where
  pub locate-nothing : s ≡ scope.Outermost → located_from depth name (frames s) ≡ invalid reason.Name
  locate-nothing e = rw (e, frames-outermost) refl

  module _ (frame : _) (key : _) (outer : _) (e : s ≡ scope.Inside frame key outer) where
    pub locate-one : (found : Found) → as_matches (meant name 0 frame.now.columns) ≡ One found →
        located_from depth name (frames s) ≡ Ok (record { depth = depth; frame = record frame.now { key = option_copied key }; column = found })
    locate-one found h = rw (e, frames-inside frame key outer, h) refl

    pub locate-several : as_matches (meant name 0 frame.now.columns) ≡ Several → located_from depth name (frames s) ≡ invalid reason.Ambiguous
    locate-several h = rw (e, frames-inside frame key outer, h) refl

    pub locate-table : as_matches (meant name 0 frame.now.columns) ≡ Nothing → has_table name.table frame.now ≡ true → located_from depth name (frames s) ≡ invalid reason.Name
    locate-table h t = rw (e, frames-inside frame key outer, h, table-of name.table frame.now (option_copied key), t) refl

    pub locate-outwards : as_matches (meant name 0 frame.now.columns) ≡ Nothing → has_table name.table frame.now ≡ false →
        located_from depth name (frames s) ≡ located_from (depth + 1) name (frames outer.now)
    locate-outwards h t = rw (e, frames-inside frame key outer, h, table-of name.table frame.now (option_copied key), t) refl

-- a reason alone
pub reason-alone : (r : Refusal) → (i : ℕ) × (i < length (r ∷ [])) × (get_or (r ∷ []) i r ≡ r)
reason-alone r = (0, omega arith, refl)

-- a column of the key
pub seen-some : (key : Option (List ℕ)) (places : List ℕ) (depth place : ℕ) (found : Found) → key ≡ Some places → position_from (λ p. p == found.place) 0 places ≡ Some place →
    seen_in key depth found ≡ Ok (column_at found.value_type depth place)
seen-some key places depth place found e h = rw (e, h) refl
