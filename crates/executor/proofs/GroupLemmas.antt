-- Groups whose arguments are found first.
use Rattle.std.proofs.Common.{◌≡◌, refl, ap, sym, ◌∙◌, ℕ, ◌≤◌, length, drop, List, [], ◌∷◌, map, append-nil, Ok, Err, subst, Option}
use Rattle.std.proofs.lemmas.List.{drop_all}
use Rattle.algebra.specs.declared.tree.SetFunction.{SetFunction}
use Rattle.algebra.specs.Listing.{listing_step}
use Rattle.algebra.specs.Meaning.{function_by}
use Rattle.denote.specs.Meaning.{Tables}
use Rattle.executor.proofs.GivesLemmas.{after}
use Rattle.sqlval.specs.declared.value.Value.{Value}
use Rattle.sqlval.specs.Value.{Row}
use Rattle.denote.specs.declared.fault.Fault.{Fault as Raised}
use Rattle.denote.specs.declared.fault.Stop.{Stop}
use Rattle.denote.specs.declared.fault.Stop.TheVariants.{Fault}
use Rattle.denote.specs.Evaluation.{Env, Evaluation, faults_in, together, joined}
use Rattle.denote.specs.Outcome.{Outcome}
use Rattle.algebra.specs.Listing.{first_only, groups_listed, all_argument_faults, unless_ended}
use Rattle.algebra.specs.Meaning.{MeantFunction}
use Rattle.executor.specs.Arguments.{arguments_in, arguments_at, meant_functions}
use Rattle.kernels.specs.Aggregates.{argument_value}
use Rattle.kernels.proofs.GroupLaw.{arguments-faults}
use Rattle.executor.specs.Reply.{Gives as IsGiven, IsFirstOf}

ends-at : (faults : List Raised) (fault : Raised) (next : Outcome) (none : List Row) → none ≡ [] → first_only faults ≡ fault ∷ [] → record { rows = none; faults = fault ∷ [] } ≡ unless_ended faults next
ends-at [] fault next none e h = absurd (cc)
ends-at (first ∷ faults) fault next none e h = let is : first ∷ [] ≡ fault ∷ [] = h in rw (e, is) refl

-- an argument that faults ends the list before all groups
pub groups-fault : (columns : Option (List ℕ)) (functions : List MeantFunction) (env : Env) (rows : List Row) (s : Stop) (fault : Raised) (none : List Row) → none ≡ [] → s ≡ Fault fault
    → IsGiven (Err s) (arguments_at functions env rows) → record { rows = none; faults = fault ∷ [] } ≡ groups_listed columns functions env rows
groups-fault columns functions env rows s fault none e is given =
    ends-at (all_argument_faults functions env rows) fault _ none e
    (rw (arguments-faults functions env rows) at (subst (λ (k : Stop). IsFirstOf (faults_in (arguments_at functions env rows)) k) is given.err))

-- the argument of a function of a tree
abbrev pub argument_in : Tables → Env → SetFunction → Evaluation Value
argument_in tables env function = argument_value env (function_by (listing_step tables) function)

pub arguments-each : (tables : Tables) (functions : List SetFunction) (env : Env) → together (map (argument_in tables env) functions) ≡ arguments_in (meant_functions tables functions) env
arguments-each tables [] env = refl
arguments-each tables (function ∷ functions) env = ap (joined (argument_in tables env function)) (arguments-each tables functions env)

pub after-nothing : {A : Type 0} (x : Evaluation (List A)) → after [] x ≡ x
after-nothing (Ok xs) = refl
after-nothing (Err faults) = refl

-- a loop over all
pub together-done : {X A : Type 0} (f : X → Evaluation A) (found : List A) (items : List X) (i : ℕ) (whole : Evaluation (List A)) → length items ≤ i → after found (together (map f (drop i items))) ≡ whole → whole ≡ Ok found
together-done f found items i whole past sum = sym sum ∙ (rw (drop_all i items past) (ap Ok (append-nil found)))
