-- The callers of scripts, and scripts that have run.
use Rattle.std.specs.Prelude.{Bool, true, false, Option, ◌≡◌, ℕ, ◌<◌, List, length, slice_index_or, IfSome}
use Rattle.shared.specs.Views.{Past}
use Rattle.shared.specs.Scripts.{Script, Played, texts_at}
use Rattle.shared.specs.declared.jobs.Caller.{Caller}
use Rattle.shared.specs.declared.jobs.Caller.TheVariants.{Idle, Stands}
use Rattle.shared.specs.declared.jobs.Done.{Done}

abbrev pub past_of : {J : Type 0} → Caller J → Past
past_of (Idle p) = p
past_of (Stands p) = p

abbrev pub stands_of : {J : Type 0} → Caller J → Bool
stands_of (Idle p) = false
stands_of (Stands p) = true

-- the script of this number has run: its caller made its calls, with these answers
abbrev pub HasPlayed : {J : Type 0} → List Script → ℕ → Option (Done J) → Type 0
HasPlayed scripts k result = IfSome result (λ d. (d.client.who ≡ k)
    × Played (texts_at scripts k) d.client.mine d.answers.items)

abbrev pub AllPlayed : {J : Type 0} → List Script → List (Option (Done J)) → Type 0
AllPlayed {J} scripts done = (k : ℕ) (d : Option (Done J)) → k < length done
    → HasPlayed scripts k (slice_index_or done k d)
