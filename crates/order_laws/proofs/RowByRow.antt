-- Where at most one row is made of each, and rows that are made stand as those of which they are
-- made, the rows that are made ascend as well, also where a fault ends them.
use Rattle.std.proofs.Common.{◌≡◌, refl, ap, sym, ◌∙◌, subst, Bool, true, false, if◌then◌else◌, List, [], ◌∷◌, ◌++◌, map, append-nil, Ok, Err}
use Rattle.std.specs.Ordering.{is_lt}
use Rattle.sqlval.specs.Value.{Row}
use Rattle.sqlval.specs.declared.truth.Truth.{Truth}
use Rattle.sqlval.specs.declared.truth.Truth.TheVariants.{False, Unknown, True}
use Rattle.typing.specs.declared.typed.OrderKey.{OrderKey}
use Rattle.algebra.specs.Joined.{some_true, half_row}
use Rattle.algebra.specs.Listing.{end_by, ended, unless_ended, in_order, onwards, by_left_rows}
use Rattle.denote.specs.declared.fault.Fault.{Fault}
use Rattle.denote.specs.Answer.{by_keys}
use Rattle.denote.specs.Condition.{ConditionMeaning}
use Rattle.denote.specs.Evaluation.{Env, Evaluation, ◌>>=◌, together}
use Rattle.denote.specs.From.{kept_row, only_true, beside}
use Rattle.denote.specs.Outcome.{Outcome}
use Rattle.order_laws.proofs.Ascending.{NoneBefore, Ascends}

-- at most one row, and that one is made of this
abbrev pub IsMadeOf : (Row → Row → Type 0) → List Row → Row → Type 0
IsMadeOf R [] row = Unit {0}
IsMadeOf R (made ∷ []) row = R made row
IsMadeOf R (made ∷ other ∷ more) row = ⊥

-- rows that are made stand as those of which they are made
abbrev pub KeepsOrder : List OrderKey → List OrderKey → (Row → Row → Type 0) → Type 0
KeepsOrder old new R = (made other row next : Row) → R made row → R other next → is_lt (by_keys old next row) ≡ false → is_lt (by_keys new other made) ≡ false

no_more : (faults others : List Fault) → (unless_ended faults (end_by others)).rows ≡ []
no_more [] others = refl
no_more (fault ∷ faults) others = refl

module _ (old new : List OrderKey) (R : Row → Row → Type 0) (keeps : KeepsOrder old new R) (list : Row → Outcome) (of_each : (row : Row) → IsMadeOf R (list row).rows row) where
  unless-none : (made : Row) (faults : List Fault) (rows : List Row) → NoneBefore new made (in_order list rows).rows → NoneBefore new made (unless_ended faults (in_order list rows)).rows
  unless-none made [] rows g = g
  unless-none made (fault ∷ faults) rows g = tt

  none-before : (made first : Row) → R made first → (rows : List Row) → NoneBefore old first rows → NoneBefore new made (in_order list rows).rows
  none-before made first r [] h = tt
  none-before made first r (row ∷ rows) h = at (list row).rows (of_each row) (unless-none made (list row).faults rows (none-before made first r rows h.1))
    where
      at : (found : List Row) → IsMadeOf R found row → NoneBefore new made (unless_ended (list row).faults (in_order list rows)).rows
          → NoneBefore new made (found ++ (unless_ended (list row).faults (in_order list rows)).rows)
      at [] k g = g
      at (other ∷ []) k g = (keeps made other first row r k h.0, g)
      at (other ∷ another ∷ more) k g = absurd k

  unless-ascends : (faults : List Fault) (rows : List Row) → Ascends new (in_order list rows).rows → Ascends new (unless_ended faults (in_order list rows)).rows
  unless-ascends [] rows g = g
  unless-ascends (fault ∷ faults) rows g = tt

  in_order-ascends : (rows : List Row) → Ascends old rows → Ascends new (in_order list rows).rows
  in_order-ascends [] h = tt
  in_order-ascends (row ∷ rows) h = at (list row).rows (of_each row) (unless-ascends (list row).faults rows (in_order-ascends rows h.1))
    where
      at : (found : List Row) → IsMadeOf R found row → Ascends new (unless_ended (list row).faults (in_order list rows)).rows
          → Ascends new (found ++ (unless_ended (list row).faults (in_order list rows)).rows)
      at [] k g = g
      at (made ∷ []) k g = (unless-none made (list row).faults rows (none-before made row k rows h.0), g)
      at (made ∷ another ∷ more) k g = absurd k

  pub onwards-ascends : (part : Outcome) → Ascends old part.rows → Ascends new (onwards part (in_order list)).rows
  onwards-ascends part h = subst (λ (zs : List Row). Ascends new zs)
      (sym (ap (λ zs. (in_order list part.rows).rows ++ zs) (no_more (in_order list part.rows).faults part.faults) ∙ append-nil (in_order list part.rows).rows))
      (in_order-ascends part.rows h)

-- ---- rows that are handed on

same-keeps : (keys : List OrderKey) → KeepsOrder keys keys (λ (a b : Row). a ≡ b)
same-keeps keys made other row next e f h = rw (e, f) h

-- each row itself, or none
pub handed-ascends : (keys : List OrderKey) (part : Outcome) (list : Row → Outcome) → ((row : Row) → IsMadeOf (λ (a b : Row). a ≡ b) (list row).rows row)
    → Ascends keys part.rows → Ascends keys (onwards part (in_order list)).rows
handed-ascends keys part list of_each h = onwards-ascends keys keys (λ (a b : Row). a ≡ b) (same-keeps keys) list of_each part h

-- the same of left rows, the right side being taken whole
pub left-ascends : (keys : List OrderKey) (left right : Outcome) (list : List Row → Row → Outcome)
    → ((others : List Row) (row : Row) → IsMadeOf (λ (a b : Row). a ≡ b) (list others row).rows row)
    → Ascends keys left.rows → Ascends keys (by_left_rows left right list).rows
left-ascends keys left right list of_each h = at right.faults
  where
    at : (faults : List Fault) → Ascends keys (unless_ended faults (onwards left (in_order (list right.rows)))).rows
    at [] = handed-ascends keys left (list right.rows) (of_each right.rows) h
    at (fault ∷ faults) = tt

pub kept-made : (condition : ConditionMeaning) (env : Env) (row : Row) → IsMadeOf (λ (a b : Row). a ≡ b) (ended (kept_row condition env row)).rows row
kept-made condition env row = at (condition (row ∷ env))
  where
    at : (x : Evaluation Truth) → IsMadeOf (λ (a b : Row). a ≡ b) (ended (x >>= (λ t. Ok (only_true t row)))).rows row
    at (Ok True) = refl
    at (Ok False) = tt
    at (Ok Unknown) = tt
    at (Err faults) = tt

pub half-made : (wanted : Bool) (on : ConditionMeaning) (env : Env) (others : List Row) (row : Row) → IsMadeOf (λ (a b : Row). a ≡ b) (ended (half_row wanted on env others row)).rows row
half-made true on env others row = at (together (map (λ pair. on (pair ∷ env)) (beside row others)))
  where
    either : (b : Bool) → IsMadeOf (λ (a b : Row). a ≡ b) (if b then row ∷ [] else []) row
    either true = refl
    either false = tt

    at : (x : Evaluation (List Truth)) → IsMadeOf (λ (a b : Row). a ≡ b) (ended (x >>= (λ truths. Ok (if some_true truths then row ∷ [] else [])))).rows row
    at (Ok truths) = either (some_true truths)
    at (Err faults) = tt
half-made false on env others row = at (together (map (λ pair. on (pair ∷ env)) (beside row others)))
  where
    either : (b : Bool) → IsMadeOf (λ (a b : Row). a ≡ b) (if b then [] else row ∷ []) row
    either true = tt
    either false = refl

    at : (x : Evaluation (List Truth)) → IsMadeOf (λ (a b : Row). a ≡ b) (ended (x >>= (λ truths. Ok (if some_true truths then [] else row ∷ [])))).rows row
    at (Ok truths) = either (some_true truths)
    at (Err faults) = tt
