-- What is left of a list, and the rows of it that were given.
use Rattle.std.proofs.Common.{◌≡◌, ℕ, zero, suc, ◌-◌, List, [], ◌∷◌, ◌++◌, length, take, refl, sym, ap, subst, ◌∙◌, arith, append_assoc, append-nil}
use Rattle.std.proofs.lemmas.List.{length-append}
use Rattle.std.specs.Prelude.{Contains}
use Rattle.sqlval.specs.Value.{Row}
use Rattle.algebra.specs.declared.tree.Tree.{Tree}
use Rattle.algebra.specs.Listing.{tree_listing}
use Rattle.algebra.specs.OrderKeys.{order_keys, ordered_outcome}
use Rattle.algebra.specs.TreeOutcome.{tree_outcome}
use Rattle.algebra_laws.specs.Shown.{Lists}
use Rattle.denote.specs.declared.fault.Fault.{Fault}
use Rattle.denote.specs.Answer.{by_keys}
use Rattle.denote.specs.Bag.{goes_on, HasSame, Permutes}
use Rattle.denote.specs.Evaluation.{Env}
use Rattle.denote.specs.Meaning.{Tables}
use Rattle.denote.specs.Outcome.{Outcome}
use Rattle.operator_laws.proofs.Permuting.{Permutes-sym}
use Rattle.operator_laws.proofs.Same.{HasSame-some}
use Rattle.rewrite_laws.proofs.Answered.{fewer-keys}
use Rattle.rules.specs.Same.{IsSameTree}
use Rattle.typing.specs.declared.typed.OrderKey.{OrderKey}
use Rattle.std.specs.Prelude.{IsSorted}
use Rattle.places.specs.Left.{before}
use Rattle.session_definitions.specs.Cursor.{Begins, IsAtEnd, IsWhole, MayGiveRows, MayRaise, having_given}
use Rattle.session_definitions.specs.World.{Cursor}
use Rattle.cursors.specs.Opened.{rows_given}

-- ---- lists

take_front : (xs ys : List Row) → take (length xs) (xs ++ ys) ≡ xs
take_front [] ys = refl
take_front (x ∷ xs) ys = ap (λ rest. x ∷ rest) (take_front xs ys)

front_length : (xs ys : List Row) → length (xs ++ ys) - length ys ≡ length xs
front_length xs ys = let long = length-append xs ys in omega (arith, long)

pub given_is : (whole xs ys : List Row) → whole ≡ xs ++ ys → rows_given whole ys ≡ xs
given_is whole xs ys e =
    ap (λ (w : List Row). rows_given w ys) e ∙ ap (λ n. take n (xs ++ ys)) (front_length xs ys) ∙ take_front xs ys

no_faults : (fs gs : List Fault) → HasSame fs gs → fs ≡ [] → gs ≡ []
no_faults fs [] same e = refl
no_faults fs (g ∷ gs) same e = absurd (HasSame-some g gs (subst (λ (z : List Fault). HasSame z (g ∷ gs)) e same))

none_in : {X : Type 0} (x : X) → Contains [] x → ⊥
none_in x one = let h = one.1 in absurd (omega arith)

-- ---- what a list says of its outcome

-- the laws of a plan's list
abbrev pub Sorts : Type 0
Sorts = (tables : Tables) (tree : Tree) (env : Env) → IsSorted (by_keys (order_keys tree)) (tree_listing tables tree env).rows

abbrev pub Answers : Type 0
Answers = (tables : Tables) (tree : Tree) (env : Env) → Lists (tree_listing tables tree env) (tree_outcome tables tree env)

module _ (tables : Tables) (plan tree : Tree) (stands : IsSameTree tables plan tree) (sorts : Sorts) (answers : Answers) where
  abbrev listed : Outcome
  listed = tree_listing tables plan []

  known : Lists (tree_listing tables plan []) (tree_outcome tables plan [])
  known = answers tables plan []

  clean_list : (faults : List Fault) → ((fault : Fault) → Contains faults fault → Contains (tree_outcome tables plan []).faults fault)
      → (tree_outcome tables plan []).faults ≡ [] → faults ≡ []
  clean_list [] within clean = refl
  clean_list (fault ∷ faults) within clean =
      let one : Contains (tree_outcome tables plan []).faults fault = within fault (0, omega arith, refl) in
      absurd (none_in fault (subst (λ (fs : List Fault). Contains fs fault) clean one))

  none_missing : (tree_outcome tables plan []).faults ≡ [] → known.missing ≡ []
  none_missing clean = (known.complete (clean_list (tree_listing tables plan []).faults known.within clean)).1

  -- the plan's rows are those of the tree, and so are its faults
  of_tree : Permutes (tree_outcome tables tree []).rows (tree_outcome tables plan []).rows
  of_tree = Permutes-sym (tree_outcome tables plan []).rows (tree_outcome tables tree []).rows (stands.outcome []).rows

  quiet_plan : (tree_outcome tables tree []).faults ≡ [] → (tree_outcome tables plan []).faults ≡ []
  quiet_plan = no_faults (tree_outcome tables tree []).faults (tree_outcome tables plan []).faults
      (λ x. (((stands.outcome []).faults x).1, ((stands.outcome []).faults x).0))

  quiet_tree : (tree_outcome tables plan []).faults ≡ [] → (tree_outcome tables tree []).faults ≡ []
  quiet_tree = no_faults (tree_outcome tables plan []).faults (tree_outcome tables tree []).faults (stands.outcome []).faults

  sorted_so : (rows : List Row) → (tree_listing tables plan []).rows ≡ rows → IsSorted (by_keys (order_keys tree)) rows
  sorted_so rows e = fewer-keys (order_keys tree) stands.keys.more rows
      (subst (λ (keys : List OrderKey). IsSorted (by_keys keys) rows) stands.keys.is
      (subst (λ (listed : List Row). IsSorted (by_keys (order_keys plan)) listed) e (sorts tables plan [])))

  -- rows that begin the list begin an answer
  pub begins : (given rest : List Row) → (tree_listing tables plan []).rows ≡ given ++ rest → Begins (ordered_outcome tables tree) given
  begins given rest e = record {
    others = rest ++ known.missing;
    all = record {
      bag = goes_on of_tree (subst (λ (rows : List Row). Permutes (tree_outcome tables plan []).rows rows) split known.rows);
      sorted = λ clean. sorted_so (given ++ (rest ++ known.missing))
          (sym (append-nil (tree_listing tables plan []).rows)
          ∙ ap (λ (rows : List Row). (tree_listing tables plan []).rows ++ rows) (sym (none_missing (quiet_plan clean))) ∙ split);
    };
  }
    where
      split : (tree_listing tables plan []).rows ++ known.missing ≡ given ++ (rest ++ known.missing)
      split = ap (λ (rows : List Row). rows ++ known.missing) e ∙ append_assoc given rest known.missing

  -- the whole list, without a fault, is an answer
  pub whole : (given : List Row) → (tree_listing tables plan []).rows ≡ given → (tree_listing tables plan []).faults ≡ []
      → ((tree_outcome tables tree []).faults ≡ []) × IsWhole (ordered_outcome tables tree) given
  whole given e clean =
      let complete = known.complete clean in (
        quiet_tree complete.0,
        record {
          bag = goes_on of_tree (subst (λ (rows : List Row). Permutes (tree_outcome tables plan []).rows rows)
              (ap (λ (rows : List Row). (tree_listing tables plan []).rows ++ rows) complete.1 ∙ append-nil (tree_listing tables plan []).rows ∙ e) known.rows);
          sorted = λ fine. sorted_so given e;
        },
      )

  pub raises : (fault : Fault) (faults : List Fault) → (tree_listing tables plan []).faults ≡ fault ∷ faults → Contains (tree_outcome tables tree []).faults fault
  raises fault faults e = ((stands.outcome []).faults fault).0
      (known.within fault (subst (λ (fs : List Fault). Contains fs fault) (sym e) (0, omega arith, refl)))
