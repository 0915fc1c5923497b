-- A loop that marks rows and counts them.
use Rattle.std.proofs.Common.{◌≡◌, ap, sym, ◌∙◌, subst, ℕ, ◌+◌, ◌<◌, Bool, List, [], ◌∷◌, ◌++◌, length, take, get_or, arith}
use Rattle.std.specs.Prelude.{nat_lt, Result, Ok, Err, IfOk}
use Rattle.std.specs.BTreeMap.{BTreeMap}
use Rattle.std.proofs.lemmas.List.{take_more}
use Rattle.sqlval.specs.Value.{Row}
use Rattle.denote.specs.Bag.{times}
use Rattle.kernels.specs.declared.row_key.RowKey.{RowKey}
use Rattle.kernels.specs.Counts.{Counts}
use Rattle.kernels.specs.Marks.{marked, first_marks}
use Rattle.algebra.specs.Listing.{firsts}
use Rattle.kernels.proofs.Firsts.{first_marks-push, firsts-marked}

-- these rows are counted and have their marks
pub record Marked (counts : BTreeMap RowKey ℕ) (marks : List Bool) (allowed : Row → ℕ) (rows : List Row) : Type 0 where
  pub counted : Counts counts rows
  pub are : marks ≡ first_marks allowed [] rows

-- the next row
pub Marked-more : (counts : BTreeMap RowKey ℕ) (marks found : List Bool) (allowed : Row → ℕ) (rows : List Row) (i : ℕ) (row item : Row) (before limit : ℕ)
    → marks ≡ first_marks allowed [] (take i rows) → i < length rows → row ≡ item → item ≡ get_or rows i item
    → before ≡ times row (take i rows) → limit ≡ allowed row → Counts counts (take i rows ++ row ∷ []) → found ≡ marks ++ nat_lt before limit ∷ []
    → Marked counts found allowed (take (i + 1) rows)
Marked-more counts marks found allowed rows i row item before limit e short same is times_before most counted put =
    let more : take (i + 1) rows ≡ take i rows ++ row ∷ [] = take_more rows i item short ∙ ap (λ x. take i rows ++ x ∷ []) (sym is ∙ sym same) in
    let none : times row (take i rows) ≡ times row (take i rows) + times row [] = omega arith in
    record {
      counted = subst (λ (zs : List Row). Counts counts zs) (sym more) counted;
      are = put ∙ ap (λ zs. zs ++ nat_lt before limit ∷ []) e
          ∙ ap (λ b. first_marks allowed [] (take i rows) ++ b ∷ []) ((λ k. nat_lt (times_before k) (most k)) ∙ ap (λ n. nat_lt n (allowed row)) none)
          ∙ sym (first_marks-push allowed [] (take i rows) row)
          ∙ ap (first_marks allowed []) (sym more);
    }

-- what is kept by the marks
pub kept : {E : Type 0} (result : Result (List Row) E) (allowed : Row → ℕ) (marks : List Bool) (rows wanted : List Row) → IfOk result (λ found. found ≡ marked marks rows)
    → marks ≡ first_marks allowed [] rows → firsts allowed [] rows ≡ wanted → IfOk result (λ found. found ≡ wanted)
kept (Ok found) allowed marks rows wanted h e w = h ∙ ap (λ zs. marked zs rows) e ∙ sym (firsts-marked allowed [] rows) ∙ w
kept (Err refused) allowed marks rows wanted h e w = tt
