-- One row more in a map that counts rows.
use Rattle.std.proofs.Common.{◌≡◌, refl, ap, sym, ◌∙◌, ℕ, ◌+◌, ◌-◌, ◌<◌, ◌^◌, length, Bool, true, false, cond, List, [], ◌∷◌, ◌++◌, Some, Option, arith, unwrap_or}
use Rattle.std.specs.BTreeMap.{BTreeMap, get, Updates}
use Rattle.std.specs.Ordering.{is_eq}
use Rattle.std.specs.Prelude.{min}
use Rattle.std.proofs.lemmas.List.Sums.{count_by-le-length}
use Rattle.sqlval.specs.Value.{Row}
use Rattle.denote.specs.Bag.{are_alike, times}
use Rattle.kernels.specs.declared.row_key.RowKey.{RowKey}
use Rattle.kernels.specs.Counts.{Counts, IsKey, key_order}
use Rattle.kernels.proofs.Alike.{alike, times-cons, times-append, times-alike}
use Rattle.kernels.proofs.Keys.{key_ties}

-- a count that saturates is exact
pub counted-once : (row : Row) (rows : List Row) (before next : ℕ) → before ≡ times row rows → next ≡ min (before + 1) (2 ^ 64 - 1) → length rows + 1 < 2 ^ 64 → next ≡ times row rows + 1
counted-once row rows before next e f h = omega (arith, count_by-le-length (are_alike row) rows, e, f, h)

-- what a look-up finds is how often the row came
pub count-is : (map : BTreeMap RowKey ℕ) (key : RowKey) (rows : List Row) (found : Option ℕ) → IsKey key → Counts map rows → found ≡ get key_order map key → unwrap_or found 0 ≡ times key.values.now rows
count-is map key rows found k h e = ap (λ o. unwrap_or o 0) e ∙ h.times key k

Counts-put : (old new : BTreeMap RowKey ℕ) (key : RowKey) (rows : List Row) (next : ℕ) → IsKey key → Counts old rows → next ≡ times key.values.now rows + 1
    → ((other : RowKey) → get key_order new other ≡ cond (is_eq (key_order key other)) (Some next) (get key_order old other)) → Counts new (rows ++ key.values.now ∷ [])
Counts-put old new key rows next k counts is put = record { times = one }
  where
    one : (other : RowKey) → IsKey other → unwrap_or (get key_order new other) 0 ≡ times other.values.now (rows ++ key.values.now ∷ [])
    one other o =
        ap (λ o. unwrap_or o 0) (put other)
        ∙ ap (λ b. unwrap_or (cond b (Some next) (get key_order old other)) 0) (sym (key_ties key other k o))
        ∙ at (are_alike key.values.now other.values.now) refl
      where
        more : times other.values.now (rows ++ key.values.now ∷ []) ≡ times other.values.now rows + (cond (are_alike key.values.now other.values.now) 1 0 + 0)
        more = times-append other.values.now rows (key.values.now ∷ [])
            ∙ ap (λ n. times other.values.now rows + n) (times-cons other.values.now key.values.now [] ∙ ap (λ b. cond b 1 0 + 0) (alike.symm other.values.now key.values.now))

        at : (b : Bool) → are_alike key.values.now other.values.now ≡ b
            → unwrap_or (cond b (Some next) (get key_order old other)) 0 ≡ times other.values.now (rows ++ key.values.now ∷ [])
        at true e =
            let n : times key.values.now rows ≡ times other.values.now rows = times-alike key.values.now other.values.now e rows in
            let m : times other.values.now (rows ++ key.values.now ∷ []) ≡ times other.values.now rows + (1 + 0) = more ∙ ap (λ b. times other.values.now rows + (cond b 1 0 + 0)) e in
            omega (arith, n, m, is)
        at false e =
            let m : times other.values.now (rows ++ key.values.now ∷ []) ≡ times other.values.now rows + (0 + 0) = more ∙ ap (λ b. times other.values.now rows + (cond b 1 0 + 0)) e in
            omega (arith, m, counts.times other o)

pub Counts-push : (old new : BTreeMap RowKey ℕ) (key : RowKey) (rows : List Row) (next : ℕ) → IsKey key → Counts old rows → next ≡ times key.values.now rows + 1 → Updates key_order old new key (Some next)
    → Counts new (rows ++ key.values.now ∷ [])
Counts-push old new key rows next k counts is updates = Counts-put old new key rows next k counts is updates.0

-- of two numbers that are put at a row the later counts
pub Counts-again : (old between new : BTreeMap RowKey ℕ) (key : RowKey) (rows : List Row) (first next : ℕ) → IsKey key → Counts old rows → next ≡ times key.values.now rows + 1
    → Updates key_order old between key (Some first) → Updates key_order between new key (Some next) → Counts new (rows ++ key.values.now ∷ [])
Counts-again old between new key rows first next k counts is once again =
    Counts-put old new key rows next k counts is (λ other. again.0 other ∙ ap (cond (is_eq (key_order key other)) (Some next)) (once.0 other) ∙ later (is_eq (key_order key other)) (get key_order old other))
  where
    later : (b : Bool) (o : Option ℕ) → cond b (Some next) (cond b (Some first) o) ≡ cond b (Some next) o
    later true o = refl
    later false o = refl
