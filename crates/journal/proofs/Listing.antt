-- Going through the numbers of a list.
use Rattle.std.proofs.Common.{◌≡◌, ◌≢◌, ◌∙◌, ℕ, zero, suc, ◌+◌, ◌*◌, ◌^◌, ◌<◌, ◌≤◌, List, [], ◌++◌, length, get_or, take, drop, sym, ap, inl, inr, arith}
use Rattle.std.specs.Prelude.{◌⊎◌}
use Rattle.std.proofs.lemmas.Bool.{cases_lt, cases_eq}
use Rattle.byteorder.specs.Endian.{big_bytes}
use Rattle.pagefile.specs.Number.{number_at}
use Rattle.journal.specs.Lists.{listed, number_in, IsFront, IsList}
use Rattle.journal.proofs.Numbers.{number_here, number_there}
use Rattle.journal.proofs.Sets.{get_or_any}

-- how far a count has come: the numbers before i rise and are low, and the next is to be no less
-- than this
pub record IsCounted (list : List ℕ) (below i least : ℕ) : Type 0 where
  pub low : (k : ℕ) → k < i → listed list k < below
  pub rising : (k : ℕ) → suc k < i → listed list k < listed list (suc k)
  pub first : i ≡ 0 → least ≡ 0
  pub next : (k : ℕ) → suc k ≡ i → least ≡ listed list k + 1

pub count_none : (list : List ℕ) (below : ℕ) → IsCounted list below 0 0
count_none list below = record {
  low = λ k less. absurd (omega (arith, less));
  rising = λ k less. absurd (omega (arith, less));
  first = λ is. omega arith;
  next = λ k is. absurd (omega (arith, is));
}

pub count_more : (list : List ℕ) (below i least number : ℕ) → IsCounted list below i least → number ≡ listed list i → least ≤ number
    → number < below → IsCounted list below (i + 1) (number + 1)
count_more list below i least number so_far read no_less under = record {
  low = λ k less. low k (cases_lt k i) less;
  rising = λ k less. rising k (cases_lt (suc k) i) less;
  first = λ is. absurd (omega (arith, is));
  next = λ k is. let one : k ≡ i = omega (arith, is) in omega (arith, read, ap_listed k i one);
}
  where
    ap_listed : (k l : ℕ) → k ≡ l → listed list k ≡ listed list l
    ap_listed k l is = λ j. listed list (is j)

    low : (k : ℕ) → (k < i) ⊎ (i ≤ k) → k < i + 1 → listed list k < below
    low k (inl less) under_next = so_far.low k less
    low k (inr more) under_next = let same = ap_listed k i (omega (arith, more, under_next)) in omega (arith, same, read, under)

    rising : (k : ℕ) → (suc k < i) ⊎ (i ≤ suc k) → suc k < i + 1 → listed list k < listed list (suc k)
    rising k (inl less) under_next = so_far.rising k less
    rising k (inr more) under_next =
        let last : suc k ≡ i = omega (arith, more, under_next) in
        let same = ap_listed (suc k) i last in
        let above = so_far.next k last in omega (arith, same, read, no_less, above)

pub count_ended : (list : List ℕ) (below i least : ℕ) → i ≤ 1024 → IsCounted list below i least → (i < 1024 → listed list i ≡ 4294967295)
    → IsFront list below i
count_ended list below i least few so_far ended = record { few = few; low = so_far.low; rising = so_far.rising; ended = ended }

-- a number that is there is one of the list
used : (list : List ℕ) (below i size : ℕ) → IsList list below size → i < 1024 → listed list i ≢ 4294967295 → i < size
used list below i size is within there = by (cases_lt i size)
  where
    by : (i < size) ⊎ (size ≤ i) → i < size
    by (inl less) = less
    by (inr more) = absurd (there (is.rest i more within))

-- so it is low, and above the one before it
pub no_low : (list : List ℕ) (below i number : ℕ) → i < 1024 → number ≡ listed list i → number ≢ 4294967295 → below ≤ number
    → (size : ℕ) → IsList list below size → ⊥
no_low list below i number within read there high size is =
    let low = is.low i (used list below i size is within (λ e. there (read_as e))) in omega (arith, low, read, high)
  where
    read_as : listed list i ≡ 4294967295 → number ≡ 4294967295
    read_as e = omega (arith, e, read)

pub no_rising : (list : List ℕ) (below i least number : ℕ) → i < 1024 → IsCounted list below i least → number ≡ listed list i → number ≢ 4294967295
    → number < least → (size : ℕ) → IsList list below size → ⊥
no_rising list below zero least number within so_far read there less size is = let none = so_far.first (omega arith) in omega (arith, none, less)
no_rising list below (suc k) least number within so_far read there less size is =
    let up = is.rising k (used list below (suc k) size is within (λ e. there (omega (arith, e, read)))) in
    let above = so_far.next k (omega arith) in omega (arith, up, above, read, less)

-- the numbers at the front, and none behind them
pub front_list : (list : List ℕ) (below size : ℕ) → IsFront list below size → ((i : ℕ) → size ≤ i → i < 1024 → listed list i ≡ 4294967295)
    → IsList list below size
front_list list below size front rest = record { few = front.few; low = front.low; rising = front.rising; rest = rest }

-- a list of another size has numbers where the front ends, or none where it has one
pub front_only : (list : List ℕ) (below size : ℕ) → below ≤ 4294967295 → IsFront list below size
    → (((i : ℕ) → size ≤ i → i < 1024 → listed list i ≡ 4294967295) → ⊥) → (other : ℕ) → IsList list below other → ⊥
front_only list below size small front none other is = by (cases_lt other size) (cases_lt size other)
  where
    by : (other < size) ⊎ (size ≤ other) → (size < other) ⊎ (other ≤ size) → ⊥
    by (inl less) more =
        let unused = is.rest other (omega arith) (omega (arith, less, front.few)) in
        let low = front.low other less in omega (arith, unused, low, small)
    by (inr more) (inl above) =
        let unused = front.ended (omega (arith, above, is.few)) in
        let low = is.low size above in omega (arith, unused, low, small)
    by (inr more) (inr less) = none (λ i from within. is.rest i (omega (arith, from, more, less)) within)

-- a number written into the list

pub written_each : (set : List (ℕ × List ℕ)) (i at : ℕ) (old new : List ℕ) (item : ℕ × List ℕ) → i < length set → at ≡ 4 * i
    → item ≡ get_or set i item → at + 4 ≤ length old → item.0 < 2 ^ 32
    → new ≡ take at old ++ (big_bytes 4 item.0 ++ drop (at + 4) old) → ((k : ℕ) → k < i → listed old k ≡ number_in set k)
    → (k : ℕ) → k < i + 1 → listed new k ≡ number_in set k
written_each set i at old new item less is found within small written so_far k below = by (cases_eq k i)
  where
    by : (k ≡ i) ⊎ (k ≢ i) → listed new k ≡ number_in set k
    by (inl same) =
        let there : 4 * k ≡ at = omega (arith, same, is) in
        ap (number_at new) there ∙ number_here old new at item.0 (omega (arith, within)) small written ∙ ap (λ (e : ℕ × List ℕ). e.0) found
        ∙ ap (λ (e : ℕ × List ℕ). e.0) (get_or_any set i item (0, []) less) ∙ sym (ap (number_in set) same)
    by (inr other) = number_there old new at item.0 (4 * k) within written (inl (omega (arith, is, below, other))) ∙ so_far k (omega (arith, below, other))

pub written_rest : (i at number : ℕ) (old new : List ℕ) → at ≡ 4 * i → at + 4 ≤ length old
    → new ≡ take at old ++ (big_bytes 4 number ++ drop (at + 4) old)
    → ((k : ℕ) → i ≤ k → k < 1024 → listed old k ≡ 4294967295) → (k : ℕ) → i + 1 ≤ k → k < 1024 → listed new k ≡ 4294967295
written_rest i at number old new is within written so_far k low high =
    number_there old new at number (4 * k) within written (inr (omega (arith, is, low))) ∙ so_far k (omega (arith, low)) high
