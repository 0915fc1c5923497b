-- The same of a device that has added an outcome, and what is found after a crash.
use Rattle.std.proofs.Common.{◌≡◌, ◌⊎◌, inl, inr, ℕ, suc, ◌+◌, ◌<◌, ◌≤◌, List, [], ◌∷◌, ◌++◌, length, get_or, take, drop, sym, ◌∙◌, ap, subst, arith}
use Rattle.std.specs.Prelude.{true, false, max, Result, Ok, Err, OnOk, OnErr}
use Rattle.std.proofs.Math.Seq.{take-suc}
use Rattle.std.proofs.lemmas.Bool.{cases_Bool, cases_lt}
use Rattle.disk.specs.Contents.{resized, overwritten}
use Rattle.disk.specs.Crashes.{Bytes, Elapses, Follows, Only, IsSpread, IsCut}
use Rattle.disk.proofs.ContentsLemmas.{length_overwritten, overwritten_torn}
use Rattle.crash_disk.specs.declared.outcome.Outcome.{Outcome}
use Rattle.crash_disk.specs.Outcomes.{IsWithin, in_range, InRange, IsFilled, IsSized, IsLeft, Agrees, HadOne, newest, Adds, AddsSynced}
use Rattle.crash_disk.proofs.RangeLemmas.{IsMore, range_cases}
use Rattle.crash_disk.proofs.TimeLemmas.{elapses_to, newest_then}
use Rattle.crash_disk.proofs.OutcomeLemmas.{spread_follows, cut_follows, more_agrees, torn_agrees, cut_agrees, synced_only, synced_agrees}

-- ---- by the outcome that was added

pub added : {E : Type 0} (result : Result (Unit {0}) E) (first : Outcome) (old new : List Outcome) (next : Outcome) (range : ℕ × ℕ) (len : ℕ) → OnOk result (new ≡ old ++ next ∷ [])
    → next.synced.items ≡ (newest first old).synced.items
    → next.ranges.items ≡ (newest first old).ranges.items ++ range ∷ []
    → next.lengths.items ≡ (newest first old).lengths.items ++ len ∷ []
    → OnOk result (Adds first old new range len)
added (Ok done) first old new next range len is synced ranges lengths = record { next = next; is = is; synced = synced; ranges = ranges; lengths = lengths }
added (Err e) first old new next range len is synced ranges lengths = tt

pub added_synced : {E : Type 0} (result : Result (Unit {0}) E) (old new : List Outcome) (next : Outcome) (bytes : Bytes) → OnOk result (new ≡ old ++ next ∷ [])
    → next.synced.items ≡ bytes → next.ranges.items ≡ [] → next.lengths.items ≡ []
    → OnOk result (AddsSynced old new bytes)
added_synced (Ok done) old new next bytes is synced ranges lengths = record { next = next; is = is; synced = synced; ranges = ranges; lengths = lengths }
added_synced (Err e) old new next bytes is synced ranges lengths = tt

is_more : (first : Outcome) (old new : List Outcome) (a b len : ℕ) → (added : Adds first old new (a, b) len)
    → IsMore (newest first old) added.next a b len
is_more first old new a b len added = record { synced = added.synced; ranges = added.ranges; lengths = added.lengths }

newest_is : (first : Outcome) (old new : List Outcome) (a b len : ℕ) → (added : Adds first old new (a, b) len)
    → newest first new ≡ added.next
newest_is first old new a b len added = newest_then first old new added.next added.is

pub add_elapses : (first : Outcome) (old new : List Outcome) (range : ℕ × ℕ) (len : ℕ) → Adds first old new range len
    → Elapses (length old) (length new) (λ t c. HadOne (drop t (first ∷ old)) c) (λ t c. HadOne (drop t (first ∷ new)) c) (IsLeft (newest first new))
add_elapses first old new range len added = elapses_to first old new added.next added.is

pub add_write_follows : (first : Outcome) (old new : List Outcome) (file : Bytes) (at n end len : ℕ)
    → Adds first old new (at, end) len → end ≡ at + n → len ≡ max (length file) end → Agrees (newest first old) file
    → Follows (IsSpread (length file) at n) (IsLeft (newest first old)) (IsLeft (newest first new))
add_write_follows first old new file at n end len added e l agrees =
    subst (λ (o : Outcome). Follows (IsSpread (length file) at n) (IsLeft (newest first old)) (IsLeft o)) (sym (newest_is first old new at end len added))
    (spread_follows (newest first old) added.next file at n
    (record { synced = added.synced; ranges = added.ranges ∙ ap (λ (k : ℕ). (newest first old).ranges.items ++ (at, k) ∷ []) e; lengths = added.lengths ∙ ap (λ (k : ℕ). (newest first old).lengths.items ++ k ∷ []) (l ∙ ap (max (length file)) e) })
    agrees)

pub add_write_agrees : {E : Type 0} (result : Result (Unit {0}) E) (first : Outcome) (old new : List Outcome) (file after bytes : Bytes) (at end len : ℕ) → Adds first old new (at, end) len
    → end ≡ at + length bytes → len ≡ max (length file) end → Agrees (newest first old) file
    → OnOk result (after ≡ overwritten file at bytes) → OnErr result (after ≡ file) → Agrees (newest first new) after
add_write_agrees (Ok done) first old new file after bytes at end len added e l agrees ok err =
    subst (λ (o : Outcome). Agrees o after) (sym (newest_is first old new at end len added))
    (subst (λ (f : Bytes). Agrees added.next f) (sym ok)
    (torn_agrees (newest first old) added.next file (overwritten file at bytes) at (length bytes) len
    (record { synced = added.synced; ranges = added.ranges ∙ ap (λ (k : ℕ). (newest first old).ranges.items ++ (at, k) ∷ []) e; lengths = added.lengths })
    agrees (overwritten_torn file bytes at) (length_overwritten file bytes at ∙ ap (max (length file)) (sym e) ∙ sym l)))
add_write_agrees (Err refusal) first old new file after bytes at end len added e l agrees ok err =
    subst (λ (o : Outcome). Agrees o after) (sym (newest_is first old new at end len added))
    (subst (λ (f : Bytes). Agrees added.next f) (sym err) (more_agrees (newest first old) added.next file at end len (is_more first old new at end len added) agrees))

pub add_cut_follows : (first : Outcome) (old new : List Outcome) (file : Bytes) (n end : ℕ)
    → Adds first old new (n, end) n → end ≡ length (newest first old).synced.items → Agrees (newest first old) file
    → Follows (IsCut n) (IsLeft (newest first old)) (IsLeft (newest first new))
add_cut_follows first old new file n end added e agrees =
    subst (λ (o : Outcome). Follows (IsCut n) (IsLeft (newest first old)) (IsLeft o)) (sym (newest_is first old new n end n added))
    (cut_follows (newest first old) added.next file n
    (record { synced = added.synced; ranges = added.ranges ∙ ap (λ (k : ℕ). (newest first old).ranges.items ++ (n, k) ∷ []) e; lengths = added.lengths })
    agrees)

pub add_cut_agrees : {E : Type 0} (result : Result (Unit {0}) E) (first : Outcome) (old new : List Outcome) (file after : Bytes) (n end : ℕ) → Adds first old new (n, end) n
    → end ≡ length (newest first old).synced.items → Agrees (newest first old) file
    → OnOk result (after ≡ resized file n) → OnErr result (after ≡ file) → Agrees (newest first new) after
add_cut_agrees (Ok done) first old new file after n end added e agrees ok err =
    subst (λ (o : Outcome). Agrees o after) (sym (newest_is first old new n end n added))
    (subst (λ (f : Bytes). Agrees added.next f) (sym ok)
    (cut_agrees (newest first old) added.next file n
    (record { synced = added.synced; ranges = added.ranges ∙ ap (λ (k : ℕ). (newest first old).ranges.items ++ (n, k) ∷ []) e; lengths = added.lengths })
    agrees))
add_cut_agrees (Err refusal) first old new file after n end added e agrees ok err =
    subst (λ (o : Outcome). Agrees o after) (sym (newest_is first old new n end n added))
    (subst (λ (f : Bytes). Agrees added.next f) (sym err) (more_agrees (newest first old) added.next file n end n (is_more first old new n end n added) agrees))

pub add_synced_only : (first : Outcome) (old new : List Outcome) (file : Bytes) → AddsSynced old new file
    → Only file (IsLeft (newest first new))
add_synced_only first old new file added =
    subst (λ (o : Outcome). Only file (IsLeft o)) (sym (newest_then first old new added.next added.is)) (synced_only added.next file added.synced added.ranges added.lengths)

pub add_synced_agrees : (first : Outcome) (old new : List Outcome) (file : Bytes) → AddsSynced old new file
    → Agrees (newest first new) file
add_synced_agrees first old new file added = subst (λ (o : Outcome). Agrees o file) (sym (newest_then first old new added.next added.is)) (synced_agrees added.next file added.synced)

pub add_synced_crash : (first : Outcome) (old new : List Outcome) (file : Bytes) → AddsSynced old new file
    → Agrees (newest first old) file → (c : Bytes) → IsLeft (newest first new) c → IsLeft (newest first old) c
add_synced_crash first old new file added agrees c left = subst (IsLeft (newest first old)) (sym (add_synced_only first old new file added c left)) agrees.left

pub add_synced_elapses : (first : Outcome) (old new : List Outcome) (file : Bytes) → AddsSynced old new file
    → Elapses (length old) (length new) (λ t c. HadOne (drop t (first ∷ old)) c) (λ t c. HadOne (drop t (first ∷ new)) c) (IsLeft (newest first new))
add_synced_elapses first old new file added = elapses_to first old new added.next added.is

-- ---- what is found

pub filled_left : (o : Outcome) (file mid found : Bytes) (from top : ℕ) → Agrees o file → from ≡ length o.synced.items
    → length mid ≡ length file → ((i : ℕ) → (IsWithin from top i → ⊥) → get_or mid i 0 ≡ get_or file i 0)
    → length found ≡ length mid → ((i : ℕ) → (InRange o.ranges.items i → ⊥) → get_or found i 0 ≡ get_or mid i 0)
    → IsLeft o found
filled_left o file mid found from top agrees start one outside two out = record {
  size = subst (λ (k : ℕ). IsSized o k) (sym (two ∙ one)) agrees.left.size;
  kept = λ i below within none. out i none ∙ outside i (λ is. omega (arith, is.0, below, start)) ∙ agrees.left.kept i below (omega (arith, one, two, within)) none;
}

-- one range more is filled
pub filled_next : (ranges : List (ℕ × ℕ)) (k : ℕ) (d : ℕ × ℕ) (old new : Bytes) → k < length ranges
    → length new ≡ length old
    → ((i : ℕ) → IsWithin (get_or ranges k d).0 (get_or ranges k d).1 i → i < length new → get_or new i 0 ≡ 165)
    → ((i : ℕ) → (IsWithin (get_or ranges k d).0 (get_or ranges k d).1 i → ⊥) → get_or new i 0 ≡ get_or old i 0)
    → ((i : ℕ) → i < length old → InRange (take k ranges) i → get_or old i 0 ≡ 165)
    → (i : ℕ) → i < length new → InRange (take (k + 1) ranges) i → get_or new i 0 ≡ 165
filled_next ranges k d old new less size inside outside so_far i within is =
    by (cases_lt i (get_or ranges k d).0) (cases_lt i (get_or ranges k d).1)
    (range_cases (take k ranges) (get_or ranges k d) i (subst (λ (l : List (ℕ × ℕ)). InRange l i) next is))
  where
    next : take (k + 1) ranges ≡ take k ranges ++ get_or ranges k d ∷ []
    next = let one : k + 1 ≡ suc k = omega arith in ap (λ (n : ℕ). take n ranges) one ∙ take-suc ranges k d less

    kept : InRange (take k ranges) i ⊎ IsWithin (get_or ranges k d).0 (get_or ranges k d).1 i
        → (IsWithin (get_or ranges k d).0 (get_or ranges k d).1 i → ⊥) → get_or new i 0 ≡ 165
    kept (inl before) out = outside i out ∙ so_far i (omega (arith, size, within)) before
    kept (inr here) out = absurd (out here)

    by : (i < (get_or ranges k d).0) ⊎ ((get_or ranges k d).0 ≤ i) → (i < (get_or ranges k d).1) ⊎ ((get_or ranges k d).1 ≤ i)
        → InRange (take k ranges) i ⊎ IsWithin (get_or ranges k d).0 (get_or ranges k d).1 i → get_or new i 0 ≡ 165
    by (inl low) other found = kept found (λ here. omega (arith, low, here.0))
    by (inr low) (inr past) found = kept found (λ here. omega (arith, past, here.1))
    by (inr low) (inl high) found = inside i (low, high) within

-- all that a crash may leave as any bytes is filled
pub filled_all : (o : Outcome) (mid found : Bytes) (from top : ℕ) → from ≡ length o.synced.items → top ≡ length mid
    → ((i : ℕ) → IsWithin from top i → i < length mid → get_or mid i 0 ≡ 165) → length found ≡ length mid
    → ((i : ℕ) → i < length found → InRange o.ranges.items i → get_or found i 0 ≡ 165)
    → ((i : ℕ) → (InRange o.ranges.items i → ⊥) → get_or found i 0 ≡ get_or mid i 0) → IsFilled o found
filled_all o mid found from top start end first size inside outside = record {
  ranges = inside;
  behind = λ i within behind. by i within behind (cases_Bool (in_range o.ranges.items i));
}
  where
    by : (i : ℕ) → i < length found → length o.synced.items ≤ i
        → (in_range o.ranges.items i ≡ true) ⊎ (in_range o.ranges.items i ≡ false) → get_or found i 0 ≡ 165
    by i within behind (inl is) = inside i within is
    by i within behind (inr none) =
        outside i (λ is. not (sym is ∙ none))
        ∙ first i (omega (arith, start, behind), omega (arith, end, size, within)) (omega (arith, size, within))
      where
        not : true ≡ false → ⊥
        not e = cc

pub of_ok : {E X : Type 0} (result : Result (Unit {0}) E) → OnOk result X → result ≡ Ok tt → X
of_ok {E} {X} result h is = subst (λ (r : Result (Unit {0}) E). OnOk r X) is h

pub on_any : {E X : Type 0} (result : Result (Unit {0}) E) → X → OnOk result X
on_any (Ok done) x = x
on_any (Err e) x = tt
