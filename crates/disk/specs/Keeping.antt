-- Which calls of a device keep a property of all that a crash may leave: laws that each layer above
-- composes its calls by.
use Rattle.std.specs.Prelude.{◌≡◌, ℕ, ◌≤◌, true, false}
use Rattle.std.proofs.Common.{inl, inr, ⊎_elim, arith, refl}
use Rattle.disk.specs.Crashes.{Bytes, Elapses, LeavesOnly, Always, Follows, Keeps, IsSpread, IsCut}

-- a device that is not durable owes no law of crashes
pub not_durable : {A : Type 0} → false ≡ true → A
not_durable h = absurd (no h)
  where
    no : false ≡ true → ⊥
    no e = cc

-- no time passes where nothing is done
pub stands_still : (now : ℕ) (past : ℕ → Bytes → Type 0) (may_leave : Bytes → Type 0)
    → Elapses now now past past may_leave
stands_still now past may_leave = record {
  later = omega arith;
  nothing_else = λ t c le left. inl left;
  keeps = λ t c le left. left;
}

-- a refused write of which nothing went out
pub spread_none : (size at n : ℕ) (outcomes : Bytes → Type 0) → Follows (IsSpread size at n) outcomes outcomes
spread_none size at n outcomes c left = (
  c,
  left,
  record {
    torn = record {
      no_shorter = omega arith;
      no_longer = omega arith;
      before = λ i w b. refl;
      behind = λ i w b. refl;
    };
    within = λ w. refl;
  },
)

-- and one of which a part went out
pub spread_part : (size at part n : ℕ) (old new : Bytes → Type 0) → part ≤ n → Follows (IsSpread size at part) old new
    → Follows (IsSpread size at n) old new
spread_part size at part n old new less follows c left =
    let from = follows c left in
    let torn = from.2.torn in (
      from.0,
      from.1,
      record {
        torn = record {
          no_shorter = torn.no_shorter;
          no_longer = omega (arith, torn.no_longer, less);
          before = torn.before;
          behind = λ i w b. torn.behind i w (omega (arith, b, less));
        };
        within = λ w. from.2.within (omega (arith, w, less));
      },
    )

-- a refused change of the length that changed nothing
pub cut_none : (n : ℕ) (outcomes : Bytes → Type 0) → Follows (IsCut n) outcomes outcomes
cut_none n outcomes c left = (c, left, record { size = inl refl; front = λ i a b d. refl })

module _ {D : Type 0} (moment : D → ℕ) (left_since : D → ℕ → Bytes → Type 0) where
  -- before the first call
  pub started : (old : D) (P : Bytes → Type 0) → ((c : Bytes) → left_since old (moment old) c → P c)
      → LeavesOnly moment left_since old old P
  started old P here = record { later = omega arith; each = here; before = λ t c le left. inl left }

  -- one call more, behind which a crash leaves what has P
  pub goes_on : (old mid new : D) (P may_leave : Bytes → Type 0) → LeavesOnly moment left_since old mid P
      → Elapses (moment mid) (moment new) (left_since mid) (left_since new) may_leave → Always may_leave P
      → LeavesOnly moment left_since old new P
  goes_on old mid new P may_leave so_far time here = record {
    later = omega (arith, so_far.later, time.later);
    each = λ c left. ⊎_elim (so_far.each c) (here c) (time.nothing_else (moment old) c so_far.later left);
    before = λ t c le left.
        ⊎_elim (so_far.before t c le) (λ now. inr (here c now))
        (time.nothing_else t c (omega (arith, le, so_far.later)) left);
  }

  -- two runs of calls, one behind the other
  pub joined : (old mid new : D) (P : Bytes → Type 0) → LeavesOnly moment left_since old mid P
      → LeavesOnly moment left_since mid new P → LeavesOnly moment left_since old new P
  joined old mid new P first second = record {
    later = omega (arith, first.later, second.later);
    each = λ c left. ⊎_elim (first.each c) (λ p. p) (second.before (moment old) c first.later left);
    before = λ t c le left.
        ⊎_elim (first.before t c le) (λ p. inr p) (second.before t c (omega (arith, le, first.later)) left);
  }

  -- what has P has Q
  pub weaker : (old new : D) (P Q : Bytes → Type 0) → ((c : Bytes) → P c → Q c)
      → LeavesOnly moment left_since old new P → LeavesOnly moment left_since old new Q
  weaker old new P Q to h = record {
    later = h.later;
    each = λ c left. to c (h.each c left);
    before = λ t c le left. ⊎_elim (λ l. inl l) (λ p. inr (to c p)) (h.before t c le left);
  }

module _ {D : Type 0} (moment : D → ℕ) (left_since : D → ℕ → Bytes → Type 0) (may_leave : D → Bytes → Type 0) where
  -- no call
  pub none : (only_now : (d : D) (c : Bytes) → left_since d (moment d) c → may_leave d c) (old : D) (P : Bytes → Type 0)
      → Keeps moment left_since may_leave old old P
  none only_now old P all = (all, started moment left_since old P (λ c left. all c (only_now old c left)))

  -- calls that keep P behind calls that keep it
  pub then : (old mid new : D) (P : Bytes → Type 0) → Keeps moment left_since may_leave old mid P
      → Keeps moment left_since may_leave mid new P → Keeps moment left_since may_leave old new P
  then old mid new P first second all =
      let one = first all in
      let two = second one.0 in (two.0, joined moment left_since old mid new P one.1 two.1)

  -- a call that adds no outcome
  pub calm : (only_now : (d : D) (c : Bytes) → left_since d (moment d) c → may_leave d c) (old new : D)
      (P : Bytes → Type 0) → ((c : Bytes) → may_leave new c → may_leave old c)
      → Elapses (moment old) (moment new) (left_since old) (left_since new) (may_leave new)
      → Keeps moment left_since may_leave old new P
  calm only_now old new P crash time all =
      let after : Always (may_leave new) P = λ c left. all c (crash c left) in (
        after,
        goes_on moment left_since old old new P (may_leave new) (none only_now old P all).1 time after,
      )

  -- a step that leads from P to Q: what a crash leaves at any moment of it has P or Q
  pub step : (only_now : (d : D) (c : Bytes) → left_since d (moment d) c → may_leave d c) (old new : D)
      (P Q : Bytes → Type 0) (by : Bytes → Bytes → Type 0) → Follows by (may_leave old) (may_leave new)
      → Elapses (moment old) (moment new) (left_since old) (left_since new) (may_leave new)
      → ((d c : Bytes) → P d → by d c → Q c) → ((c : Bytes) → P c → Q c) → Always (may_leave old) P
      → Always (may_leave new) Q × LeavesOnly moment left_since old new Q
  step only_now old new P Q by crash time to here all =
      let after : Always (may_leave new) Q =
      λ c left. let from = crash c left in to from.0 c (all from.0 from.1) from.2 in
      let before : Always (may_leave old) Q = λ c left. here c (all c left) in (
        after,
        goes_on moment left_since old old new Q (may_leave new) (none only_now old Q before).1 time after,
      )
