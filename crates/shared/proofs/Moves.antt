-- Each step keeps the rule.
use Rattle.std.proofs.Common.{◌≡◌, ◌≢◌, ◌⊎◌, ℕ, zero, suc, ◌+◌, ◌%◌, ◌^◌, ◌<◌, ◌==◌, Bool, true, false, true≢false, List, [], ◌∷◌, ◌++◌, length, set, refl, sym, ap, ◌∙◌, subst, inl, inr, ⊎_elim, arith, length-append}
use Rattle.std.specs.Prelude.{slice_index}
use mathlib.Core.Option.{some, some-ne-none, some-injective}
use lib.ListN.{get_elem?}
use Rattle.crossbeam_utils.specs.Register.{Turns, Forks, Merges}
use Rattle.atomic_table.proofs.Lists.{at_set, set_again}
use Rattle.shared.specs.declared.event.Event.{Event}
use Rattle.shared.specs.declared.rule.View.{View}
use Rattle.shared.specs.History.{AllOf}
use Rattle.shared.specs.Views.{keeper, host, nobody, keeper_in, caller_in, one_more, newcomer, extended, Fits, Kept, May, Adds, Peeks}
use Rattle.shared.proofs.Histories.{same, differs, all_snoc, all_more, none_yet, holder_below, calls_after, calls_beside}

at_end : {A : Type 0} (l : List A) (a b : A) (j : ℕ) → get_elem? (l ++ a ∷ []) j ≡ some b → ((j ≢ length l) × (get_elem? l j ≡ some b)) ⊎ ((j ≡ length l) × (a ≡ b))
at_end [] a b zero e = inr (refl, some-injective a b e)
at_end [] a b (suc j) e = absurd (some-ne-none b (sym e))
at_end (x ∷ xs) a b zero e = inl ((λ h. omega arith), e)
at_end (x ∷ xs) a b (suc j) e = ⊎_elim (λ t. let n = t.0 in inl ((λ h. n (omega arith)), t.1)) (λ t. inr (ap suc t.0, t.1)) (at_end xs a b j e)

each_set : (P : ℕ → View → Type 0) (views : List View) (by : ℕ) (w : View) → ((j : ℕ) (u : View) → j ≢ by → get_elem? views j ≡ some u → P j u) → P by w → (j : ℕ) (u : View) → get_elem? (set views by w) j ≡ some u → P j u
each_set P views by w others mine j u e =
    ⊎_elim
    (λ (x : (j ≡ by) × (w ≡ u)). subst (λ (y : ℕ × View). P y.0 y.1) (λ i. (sym x.0 i, x.1 i)) mine)
    (λ (x : (j ≢ by) × (get_elem? views j ≡ some u)). others j u x.0 x.1)
    (at_set views by j w u e)

each_snoc : (P : ℕ → View → Type 0) (views : List View) (w : View) → ((j : ℕ) (u : View) → j ≢ length views → get_elem? views j ≡ some u → P j u) → P (length views) w → (j : ℕ) (u : View) → get_elem? (views ++ w ∷ []) j ≡ some u → P j u
each_snoc P views w others mine j u e =
    ⊎_elim
    (λ (x : (j ≢ length views) × (get_elem? views j ≡ some u)). others j u x.0 x.1)
    (λ (x : (j ≡ length views) × (w ≡ u)). subst (λ (y : ℕ × View). P y.0 y.1) (λ i. (sym x.0 i, x.1 i)) mine)
    (at_end views w u j e)

off : {X : Type 0} → false ≡ true → X
off e = absurd (true≢false (sym e))

-- the rule, as the pass that knows all of it sees it
record At (by : ℕ) (v : View) (words : List ℕ) (views : List View) : Type 0 where
  seats : ℕ → ℕ
  counted : slice_index words 0 ≡ length v.log % 2 ^ 64
  all_of : AllOf v.names v.log
  fits : (j : ℕ) (u : View) → get_elem? views j ≡ some u → Fits by seats v.names v.log j u

at_keeper : (by : ℕ) (v : View) (words : List ℕ) (views : List View) → Kept words views → get_elem? views by ≡ some v → v.keeps ≡ true → At by v words views
at_keeper by v words views h at keeps =
    let k = (h.fits by v at).0 keeps in record {
      seats = h.seats;
      counted = h.counted ∙ ap (λ (l : List Event). length l % 2 ^ 64) (sym k.2);
      all_of = subst (λ (x : ℕ × List Event). AllOf x.0 x.1) (λ i. (sym k.1 i, sym k.2 i)) h.all_of;
      fits = λ j u e. subst (λ (x : ℕ × (ℕ × List Event)). Fits x.0 h.seats x.1.0 x.1.1 j u) (λ i. (sym k.0 i, (sym k.1 i, sym k.2 i))) (h.fits j u e);
    }

abbrev over : Bool → ℕ → ℕ → ℕ
over true a b = a
over false a b = b

-- the seats, with a new one for k
abbrev placed : ℕ → ℕ → (ℕ → ℕ) → ℕ → ℕ
placed k at seats who = over (who == k) at (seats who)

placed_at : (k at : ℕ) (seats : ℕ → ℕ) → at ≡ placed k at seats k
placed_at k at seats = ap (λ b. over b at (seats k)) (sym (same k))

placed_else : (k at : ℕ) (seats : ℕ → ℕ) (who : ℕ) → who ≢ k → seats who ≡ placed k at seats who
placed_else k at seats who apart = ap (λ b. over b at (seats who)) (sym (differs who k apart))

pub begins : (words : List ℕ) → slice_index words 0 ≡ 0 → Kept words (keeper 0 [] ∷ [])
begins words zero_is = record { seat = 0; seats = λ k. 0; names = 0; log = []; counted = zero_is; all_of = tt; fits = one }
  where
    one : (by : ℕ) (v : View) → get_elem? (keeper 0 [] ∷ []) by ≡ some v → Fits 0 (λ k. 0) 0 [] by v
    one zero v e = subst (Fits 0 (λ k. 0) 0 [] 0) (some-injective _ _ e) ((λ _. (refl, refl, refl)), (λ c. off c))
    one (suc by) v e = absurd (some-ne-none v (sym e))

pub adds : (by : ℕ) (v : View) (e : Event) (c : ℕ) → v.keeps ≡ true → v.calls ≡ true → e.who ≡ v.who → May v e.act → c ≡ (length v.log + 1) % 2 ^ 64 → Turns Kept by v (λ _. c ∷ []) (Adds e)
adds by v e c keeps calls is may count words views h at =
    let a = at_keeper by v words views h at keeps in
    let mine = (a.fits by v at).1 calls in
    let now = v.log ++ e ∷ [] in (
      extended e v,
      record {
        seat = by;
        seats = a.seats;
        names = v.names;
        log = now;
        counted = count ∙ ap (λ (n : ℕ). n % 2 ^ 64) (sym (length-append v.log (e ∷ [])));
        all_of = all_snoc v.names v.log e a.all_of (subst (λ (k : ℕ). k < v.names) (sym is) mine.1.named);
        fits = each_set (Fits by a.seats v.names now) views by (extended e v)
            (λ j u apart there.
            let f = a.fits j u there in (
              (λ k. absurd (apart (f.0 k).0)),
              (λ c. ((f.1 c).0, calls_beside v u e is may mine.1 (λ k. apart ((f.1 c).0 ∙ ap a.seats k ∙ sym mine.0)) (f.1 c).1)),
            ))
            ((λ _. (refl, refl, refl)), (λ _. (mine.0, calls_after v e is may mine.1)));
      },
      refl,
    )

pub peeks : (by : ℕ) (v : View) → v.keeps ≡ true → v.calls ≡ true → Turns Kept by v (λ x. x) Peeks
peeks by v keeps calls words views h at =
    let a = at_keeper by v words views h at keeps in
    (v, subst (λ l. Kept words l) (sym (set_again views by v at)) h, (refl, ((a.fits by v at).1 calls).1, a.all_of))

pub spares : (by : ℕ) (v : View) → Forks Kept by v v nobody
spares by v words views h at = record {
  seat = h.seat;
  seats = h.seats;
  names = h.names;
  log = h.log;
  counted = h.counted;
  all_of = h.all_of;
  fits = each_snoc (Fits h.seat h.seats h.names h.log) (set views by v) nobody
      (λ j u _ there. h.fits j u (subst (λ l. get_elem? l j ≡ some u) (set_again views by v at) there))
      ((λ k. off k), (λ c. off c));
}

pub gives_back : (by : ℕ) (v : View) → v.keeps ≡ true → v.calls ≡ true → Forks Kept by v (keeper_in v) (caller_in v)
gives_back by v keeps calls words views h at =
    let a = at_keeper by v words views h at keeps in
    let mine = (a.fits by v at).1 calls in
    let rest = set views by (keeper_in v) in
    let seats = placed v.who (length rest) a.seats in
    let P : ℕ → View → Type 0 = Fits by seats v.names v.log in record {
      seat = by;
      seats = seats;
      names = v.names;
      log = v.log;
      counted = a.counted;
      all_of = a.all_of;
      fits = each_snoc P rest (caller_in v)
          (λ j u _ there. each_set P views by (keeper_in v)
          (λ i x apart e.
          let f = a.fits i x e in (
            (λ k. f.0 k),
            (λ c. ((f.1 c).0 ∙ placed_else v.who (length rest) a.seats x.who (λ k. apart ((f.1 c).0 ∙ ap a.seats k ∙ sym mine.0)), (f.1 c).1)),
          ))
          ((λ _. (refl, refl, refl)), (λ c. off c)) j u there)
          ((λ k. off k), (λ _. (placed_at v.who (length rest) a.seats, record { named = mine.1.named; saw = mine.1.saw; made = mine.1.made; stands = mine.1.stands; alone = mine.1.alone })));
    }

pub names_one : (by : ℕ) (v : View) → v.keeps ≡ true → Forks Kept by v (one_more v) (newcomer v)
names_one by v keeps words views h at =
    let a = at_keeper by v words views h at keeps in
    let rest = set views by (one_more v) in
    let seats = placed v.names (length rest) a.seats in
    let P : ℕ → View → Type 0 = Fits by seats (v.names + 1) v.log in record {
      seat = by;
      seats = seats;
      names = v.names + 1;
      log = v.log;
      counted = a.counted;
      all_of = all_more v.names v.log a.all_of;
      fits = each_snoc P rest (newcomer v)
          (λ j u _ there. each_set P views by (one_more v)
          (λ i x apart e.
          let f = a.fits i x e in (
            (λ k. absurd (apart (f.0 k).0)),
            (λ c. let t = (f.1 c).1 in (
              (f.1 c).0 ∙ placed_else v.names (length rest) a.seats x.who (λ k. omega (arith, k, t.named)),
              record { named = omega (arith, t.named); saw = t.saw; made = t.made; stands = t.stands; alone = t.alone },
            )),
          ))
          ((λ _. (refl, refl, refl)), (λ c. off c)) j u there) (
            (λ k. off k),
            (λ _. (
              placed_at v.names (length rest) a.seats,
              record {
                named = omega arith;
                saw = (v.log, refl);
                made = none_yet v.names v.log a.all_of;
                stands = tt;
                alone = λ id h. let below : v.names < v.names = holder_below v.names id v.log a.all_of v.names h in absurd (omega (arith, below));
              },
            )),
          );
    }

pub takes_in : (by : ℕ) (v : View) (other : ℕ) (w : View) → v.keeps ≡ true → w.calls ≡ true → Merges Kept by v other w (host v w) nobody
takes_in by v other w keeps calls words views h at apart there =
    let a = at_keeper by v words views h at keeps in
    let was = ⊎_elim (λ (t : (other ≡ by) × (host v w ≡ w)). absurd (apart t.0)) (λ (t : (other ≢ by) × (get_elem? views other ≡ some w)). t.1) (at_set views by other (host v w) w there) in
    let theirs = (a.fits other w was).1 calls in
    let seats = placed w.who by a.seats in
    let P : ℕ → View → Type 0 = Fits by seats v.names v.log in
    let Q : ℕ → View → Type 0 = λ j u. j ≢ other → P j u in record {
      seat = by;
      seats = seats;
      names = v.names;
      log = v.log;
      counted = a.counted;
      all_of = a.all_of;
      fits = each_set P (set views by (host v w)) other nobody
          (λ j u far e. each_set Q views by (host v w)
          (λ i x near e' away.
          let f = a.fits i x e' in (
            (λ k. f.0 k),
            (λ c. ((f.1 c).0 ∙ placed_else w.who by a.seats x.who (λ k. away ((f.1 c).0 ∙ ap a.seats k ∙ sym theirs.0)), (f.1 c).1)),
          ))
          (λ _. ((λ _. (refl, refl, refl)), (λ _. (placed_at w.who by a.seats, record { named = theirs.1.named; saw = theirs.1.saw; made = theirs.1.made; stands = theirs.1.stands; alone = theirs.1.alone }))))
          j u e far)
          ((λ k. off k), (λ c. off c));
    }
