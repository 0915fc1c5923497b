-- The sessions that a script has made, by their numbers, and that each of them stands.
use Rattle.std.proofs.Common.{◌≡◌, ◌≢◌, ◌⊎◌, refl, ap, sym, ◌∙◌, ℕ, suc, zero, ◌<◌, ◌+◌, true, false, List, [], ◌∷◌, map, replicate, get_or, length, Some, None, Ok, inl, inr, arith}
use Rattle.std.specs.Prelude.{slice_set, is_some}
use Rattle.std.specs.Option.{option_map}
use Rattle.std.specs.Ordering.{nat_cmp}
use Rattle.std.specs.declared.cmp.Ordering.TheVariants.{Less}
use Rattle.std.specs.Cmp.{nat_cmp_is}
use Rattle.std.specs.FinMap.{FinMap, get, insert, empty, entries, values, entries-insert, len-entries, len-empty, get-empty, same_map, nat_cmp-IsAntisymmetric, put}
use Rattle.std.proofs.lemmas.Bool.{cases_eq}
use Rattle.std.proofs.lemmas.Cmp.{nat_cmp_total}
use Rattle.session_definitions.specs.Run.{MakesSession, DropsSession}
use Rattle.session_definitions.specs.World.{World, is_live}
use Rattle.session_laws.proofs.Live.{made_live, made_others, dropped_others}
use Rattle.session_laws.proofs.Maps.{get_here, get_there}
use Rattle.sessions.specs.declared.core_of.SessionId.{SessionId}
use Rattle.sessions.specs.OfCore.{number_of}
use Rattle.scripts.specs.Settled.{Places}
use Rattle.scripts.specs.Playing.{standing_from, numbers_of, Misses, AreLive}

-- ---- by their numbers

pub none_standing : (n k : ℕ) → standing_from k (replicate n None) ≡ empty
none_standing zero k = refl
none_standing (suc n) k = none_standing n (k + 1)

pub none_numbered : (n : ℕ) → numbers_of (replicate n None) ≡ []
none_numbered zero = refl
none_numbered (suc n) = none_numbered n

below_none : (places : Places) (k q : ℕ) → q < k → get (standing_from k places) q ≡ None
below_none [] k q h = get-empty nat_cmp q
below_none (None ∷ places) k q h = below_none places (k + 1) q (omega arith)
below_none (Some session ∷ places) k q h =
    let ne : q ≢ k = λ e. absurd (omega arith) in
    get_there (standing_from (k + 1) places) k (number_of session) q ne ∙ below_none places (k + 1) q (omega arith)

pub get_standing : (places : Places) (k i : ℕ) → get (standing_from k places) (k + i) ≡ option_map number_of (get_or places i None)
get_standing [] k i = get-empty nat_cmp (k + i)
get_standing (None ∷ places) k zero = below_none places (k + 1) (k + zero) (omega arith)
get_standing (None ∷ places) k (suc i) =
    let e : k + suc i ≡ (k + 1) + i = omega arith in
    ap (get (standing_from (k + 1) places)) e ∙ get_standing places (k + 1) i
get_standing (Some session ∷ places) k zero =
    let e : k + zero ≡ k = omega arith in
    ap (get (insert (standing_from (k + 1) places) k (number_of session))) e ∙ get_here (standing_from (k + 1) places) k (number_of session)
get_standing (Some session ∷ places) k (suc i) =
    let ne : k + suc i ≢ k = λ h. absurd (omega arith) in
    let e : k + suc i ≡ (k + 1) + i = omega arith in
    get_there (standing_from (k + 1) places) k (number_of session) (k + suc i) ne ∙ ap (get (standing_from (k + 1) places)) e ∙ get_standing places (k + 1) i

not_none : (session : SessionId) → Some session ≡ None → ⊥
not_none session e = let wrong : true ≡ false = ap is_some e in cc wrong

swapped : (m : FinMap nat_cmp ℕ) (j k x y : ℕ) → j ≢ k → insert (insert m j x) k y ≡ insert (insert m k y) j x
swapped m j k x y apart = same_map nat_cmp_total nat_cmp-IsAntisymmetric _ _ (λ q. at q (cases_eq q k) (cases_eq q j))
  where
    at : (q : ℕ) → (q ≡ k) ⊎ (q ≡ k → ⊥) → (q ≡ j) ⊎ (q ≡ j → ⊥) → get (insert (insert m j x) k y) q ≡ get (insert (insert m k y) j x) q
    at q (inl is) (inl also) = absurd (apart (sym also ∙ is))
    at q (inl is) (inr ne) =
        ap (get (insert (insert m j x) k y)) is ∙ get_here (insert m j x) k y
        ∙ sym (get_there (insert m k y) j x q ne ∙ ap (get (insert m k y)) is ∙ get_here m k y)
    at q (inr ne) (inl is) =
        get_there (insert m j x) k y q ne ∙ ap (get (insert m j x)) is ∙ get_here m j x
        ∙ sym (ap (get (insert (insert m k y) j x)) is ∙ get_here (insert m k y) j x)
    at q (inr ne) (inr other) =
        get_there (insert m j x) k y q ne ∙ get_there m j x q other
        ∙ sym (get_there (insert m k y) j x q other ∙ get_there m k y q ne)

-- one more, in a place that is empty
pub set_standing : (places : Places) (k i : ℕ) (session : SessionId) → i < length places → get_or places i None ≡ None
    → standing_from k (slice_set places i (Some session)) ≡ insert (standing_from k places) (k + i) (number_of session)
set_standing [] k i session within none = absurd (omega (arith, within))
set_standing (None ∷ places) k zero session within none =
    let e : k ≡ k + zero = omega arith in
    ap (λ n. insert (standing_from (k + 1) places) n (number_of session)) e
set_standing (None ∷ places) k (suc i) session within none =
    let e : (k + 1) + i ≡ k + suc i = omega arith in
    set_standing places (k + 1) i session (omega (arith, within)) none ∙ ap (λ n. insert (standing_from (k + 1) places) n (number_of session)) e
set_standing (Some other ∷ places) k zero session within none = absurd (not_none other none)
set_standing (Some other ∷ places) k (suc i) session within none =
    let e : (k + 1) + i ≡ k + suc i = omega arith in
    let ne : k + suc i ≢ k = λ h. absurd (omega arith) in
    ap (λ m. insert m k (number_of other)) (set_standing places (k + 1) i session (omega (arith, within)) none ∙ ap (λ n. insert (standing_from (k + 1) places) n (number_of session)) e)
    ∙ swapped (standing_from (k + 1) places) (k + suc i) k (number_of session) (number_of other) ne

-- ---- in their order

entries_of : ℕ → Places → List (ℕ × ℕ)
entries_of k [] = []
entries_of k (None ∷ places) = entries_of (k + 1) places
entries_of k (Some session ∷ places) = (k, number_of session) ∷ entries_of (k + 1) places

nothing : (es : List (ℕ × ℕ)) → length es ≡ 0 → es ≡ []
nothing [] e = refl
nothing (e ∷ es) h = absurd (omega (arith, h))

no_entries : entries (empty {X = ℕ} {R = nat_cmp}) ≡ []
no_entries = nothing (entries empty) (sym (len-entries (empty {X = ℕ} {R = nat_cmp})) ∙ len-empty nat_cmp ℕ)

put_first : (places : Places) (j k n : ℕ) → k < j → put nat_cmp k n (entries_of j places) ≡ (k, n) ∷ entries_of j places
unfolding entries_of
put_first [] j k n h = refl
put_first (None ∷ places) j k n h = put_first places (j + 1) k n (omega arith)
put_first (Some session ∷ places) j k n h = rw (sym (nat_cmp_is k j Less h)) refl

entries_standing : (places : Places) (k : ℕ) → entries (standing_from k places) ≡ entries_of k places
unfolding entries_of
entries_standing [] k = no_entries
entries_standing (None ∷ places) k = entries_standing places (k + 1)
entries_standing (Some session ∷ places) k =
    entries-insert nat_cmp_total (standing_from (k + 1) places) k (number_of session) ∙ ap (put nat_cmp k (number_of session)) (entries_standing places (k + 1))
    ∙ put_first places (k + 1) k (number_of session) (omega arith)

numbers_listed : (places : Places) (k : ℕ) → map (λ (e : ℕ × ℕ). e.1) (entries_of k places) ≡ numbers_of places
unfolding entries_of
numbers_listed [] k = refl
numbers_listed (None ∷ places) k = numbers_listed places (k + 1)
numbers_listed (Some session ∷ places) k = ap (λ (l : List ℕ). number_of session ∷ l) (numbers_listed places (k + 1))

pub values_standing : (places : Places) (k : ℕ) → values (standing_from k places) ≡ numbers_of places
values_standing places k = ap (map (λ (e : ℕ × ℕ). e.1)) (entries_standing places k) ∙ numbers_listed places k

-- ---- that they stand

pub missed : (w : World) (s : ℕ) (ss : List ℕ) → is_live w s ≡ false → AreLive w ss → Misses s ss
missed w s [] dead live = tt
missed w s (k ∷ ks) dead (is, apart, live) =
    (λ same. let wrong : true ≡ false = sym is ∙ ap (is_live w) same ∙ dead in cc wrong, missed w s ks dead live)

pub live_alike : (old new : World) (ss : List ℕ) → ((k : ℕ) → is_live new k ≡ is_live old k) → AreLive old ss → AreLive new ss
live_alike old new [] same live = tt
live_alike old new (k ∷ ks) same (is, apart, live) = (same k ∙ is, apart, live_alike old new ks same live)

live_beside : (old new : World) (s : ℕ) (ss : List ℕ) → ((k : ℕ) → k ≢ s → is_live new k ≡ is_live old k) → Misses s ss → AreLive old ss → AreLive new ss
live_beside old new s [] same misses live = tt
live_beside old new s (k ∷ ks) same (ne, misses) (is, apart, live) = (same k ne ∙ is, apart, live_beside old new s ks same misses live)

pub live_dropped : (old new : World) (s : ℕ) (ss : List ℕ) → DropsSession old s new → Misses s ss → AreLive old ss → AreLive new ss
live_dropped old new s ss drops = live_beside old new s ss (λ k ne. dropped_others old new s k drops ne)

misses_set : (s : ℕ) (places : Places) (i : ℕ) (session : SessionId) → number_of session ≢ s → Misses s (numbers_of places) → Misses s (numbers_of (slice_set places i (Some session)))
misses_set s [] i session ne misses = misses
misses_set s (None ∷ places) zero session ne misses = (ne, misses)
misses_set s (None ∷ places) (suc i) session ne misses = misses_set s places i session ne misses
misses_set s (Some other ∷ places) zero session ne (apart, misses) = (ne, misses)
misses_set s (Some other ∷ places) (suc i) session ne (apart, misses) = (apart, misses_set s places i session ne misses)

live_set : (w : World) (places : Places) (i : ℕ) (session : SessionId) → get_or places i None ≡ None → is_live w (number_of session) ≡ true
    → Misses (number_of session) (numbers_of places) → AreLive w (numbers_of places) → AreLive w (numbers_of (slice_set places i (Some session)))
live_set w [] i session none stands misses live = live
live_set w (None ∷ places) zero session none stands misses live = (stands, misses, live)
live_set w (None ∷ places) (suc i) session none stands misses live = live_set w places i session none stands misses live
live_set w (Some other ∷ places) zero session none stands misses live = absurd (not_none other none)
live_set w (Some other ∷ places) (suc i) session none stands (ne, misses) (is, apart, live) =
    (is, misses_set (number_of other) places i session (λ same. ne (sym same)) apart, live_set w places i session none stands misses live)

-- one more that was made
pub live_made : (old new : World) (places : Places) (i : ℕ) (session : SessionId) → get_or places i None ≡ None → MakesSession old (Ok (number_of session)) new
    → AreLive old (numbers_of places) → AreLive new (numbers_of (slice_set places i (Some session)))
live_made old new places i session none made live =
    let misses = missed old (number_of session) (numbers_of places) made.0.free live in
    live_set new places i session none (made_live old new (number_of session) made) misses
    (live_beside old new (number_of session) (numbers_of places) (λ k ne. made_others old new (number_of session) k made ne) misses live)

pub live_at : (w : World) (places : Places) (i : ℕ) (session : SessionId) → get_or places i None ≡ Some session → AreLive w (numbers_of places) → is_live w (number_of session) ≡ true
live_at w [] i session is live = absurd (not_none session (sym is))
live_at w (None ∷ places) zero session is live = absurd (not_none session (sym is))
live_at w (None ∷ places) (suc i) session is live = live_at w places i session is live
live_at w (Some other ∷ places) zero session is (stands, apart, live) = let same : other ≡ session = cc is in ap (λ (s : SessionId). is_live w (number_of s)) (sym same) ∙ stands
live_at w (Some other ∷ places) (suc i) session is (stands, apart, live) = live_at w places i session is live
