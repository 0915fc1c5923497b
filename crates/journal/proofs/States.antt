-- What a change of one range of a file does to what the file stands for.
use Rattle.std.proofs.Common.{◌≡◌, ◌≢◌, ℕ, zero, suc, ◌+◌, ◌*◌, ◌%◌, ◌^◌, ◌<◌, ◌≤◌, List, [], ◌∷◌, length, refl, sym, ◌∙◌, ap, subst, inl, inr, arith}
use Rattle.std.specs.Prelude.{◌⊎◌}
use Rattle.std.proofs.lemmas.Bool.{cases_eq, cases_lt}
use Rattle.std.proofs.lemmas.Bool.Decides.{nat_tests}
use Rattle.byteorder.specs.Endian.{big_bytes}
use Rattle.std.specs.Prelude.{Result, Ok, Err, OnOk, OnErr}
use Rattle.disk.specs.Crashes.{Bytes, Always, Only, IsCut}
use Rattle.pagefile.specs.Parts.{gate_part, start_part}
use Rattle.journal.specs.Parts.{kept_size, place, block, ChangesOnly}
use Rattle.journal.specs.Lists.{HasNumbers}
use Rattle.journal.specs.Steps.{IsPut, KeepsOtherPlaces}
use Rattle.journal.specs.Versions.{Version, put, laid, HasPage, HasImages, IsSized, InPlaces, IsReady, IsOpen, IsShut, IsBoth, OneOf, IsAmong, StandsFor, committed, IsCommittable}
use Rattle.journal.proofs.Ranges.{cut_front}

pub kept_small : (n : ℕ) → kept_size n ≤ 4096
kept_small zero = omega arith
kept_small (suc n) = omega arith

-- a range that ends before another begins, or begins where it ends
Apart : ℕ → ℕ → ℕ → ℕ → Type 0
Apart at n from size = (from + size ≤ at) ⊎ (at + n ≤ from)

-- the place of a page is before the journal's start, or behind page 0
aside_first : (n : ℕ) → (4096 ≤ 4096 * n) ⊎ (4096 * n + kept_size n ≤ 20)
aside_first zero = inr (omega arith)
aside_first (suc n) = inl (omega arith)

-- the places of two pages
pub apart_places : (m n : ℕ) → m ≢ n → (4096 * m + kept_size m ≤ 4096 * n) ⊎ (4096 * n + kept_size n ≤ 4096 * m)
apart_places m n other = by (cases_lt m n)
  where
    by : (m < n) ⊎ (n ≤ m) → (4096 * m + kept_size m ≤ 4096 * n) ⊎ (4096 * n + kept_size n ≤ 4096 * m)
    by (inl less) = let small = kept_small m in inl (omega (arith, small, less))
    by (inr more) = let small = kept_small n in let above : n < m = omega (arith, other, more) in inr (omega (arith, small, above))

-- what is laid over pages that agree agrees, and so it does on the pages that are laid
pub laid_same : (es : List (ℕ × List ℕ)) (p q : ℕ → List ℕ) (n : ℕ) → (p n ≡ q n) ⊎ HasPage n es → laid es p n ≡ laid es q n
laid_same [] p q n (inl same) = same
laid_same [] p q n (inr none) = absurd none
laid_same (e ∷ es) p q n h = laid_same es (put p e.0 e.1) (put q e.0 e.1) n (next (cases_eq e.0 n) h)
  where
    next : (e.0 ≡ n) ⊎ (e.0 ≢ n) → (p n ≡ q n) ⊎ ((n ≡ e.0) ⊎ HasPage n es) → (put p e.0 e.1 n ≡ put q e.0 e.1 n) ⊎ HasPage n es
    next (inl is) h = inl (grind (arith, nat_tests, is))
    next (inr other) (inl same) = inl (grind (arith, nat_tests, other, same))
    next (inr other) (inr (inl is)) = absurd (other (sym is))
    next (inr other) (inr (inr more)) = inr more

sized_same : (blocks : ℕ) (d c : Bytes) → IsSized blocks d → length c ≡ length d → IsSized blocks c
sized_same blocks d c s is = record {
  some = omega (arith, is, s.some);
  long = omega (arith, is, s.long);
  even = ap (λ (k : ℕ). k % 4096) is ∙ s.even;
}

pub place_same : (at n m count : ℕ) (d c : Bytes) → ChangesOnly at n d c → 4096 * count ≤ length d → m < count
    → (4096 * m + kept_size m ≤ at) ⊎ (at + n ≤ 4096 * m) → place c m ≡ place d m
place_same at n m count d c change long less apart =
    let small = kept_small m in
    change.outside (4096 * m) (4096 * m + kept_size m) (omega arith) (omega (arith, small, long, less)) apart

pub block_same : (at n m : ℕ) (d c : Bytes) → ChangesOnly at n d c → 4096 * m + 4096 ≤ length d → at + n ≤ 4096 * m → block c m ≡ block d m
block_same at n m d c change long apart = change.outside (4096 * m) (4096 * m + 4096) (omega arith) long (inr apart)

-- a change outside the places
places_changed : (v : Version) (at n : ℕ) (d c : Bytes) → InPlaces v d → ChangesOnly at n d c
    → ((m : ℕ) → m < v.count → (4096 * m + kept_size m ≤ at) ⊎ (at + n ≤ 4096 * m)) → InPlaces v c
places_changed v at n d c p change apart = record {
  size = sized_same v.count d c p.size change.size;
  some = p.some;
  pages = λ m less. place_same at n m v.count d c change p.size.long less (apart m less) ∙ p.pages m less;
}

-- a change outside the journal, and of no place but those of its pages
ready_changed : (v : Version) (at n : ℕ) (d c : Bytes) → IsReady v d → ChangesOnly at n d c → (24 ≤ at) ⊎ (at + n ≤ 20)
    → at + n ≤ 4096 * v.count
    → ((m : ℕ) → m < v.count → ((4096 * m + kept_size m ≤ at) ⊎ (at + n ≤ 4096 * m)) ⊎ HasPage m v.set) → IsReady v c
ready_changed v at n d c r change start below apart = record {
  size = sized_same (v.count + 1 + length v.set) d c r.size change.size;
  some = r.some;
  small = r.small;
  start = change.outside 20 24 (omega arith) (omega (arith, r.size.some)) start ∙ r.start;
  list = subst (λ (b : List ℕ). HasNumbers b v.set) (sym (block_same at n v.count d c change (omega (arith, r.size.long)) below)) r.list;
  rising = r.rising;
  images = λ i less. block_same at n (v.count + 1 + i) d c change (omega (arith, r.size.long, less)) (omega (arith, below)) ∙ r.images i less;
  within = r.within;
  pages = λ m less. laid_same v.set (place c) (place d) m (by m less (apart m less)) ∙ r.pages m less;
}
  where
    by : (m : ℕ) → m < v.count → ((4096 * m + kept_size m ≤ at) ⊎ (at + n ≤ 4096 * m)) ⊎ HasPage m v.set
        → (place c m ≡ place d m) ⊎ HasPage m v.set
    by m less (inl aside) = inl (place_same at n m v.count d c change (omega (arith, r.size.long)) less aside)
    by m less (inr has) = inr has

-- a changed page put in its place, or torn there
pub ready_put : (v : Version) (number : ℕ) → HasPage number v.set → (d c : Bytes) → IsReady v d
    → ChangesOnly (4096 * number) (kept_size number) d c → IsReady v c
ready_put v number has d c r change =
    let low = r.within number has in
    let small = kept_small number in
    ready_changed v (4096 * number) (kept_size number) d c r change (start (aside_first number)) (omega (arith, low, small))
    (λ m less. by m (cases_eq m number))
  where
    start : (4096 ≤ 4096 * number) ⊎ (4096 * number + kept_size number ≤ 20) → (24 ≤ 4096 * number) ⊎ (4096 * number + kept_size number ≤ 20)
    start (inl far) = inl (omega (arith, far))
    start (inr first) = inr first

    by : (m : ℕ) → (m ≡ number) ⊎ (m ≢ number)
        → ((4096 * m + kept_size m ≤ 4096 * number) ⊎ (4096 * number + kept_size number ≤ 4096 * m)) ⊎ HasPage m v.set
    by m (inl is) = inr (subst (λ (k : ℕ). HasPage k v.set) (sym is) has)
    by m (inr other) = inl (apart_places m number other)

-- and so while the gate is open
pub open_put : (v : Version) (number : ℕ) → HasPage number v.set → (d c : Bytes) → IsOpen v d
    → ChangesOnly (4096 * number) (kept_size number) d c → IsOpen v c
open_put v number has d c o change = record {
  gate = change.outside 24 25 (omega arith) (omega (arith, o.ready.size.some)) (gate (aside_first number)) ∙ o.gate;
  ready = ready_put v number has d c o.ready change;
}
  where
    gate : (4096 ≤ 4096 * number) ⊎ (4096 * number + kept_size number ≤ 20) → (25 ≤ 4096 * number) ⊎ (4096 * number + kept_size number ≤ 24)
    gate (inl far) = inl (omega (arith, far))
    gate (inr first) = inr (omega (arith, first))

-- the pages of a journal lie within the file
pub lies_within : (v : Version) (c : Bytes) → IsReady v c → (n : ℕ) → n < v.count → 4096 * n + 4096 ≤ length c
lies_within v c r n less = omega (arith, r.size.long, less)

-- the gate is apart from each place
gate_apart : (m : ℕ) → (4096 * m + kept_size m ≤ 24) ⊎ (24 + 1 ≤ 4096 * m)
gate_apart m = by (aside_first m)
  where
    by : (4096 ≤ 4096 * m) ⊎ (4096 * m + kept_size m ≤ 20) → (4096 * m + kept_size m ≤ 24) ⊎ (24 + 1 ≤ 4096 * m)
    by (inl far) = inr (omega (arith, far))
    by (inr first) = inl (omega (arith, first))

-- and so is what names the journal's first block
start_apart : (m : ℕ) → (4096 * m + kept_size m ≤ 20) ⊎ (20 + 4 ≤ 4096 * m)
start_apart m = by (aside_first m)
  where
    by : (4096 ≤ 4096 * m) ⊎ (4096 * m + kept_size m ≤ 20) → (4096 * m + kept_size m ≤ 20) ⊎ (20 + 4 ≤ 4096 * m)
    by (inl far) = inr (omega (arith, far))
    by (inr first) = inl first

-- so it changes no place
pub place_gate : (n : ℕ) (d c : Bytes) → ChangesOnly 24 1 d c → 4096 * n + 4096 ≤ length d → place c n ≡ place d n
place_gate n d c change there = place_same 24 1 n (suc n) d c change (omega (arith, there)) (omega arith) (gate_apart n)

pub put_gate : (set : List (ℕ × List ℕ)) (x y z : Bytes) → IsPut set x y → ChangesOnly 24 1 y z → IsPut set x z
put_gate set x y z p change = record {
  size = change.size ∙ p.size;
  places = λ n there. place_gate n y z change (omega (arith, there, p.size)) ∙ p.places n there;
}

pub others_gate : (set : List (ℕ × List ℕ)) (x y z : Bytes) → KeepsOtherPlaces set x y → ChangesOnly 24 1 y z → KeepsOtherPlaces set x z
others_gate set x y z p change = record {
  size = change.size ∙ p.size;
  places = λ n none there. place_gate n y z change (omega (arith, there, p.size)) ∙ p.places n none there;
}

-- a gate written or torn
pub places_gate : (v : Version) (d c : Bytes) → InPlaces v d → ChangesOnly 24 1 d c → InPlaces v c
places_gate v d c p change = places_changed v 24 1 d c p change (λ m less. gate_apart m)

pub ready_gate : (v : Version) (d c : Bytes) → IsReady v d → ChangesOnly 24 1 d c → IsReady v c
ready_gate v d c r change = ready_changed v 24 1 d c r change (inl (omega arith)) (omega (arith, r.some)) (λ m less. inl (gate_apart m))

pub both_gate : (x y : Version) (d c : Bytes) → IsBoth x y d → ChangesOnly 24 1 d c → IsBoth x y c
both_gate x y d c b change = record { places = places_gate x d c b.places change; ready = ready_gate y d c b.ready change }

-- the gate written as shut, or as open
pub shut_now : (x y : Version) (d c : Bytes) → IsBoth x y d → ChangesOnly 24 1 d c → gate_part c ≡ 0 ∷ [] → IsShut x c
shut_now x y d c b change is = record { gate = is; places = places_gate x d c b.places change }

pub open_now : (x y : Version) (d c : Bytes) → IsBoth x y d → ChangesOnly 24 1 d c → gate_part c ≡ 1 ∷ [] → IsOpen y c
open_now x y d c b change is = record { gate = is; ready = ready_gate y d c b.ready change }

-- with the gate shut, a block behind the pages
pub shut_block : (v : Version) (n : ℕ) → v.count ≤ n → 1 ≤ n → (d c : Bytes) → IsShut v d → ChangesOnly (4096 * n) 4096 d c → IsShut v c
shut_block v n far some d c s change = record {
  gate = change.outside 24 25 (omega arith) (omega (arith, s.places.size.some)) (inl (omega (arith, some))) ∙ s.gate;
  places = places_changed v (4096 * n) 4096 d c s.places change (λ m less. let small = kept_small m in inl (omega (arith, small, far, less)));
}

-- what names the journal's first block
pub shut_start : (v : Version) (d c : Bytes) → IsShut v d → ChangesOnly 20 4 d c → IsShut v c
shut_start v d c s change = record {
  gate = change.outside 24 25 (omega arith) (omega (arith, s.places.size.some)) (inr (omega arith)) ∙ s.gate;
  places = places_changed v 20 4 d c s.places change (λ m less. start_apart m);
}

-- or a length of so many blocks
pub shut_cut : (v : Version) (blocks : ℕ) → v.count ≤ blocks → 1 ≤ blocks → (d c : Bytes) → IsShut v d → IsCut (4096 * blocks) d c → IsShut v c
shut_cut v blocks more some d c s cut =
    let first = cut_front (4096 * blocks) 4096 d c (omega (arith, some)) s.places.size.some cut in
    let front = cut_front (4096 * blocks) (4096 * v.count) d c (omega (arith, more)) s.places.size.long cut in
    record {
      gate = first.front 24 25 (omega arith) (omega arith) ∙ s.gate;
      places = record {
        size = record { some = first.long; long = front.long; even = by cut.size };
        some = s.places.some;
        pages = λ m less.
            let small = kept_small m in
            front.front (4096 * m) (4096 * m + kept_size m) (omega arith) (omega (arith, small, less)) ∙ s.places.pages m less;
      };
    }
  where
    by : (length c ≡ length d) ⊎ (length c ≡ 4096 * blocks) → length c % 4096 ≡ 0
    by (inl same) = ap (λ (k : ℕ). k % 4096) same ∙ s.places.size.even
    by (inr set) = omega (arith, set)

-- the pages of the journal in their places, beside the journal
pub in_places : (v : Version) (d c : Bytes) → IsReady v d → IsReady v c → ((n : ℕ) → n < v.count → place c n ≡ laid v.set (place d) n) → InPlaces v c
in_places v d c before after placed = record {
  size = record { some = after.size.some; long = omega (arith, after.size.long); even = after.size.even };
  some = after.some;
  pages = λ n less. placed n less ∙ before.pages n less;
}

-- the journal of a commit, written over a version that stands in its places
pub both_staged : (v : Version) (set : List (ℕ × List ℕ)) (count : ℕ) → IsCommittable v set count → count < 2 ^ 32 → (c : Bytes) → IsShut v c
    → 4096 * (count + 1 + length set) ≤ length c → start_part c ≡ big_bytes 4 count → HasNumbers (block c count) set
    → HasImages c (count + 1) set → IsBoth v (committed v set count) c
both_staged v set count may small c s long start list images = record {
  places = s.places;
  ready = record {
    size = record { some = s.places.size.some; long = long; even = s.places.size.even };
    some = may.some;
    small = small;
    start = start;
    list = list;
    rising = may.rising;
    images = images;
    within = may.within;
    pages = λ n less. laid_same set (place c) v.pages n (by n less (cases_lt n v.count));
  };
}
  where
    by : (n : ℕ) → n < count → (n < v.count) ⊎ (v.count ≤ n) → (place c n ≡ v.pages n) ⊎ HasPage n set
    by n less (inl old) = inl (s.places.pages n old)
    by n less (inr new) = inr (may.covered n new less)

-- what was written, once it is on the disk
pub on_disk : (P : Bytes → Type 0) (seen now : Bytes) (outcomes : Bytes → Type 0) → now ≡ seen → Only now outcomes → P seen → Always outcomes P
on_disk P seen now outcomes same only has c left = subst P (sym (only c left ∙ same)) has

-- and so by a sync that succeeded
pub synced_all : {E : Type 0} (P : Bytes → Type 0) (result : Result (Unit {0}) E) (seen : Bytes) (outcomes : Bytes → Type 0)
    → OnOk result (Only seen outcomes) → P seen → OnOk result (Always outcomes P)
synced_all P (Ok done) seen outcomes only has = on_disk P seen seen outcomes refl only has
synced_all P (Err e) seen outcomes only has = tt

-- what holds in any case
pub ok_any : {E A : Type 0} (result : Result (Unit {0}) E) → A → OnOk result A
ok_any (Ok done) has = has
ok_any (Err e) has = tt

pub err_any : {E A : Type 0} (result : Result (Unit {0}) E) → A → OnErr result A
err_any (Ok done) has = tt
err_any (Err e) has = has

-- what follows of what holds where a call was carried out
pub on_ok : {E A B : Type 0} (result : Result (Unit {0}) E) → (A → B) → OnOk result A → OnOk result B
on_ok (Ok done) to has = to has
on_ok (Err e) to has = tt

-- and of what holds where it was refused
pub err_as : {E A B : Type 0} (result : Result (Unit {0}) E) → (A → B) → OnErr result A → OnErr result B
err_as (Ok done) to has = tt
err_as (Err e) to has = to has

pub only_read : {E : Type 0} (result : Result (Unit {0}) E) (seen now : Bytes) (outcomes : Bytes → Type 0) → now ≡ seen
    → OnOk result (Only seen outcomes) → OnOk result (Only now outcomes)
only_read (Ok done) seen now outcomes same only = λ c left. only c left ∙ sym same
only_read (Err e) seen now outcomes same only = tt

-- what stands where is one of two versions

pub among_open : (x y v : Version) → OneOf x y v → (c : Bytes) → IsOpen v c → IsAmong x y c
among_open x y v is c o = record { old = v; new = v; is_old = is; is_new = is; state = inl o }

pub among_shut : (x y v : Version) → OneOf x y v → (c : Bytes) → IsShut v c → IsAmong x y c
among_shut x y v is c s = record { old = v; new = v; is_old = is; is_new = is; state = inr (inl s) }

pub among_both : (x y v w : Version) → OneOf x y v → OneOf x y w → (c : Bytes) → IsBoth v w c → IsAmong x y c
among_both x y v w is was c b = record { old = v; new = w; is_old = is; is_new = was; state = inr (inr b) }

-- each has a page 0
pub among_some : (x y : Version) (c : Bytes) → IsAmong x y c → 4096 ≤ length c
among_some x y c a = by a.state
  where
    by : IsOpen a.new c ⊎ (IsShut a.old c ⊎ IsBoth a.old a.new c) → 4096 ≤ length c
    by (inl o) = o.ready.size.some
    by (inr (inl s)) = s.places.size.some
    by (inr (inr b)) = b.ready.size.some

-- a gate has one value
pub gate_one : (c : Bytes) (g h : ℕ) → gate_part c ≡ g ∷ [] → gate_part c ≡ h ∷ [] → g ≡ h
gate_one c g h one other = cc

-- what a recovery finds, by the gate

pub found_open : (x y : Version) (c : Bytes) → IsAmong x y c → gate_part c ≡ 1 ∷ [] → (v : Version) × OneOf x y v × IsOpen v c
found_open x y c a one = by a.state
  where
    by : IsOpen a.new c ⊎ (IsShut a.old c ⊎ IsBoth a.old a.new c) → (v : Version) × OneOf x y v × IsOpen v c
    by (inl o) = (a.new, a.is_new, o)
    by (inr (inl s)) = let differs = gate_one c 1 0 one s.gate in absurd (omega (arith, differs))
    by (inr (inr b)) = (a.new, a.is_new, record { gate = one; ready = b.ready })

pub found_shut : (x y : Version) (c : Bytes) → IsAmong x y c → gate_part c ≡ 0 ∷ [] → (v : Version) × OneOf x y v × IsShut v c
found_shut x y c a shut = by a.state
  where
    by : IsOpen a.new c ⊎ (IsShut a.old c ⊎ IsBoth a.old a.new c) → (v : Version) × OneOf x y v × IsShut v c
    by (inl o) = let differs = gate_one c 0 1 shut o.gate in absurd (omega (arith, differs))
    by (inr (inl s)) = (a.old, a.is_old, s)
    by (inr (inr b)) = (a.old, a.is_old, record { gate = shut; places = b.places })

pub found_torn : (x y : Version) (c : Bytes) → IsAmong x y c → (g : ℕ) → gate_part c ≡ g ∷ [] → g ≢ 1 → g ≢ 0
    → (v : Version) × (w : Version) × OneOf x y v × OneOf x y w × IsBoth v w c
found_torn x y c a g is not_one not_zero = by a.state
  where
    by : IsOpen a.new c ⊎ (IsShut a.old c ⊎ IsBoth a.old a.new c) → (v : Version) × (w : Version) × OneOf x y v × OneOf x y w × IsBoth v w c
    by (inl o) = absurd (not_one (gate_one c g 1 is o.gate))
    by (inr (inl s)) = absurd (not_zero (gate_one c g 0 is s.gate))
    by (inr (inr b)) = (a.old, a.new, a.is_old, a.is_new, b)

pub open_is : (v : Version) (c : Bytes) → IsOpen v c → StandsFor v c
open_is v c o = inl (o.gate, o.ready)

pub shut_is : (v : Version) (c : Bytes) (g : ℕ) → gate_part c ≡ g ∷ [] → g ≢ 1 → InPlaces v c → StandsFor v c
shut_is v c g is not_one p = inr ((λ one. not_one (gate_one c g 1 is one)), p)

-- each such file stands for one of the two, where it has a gate
pub among_stands : (x y : Version) (c : Bytes) (g : ℕ) → gate_part c ≡ g ∷ [] → IsAmong x y c → (v : Version) × OneOf x y v × StandsFor v c
among_stands x y c g is a = by a.state (cases_eq g 1)
  where
    by : IsOpen a.new c ⊎ (IsShut a.old c ⊎ IsBoth a.old a.new c) → (g ≡ 1) ⊎ (g ≢ 1) → (v : Version) × OneOf x y v × StandsFor v c
    by (inl o) gate = (a.new, a.is_new, open_is a.new c o)
    by (inr (inl s)) gate = (a.old, a.is_old, shut_is a.old c 0 s.gate (λ one. omega (arith, one)) s.places)
    by (inr (inr b)) (inl one) = (a.new, a.is_new, inl (is ∙ ap (λ (k : ℕ). k ∷ []) one, b.ready))
    by (inr (inr b)) (inr shut) = (a.old, a.is_old, shut_is a.old c g is shut b.places)
