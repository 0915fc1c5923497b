-- What every call of a store keeps, also a refused one.
use Rattle.std.specs.Prelude.{◌≡◌, ℕ, ◌≤◌, List, [], ◌++◌, refl}
use Rattle.std.proofs.Common.{◌∙◌, arith, ap, sym}
use Rattle.sqlval.specs.declared.schema.Schema.{Schema as Declared}
use Rattle.store.specs.Contents.{Contents}
use Rattle.store.specs.Stored.{Stored}

-- What calls may have done: read; ended or begun something, without a write on the device; changed
-- the working version, without a write; or written on the device, with these versions given to
-- `commit`, the latest first.
pub data Going : Type 0 where
  reads : Going
  keeps : Going
  changes : Going
  writes : List Contents → Going

-- the one, and then the other
abbrev pub and_then : Going → Going → Going
and_then reads next = next
and_then keeps reads = keeps
and_then keeps keeps = keeps
and_then keeps changes = changes
and_then keeps (writes tried) = writes tried
and_then changes reads = changes
and_then changes keeps = changes
and_then changes changes = changes
and_then changes (writes tried) = writes tried
and_then (writes tried) reads = writes tried
and_then (writes tried) keeps = writes tried
and_then (writes tried) changes = writes tried
and_then (writes tried) (writes more) = writes (more ++ tried)

-- what a store tells of itself
pub record Noted : Type 0 where
  pub shows : Stored
  pub prepared : Declared
  pub refused : ℕ
  pub damaged : ℕ
  pub read : ℕ
  pub writes : ℕ

abbrev pub noted : Stored → Declared → ℕ → ℕ → ℕ → ℕ → Noted
noted shows prepared refused damaged read written = record { shows = shows; prepared = prepared; refused = refused; damaged = damaged; read = read; writes = written }

-- nothing was written, and the last version is the same
pub record SameLast (a b : Noted) : Type 0 where
  pub commits : b.shows.commits ≡ a.shows.commits
  pub last : b.shows.last ≡ a.shows.last
  pub writes : b.writes ≡ a.writes

pub record SameVersions (a b : Noted) : Type 0 where
  pub shows : b.shows ≡ a.shows
  pub prepared : b.prepared ≡ a.prepared
  pub writes : b.writes ≡ a.writes

abbrev pub Stays : Going → Noted → Noted → Type 0
Stays reads a b = SameVersions a b
Stays keeps a b = SameLast a b
Stays changes a b = SameLast a b
Stays (writes tried) a b = Unit {0}

-- whether no change has been made stays as it was where nothing changes
abbrev pub IfStill : Going → Type 0 → Type 0 → Type 0
IfStill reads a b = a → b
IfStill keeps a b = a → b
IfStill changes a b = Unit {0}
IfStill (writes tried) a b = Unit {0}

-- Soundness stays, the counts do not fall, and the rest by what may have been done.
pub record Goes (going : Going) (sound_a sound_b unchanged_a unchanged_b : Type 0) (a b : Noted) : Type 0 where
  pub sound : sound_a → sound_b
  pub refused : a.refused ≤ b.refused
  pub damaged : a.damaged ≤ b.damaged
  pub read : a.read ≤ b.read
  pub stays : Stays going a b
  pub unchanged : IfStill going unchanged_a unchanged_b

stays_itself : (going : Going) (a : Noted) → Stays going a a
stays_itself reads a = record { shows = refl; prepared = refl; writes = refl }
stays_itself keeps a = record { commits = refl; last = refl; writes = refl }
stays_itself changes a = record { commits = refl; last = refl; writes = refl }
stays_itself (writes tried) a = tt

still_itself : (going : Going) (u : Type 0) → IfStill going u u
still_itself reads u = λ x. x
still_itself keeps u = λ x. x
still_itself changes u = tt
still_itself (writes tried) u = tt

pub goes_itself : (going : Going) (s u : Type 0) (a : Noted) → Goes going s s u u a a
goes_itself going s u a = record { sound = λ x. x; refused = omega arith; damaged = omega arith; read = omega arith; stays = stays_itself going a; unchanged = still_itself going u }

same_last : (a b : Noted) → SameVersions a b → SameLast a b
same_last a b h = record { commits = ap (λ (s : Stored). s.commits) h.shows; last = ap (λ (s : Stored). s.last) h.shows; writes = h.writes }

last_on : (a b c : Noted) → SameLast a b → SameLast b c → SameLast a c
last_on a b c h g = record { commits = g.commits ∙ h.commits; last = g.last ∙ h.last; writes = g.writes ∙ h.writes }

stays_on : (g h : Going) (a b c : Noted) → Stays g a b → Stays h b c → Stays (and_then g h) a c
stays_on reads reads a b c x y = record { shows = y.shows ∙ x.shows; prepared = y.prepared ∙ x.prepared; writes = y.writes ∙ x.writes }
stays_on reads keeps a b c x y = last_on a b c (same_last a b x) y
stays_on reads changes a b c x y = last_on a b c (same_last a b x) y
stays_on reads (writes tried) a b c x y = tt
stays_on keeps reads a b c x y = last_on a b c x (same_last b c y)
stays_on keeps keeps a b c x y = last_on a b c x y
stays_on keeps changes a b c x y = last_on a b c x y
stays_on keeps (writes tried) a b c x y = tt
stays_on changes reads a b c x y = last_on a b c x (same_last b c y)
stays_on changes keeps a b c x y = last_on a b c x y
stays_on changes changes a b c x y = last_on a b c x y
stays_on changes (writes tried) a b c x y = tt
stays_on (writes tried) reads a b c x y = tt
stays_on (writes tried) keeps a b c x y = tt
stays_on (writes tried) changes a b c x y = tt
stays_on (writes tried) (writes more) a b c x y = tt

still_on : (g h : Going) (u v w : Type 0) → IfStill g u v → IfStill h v w → IfStill (and_then g h) u w
still_on reads reads u v w x y = λ z. y (x z)
still_on reads keeps u v w x y = λ z. y (x z)
still_on reads changes u v w x y = tt
still_on reads (writes tried) u v w x y = tt
still_on keeps reads u v w x y = λ z. y (x z)
still_on keeps keeps u v w x y = λ z. y (x z)
still_on keeps changes u v w x y = tt
still_on keeps (writes tried) u v w x y = tt
still_on changes reads u v w x y = tt
still_on changes keeps u v w x y = tt
still_on changes changes u v w x y = tt
still_on changes (writes tried) u v w x y = tt
still_on (writes tried) reads u v w x y = tt
still_on (writes tried) keeps u v w x y = tt
still_on (writes tried) changes u v w x y = tt
still_on (writes tried) (writes more) u v w x y = tt

pub goes_on_and_on : (g h : Going) (s t r u v w : Type 0) (a b c : Noted) → Goes g s t u v a b → Goes h t r v w b c
    → Goes (and_then g h) s r u w a c
goes_on_and_on g h s t r u v w a b c x y =
    let p = x.refused in
    let q = y.refused in
    let k = x.damaged in
    let l = y.damaged in
    let m = x.read in
    let n = y.read in
    record {
      sound = λ z. y.sound (x.sound z);
      refused = omega arith;
      damaged = omega arith;
      read = omega arith;
      stays = stays_on g h a b c x.stays y.stays;
      unchanged = still_on g h u v w x.unchanged y.unchanged;
    }
