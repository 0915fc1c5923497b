-- What a crash leaves of the last commit.
use Rattle.std.proofs.Common.{◌≡◌, ◌∙◌, ℕ, zero, suc, ◌+◌, ◌-◌, ◌*◌, ◌<◌, ◌≤◌, Bool, true, false, List, [], length, get_or, take, drop, Option, Some, None, IsTrue, IsSome, refl, sym, ap, subst, inl, inr, arith}
use Rattle.std.specs.Prelude.{◌⊎◌, ◌==◌, min, if◌then◌else◌}
use Rattle.std.proofs.lemmas.Bool.{cases_lt}
use Rattle.std.proofs.lemmas.List.{length-take, length-drop}
use Rattle.disk.specs.Crashes.{Bytes, Always}
use Rattle.disk.specs.declared.device.Disk.{Ghosts}
use Rattle.store.specs.Contents.{database_of}
use Rattle.pagefile.specs.declared.header.FileHeader.{FileHeader}
use Rattle.pagefile.specs.Header.{IsHeader}
use Rattle.journal.specs.declared.found.Format.TheVariants.{Two}
use Rattle.journal.specs.declared.found.Gate.TheVariants.{Open}
use Rattle.journal.specs.Headers.{IsGood, IsHeaderOf, header_part}
use Rattle.journal.specs.Lists.{listed}
use Rattle.journal.specs.Parts.{place, block}
use Rattle.journal.specs.Versions.{Version, OneOf, IsAmong, IsOpen, IsShut, IsBoth, StandsFor}
use Rattle.journal.proofs.Finding.{first_page, gate_is}
use Rattle.journal.proofs.States.{among_some, among_stands}
use Rattle.journaled_file.specs.Renewed.{renewed_pages}
use Rattle.journaled_file.specs.Shown.{padded}
use Rattle.journaled_file.proofs.Renewing.{stays_renewed}
use Rattle.last_version.specs.Standing.{pages_below}
use Rattle.last_version.proofs.LastLemmas.{is_safe}
use Rattle.last_version.proofs.ShownLemmas.{shown_there, shown_gone, is_below}
use Rattle.pool.specs.Pages.{PageMap, known}
use Rattle.pool.specs.Slots.{slot_at, pages_at}
use Rattle.pool.specs.Versions.{versions_of, version_of, device_of, is_broken}
use Rattle.pool.specs.declared.pool.Pool.{Pool}
use Rattle.pool.proofs.PoolLemmas.{known_at}
use Rattle.pool.proofs.SlotLemmas.{reads_now}
use Rattle.overlay.specs.Bounded.{some_is}
use Rattle.overlay.specs.Whole.{HasFreeList}
use Rattle.database_versions.specs.Databases.{nothing, contents_in, IsDatabase, IsOwned}
use Rattle.database_versions.specs.Saved.{HoldsDatabase, HoldsOwned, opened_pages}
use Rattle.database_versions.proofs.FileLemmas.{kept_header, place_size}

-- the header of page 0, in its place or in the journal, has 20 bytes
header_size : (c : Bytes) (start size : ℕ) → 4096 ≤ length c → 4096 * (start + 1 + size) ≤ length c → length (header_part c (Open start size)) ≡ 20
header_size c start zero some long = place_size c some
header_size c start (suc size) some long = by (listed (block c start) 0 == 0)
  where
    image : length (take 20 (block c (start + 1))) ≡ 20
    image =
        let whole : length (block c (start + 1)) ≡ min (4096 * (start + 1) + 4096 - 4096 * (start + 1)) (length (drop (4096 * (start + 1)) c)) =
        length-take (4096 * (start + 1) + 4096 - 4096 * (start + 1)) (drop (4096 * (start + 1)) c) in
        let rest = length-drop (4096 * (start + 1)) c in
        length-take 20 (block c (start + 1)) ∙ omega (arith, whole, rest, long)

    by : (b : Bool) → length (if b then take 20 (block c (start + 1)) else place c 0) ≡ 20
    by true = image
    by false = place_size c some

part_size : (v : Version) (c : Bytes) → IsAmong v v c → length (v.pages 0) ≡ 20
part_size v c a = by a.state
  where
    one : (u : Version) → OneOf v v u → length (u.pages 0) ≡ 20 → length (v.pages 0) ≡ 20
    one u (inl is) size = ap (λ (w : Version). length (w.pages 0)) (sym is) ∙ size
    one u (inr is) size = ap (λ (w : Version). length (w.pages 0)) (sym is) ∙ size

    by : IsOpen a.new c ⊎ (IsShut a.old c ⊎ IsBoth a.old a.new c) → length (v.pages 0) ≡ 20
    by (inl o) =
        one a.new a.is_new (ap (λ (l : List ℕ). length l) (first_page a.new c o.ready) ∙ header_size c a.new.count (length a.new.set) o.ready.size.some o.ready.size.long)
    by (inr (inl s)) =
        one a.old a.is_old (ap (λ (l : List ℕ). length l) (sym (s.places.pages 0 (omega (arith, s.places.some)))) ∙ place_size c s.places.size.some)
    by (inr (inr b)) =
        one a.old a.is_old (ap (λ (l : List ℕ). length l) (sym (b.places.pages 0 (omega (arith, b.places.some)))) ∙ place_size c b.places.size.some)

-- a file that stands for the version of a database holds it
module _ (v : Version) (p : PageMap) (shown : p ≡ pages_below v.count v.pages) (d : IsDatabase p nothing) (c : Bytes) (a : IsAmong v v c) where
  abbrev h : FileHeader
  h = d.whole.whole.0

  w : HasFreeList false p h
  w = d.whole.whole.1

  at : (n : ℕ) → p n ≡ pages_below v.count v.pages n
  at n = ap (λ (q : PageMap). q n) shown

  there : (n : ℕ) → n < h.page_count → n < v.count
  there n less = let page = some_is (p n) (w.all n less) in is_below v.count v.pages n page.0 (sym (at n) ∙ page.1)

  few : h.page_count ≤ v.count
  few = last h.page_count there
    where
      last : (count : ℕ) → ((n : ℕ) → n < count → n < v.count) → count ≤ v.count
      last zero below = omega arith
      last (suc k) below = let less = below k (omega arith) in omega (arith, less)

  first : w.first ≡ padded 0 (v.pages 0)
  first =
      let e : Some w.first ≡ Some (padded 0 (v.pages 0)) = sym w.there ∙ at 0 ∙ shown_there v.count v.pages 0 (there 0 w.bounds.some) in cc

  header : IsHeaderOf (4096 * v.count) (v.pages 0) Two h
  header =
      kept_header (v.pages 0) (4096 * v.count) h (part_size v c a) (subst (λ (l : List ℕ). IsHeader l h) first w.says) w.bounds
      (let most = few in omega (arith, most))

  good : IsGood v
  good = record { format = Two; header = h; fits = header }

  stands : StandsFor v c
  stands =
      let it = among_stands v v c (get_or c 24 0) (gate_is c (among_some v v c a)) a in by it.0 it.1 it.2
    where
      by : (u : Version) → OneOf v v u → StandsFor u c → StandsFor v c
      by u (inl is) s = subst (λ (x : Version). StandsFor x c) is s
      by u (inr is) s = subst (λ (x : Version). StandsFor x c) is s

  shows : (n : ℕ) → opened_pages v h.page_count n ≡ p n
  shows n = by (cases_lt n h.page_count)
    where
      by : (n < h.page_count) ⊎ (h.page_count ≤ n) → opened_pages v h.page_count n ≡ p n
      by (inl less) =
          shown_there h.page_count (renewed_pages v.pages) n less ∙ ap (λ (l : List ℕ). Some (padded n l)) (sym (stays_renewed v.pages header.begins n))
          ∙ sym (at n ∙ shown_there v.count v.pages n (there n less))
      by (inr more) = shown_gone h.page_count (renewed_pages v.pages) n more ∙ sym (w.ends n more)

  same : opened_pages v h.page_count ≡ p
  same = λ i n. shows n i

  pub left_holds : HoldsDatabase c (database_of (contents_in p nothing))
  unfolding good
  left_holds = record {
    version = v;
    stands = stands;
    good = good;
    is = subst (λ (q : PageMap). IsDatabase q nothing) (sym same) d;
    shows = ap (λ (q : PageMap). database_of (contents_in q nothing)) same;
  }

  pub left_owned : IsOwned p nothing → HoldsOwned c
  unfolding good
  left_owned owned = record {
    version = v;
    stands = stands;
    good = good;
    owned = subst (λ (q : PageMap). IsOwned q nothing) (sym same) owned;
  }

-- what a pool shows of its last commit is its version
pub last_shown : {D : Type 0} {device : Ghosts D} (pool : Pool D device) → IsTrue device.is_honest
    → (versions_of pool).pages (versions_of pool).last ≡ pages_below (version_of pool).count (version_of pool).pages
last_shown {D} {device} pool honest = λ i n.
    (known_at device.is_honest (pages_at (pages_below (version_of pool).count (version_of pool).pages) pool.slots pool.last) n honest
    ∙ reads_now pool.last (slot_at pool.slots n).images (pool.kept.old n) (pages_below (version_of pool).count (version_of pool).pages n)) i

module _ {D : Type 0} {device : Ghosts D} (pool : Pool D device) (durable : IsTrue device.is_durable) (honest : IsTrue device.is_honest) (whole : is_broken pool ≡ false) where
  abbrev last : PageMap
  last = (versions_of pool).pages (versions_of pool).last

  pub crash_holds : IsDatabase last nothing → Always (device.may_leave (device_of pool)) (λ c. HoldsDatabase c (database_of (contents_in last nothing)))
  crash_holds d = λ c left.
      left_holds (version_of pool) last (last_shown pool honest) d c (is_safe pool.file honest whole (version_of pool) (version_of pool) (inl refl) durable c left)

  pub crash_owned : IsOwned last nothing → Always (device.may_leave (device_of pool)) (λ c. HoldsOwned c)
  crash_owned owned = λ c left.
      left_owned (version_of pool) last (last_shown pool honest) owned.is c (is_safe pool.file honest whole (version_of pool) (version_of pool) (inl refl) durable c left) owned
