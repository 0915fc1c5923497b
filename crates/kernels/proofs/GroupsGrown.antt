-- Rows put one after another into the group of their key make the groups of the keys.
use Rattle.std.proofs.Common.{◌≡◌, refl, ap, sym, ◌∙◌, ℕ, ◌+◌, Bool, true, false, not, ◌&&◌, ◌||◌, if◌then◌else◌, List, [], ◌∷◌, ◌++◌, map, append_assoc}
use Rattle.std.specs.Prelude.{filter}
use Rattle.std.specs.List.{list_any}
use Rattle.sqlval.specs.Value.{Row}
use Rattle.denote.specs.Bag.{are_alike, distinct}
use Rattle.kernels.specs.declared.groups.Group.{Group}
use Rattle.kernels.specs.Groups.{places_from, group_of, groups_by_key}
use Rattle.kernels.specs.Adding.{new_group, with_place, add_place, add_places}
use Rattle.kernels.proofs.Alike.{alike, are_alike-Decides}
use Rattle.kernels.proofs.Firsts.{filter-both, filter-all}

abbrev is_present : List Group → Row → Bool
is_present groups key = list_any (λ group. are_alike key group.key) groups

-- no two groups have alike keys
abbrev Apart : List Group → Type 0
Apart [] = Unit {0}
Apart (group ∷ groups) = (is_present groups group.key ≡ false) × Apart groups

-- a group with the rows that are still to come
abbrev with_places : ℕ → List Row → Group → Group
with_places at keys group = record { key = group.key; places = group.places ++ places_from group.key at keys }

-- a group of these rows alone
abbrev new_at : ℕ → List Row → Row → Group
new_at at keys key = record { key = key; places = places_from key at keys }

same-key : (a b q : Row) → are_alike a b ≡ true → are_alike q a ≡ are_alike q b
same-key a b q e = ap (are_alike q) ((are_alike-Decides a b).0 e)

present-add : (key : Row) (at : ℕ) (groups : List Group) (q : Row) → is_present (add_place key at groups) q ≡ (is_present groups q || are_alike q key)
present-add key at [] q = at_key (are_alike q key)
  where
    at_key : (b : Bool) → (b || false) ≡ (false || b)
    at_key true = refl
    at_key false = refl
present-add key at (g ∷ groups) q = go (are_alike key g.key) refl (present-add key at groups q)
  where
    both : (a b : Bool) → (a || b) ≡ ((a || b) || a)
    both true b = refl
    both false true = refl
    both false false = refl

    turned : (a b d : Bool) → (a || (b || d)) ≡ ((a || b) || d)
    turned true b d = refl
    turned false b d = refl

    go : (b : Bool) → are_alike key g.key ≡ b → is_present (add_place key at groups) q ≡ (is_present groups q || are_alike q key)
        → is_present (if b then with_place at g ∷ groups else g ∷ add_place key at groups) q ≡ ((are_alike q g.key || is_present groups q) || are_alike q key)
    go true e more = both (are_alike q g.key) (is_present groups q) ∙ ap (λ b. (are_alike q g.key || is_present groups q) || b) (sym (same-key key g.key q e))
    go false e more = ap (λ b. are_alike q g.key || b) more ∙ turned (are_alike q g.key) (is_present groups q) (are_alike q key)

Apart-add : (key : Row) (at : ℕ) (groups : List Group) → Apart groups → Apart (add_place key at groups)
Apart-add key at [] h = (refl, tt)
Apart-add key at (g ∷ groups) h = go (are_alike key g.key) refl (Apart-add key at groups h.1)
  where
    go : (b : Bool) → are_alike key g.key ≡ b → Apart (add_place key at groups) → Apart (if b then with_place at g ∷ groups else g ∷ add_place key at groups)
    go true e more = h
    go false e more = (present-add key at groups g.key ∙ (λ i. h.0 i || are_alike g.key key) ∙ alike.symm g.key key ∙ e, more)

-- a group of another key
other-places : (key : Row) (at : ℕ) (keys : List Row) (q : Row) → are_alike q key ≡ false → places_from q (at + 1) keys ≡ places_from q at (key ∷ keys)
other-places key at keys q e = ap (λ b. if b then at ∷ places_from q (at + 1) keys else places_from q (at + 1) keys) (sym e)

own-places : (key : Row) (at : ℕ) (keys : List Row) (q : Row) → are_alike q key ≡ true → at ∷ places_from q (at + 1) keys ≡ places_from q at (key ∷ keys)
own-places key at keys q e = ap (λ b. if b then at ∷ places_from q (at + 1) keys else places_from q (at + 1) keys) (sym e)

none-of : (a b : Bool) → (a || b) ≡ false → (a ≡ false) × (b ≡ false)
none-of false false e = (refl, refl)
none-of false true e = absurd (cc)
none-of true b e = absurd (cc)

others-stay : (key : Row) (at : ℕ) (keys : List Row) (groups : List Group) → is_present groups key ≡ false → map (with_places (at + 1) keys) groups ≡ map (with_places at (key ∷ keys)) groups
others-stay key at keys [] h = refl
others-stay key at keys (g ∷ groups) h =
    let n = none-of (are_alike key g.key) (is_present groups key) h in
    let e = other-places key at keys g.key (alike.symm g.key key ∙ n.0) in
    let more = others-stay key at keys groups n.1 in
    λ i. record { key = g.key; places = g.places ++ e i } ∷ more i

one-more : (key : Row) (at : ℕ) (keys : List Row) (groups : List Group) → Apart groups → is_present groups key ≡ true
    → map (with_places (at + 1) keys) (add_place key at groups) ≡ map (with_places at (key ∷ keys)) groups
one-more key at keys [] h p = absurd (cc)
one-more key at keys (g ∷ groups) h p = go (are_alike key g.key) refl p (one-more key at keys groups h.1)
  where
    go : (b : Bool) → are_alike key g.key ≡ b → (b || is_present groups key) ≡ true
        → (is_present groups key ≡ true → map (with_places (at + 1) keys) (add_place key at groups) ≡ map (with_places at (key ∷ keys)) groups)
        → map (with_places (at + 1) keys) (if b then with_place at g ∷ groups else g ∷ add_place key at groups) ≡ map (with_places at (key ∷ keys)) (g ∷ groups)
    go true e q more =
        let same = (are_alike-Decides key g.key).0 e in
        let rest = others-stay key at keys groups (ap (is_present groups) same ∙ h.0) in
        let own : (g.places ++ at ∷ []) ++ places_from g.key (at + 1) keys ≡ g.places ++ places_from g.key at (key ∷ keys) =
        append_assoc g.places (at ∷ []) (places_from g.key (at + 1) keys) ∙ ap (λ zs. g.places ++ zs) (own-places key at keys g.key (alike.symm g.key key ∙ e)) in
        λ i. record { key = g.key; places = own i } ∷ rest i
    go false e q more =
        let o = other-places key at keys g.key (alike.symm g.key key ∙ e) in
        let rest = more q in
        λ i. record { key = g.key; places = g.places ++ o i } ∷ rest i

new-last : (key : Row) (at : ℕ) (groups : List Group) → is_present groups key ≡ false → add_place key at groups ≡ groups ++ new_group key at ∷ []
new-last key at [] h = refl
new-last key at (g ∷ groups) h =
    let n = none-of (are_alike key g.key) (is_present groups key) h in
    ap (λ b. if b then with_place at g ∷ groups else g ∷ add_place key at groups) n.0 ∙ ap (λ zs. g ∷ zs) (new-last key at groups n.1)

map-push : (f : Group → Group) (x : Group) (groups : List Group) → map f (groups ++ x ∷ []) ≡ map f groups ++ f x ∷ []
map-push f x [] = refl
map-push f x (g ∷ groups) = ap (λ zs. f g ∷ zs) (map-push f x groups)

map-where : (p : Row → Bool) (f g : Row → Group) → ((row : Row) → p row ≡ true → f row ≡ g row) → (rows : List Row) → map f (filter p rows) ≡ map g (filter p rows)
map-where p f g h [] = refl
map-where p f g h (row ∷ rows) = go (p row) refl (map-where p f g h rows)
  where
    go : (b : Bool) → p row ≡ b → map f (filter p rows) ≡ map g (filter p rows) → map f (if b then row ∷ filter p rows else filter p rows) ≡ map g (if b then row ∷ filter p rows else filter p rows)
    go true e more = let k = h row e in λ i. k i ∷ more i
    go false e more = more

-- the groups that are still to come
abbrev news : ℕ → List Group → List Row → List Row → List Group
news at groups keys rows = map (new_at at keys) (filter (λ q. not (is_present groups q)) rows)

news-more : (key : Row) (at : ℕ) (groups : List Group) (keys rows : List Row)
    → news (at + 1) (add_place key at groups) keys rows ≡ news at groups (key ∷ keys) (filter (λ q. not (are_alike key q)) rows)
news-more key at groups keys rows =
    map-where (λ q. not (is_present (add_place key at groups) q)) (new_at (at + 1) keys) (new_at at (key ∷ keys)) agree rows
    ∙ ap (map (new_at at (key ∷ keys))) (filter-both (λ q. not (is_present groups q)) (λ q. not (are_alike key q)) (λ q. not (is_present (add_place key at groups) q)) both rows)
  where
    parted : (a b : Bool) → not (a || b) ≡ true → b ≡ false
    parted false false e = refl
    parted false true e = absurd (cc)
    parted true b e = absurd (cc)

    agree : (q : Row) → not (is_present (add_place key at groups) q) ≡ true → new_at (at + 1) keys q ≡ new_at at (key ∷ keys) q
    agree q e =
        let other = other-places key at keys q (parted (is_present groups q) (are_alike q key) (ap not (sym (present-add key at groups q)) ∙ e)) in
        λ i. record { key = q; places = other i }

    exchanged : (a b : Bool) → not (a || b) ≡ (not b && not a)
    exchanged false false = refl
    exchanged false true = refl
    exchanged true false = refl
    exchanged true true = refl

    both : (q : Row) → not (is_present (add_place key at groups) q) ≡ (not (are_alike key q) && not (is_present groups q))
    both q = ap not (present-add key at groups q) ∙ exchanged (is_present groups q) (are_alike q key) ∙ ap (λ b. not b && not (is_present groups q)) (alike.symm q key)

grown : (at : ℕ) (groups : List Group) (keys : List Row) → Apart groups → add_places at groups keys ≡ map (with_places at keys) groups ++ news at groups keys (distinct keys)
grown at groups [] h = ended groups
  where
    no-more : (xs : List ℕ) → xs ≡ xs ++ []
    no-more [] = refl
    no-more (x ∷ xs) = ap (λ zs. x ∷ zs) (no-more xs)

    ended : (gs : List Group) → gs ≡ map (with_places at []) gs ++ []
    ended [] = refl
    ended (g ∷ gs) = let e = no-more g.places in let more = ended gs in λ i. record { key = g.key; places = e i } ∷ more i
grown at groups (key ∷ keys) h =
    grown (at + 1) (add_place key at groups) keys (Apart-add key at groups h)
    ∙ ap (λ zs. map (with_places (at + 1) keys) (add_place key at groups) ++ zs) (news-more key at groups keys (distinct keys))
    ∙ go (is_present groups key) refl
  where
    go : (b : Bool) → is_present groups key ≡ b
        → map (with_places (at + 1) keys) (add_place key at groups) ++ news at groups (key ∷ keys) (filter (λ q. not (are_alike key q)) (distinct keys))
        ≡ map (with_places at (key ∷ keys)) groups ++ map (new_at at (key ∷ keys)) (if not b then key ∷ filter (λ q. not (is_present groups q)) (filter (λ q. not (are_alike key q)) (distinct keys)) else filter (λ q. not (is_present groups q)) (filter (λ q. not (are_alike key q)) (distinct keys)))
    go true e = ap (λ zs. zs ++ news at groups (key ∷ keys) (filter (λ q. not (are_alike key q)) (distinct keys))) (one-more key at keys groups h e)
    go false e =
        let own = own-places key at keys key (alike.refl key) in
        let one : with_places (at + 1) keys (new_group key at) ≡ new_at at (key ∷ keys) key = λ i. record { key = key; places = own i } in
        let more = news at groups (key ∷ keys) (filter (λ q. not (are_alike key q)) (distinct keys)) in
        ap (λ zs. map (with_places (at + 1) keys) zs ++ more) (new-last key at groups e)
        ∙ ap (λ zs. zs ++ more) (map-push (with_places (at + 1) keys) (new_group key at) groups)
        ∙ (λ i. (others-stay key at keys groups e i ++ one i ∷ []) ++ more)
        ∙ append_assoc (map (with_places at (key ∷ keys)) groups) (new_at at (key ∷ keys) key ∷ []) more

pub groups-grown : (keys : List Row) → add_places 0 [] keys ≡ groups_by_key keys
groups-grown keys = grown 0 [] keys tt ∙ ap (map (group_of keys)) (filter-all (λ q. not (is_present [] q)) (λ q. refl) (distinct keys))
