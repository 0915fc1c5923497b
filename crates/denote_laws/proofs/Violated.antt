-- What a database violates is what its tables violate in it.
use Rattle.std.proofs.Common.{◌≡◌, refl, ap, sym, ◌∙◌, subst, Bool, true, false, ◌||◌, List, [], ◌∷◌, ◌++◌, Option, Some, None, inl, inr, arith}
use Rattle.std.specs.Prelude.{Contains, flat_map, is_some}
use Rattle.std.specs.List.{list_any}
use Rattle.std.specs.FinMap.{get, keys, contains_key-keys}
use Rattle.std.proofs.lemmas.List.Elements.{Contains-append_left, Contains-append_right, Contains-append_cases}
use Rattle.denote.specs.Database.{Name, Table, Database, CheckReading, violated_at, violated_in}
use Rattle.denote_laws.proofs.Maps.{is_name, is_name-equal}

pub none_of_both : {X : Type 0} (xs ys : List X) → xs ++ ys ≡ [] → (xs ≡ []) × (ys ≡ [])
none_of_both [] ys e = (refl, e)
none_of_both (x ∷ xs) ys e = absurd (cc)

none_of_all : {A B : Type 0} (f : A → List B) (xs : List A) → ((x : A) → f x ≡ []) → flat_map f xs ≡ []
none_of_all f [] h = refl
none_of_all f (x ∷ xs) h = rw (h x) (none_of_all f xs h)

-- of no name in the list is there anything
none_at : {B : Type 0} (f : Name → List B) (xs : List Name) (name : Name) → list_any (is_name name) xs ≡ true → flat_map f xs ≡ [] → f name ≡ []
none_at f [] name is e = absurd (cc)
none_at {B = B} f (x ∷ xs) name is e =
    let both = none_of_both (f x) (flat_map f xs) e in
    at (is_name name x) refl is both.0 (λ later. none_at f xs name later both.1)
  where
    at : (b : Bool) → is_name name x ≡ b → (b || list_any (is_name name) xs) ≡ true → f x ≡ [] → (list_any (is_name name) xs ≡ true → f name ≡ []) → f name ≡ []
    at true same is here rest = ap f (is_name-equal name x same) ∙ here
    at false same is here rest = rest is

-- what there is of a name in the list is there of all
some_at : {B : Type 0} (f : Name → List B) (xs : List Name) (name : Name) (b : B) → list_any (is_name name) xs ≡ true → Contains (f name) b → Contains (flat_map f xs) b
some_at f [] name b is h = absurd (cc)
some_at {B = B} f (x ∷ xs) name b is h = at (is_name name x) refl is (λ later. some_at f xs name b later h)
  where
    at : (same : Bool) → is_name name x ≡ same → (same || list_any (is_name name) xs) ≡ true → (list_any (is_name name) xs ≡ true → Contains (flat_map f xs) b) → Contains (f x ++ flat_map f xs) b
    at true same is rest = Contains-append_left (f x) (flat_map f xs) b (subst (λ n. Contains (f n) b) (is_name-equal name x same) h)
    at false same is rest = Contains-append_right (f x) (flat_map f xs) b (rest is)

-- and what there is of all is there of some name
of_some : {B : Type 0} (f : Name → List B) (xs : List Name) (b : B) → Contains (flat_map f xs) b → (name : Name) × Contains (f name) b
of_some f [] b h = absurd (omega (arith, h.1))
of_some f (x ∷ xs) b h = elim (Contains-append_cases (f x) (flat_map f xs) b h) [
  | inl here ↦ (x, here)
  | inr later ↦ of_some f xs b later
]

module _ (reading : CheckReading) (db : Database) where
  is_there : (name : Name) (table : Table) → get db name ≡ Some table → list_any (is_name name) (keys db) ≡ true
  is_there name table is = sym (contains_key-keys db name) ∙ ap is_some is

  -- a database that violates nothing violates nothing in a table
  pub unviolated-at : (name : Name) (table : Table) → get db name ≡ Some table → violated_in reading db ≡ [] → violated_at reading db name (Some table) ≡ []
  unviolated-at name table is e =
      sym (ap (violated_at reading db name) is) ∙ none_at (λ n. violated_at reading db n (get db n)) (keys db) name (is_there name table is) e

  -- one in no table of which anything is violated violates nothing
  pub unviolated-in : ((name : Name) (table : Table) → get db name ≡ Some table → violated_at reading db name (Some table) ≡ []) → violated_in reading db ≡ []
  unviolated-in h = none_of_all (λ n. violated_at reading db n (get db n)) (keys db) (λ n. at n (get db n) refl)
    where
      at : (n : Name) (found : Option Table) → get db n ≡ found → violated_at reading db n found ≡ []
      at n None is = refl
      at n (Some table) is = h n table is

  -- what is violated in a table is violated in the database
  pub violated-at : (name : Name) (table : Table) (constraint : Name) → get db name ≡ Some table → Contains (violated_at reading db name (Some table)) constraint
      → Contains (violated_in reading db) constraint
  violated-at name table constraint is h =
      some_at (λ n. violated_at reading db n (get db n)) (keys db) name constraint (is_there name table is)
      (subst (λ (found : Option Table). Contains (violated_at reading db name found) constraint) (sym is) h)

  -- and what the database violates is violated in some table
  pub violated-in : (constraint : Name) → Contains (violated_in reading db) constraint
      → (name : Name) × ((table : Table) × (get db name ≡ Some table) × Contains (violated_at reading db name (Some table)) constraint)
  violated-in constraint h =
      let one = of_some (λ n. violated_at reading db n (get db n)) (keys db) constraint h in
      (one.0, at one.0 (get db one.0) refl one.1)
    where
      at : (n : Name) (found : Option Table) → get db n ≡ found → Contains (violated_at reading db n found) constraint
          → (table : Table) × (get db n ≡ Some table) × Contains (violated_at reading db n (Some table)) constraint
      at n None is h = absurd (omega (arith, h.1))
      at n (Some table) is h = (table, is, h)
