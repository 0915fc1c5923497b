-- Groups that grow row by row are those of the keys.
use Rattle.std.proofs.Common.{◌≡◌, refl, ap, sym, ◌∙◌, subst, ℕ, zero, suc, ◌≤◌, Bool, true, false, cond, if◌then◌else◌, List, [], ◌∷◌, ◌++◌, length, drop, Option, Some, None}
use Rattle.std.specs.Prelude.{slice_get, slice_set}
use Rattle.std.proofs.lemmas.List.{drop_all}
use Rattle.std.specs.Option.{option_map}
use Rattle.std.specs.BTreeMap.{BTreeMap, get, Updates}
use Rattle.sqlval.specs.Value.{Row}
use Rattle.denote.specs.Bag.{are_alike}
use Rattle.kernels.specs.declared.groups.Group.{Group}
use Rattle.kernels.specs.declared.row_key.RowKey.{RowKey}
use Rattle.kernels.specs.Counts.{key_order, IsKey}
use Rattle.kernels.specs.Adding.{new_group, with_place, put_at, add_place, add_places, number_of, Numbers}
use Rattle.kernels.proofs.Alike.{alike, are_alike-Decides}
use Rattle.kernels.proofs.Keys.{key_ties}

-- ---- numbers of groups

pub set-put : (groups : List Group) (at place : ℕ) (group : Group) → slice_get groups at ≡ Some group → slice_set groups at (with_place place group) ≡ put_at at place groups
set-put [] at place group e = refl
set-put (g ∷ groups) zero place group e = let same : g ≡ group = cc in ap (λ x. with_place place x ∷ groups) (sym same)
set-put (g ∷ groups) (suc at) place group e = ap (λ zs. g ∷ zs) (set-put groups at place group e)

pub none-put : (groups : List Group) (at place : ℕ) → slice_get groups at ≡ None → groups ≡ put_at at place groups
none-put [] at place e = refl
none-put (g ∷ groups) zero place e = absurd (cc)
none-put (g ∷ groups) (suc at) place e = ap (λ zs. g ∷ zs) (none-put groups at place e)

pub put-add : (key : Row) (place at : ℕ) (groups : List Group) → number_of key groups ≡ Some at → put_at at place groups ≡ add_place key place groups
put-add key place at [] e = absurd (cc)
put-add key place at (g ∷ groups) e = go (are_alike key g.key) e (number_of key groups) refl (λ n. put-add key place n groups)
  where
    go : (b : Bool) → (if b then Some 0 else option_map (λ n. suc n) (number_of key groups)) ≡ Some at
        → (found : Option ℕ) → number_of key groups ≡ found → ((n : ℕ) → number_of key groups ≡ Some n → put_at n place groups ≡ add_place key place groups)
        → put_at at place (g ∷ groups) ≡ (if b then with_place place g ∷ groups else g ∷ add_place key place groups)
    go true h found f more = let z : zero ≡ at = cc in subst (λ (n : ℕ). put_at n place (g ∷ groups) ≡ with_place place g ∷ groups) z refl
    go false h None f more = let k = ap (option_map (λ (n : ℕ). suc n)) (sym f) ∙ h in absurd (cc)
    go false h (Some n) f more =
        let k : Some (suc n) ≡ Some at = ap (option_map (λ (n : ℕ). suc n)) (sym f) ∙ h in
        let z : suc n ≡ at = cc in
        subst (λ (m : ℕ). put_at m place (g ∷ groups) ≡ g ∷ add_place key place groups) z (ap (λ zs. g ∷ zs) (more n f))

pub new-add : (key : Row) (place : ℕ) (groups : List Group) → number_of key groups ≡ None → groups ++ new_group key place ∷ [] ≡ add_place key place groups
new-add key place [] e = refl
new-add key place (g ∷ groups) e = go (are_alike key g.key) e (number_of key groups) refl (new-add key place groups)
  where
    go : (b : Bool) → (if b then Some 0 else option_map (λ n. suc n) (number_of key groups)) ≡ None
        → (found : Option ℕ) → number_of key groups ≡ found → (number_of key groups ≡ None → groups ++ new_group key place ∷ [] ≡ add_place key place groups)
        → g ∷ (groups ++ new_group key place ∷ []) ≡ (if b then with_place place g ∷ groups else g ∷ add_place key place groups)
    go true h found f more = absurd (cc)
    go false h None f more = ap (λ zs. g ∷ zs) (more f)
    go false h (Some n) f more = let k : Some (suc n) ≡ None = ap (option_map (λ (n : ℕ). suc n)) (sym f) ∙ h in absurd (cc)

number-put : (key : Row) (at place : ℕ) (groups : List Group) → number_of key (put_at at place groups) ≡ number_of key groups
number-put key at place [] = refl
number-put key zero place (g ∷ groups) = refl
number-put key (suc at) place (g ∷ groups) = ap (λ o. if are_alike key g.key then Some 0 else option_map (λ n. suc n) o) (number-put key at place groups)

number-push : (key : Row) (group : Group) (groups : List Group) → number_of key groups ≡ None
    → number_of key (groups ++ group ∷ []) ≡ (if are_alike key group.key then Some (length groups) else None)
number-push key group [] e = refl
number-push key group (g ∷ groups) e = go (are_alike key g.key) e (number_of key groups) refl (number-push key group groups)
  where
    last : (b : Bool) → option_map (λ n. suc n) (if b then Some (length groups) else None) ≡ (if b then Some (length (g ∷ groups)) else None)
    last true = refl
    last false = refl

    go : (b : Bool) → (if b then Some 0 else option_map (λ n. suc n) (number_of key groups)) ≡ None
        → (found : Option ℕ) → number_of key groups ≡ found → (number_of key groups ≡ None → number_of key (groups ++ group ∷ []) ≡ (if are_alike key group.key then Some (length groups) else None))
        → (if b then Some 0 else option_map (λ n. suc n) (number_of key (groups ++ group ∷ []))) ≡ (if are_alike key group.key then Some (length (g ∷ groups)) else None)
    go true h found f more = absurd (cc)
    go false h None f more = ap (option_map (λ n. suc n)) (more f) ∙ last (are_alike key group.key)
    go false h (Some n) f more = let k : Some (suc n) ≡ None = ap (option_map (λ (n : ℕ). suc n)) (sym f) ∙ h in absurd (cc)

number-stays : (key : Row) (group : Group) (groups : List Group) → are_alike key group.key ≡ false → number_of key (groups ++ group ∷ []) ≡ number_of key groups
number-stays key group [] e = ap (λ b. if b then Some 0 else None) e
number-stays key group (g ∷ groups) e = ap (λ o. if are_alike key g.key then Some 0 else option_map (λ n. suc n) o) (number-stays key group groups e)

pub Numbers-put : (numbers : BTreeMap RowKey ℕ) (at place : ℕ) (groups : List Group) → Numbers numbers groups → Numbers numbers (put_at at place groups)
Numbers-put numbers at place groups h = record { numbers = λ key k. h.numbers key k ∙ sym (number-put key.values.now at place groups) }

pub Numbers-push : (old new : BTreeMap RowKey ℕ) (key : RowKey) (group : Group) (groups : List Group) (number : ℕ) → IsKey key → Numbers old groups → group.key ≡ key.values.now → number ≡ length groups
    → number_of key.values.now groups ≡ None → Updates key_order old new key (Some number) → Numbers new (groups ++ group ∷ [])
Numbers-push old new key group groups number k h same count none updates = record { numbers = one }
  where
    one : (other : RowKey) → IsKey other → get key_order new other ≡ number_of other.values.now (groups ++ group ∷ [])
    one other o =
        updates.0 other
        ∙ ap (λ b. cond b (Some number) (get key_order old other)) (sym (key_ties key other k o))
        ∙ at (are_alike key.values.now other.values.now) refl
      where
        turned : are_alike other.values.now group.key ≡ are_alike key.values.now other.values.now
        turned = ap (are_alike other.values.now) same ∙ alike.symm other.values.now key.values.now

        at : (b : Bool) → are_alike key.values.now other.values.now ≡ b → cond b (Some number) (get key_order old other) ≡ number_of other.values.now (groups ++ group ∷ [])
        at true e =
            let is : key.values.now ≡ other.values.now = (are_alike-Decides key.values.now other.values.now).0 e in
            ap Some count
            ∙ sym (number-push other.values.now group groups (ap (λ (k : Row). number_of k groups) (sym is) ∙ none) ∙ ap (λ b. if b then Some (length groups) else None) (turned ∙ e))
        at false e = h.numbers other o ∙ sym (number-stays other.values.now group groups (turned ∙ e))

-- ---- all rows

-- the groups so far, and their numbers
pub record Grown (numbers : BTreeMap RowKey ℕ) (groups : List Group) (place : ℕ) (keys : List Row) : Type 0 where
  pub numbered : Numbers numbers groups
  pub grown : add_places place groups (drop place keys) ≡ add_places 0 [] keys

pub all-grown : (groups : List Group) (place : ℕ) (keys : List Row) → length keys ≤ place → add_places place groups (drop place keys) ≡ add_places 0 [] keys → groups ≡ add_places 0 [] keys
all-grown groups place keys over e = ap (add_places place groups) (sym (drop_all place keys over)) ∙ e
