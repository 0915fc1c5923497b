-- Lists: what holds of each element, numbers that a list has, lists that have none twice, links
-- over a list.
use Rattle.std.proofs.Common.{◌≡◌, ℕ, List, [], ◌∷◌, ◌++◌, ◌⊎◌, inl, inr, refl, sym, subst}
use Rattle.std.specs.List.{AllByRecursion}
use Rattle.btree_read.specs.Lists.{Has, Apart, Leads}

pub each_append : {X : Type 0} (P : X → Type 0) (xs ys : List X) → AllByRecursion P xs → AllByRecursion P ys → AllByRecursion P (xs ++ ys)
each_append P [] ys h g = g
each_append P (x ∷ xs) ys h g = (h.0, each_append P xs ys h.1 g)

pub each_left : {X : Type 0} (P : X → Type 0) (xs ys : List X) → AllByRecursion P (xs ++ ys) → AllByRecursion P xs
each_left P [] ys h = tt
each_left P (x ∷ xs) ys h = (h.0, each_left P xs ys h.1)

pub each_right : {X : Type 0} (P : X → Type 0) (xs ys : List X) → AllByRecursion P (xs ++ ys) → AllByRecursion P ys
each_right P [] ys h = h
each_right P (x ∷ xs) ys h = each_right P xs ys h.1

pub each_map : {X : Type 0} (P Q : X → Type 0) (xs : List X) → ((x : X) → P x → Q x) → AllByRecursion P xs → AllByRecursion Q xs
each_map P Q [] f h = tt
each_map P Q (x ∷ xs) f h = (f x h.0, each_map P Q xs f h.1)

pub has_left : (n : ℕ) (xs ys : List ℕ) → Has n xs → Has n (xs ++ ys)
has_left n [] ys h = absurd h
has_left n (x ∷ xs) ys (inl e) = inl e
has_left n (x ∷ xs) ys (inr h) = inr (has_left n xs ys h)

pub has_right : (n : ℕ) (xs ys : List ℕ) → Has n ys → Has n (xs ++ ys)
has_right n [] ys h = h
has_right n (x ∷ xs) ys h = inr (has_right n xs ys h)

pub has_either : (n : ℕ) (xs ys : List ℕ) → Has n (xs ++ ys) → Has n xs ⊎ Has n ys
has_either n [] ys h = inr h
has_either n (x ∷ xs) ys (inl e) = inl (inl e)
has_either n (x ∷ xs) ys (inr h) = by (has_either n xs ys h)
  where
    by : Has n xs ⊎ Has n ys → ((n ≡ x) ⊎ Has n xs) ⊎ Has n ys
    by (inl g) = inl (inr g)
    by (inr g) = inr g

-- what holds of each, at a number that a list has
pub each_at : (P : ℕ → Type 0) (n : ℕ) (xs : List ℕ) → AllByRecursion P xs → Has n xs → P n
each_at P n [] h g = absurd g
each_at P n (x ∷ xs) h (inl e) = subst P (sym e) h.0
each_at P n (x ∷ xs) h (inr g) = each_at P n xs h.1 g

-- two lists with no number in common, each without one twice
pub record Parted (xs ys : List ℕ) : Type 0 where
  pub left : Apart xs
  pub right : Apart ys
  pub none : (n : ℕ) → Has n xs → Has n ys → ⊥

pub apart_parts : (xs ys : List ℕ) → Apart (xs ++ ys) → Parted xs ys
apart_parts [] ys h = record { left = tt; right = h; none = λ n a b. a }
apart_parts (x ∷ xs) ys h =
    let p = apart_parts xs ys h.1 in
    record {
      left = (λ g. h.0 (has_left x xs ys g), p.left);
      right = p.right;
      none = λ n a b. by n b p a;
    }
  where
    by : (n : ℕ) → Has n ys → Parted xs ys → (n ≡ x) ⊎ Has n xs → ⊥
    by n b p (inl e) = h.0 (has_right x xs ys (subst (λ m. Has m ys) e b))
    by n b p (inr g) = p.none n g b

pub apart_join : (xs ys : List ℕ) → Parted xs ys → Apart (xs ++ ys)
apart_join [] ys p = p.right
apart_join (x ∷ xs) ys p = (
  λ g. by (has_either x xs ys g),
  apart_join xs ys (record { left = p.left.1; right = p.right; none = λ n a b. p.none n (inr a) b }),
)
  where
    by : Has x xs ⊎ Has x ys → ⊥
    by (inl g) = p.left.0 g
    by (inr g) = p.none x (inl refl) g

-- the middle part is exchanged for one that has old numbers and fresh ones
pub apart_middle : (Fresh : ℕ → Type 0) (l x r new : List ℕ) → Apart (l ++ (x ++ r)) → Apart new
    → ((n : ℕ) → Has n new → Has n x ⊎ Fresh n)
    → ((n : ℕ) → Has n (l ++ (x ++ r)) → Fresh n → ⊥)
    → Apart (l ++ (new ++ r))
apart_middle Fresh l x r new old apart own used =
    let p = apart_parts l (x ++ r) old in
    let q = apart_parts x r p.right in
    apart_join l (new ++ r) (record {
      left = p.left;
      right = apart_join new r (record { left = apart; right = q.right; none = λ n a b. in_right n b q (own n a) });
      none = λ n a b. in_left n a p q (has_either n new r b);
    })
  where
    in_right : (n : ℕ) → Has n r → Parted x r → Has n x ⊎ Fresh n → ⊥
    in_right n b q (inl g) = q.none n g b
    in_right n b q (inr f) = used n (has_right n l (x ++ r) (has_right n x r b)) f

    in_left_new : (n : ℕ) → Has n l → Parted l (x ++ r) → Has n x ⊎ Fresh n → ⊥
    in_left_new n a p (inl g) = p.none n a (has_left n x r g)
    in_left_new n a p (inr f) = used n (has_left n l (x ++ r) a) f

    in_left : (n : ℕ) → Has n l → Parted l (x ++ r) → Parted x r → Has n new ⊎ Has n r → ⊥
    in_left n a p q (inl g) = in_left_new n a p (own n g)
    in_left n a p q (inr g) = p.none n a (has_right n x r g)

-- a number put between two parts
pub has_between : (n q : ℕ) (xs ys : List ℕ) → Has n (xs ++ q ∷ ys) → (n ≡ q) ⊎ Has n (xs ++ ys)
has_between n q [] ys h = h
has_between n q (x ∷ xs) ys (inl e) = inr (inl e)
has_between n q (x ∷ xs) ys (inr h) = by (has_between n q xs ys h)
  where
    by : (n ≡ q) ⊎ Has n (xs ++ ys) → (n ≡ q) ⊎ ((n ≡ x) ⊎ Has n (xs ++ ys))
    by (inl e) = inl e
    by (inr g) = inr (inr g)

pub apart_between : (q : ℕ) (xs ys : List ℕ) → Apart (xs ++ ys) → (Has q (xs ++ ys) → ⊥) → Apart (xs ++ q ∷ ys)
apart_between q [] ys h g = (g, h)
apart_between q (x ∷ xs) ys h g = (λ w. by (has_between x q xs ys w), apart_between q xs ys h.1 (λ w. g (inr w)))
  where
    by : (x ≡ q) ⊎ Has x (xs ++ ys) → ⊥
    by (inl e) = g (inl (sym e))
    by (inr w) = h.0 w

-- ---- links

-- links over two parts meet between them
pub record Meets (from : ℕ) (xs ys : List (ℕ × ℕ)) (to : ℕ) : Type 0 where
  pub middle : ℕ
  pub left : Leads from xs middle
  pub right : Leads middle ys to

pub leads_parts : (from : ℕ) (xs ys : List (ℕ × ℕ)) (to : ℕ) → Leads from (xs ++ ys) to → Meets from xs ys to
leads_parts from [] ys to h = record { middle = from; left = refl; right = h }
leads_parts from (x ∷ xs) ys to h =
    let w = leads_parts x.1 xs ys to h.1 in
    record { middle = w.middle; left = (h.0, w.left); right = w.right }

pub leads_join : (from : ℕ) (xs ys : List (ℕ × ℕ)) (middle to : ℕ) → Leads from xs middle → Leads middle ys to → Leads from (xs ++ ys) to
leads_join from [] ys middle to h g = subst (λ n. Leads n ys to) (sym h) g
leads_join from (x ∷ xs) ys middle to h g = (h.0, leads_join x.1 xs ys middle to h.1 g)

-- a middle part exchanged for one with the same ends
pub leads_middle : (from : ℕ) (b x new a : List (ℕ × ℕ)) (to : ℕ) → ((p q : ℕ) → Leads p x q → Leads p new q)
    → Leads from (b ++ (x ++ a)) to → Leads from (b ++ (new ++ a)) to
leads_middle from b x new a to f h =
    let w = leads_parts from b (x ++ a) to h in
    let v = leads_parts w.middle x a to w.right in
    leads_join from b (new ++ a) w.middle to w.left (leads_join w.middle new a v.middle to (f w.middle v.middle v.left) v.right)
