-- What a store shows after a change of one table.
use Rattle.std.proofs.Common.{◌≡◌, Bool, true, false, cond, List, [], ◌∷◌, ◌++◌, map, Option, Some, Result, Ok, Err, OnOk, refl, sym, ap, ◌∙◌}
use Rattle.std.specs.List.{AllByRecursion}
use Rattle.std.specs.Ordering.{eq_by_cmp}
use Rattle.std.specs.FinMap.{find, insert, get-insert}
use Rattle.std.proofs.lemmas.Cmp.{nat_list_cmp_total}
use Rattle.sqlval.specs.Comparison.{text_order}
use Rattle.denote.specs.Database.{Name}
use Rattle.store.proofs.Databases.{same_tables}
use Rattle.stored_tables.specs.Held.{TableAt, stored_of, entry_at, contents_of}
use Rattle.stored_tables.proofs.NameLemmas.{contents-get, name_from_tie}

swapped : {X : Type 0} (b c : Bool) (x y : X) (o p : Option X) → (b ≡ true → c ≡ false) → p ≡ cond b (Some x) o → cond c (Some y) p ≡ cond b (Some x) (cond c (Some y) o)
swapped true true x y o p apart e = let bad : true ≡ false = apart refl in absurd (cc)
swapped true false x y o p apart e = e
swapped false c x y o p apart e = ap (cond c (Some y)) e

find_changed : (q name : Name) (before behind : List TableAt) (t u : TableAt) → t.declared.name ≡ name → u.declared.name ≡ name
    → AllByRecursion (λ (b : TableAt). eq_by_cmp text_order name b.declared.name ≡ false) before
    → find text_order q (map entry_at (before ++ u ∷ behind)) ≡ cond (eq_by_cmp text_order q name) (Some (stored_of u)) (find text_order q (map entry_at (before ++ t ∷ behind)))
find_changed q name [] behind t u was is others =
    ap (λ n. cond (eq_by_cmp text_order q n) (Some (stored_of u)) (find text_order q (map entry_at behind))) is
    ∙ shadowed (eq_by_cmp text_order q name) (Some (stored_of u)) (Some (stored_of t)) (find text_order q (map entry_at behind))
    ∙ ap (λ n. cond (eq_by_cmp text_order q name) (Some (stored_of u)) (cond (eq_by_cmp text_order q n) (Some (stored_of t)) (find text_order q (map entry_at behind)))) (sym was)
  where
    shadowed : {X : Type 0} (b : Bool) (x y z : Option X) → cond b x z ≡ cond b x (cond b y z)
    shadowed true x y z = refl
    shadowed false x y z = refl
find_changed q name (b ∷ before) behind t u was is others =
    swapped (eq_by_cmp text_order q name) (eq_by_cmp text_order q b.declared.name) (stored_of u) (stored_of b) (find text_order q (map entry_at (before ++ t ∷ behind))) _
    (λ e. ap (λ n. eq_by_cmp text_order n b.declared.name) (name_from_tie q name e) ∙ others.0) (find_changed q name before behind t u was is others.1)

pub contents_changed : (name : Name) (before behind : List TableAt) (t u : TableAt) → t.declared.name ≡ name → u.declared.name ≡ name
    → AllByRecursion (λ (b : TableAt). eq_by_cmp text_order name b.declared.name ≡ false) before
    → contents_of (before ++ u ∷ behind) ≡ insert (contents_of (before ++ t ∷ behind)) name (stored_of u)
contents_changed name before behind t u was is others = same_tables (contents_of (before ++ u ∷ behind)) (insert (contents_of (before ++ t ∷ behind)) name (stored_of u))
    (λ q. contents-get (before ++ u ∷ behind) q ∙ find_changed q name before behind t u was is others
    ∙ ap (cond (eq_by_cmp text_order q name) (Some (stored_of u))) (sym (contents-get (before ++ t ∷ behind) q))
    ∙ sym (get-insert nat_list_cmp_total (contents_of (before ++ t ∷ behind)) name (stored_of u) q))

pub whole_later : {X E : Type 0} (result : Result X E) (A B C : Type 0) → (A → B) → OnOk result (B → C) → OnOk result (A → C)
whole_later (Ok x) A B C f h = λ a. h (f a)
whole_later (Err e) A B C f h = h
