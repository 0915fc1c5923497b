-- Finite maps by names.
use Rattle.std.proofs.Common.{◌≡◌, refl, ap, sym, ◌∙◌, Bool, true, false, cond, List, [], ◌∷◌, map, Some, None}
use Rattle.std.specs.Option.{option_map}
use Rattle.std.specs.Cmp.Lexicographic.{nat_list_cmp_total}
use Rattle.std.specs.FinMap.{FinMap, get, insert, remove, entries, from_entries, find, get-insert, get-remove, get-entries, get-from_entries, slice_cmp-IsAntisymmetric, nat_cmp-IsAntisymmetric}
use Rattle.std.specs.Ordering.{is_eq, eq_by_cmp}
use Rattle.std.specs.declared.cmp.Ordering.{Ordering}
use Rattle.std.specs.declared.cmp.Ordering.TheVariants.{Less, Equal, Greater}
use Rattle.sqlval.specs.Comparison.{text_order}
use Rattle.denote.specs.Database.{Name}

-- whether two names are the same
abbrev pub is_name : Name → Name → Bool
is_name = eq_by_cmp text_order

equal_order : (o : Ordering) → is_eq o ≡ true → o ≡ Equal
equal_order Less e = absurd (cc)
equal_order Equal e = refl
equal_order Greater e = absurd (cc)

pub is_name-equal : (name other : Name) → is_name name other ≡ true → name ≡ other
is_name-equal name other e = slice_cmp-IsAntisymmetric nat_cmp-IsAntisymmetric name other (equal_order (text_order name other) e)

module _ {X : Type 0} where
  pub found-insert : (m : FinMap text_order X) (name : Name) (x : X) (other : Name) → get (insert m name x) other ≡ cond (is_name other name) (Some x) (get m other)
  found-insert m name x other = get-insert nat_list_cmp_total m name x other

  pub found-remove : (m : FinMap text_order X) (name other : Name) → get (remove m name) other ≡ cond (is_name other name) None (get m other)
  found-remove m name other = get-remove nat_list_cmp_total m name other

  find-mapped : (f : X → X) (name : Name) (es : List (Name × X)) → find text_order name (map (λ e. (e.0, f e.1)) es) ≡ option_map f (find text_order name es)
  find-mapped f name [] = refl
  find-mapped f name (e ∷ es) = at (is_name name e.0) (find-mapped f name es)
    where
      at : (b : Bool) → find text_order name (map (λ e. (e.0, f e.1)) es) ≡ option_map f (find text_order name es)
          → cond b (Some (f e.1)) (find text_order name (map (λ e. (e.0, f e.1)) es)) ≡ option_map f (cond b (Some e.1) (find text_order name es))
      at true h = refl
      at false h = h

  pub found-mapped : (f : X → X) (m : FinMap text_order X) (name : Name)
      → get (from_entries {R = text_order} (map (λ e. (e.0, f e.1)) (entries m))) name ≡ option_map f (get m name)
  found-mapped f m name =
      get-from_entries nat_list_cmp_total (map (λ e. (e.0, f e.1)) (entries m)) name ∙ find-mapped f name (entries m) ∙ ap (option_map f) (sym (get-entries m name))
