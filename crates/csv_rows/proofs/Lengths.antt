-- Records that all have one length.
use Rattle.std.proofs.Common.{◌≡◌, ◌≢◌, ℕ, List, [], ◌∷◌, ◌++◌, length, Option, Some, None, sym, ◌∙◌, subst}
use Rattle.std.specs.List.{AllByRecursion}
use Rattle.std.specs.Prelude.{IfSome}

-- each record has so many fields
abbrev pub HaveLength : ℕ → List (List (List ℕ)) → Type 0
HaveLength width records = AllByRecursion (λ fields. length fields ≡ width) records

-- the length that the next record is to have: that of all before it
abbrev pub ExpectsLength : Option ℕ → List (List (List ℕ)) → Type 0
ExpectsLength None records = records ≡ []
ExpectsLength (Some width) [] = ⊥
ExpectsLength (Some width) (fields ∷ records) = HaveLength width (fields ∷ records)

lengths-more : (width : ℕ) (records : List (List (List ℕ))) (fields : List (List ℕ)) → HaveLength width records → length fields ≡ width → HaveLength width (records ++ fields ∷ [])
lengths-more width [] fields all is = (is, tt)
lengths-more width (first ∷ records) fields all is = (all.0, lengths-more width records fields all.1 is)

pub length-more : (expected : Option ℕ) (records : List (List (List ℕ))) (fields : List (List ℕ)) (width : ℕ) → ExpectsLength expected records → IfSome expected (λ e. Some width ≡ Some e)
    → length fields ≡ width → ExpectsLength (Some width) (records ++ fields ∷ [])
length-more None [] fields width none same is = (is, tt)
length-more None (first ∷ records) fields width none same is = absurd (cc none)
length-more (Some e) [] fields width some same is = absurd some
length-more (Some e) (first ∷ records) fields width all same is =
    let one : e ≡ width = cc same in lengths-more width (first ∷ records) fields (subst (λ w. HaveLength w (first ∷ records)) one all) is

pub one_length : (expected : Option ℕ) (records : List (List (List ℕ))) → ExpectsLength expected records → (width : ℕ) × HaveLength width records
one_length None [] none = (0, tt)
one_length None (fields ∷ records) none = absurd (cc none)
one_length (Some width) [] some = absurd some
one_length (Some width) (fields ∷ records) all = (width, all)

length_among : (before : List (List (List ℕ))) (fields : List (List ℕ)) (rest : List (List (List ℕ))) (width : ℕ) → HaveLength width (before ++ fields ∷ rest) → length fields ≡ width
length_among [] fields rest width all = all.0
length_among (first ∷ before) fields rest width all = length_among before fields rest width all.1

-- where a record of another length comes behind others, not all have one length
pub uneven_records : (expected len : ℕ) (before records : List (List (List ℕ))) (fields : List (List ℕ)) (rest : List (List (List ℕ))) (width : ℕ) → ExpectsLength (Some expected) before
    → records ≡ before ++ fields ∷ rest → HaveLength width records → length fields ≡ len → expected ≢ len → ⊥
uneven_records expected len [] records fields rest width some e even is other = some
uneven_records expected len (first ∷ before) records fields rest width some e even is other =
    let all : HaveLength width (first ∷ (before ++ fields ∷ rest)) = subst (λ xs. HaveLength width xs) e even in
    other (sym some.0 ∙ all.0 ∙ sym (length_among before fields rest width all.1) ∙ is)
