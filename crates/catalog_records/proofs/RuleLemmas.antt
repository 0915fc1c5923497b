-- Rules by their sorts.
use Rattle.std.proofs.Common.{◌≡◌, ℕ, ◌^◌, ◌<◌, List, [], ◌∷◌, length, get_or, refl, arith}
use Rattle.sqlval.specs.declared.schema.Rule.{Rule}
use Rattle.sqlval.specs.declared.schema.Rule.TheVariants.{NotNull, PrimaryKey, Unique, Check, ForeignKey}
use Rattle.catalog_records.specs.Places.{places_text}
use Rattle.catalog_records.specs.Records.{sort_of, detail_of, others_of}
use Rattle.catalog_records.specs.Keepable.{IsRule}

-- the first sort is NOT NULL
pub not_null : (rule : Rule) (detail : List ℕ) (P : Type 0) → IsRule rule → sort_of rule ≡ 1 → detail_of rule ≡ detail
    → ((column : ℕ) → column < 2 ^ 64 → places_text (column ∷ []) ≡ detail → rule ≡ NotNull column → P) → P
not_null (NotNull column) detail P small sort e use_it = use_it column small e refl
not_null (PrimaryKey columns) detail P small sort e use_it = absurd (omega (arith, sort))
not_null (Unique columns) detail P small sort e use_it = absurd (omega (arith, sort))
not_null (Check text) detail P small sort e use_it = absurd (omega (arith, sort))
not_null (ForeignKey reference) detail P small sort e use_it = absurd (omega (arith, sort))

-- behind the columns or the text of any other rule stands nothing
pub no_others : (rule : Rule) → (sort_of rule ≡ 5 → ⊥) → others_of rule ≡ []
no_others (NotNull column) h = refl
no_others (PrimaryKey columns) h = refl
no_others (Unique columns) h = refl
no_others (Check text) h = refl
no_others (ForeignKey reference) h = absurd (h refl)

pub lone_length : (places : List ℕ) (column : ℕ) → places ≡ column ∷ [] → length places ≡ 1
lone_length places column e = rw e refl

pub lone_first : (places slice : List ℕ) (column : ℕ) → slice ≡ places → places ≡ column ∷ [] → get_or slice 0 0 ≡ column
lone_first places slice column same e = rw (same, e) refl
