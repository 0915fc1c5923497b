-- Page 0 as it was read.
use Rattle.std.proofs.Common.{◌≡◌, ◌∙◌, Option, Some, None, true, false, List, ℕ, refl, sym, ap, subst}
use Rattle.pagefile.specs.declared.header.FileHeader.{FileHeader}
use Rattle.pagefile.specs.Header.{header_bytes, IsHeader, IsInBounds}
use Rattle.std.specs.Prelude.{zero, suc, replicate}
use Rattle.std.specs.List.{list_all}
use Rattle.pool.specs.Zeros.{is_zero, has_zeros, EndsInZeros}
use Rattle.overlay.specs.Whole.{IsSaid, IsTakable, HasZeros, TakesZeros}
use Rattle.pool.specs.Pages.{PageMap, over, pick}

pub header_read : (read first : List ℕ) (header : FileHeader) → read ≡ first → IsHeader read header → IsHeader first header
header_read read first header same is = subst (λ (p : List ℕ). IsHeader p header) same is

pub no_header : (page : Option (List ℕ)) (read : List ℕ) → ((bytes : List ℕ) → page ≡ Some bytes → read ≡ bytes)
    → ((h : FileHeader) → IsHeader read h → IsInBounds h → ⊥) → (h : FileHeader) → IsSaid page h → ⊥
no_header None read value none h said = absurd said
no_header (Some first) read value none h said = none h (subst (λ (p : List ℕ). IsHeader p h) (sym (value first refl)) said.0) said.1

-- what was read does not end in zeros
pub never_takable : (page : Option (List ℕ)) (read : List ℕ) → ((bytes : List ℕ) → page ≡ Some bytes → read ≡ bytes)
    → has_zeros read ≡ false → (h : FileHeader) → IsTakable page h → ⊥
never_takable None read value bad h said = absurd said.0
never_takable (Some first) read value bad h said = let e : true ≡ false = sym said.1 ∙ ap has_zeros (sym (value first refl)) ∙ bad in cc

-- what was read ends in zeros, and lies in the version
pub takes_zeros : (version written : PageMap) (read : List ℕ) → ((bytes : List ℕ) → over written version 0 ≡ Some bytes → read ≡ bytes)
    → (written 0 ≡ None → has_zeros read ≡ true) → TakesZeros version written
takes_zeros version written read value zeros none = by (version 0) refl
  where
    by : (o : Option (List ℕ)) → version 0 ≡ o → HasZeros o
    by None e = tt
    by (Some first) e = ap has_zeros (sym (value first (ap (λ (o : Option (List ℕ)). pick o (version 0)) none ∙ e))) ∙ zeros none

all_zeros : (n : ℕ) → list_all is_zero (replicate n 0) ≡ true
all_zeros zero = refl
all_zeros (suc n) = all_zeros n

-- a header as a page ends in zeros
pub header_zeros : (h : FileHeader) → EndsInZeros (header_bytes h)
header_zeros h = all_zeros 4076

pub encoded_zeros : (h : FileHeader) (page : List ℕ) → page ≡ header_bytes h → EndsInZeros page
encoded_zeros h page is = subst EndsInZeros (sym is) (header_zeros h)
