-- Refusals, handed on.
use Rattle.std.proofs.Common.{◌≡◌, ℕ, ◌≤◌, Result, Ok, Err, arith}
use Rattle.std.specs.Result.{IfErr, IsErrAnd}
use Rattle.std.proofs.lemmas.Result.{err_from_is_err_and}
use Rattle.page_space.specs.declared.error.SpaceError.{SpaceError}
use Rattle.page_space.specs.declared.error.SpaceError.TheVariants as fault
use Rattle.catalog.specs.declared.error.ChangeError.{ChangeError}
use Rattle.catalog.specs.declared.error.ChangeError.TheVariants.{Space, Record, Key}
use Rattle.catalog.specs.Changed.{MayRefuse, IsOfRecord}

of_record : (AtLimit : SpaceError → Type 0) (Harm : Type 0) (a b : ℕ) (e : ChangeError) → IsOfRecord e → MayRefuse AtLimit Harm a b e
of_record AtLimit Harm a b (Space fault.Memory) h = tt
of_record AtLimit Harm a b (Space fault.Disk) h = absurd (cc)
of_record AtLimit Harm a b (Space fault.Damaged) h = absurd (cc)
of_record AtLimit Harm a b (Space fault.Pages) h = absurd (cc)
of_record AtLimit Harm a b (Space fault.Private) h = absurd (cc)
of_record AtLimit Harm a b Record h = tt
of_record AtLimit Harm a b Key h = tt

-- a record's refusal, at the exit of a `?`
pub record_refused : {A : Type 0} (r : Result A ChangeError) (e : ChangeError) (AtLimit : SpaceError → Type 0) (Harm : Type 0) (a b : ℕ) → IsErrAnd r (λ y. y ≡ e) → IsOfRecord e → IfErr r (MayRefuse AtLimit Harm a b)
record_refused r e AtLimit Harm a b h of = let p = err_from_is_err_and r h in rw (p.1, p.2) (of_record AtLimit Harm a b e of)

later : (AtLimit : SpaceError → Type 0) (H G : Type 0) (a b c : ℕ) (e : ChangeError) → a ≤ b → (H → G) → MayRefuse AtLimit H b c e → MayRefuse AtLimit G a c e
later AtLimit H G a b c (Space fault.Memory) h f g = tt
later AtLimit H G a b c (Space fault.Disk) h f g = record { no_less = omega (arith, g.no_less); more = omega (arith, g.more) }
later AtLimit H G a b c (Space fault.Damaged) h f g = f g
later AtLimit H G a b c (Space fault.Pages) h f g = g
later AtLimit H G a b c (Space fault.Private) h f g = g
later AtLimit H G a b c Record h f g = tt
later AtLimit H G a b c Key h f g = tt

-- a later call's refusal, at the exit of a `?`
pub refused_later : {A : Type 0} (r : Result A ChangeError) (e : ChangeError) (AtLimit : SpaceError → Type 0) (H G : Type 0) (a b c : ℕ) → a ≤ b → (H → G) → IsErrAnd r (λ y. y ≡ e) → MayRefuse AtLimit H b c e → IfErr r (MayRefuse AtLimit G a c)
refused_later r e AtLimit H G a b c h f is g = let p = err_from_is_err_and r is in rw (p.1, p.2) (later AtLimit H G a b c e h f g)

-- and of one that is answered as it is
pub refused_so : {A : Type 0} (r : Result A ChangeError) (AtLimit : SpaceError → Type 0) (H G : Type 0) (a c : ℕ) → (H → G) → IfErr r (MayRefuse AtLimit H a c) → IfErr r (MayRefuse AtLimit G a c)
refused_so (Ok x) AtLimit H G a c f g = tt
refused_so (Err e) AtLimit H G a c f g = later AtLimit H G a a c e (omega arith) f g
