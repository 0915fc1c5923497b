-- The exit of a `?`.
use Rattle.std.proofs.Common.{◌≡◌, List, Result, ◌∙◌}
use Rattle.std.specs.Result.{IsErrAnd}
use Rattle.std.specs.Borrow.{Bor}
use Rattle.std.proofs.lemmas.Result.{err_from_is_err_and}
use Rattle.catalog_records.specs.declared.read_error.ReadError.{ReadError}
use Rattle.catalog_records.specs.declared.read_error.ReadError.TheVariants.{Memory}
use Rattle.catalog_records.specs.Given.{Gives, GivesFront}

pub refused : {A : Type 0} (r : Result A ReadError) (e : ReadError) (x : A) → IsErrAnd r (λ y. y ≡ e) → e ≡ Memory → Gives r x
refused r e x h m = let p = err_from_is_err_and r h in rw p.1 (p.2 ∙ m)

pub refused_front : {A B : Type 0} (r : Result (A × Bor (List B)) ReadError) (e : ReadError) (x : A) (rest : List B) → IsErrAnd r (λ y. y ≡ e) → e ≡ Memory → GivesFront r x rest
refused_front r e x rest h m = let p = err_from_is_err_and r h in rw p.1 (p.2 ∙ m)
