use Rattle.std.proofs.Common.{◌≡◌, ◌∙◌, sym, ap, refl, Some, Ok}
use Rattle.std.specs.Option.{option_copied}
use Rattle.scopes.proofs.Scopes.{seen-some}
use Rattle.scopes.proofs.columns.seen_in.Goals as goal

pub returns-in-Some-place_in_key : goal.returns-in-Some-place_in_key
returns-in-Some-place_in_key c =
    let key : option_copied c.args.key ≡ Some c.in-Some.key.now = rw c.in-Some.is refl in
    rw (seen-some (option_copied c.args.key) c.in-Some.key.now c.args.depth c.in-Some-place_in_key.place c.args.column key
    (sym (rw c.as_slice.ensures at c.place_in_key.ensures) ∙ c.in-Some-place_in_key.is))
    (record { ok = ap Ok (sym c.column_at-in-Some-place_in_key.ensures); err = tt })
