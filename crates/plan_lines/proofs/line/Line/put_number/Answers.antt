use Rattle.std.proofs.Common.{◌≡◌, rules, sym, subst, IsTrue, ℕ, List, decimal}
use Rattle.std.specs.List.{list_all}
use Rattle.items.specs.Text.{is_character}
use Rattle.plan_lines.proofs.Characters.{decimal_characters}
use Rattle.plan_lines.proofs.line.Line.put_number.Goals as goal

pub put-requires : goal.put-requires
put-requires c =
    let is : c.as_bytes.result.now ≡ decimal c.args.number = search rules in
    record { characters = subst (λ (xs : List ℕ). IsTrue (list_all is_character xs)) (sym is) (decimal_characters c.args.number c.ranges.number.fits) }
