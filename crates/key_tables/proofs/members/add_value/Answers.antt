use Rattle.std.proofs.Common.{refl, ap, true, [], ◌∷◌, ◌++◌}
use Rattle.std.proofs.lemmas.Result.{IfOk-weaker}
use Rattle.sqlval.specs.Value.{is_null}
use Rattle.key_tables.specs.Among.{Adds, AreMembers, is_integer, is_text}
use Rattle.key_tables.proofs.Deciding.{known-more, push-is, push-other}
use Rattle.key_tables.proofs.members.add_value.Goals as goal

pub returns-in-Int : goal.returns-in-Int
returns-in-Int c = λ values has.
    let old = c.args.members.now in
    let value = c.args.value.now in
    let set = c.put_value.new.values in
    IfOk-weaker c.put_value.result (λ _. Adds value old.values set) (λ _. AreMembers (record { values = set; nulls = old.nulls; integers = true; texts = old.texts }) (values ++ value ∷ []))
    (λ _ put. known-more old (record { values = set; nulls = old.nulls; integers = true; texts = old.texts }) value values has (ap is_null c.in-Int.is) put refl
    (push-is is_integer values value (ap is_integer c.in-Int.is)) (push-other is_text values value old.texts (ap is_text c.in-Int.is) has.text)) c.put_value.ensures

pub returns-in-Text : goal.returns-in-Text
returns-in-Text c = λ values has.
    let old = c.args.members.now in
    let value = c.args.value.now in
    let set = c.put_value-in-Text.new.values in
    IfOk-weaker c.put_value-in-Text.result (λ _. Adds value old.values set) (λ _. AreMembers (record { values = set; nulls = old.nulls; integers = old.integers; texts = true }) (values ++ value ∷ []))
    (λ _ put. known-more old (record { values = set; nulls = old.nulls; integers = old.integers; texts = true }) value values has (ap is_null c.in-Text.is) put refl
    (push-other is_integer values value old.integers (ap is_integer c.in-Text.is) has.integer) (push-is is_text values value (ap is_text c.in-Text.is))) c.put_value-in-Text.ensures
