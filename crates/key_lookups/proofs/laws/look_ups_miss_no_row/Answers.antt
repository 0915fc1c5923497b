use Rattle.key_lookups.proofs.Keys.{asked, matching}
use Rattle.key_lookups.proofs.Rows.{found_alike}
use Rattle.key_lookups.proofs.laws.look_ups_miss_no_row.Goals as goal

pub returns : goal.returns
returns c = record {
  quiet = λ tables condition columns key e. c.denials_are_certain.ensures.condition tables condition (asked columns condition key e).0;
  matching = λ tables condition columns key row outer e h. matching tables condition columns key row outer e h;
  found = λ tables condition columns key table outer e.
      found_alike tables condition columns key table outer e (c.denials_are_certain.ensures.condition tables condition (asked columns condition key e).0);
}
