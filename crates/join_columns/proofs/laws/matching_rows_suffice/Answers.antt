use Rattle.join_columns.proofs.Matching.{listed-quiet, matching-stand}
use Rattle.join_columns.proofs.laws.matching_rows_suffice.Goals as goal

pub returns : goal.returns
returns c = record {
  quiet = λ tables on e. listed-quiet tables on (c.denials_are_certain.ensures.condition tables on e);
  stands = λ tables on width row others outer e wide.
      matching-stand tables on width row others outer (listed-quiet tables on (c.denials_are_certain.ensures.condition tables on e)) wide;
}
