use Rattle.std.proofs.Common.{◌≡◌, ◌≤◌, length, arith}
use Rattle.std.proofs.lemmas.Result.{err_from_is_err_and}
use Rattle.table_types.specs.Tables.{names_found, names_of}
use Rattle.table_types.proofs.HeadingNames.{names-few}
use Rattle.table_types.proofs.Lists.{refused-alone}
use Rattle.table_types.proofs.headings.names_found.Goals as goal

pub returns-in_err-names : goal.returns-in_err-names
returns-in_err-names c =
    let p = err_from_is_err_and c.from_residual.result c.from_residual.ensures.1 in
    rw (p.1, p.2) (refused-alone _ (names_of 1 c.args.headings.now) (names_found c.args.headings.now) c.in_err-names.ensures)

pub returns : goal.returns
returns c =
    let few : length c.args.headings.now ≤ 32 = omega arith in
    let is : names_of 1 c.args.headings.now ≡ c.in_ok-names.names = cc c.in_ok-names.ensures.ok in
    let distinct = rw (c.as_slice.ensures, ← is) at c.distinct_texts.ensures in
    rw (names-few c.args.headings.now few, is)
    (c.names_allowed.ensures _ (rw is at (c.both-allowed.ensures _ _ distinct (c.both-keys.ensures _ _ (rw c.index_count.ensures at c.few_indexes-indexes.ensures) (rw c.primary_key_count.ensures at c.one_primary_key.ensures)))))
