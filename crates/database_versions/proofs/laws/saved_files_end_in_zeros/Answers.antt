use Rattle.std.proofs.Common.{◌≡◌, ◌∙◌, ℕ, List, Some, sym, subst}
use Rattle.pool.specs.Zeros.{EndsInZeros}
use Rattle.overlay.proofs.WholeLemmas.{some_same}
use Rattle.database_versions.proofs.laws.saved_files_end_in_zeros.Goals as goal

pub returns : goal.returns
returns c = λ file first db held there.
    let list = held.is.whole.whole.1 in
    subst EndsInZeros (some_same list.first first (sym list.there ∙ there)) list.zeros
