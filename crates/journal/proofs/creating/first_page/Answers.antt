use Rattle.std.proofs.Common.{List, ℕ, subst, sym}
use Rattle.journal.specs.declared.found.Format.TheVariants.{Two}
use Rattle.journal.specs.Headers.{IsHeaderOf}
use Rattle.journal.proofs.Making.{header_2_reads}
use Rattle.journal.proofs.creating.first_page.Goals as goal

pub returns-clause-bytes : goal.returns-clause-bytes
returns-clause-bytes c = c.encode.ensures.bytes

pub returns-clause-header : goal.returns-clause-header
returns-clause-header c len bounds long =
    subst (λ (p : List ℕ). IsHeaderOf len p Two c.args.header) (sym c.encode.ensures.bytes) (header_2_reads c.args.header bounds len long)
