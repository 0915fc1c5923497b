use Rattle.overlay.specs.WriteSet.{private_of}
use Rattle.overlay.proofs.FreeLemmas.{freed_by, at_most_by}
use Rattle.overlay.proofs.frees.put_free.Goals as goal

pub returns-clause-written : goal.returns-clause-written
returns-clause-written c =
    freed_by c.put_with_header.result c.args.page c.encode.result c.args.header (private_of c.args.changes.now) (private_of c.put_with_header.new.changes) c.encode.ensures.reads_back c.put_with_header.ensures.written

pub returns-clause-left : goal.returns-clause-left
returns-clause-left c =
    at_most_by c.put_with_header.result c.args.page c.encode.result (private_of c.args.changes.now) (private_of c.put_with_header.new.changes) c.requires c.put_with_header.ensures.left
