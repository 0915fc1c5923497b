use Rattle.overlay.specs.WriteSet.{private_of}
use Rattle.overlay.proofs.HeaderLemmas.{encoded_zeros}
use Rattle.overlay.proofs.RootLemmas.{root_put}
use Rattle.overlay.proofs.roots.put_root.Goals as goal

pub returns-clause-written : goal.returns-clause-written
returns-clause-written c =
    root_put c.put.result c.encode.result (record { page_count = c.args.header.page_count; first_free = c.args.header.first_free; catalog_root = c.args.root })
    (private_of c.args.changes.now) (private_of c.put.new.self) c.encode.ensures.reads_back (encoded_zeros (record { page_count = c.args.header.page_count; first_free = c.args.header.first_free; catalog_root = c.args.root }) c.encode.result c.encode.ensures.bytes) c.put.ensures.put
