use Rattle.std.proofs.Common.{◌∙◌}
use Rattle.overlay.specs.WriteSet.{private_of}
use Rattle.overlay.proofs.HeaderLemmas.{encoded_zeros}
use Rattle.overlay.proofs.PutLemmas.{puts_both, puts_one}
use Rattle.overlay.proofs.frees.put_with_header.Goals as goal

pub returns-clause-written : goal.returns-clause-written
returns-clause-written c =
    puts_both c.put-2.result c.args.page c.args.bytes.now c.encode.result c.args.header (private_of c.args.changes.now) (private_of c.put.new.self) (private_of c.put-2.new.self)
    c.encode.ensures.reads_back (encoded_zeros c.args.header c.encode.result c.encode.ensures.bytes) c.in_ok-put.ensures.put c.put-2.ensures.put

pub returns-clause-left : goal.returns-clause-left
returns-clause-left c =
    puts_one c.put-2.result c.args.page c.args.bytes.now (private_of c.args.changes.now) (private_of c.put.new.self) (private_of c.put-2.new.self) c.in_ok-put.ensures.put c.put-2.ensures.left

pub returns-clause-settled : goal.returns-clause-settled
returns-clause-settled c = c.put-2.ensures.settled ∙ c.put.ensures.settled

pub returns-clause-undone : goal.returns-clause-undone
returns-clause-undone c = c.put-2.ensures.undone ∙ c.put.ensures.undone
