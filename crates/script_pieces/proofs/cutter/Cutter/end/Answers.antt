use Rattle.script_pieces.specs.declared.cutter.Cutter.{Cutter}
use Rattle.script_pieces.proofs.Cutters.{ends_at}
use Rattle.script_pieces.proofs.cutter.Cutter.end.Goals as goal

pub returns : goal.returns
returns c =
    let new : Cutter = record c.args.self.now { text = c.push.new.self } in
    ends_at c.args.self.now new c.request_at_end-request.result c.request_at_end-request.new.text c.requires c.request_at_end-request.ensures c.push.ensures
