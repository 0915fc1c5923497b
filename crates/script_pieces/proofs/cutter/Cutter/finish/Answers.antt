use Rattle.script_pieces.specs.declared.cutter.Cutter.{Cutter}
use Rattle.script_pieces.proofs.Cutters.{ends_without}
use Rattle.script_pieces.proofs.cutter.Cutter.finish.Goals as goal

pub returns : goal.returns
returns c =
    let new : Cutter = record c.args.self.now { text = c.request_at_end.new.text } in
    ends_without c.args.self.now new c.request_at_end.result c.request_at_end.ensures
