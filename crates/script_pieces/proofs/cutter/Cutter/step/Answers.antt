use Rattle.script_pieces.specs.declared.cutter.Cutter.{Cutter}
use Rattle.script_pieces.proofs.Cutters.{goes_on}
use Rattle.script_pieces.proofs.cutter.Cutter.step.Goals as goal

pub returns : goal.returns
returns c =
    let new : Cutter = record { place = c.after-self.result; stage = c.stage_after-self.result; text = c.stage_after-self.new.text } in
    goes_on c.args.self.now new c.args.byte c.requires c.after-self.ensures c.stage_after-self.ensures
