use Rattle.std.proofs.Common.{◌≡◌, ◌∙◌, sym, length, arith}
use Rattle.std.proofs.lemmas.Grind.{common_steps}
use Rattle.script_pieces.proofs.Texts.{room, full}
use Rattle.script_pieces.proofs.buffer.TextBuffer.push.Goals as goal

pub returns-then-self-lt-CAPACITY : goal.returns-then-self-lt-CAPACITY
returns-then-self-lt-CAPACITY c =
    let whole : length c.self.inside.bytes.items ≡ 65537 = sym c.self.inside.bytes.ok.0 ∙ c.self.invariant.0 in
    room c.self.inside.bytes.items c.args.self.now c.self.inside.length c.args.byte c.self.view_is c.if-self-lt-CAPACITY.true whole

pub returns-else-self-lt-CAPACITY : goal.returns-else-self-lt-CAPACITY
returns-else-self-lt-CAPACITY c =
    let whole : length c.self.inside.bytes.items ≡ 65537 = first_of (omega arith, grind (arith, common_steps)) in
    full c.self.inside.bytes.items c.args.self.now c.self.inside.length c.args.byte c.self.view_is c.if-self-lt-CAPACITY.false c.self.invariant.1 whole
