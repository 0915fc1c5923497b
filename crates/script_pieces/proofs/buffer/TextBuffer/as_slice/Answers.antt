use Rattle.std.proofs.Common.{◌≡◌, subst, sym, List, ℕ, take}
use Rattle.script_pieces.specs.PieceMeaning.{text_of_call}
use Rattle.script_pieces.proofs.Texts.{kept}
use Rattle.script_pieces.proofs.buffer.TextBuffer.as_slice.Goals as goal

pub returns : goal.returns
returns c =
    let P : List ℕ → Type 0 = λ l. take c.self.inside.length l ≡ text_of_call c.args.self.now in
    subst P (sym c.deref.ensures.value) (kept c.self.inside.bytes.items c.args.self.now c.self.inside.length c.self.view_is c.self.invariant.1)
