use Rattle.std.proofs.Common.{◌≡◌, ◌∙◌, false, List, [], ℕ, refl, sym, subst, rules}
use Rattle.std.proofs.KnownBytes.{Appends-nil}
use Rattle.replies.specs.Writes.{Writes}
use Rattle.transfers.specs.Transfers.{Notes, note_text}
use Rattle.transfers.proofs.note.note.Goals as goal

pub returns-in-Ok : goal.returns-in-Ok
returns-in-Ok g c =
    let held = g.V.Write.contents c.args.notes.now in
    let holds = g.V.Write.contents c.put.new.writer in
    let text : c.as_slice.result.now ≡ note_text c.args.loaded.now.committed = search rules in
    Notes.stopped c.put.result (sym c.is_refused.ensures ∙ c.if-not-is_refused.false) (subst (λ (t : List ℕ). Writes held holds c.put.result t) text c.put.ensures.writes)

pub returns-in_default : goal.returns-in_default
returns-in_default g c =
    let nothing : Writes (g.V.Write.contents c.args.notes.now) (g.V.Write.contents c.args.notes.now) false (note_text c.args.loaded.now.committed) =
    record { front = []; rest = note_text c.args.loaded.now.committed; whole = refl; taken = Appends-nil _; complete = λ e. absurd (cc e) } in
    Notes.stopped false (sym c.is_refused.ensures ∙ c.if-not-is_refused.false) nothing
