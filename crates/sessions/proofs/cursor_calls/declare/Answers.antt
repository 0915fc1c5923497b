use Rattle.std.proofs.Common.{Option, refl, sym, ap, subst}
use Rattle.std.specs.FinMap.{get}
use Rattle.replies.specs.declared.reply.Reply.TheVariants as says
use Rattle.session_definitions.specs.Asked.{Asked}
use Rattle.transactions.specs.Moves.{Moves}
use Rattle.transactions.specs.Shown.{Kept, settled}
use Rattle.transactions.proofs.Orders.{same}
use Rattle.transactions.proofs.Steps.{nothing_moves}
use Rattle.cursors.specs.declared.cursor.OpenCursor.{OpenCursor}
use Rattle.cursors.specs.ByName.{cursor_if}
use Rattle.sessions.specs.Numbers.{kept_of}
use Rattle.sessions.proofs.CursorSteps.{declared_already, declared_not, declares}
use Rattle.sessions.proofs.Devices.{declaring}
use Rattle.sessions.proofs.Holding.{closed_in, fits_on, fits_same, kept_alike}
use Rattle.sessions.proofs.Limits.{declaring_tells}
use Rattle.sessions.proofs.cursor_calls.declare.Goals as goal

pub returns-then-is_open-clause-leaves : goal.returns-then-is_open-clause-leaves
returns-then-is_open-clause-leaves c = λ rules text st w s read rollback order holds. record {
  moves = declared_already rules st w s (kept_of c.args.slot.now) (kept_of c.args.slot.now) text order c.args.cursor read (closed_in st w s _ c.args.slot.now holds)
      c.is_open.result c.is_open.ensures c.if-is_open.true;
  fits = fits_same st st w w s c.args.slot.now.cursors (same st st refl) refl holds;
}

pub returns-in-Ok-clause-leaves : goal.returns-in-Ok-clause-leaves
returns-in-Ok-clause-leaves c = λ rules text st w s read rollback order holds. record {
  moves = declares rules st w s (kept_of c.args.slot.now) (kept_of (record c.args.slot.now { cursors = c.declare.new.self })) text order c.args.cursor read
      (closed_in st w s _ c.args.slot.now holds) c.is_open.result c.is_open.ensures c.if-is_open.false c.in-Ok.ensures.room refl c.in-Ok.ensures.declares c.declare.ensures.opened
      (λ contents. ap (λ (held : Option OpenCursor). cursor_if held contents) c.declare.ensures.unnamed);
  fits = fits_on st w s c.args.slot.now.cursors c.declare.new.self c.declare.ensures.fits holds;
}

pub returns-in-Err-clause-leaves : goal.returns-in-Err-clause-leaves
returns-in-Err-clause-leaves c = λ rules text st w s read rollback order holds.
    let alike = kept_alike c.args.slot.now c.declare.new.self c.in-Err.ensures.same c.declare.ensures.opened c.declare.ensures.unnamed in
    record {
      moves = subst (λ (k : Kept). Moves rules s text (says.Refused c.in-Err.refusal) st w (kept_of c.args.slot.now) st w (settled (get st.readers s) k)) (sym alike)
          (nothing_moves rules st w s (kept_of c.args.slot.now) (Asked.Text text) (says.Refused c.in-Err.refusal) st order
          (declared_not rules st w s (kept_of c.args.slot.now) (kept_of c.args.slot.now) text order c.args.cursor read (closed_in st w s _ c.args.slot.now holds)
          c.is_open.result c.is_open.ensures c.in-Err.refusal c.if-is_open.false rollback c.in-Err.ensures.refused) (same st st refl));
      fits = fits_on st w s c.args.slot.now.cursors c.declare.new.self c.declare.ensures.fits holds;
    }

pub returns-in-Err-clause-device : goal.returns-in-Err-clause-device
returns-in-Err-clause-device c = declaring _ _ c.in-Err.refusal c.in-Err.ensures.refused

pub returns-in-Err-clause-limits : goal.returns-in-Err-clause-limits
returns-in-Err-clause-limits c = declaring_tells _ _ c.in-Err.refusal c.in-Err.ensures.refused

pub returns-in-Err-clause-kept : goal.returns-in-Err-clause-kept
returns-in-Err-clause-kept c = kept_alike c.args.slot.now c.declare.new.self c.in-Err.ensures.same c.declare.ensures.opened c.declare.ensures.unnamed

pub returns-then-is_open-clause-device : goal.returns-then-is_open-clause-device
returns-then-is_open-clause-device c = λ is. cc

pub returns-then-is_open-clause-limits : goal.returns-then-is_open-clause-limits
returns-then-is_open-clause-limits c = tt

pub returns-then-is_open-clause-kept : goal.returns-then-is_open-clause-kept
returns-then-is_open-clause-kept c = refl

pub returns-in-Ok-clause-device : goal.returns-in-Ok-clause-device
returns-in-Ok-clause-device c = tt

pub returns-in-Ok-clause-limits : goal.returns-in-Ok-clause-limits
returns-in-Ok-clause-limits c = tt

pub returns-in-Ok-clause-kept : goal.returns-in-Ok-clause-kept
returns-in-Ok-clause-kept c = tt
