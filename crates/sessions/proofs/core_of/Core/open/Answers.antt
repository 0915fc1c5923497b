use Rattle.std.proofs.Common.{◌≡◌, false, None, sym, subst, ◌∙◌}
use Rattle.session_definitions.specs.World.{is_live, opened}
use Rattle.transactions.specs.Shown.{shown}
use Rattle.std.specs.FinMap.{empty}
use Rattle.sessions.specs.Numbers.{Held, kept_in}
use Rattle.sessions.proofs.Holding.{nobody_held}
use Rattle.sessions.proofs.Cores.{nobody_stands, orderly_alone, none_read, opens, opening_refused, opening_stopped, damaged_by}
use Rattle.sessions.proofs.Devices.{of_store}
use Rattle.sessions.proofs.core_of.Core.open.Goals as goal

pub returns-in-Ok-clause-opened : goal.returns-in-Ok-clause-opened
returns-in-Ok-clause-opened g c = λ db saved.
    let o = c.in-Ok.ensures.opened db saved in (
      record {
        store = o.0;
        order = orderly_alone (g.S.Store.shows c.in-Ok.store) o.1.readers o.1.working;
        readers = λ q none. none_read (g.S.Store.shows c.in-Ok.store) o.1.readers q;
        held = λ q slot is. nobody_held c.new.result.all q slot c.new.ensures is;
      },
      subst (λ (all : Held). shown (g.S.Store.shows c.in-Ok.store) None (kept_in all) ≡ opened db) (sym c.new.ensures) (opens db (g.S.Store.shows c.in-Ok.store) o.1),
    )

pub returns-in-Ok-clause-begun : goal.returns-in-Ok-clause-begun
returns-in-Ok-clause-begun g c = λ begun.
    let o = c.in-Ok.ensures.begun begun in (
      record {
        store = o.0;
        order = orderly_alone (g.S.Store.shows c.in-Ok.store) o.1.readers o.1.working;
        readers = λ q none. none_read (g.S.Store.shows c.in-Ok.store) o.1.readers q;
        held = λ q slot is. nobody_held c.new.result.all q slot c.new.ensures is;
      },
      subst (λ (all : Held). shown (g.S.Store.shows c.in-Ok.store) None (kept_in all) ≡ opened empty) (sym c.new.ensures) (opens empty (g.S.Store.shows c.in-Ok.store) o.1),
    )

pub returns-in-Ok-clause-empty : goal.returns-in-Ok-clause-empty
returns-in-Ok-clause-empty g c = λ k.
    subst (λ (all : Held). is_live (shown (g.S.Store.shows c.in-Ok.store) None (kept_in all)) k ≡ false) (sym c.new.ensures) (nobody_stands (g.S.Store.shows c.in-Ok.store) None k)

pub returns-in-Err-clause-refused : goal.returns-in-Err-clause-refused
returns-in-Err-clause-refused g c = λ db saved. opening_refused _ _ _ c.in-Err.back.error c.refusal_of.result c.refusal_of.ensures c.in-Err.ensures.refused (db, saved)

pub returns-in-Err-clause-stops : goal.returns-in-Err-clause-stops
returns-in-Err-clause-stops g c = λ db saved. opening_stopped _ _ _ c.in-Err.back.error c.refusal_of.result c.refusal_of.ensures c.in-Err.ensures.refused (db, saved)

pub returns-in-Err-clause-same : goal.returns-in-Err-clause-same
returns-in-Err-clause-same g c = λ honest is. c.in-Err.ensures.same honest (damaged_by c.in-Err.back.error c.refusal_of.result c.refusal_of.ensures is)

pub returns-in-Ok-clause-room : goal.returns-in-Ok-clause-room
returns-in-Ok-clause-room g c = c.in-Ok.ensures.room

pub returns-in-Ok-clause-readable : goal.returns-in-Ok-clause-readable
returns-in-Ok-clause-readable g c = c.in-Ok.ensures.readable

pub returns-in-Ok-clause-counts : goal.returns-in-Ok-clause-counts
returns-in-Ok-clause-counts g c = c.in-Ok.ensures.counts

pub returns-in-Ok-clause-same : goal.returns-in-Ok-clause-same
returns-in-Ok-clause-same g c = λ honest. tt

pub returns-in-Ok-clause-left : goal.returns-in-Ok-clause-left
returns-in-Ok-clause-left g c = tt

pub returns-in-Ok-clause-refused : goal.returns-in-Ok-clause-refused
returns-in-Ok-clause-refused g c = tt

pub returns-in-Ok-clause-stops : goal.returns-in-Ok-clause-stops
returns-in-Ok-clause-stops g c = tt

pub returns-in-Ok-clause-device : goal.returns-in-Ok-clause-device
returns-in-Ok-clause-device g c = tt

pub returns-in-Err-clause-room : goal.returns-in-Err-clause-room
returns-in-Err-clause-room g c = tt

pub returns-in-Err-clause-opened : goal.returns-in-Err-clause-opened
returns-in-Err-clause-opened g c = tt

pub returns-in-Err-clause-empty : goal.returns-in-Err-clause-empty
returns-in-Err-clause-empty g c = tt

pub returns-in-Err-clause-readable : goal.returns-in-Err-clause-readable
returns-in-Err-clause-readable g c = tt

pub returns-in-Err-clause-counts : goal.returns-in-Err-clause-counts
returns-in-Err-clause-counts g c = tt

pub returns-in-Err-clause-begun : goal.returns-in-Err-clause-begun
returns-in-Err-clause-begun g c = λ begun. tt

pub returns-in-Err-clause-left : goal.returns-in-Err-clause-left
returns-in-Err-clause-left g c = c.in-Err.ensures.left

pub returns-in-Err-clause-device : goal.returns-in-Err-clause-device
returns-in-Err-clause-device g c = λ is. of_store _ _ _ _ c.in-Err.back.error c.in-Err.ensures.refused (sym c.refusal_of.ensures ∙ is)
