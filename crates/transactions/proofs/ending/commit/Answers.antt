use Rattle.std.proofs.Common.{◌≡◌, not, refl, sym, ap, ◌∙◌, [], ◌∷◌, inl, inr}
use Rattle.ast.specs.declared.statement.AccessMode.TheVariants.{ReadWrite}
use Rattle.ast.specs.declared.statement.Statement.TheVariants as asks
use Rattle.session_definitions.specs.Asked.{Asked}
use Rattle.transactions.specs.Shown.{with_mode}
use Rattle.store.specs.Going.{keeps, writes}
use Rattle.store.specs.Stored.{Stored, ended, committed}
use Rattle.transactions.proofs.Maps.{get_gone}
use Rattle.transactions.proofs.Orders.{writer_is, same}
use Rattle.transactions.proofs.Steps.{commits_as_writer, commits_as_reader, commits_idle, nothing_moves, settled_declared, settled_mode, withholds}
use Rattle.transactions.proofs.Tests.{none_is, some_is, reserved, tells_damage, tells_reached}
use Rattle.transactions.proofs.ending.commit.Goals as goal

pub returns-then-is_none-clause-moves : goal.returns-then-is_none-clause-moves
returns-then-is_none-clause-moves g c = λ rules text work kept read other sound order.
    commits_idle rules _ text work _ _ (with_mode kept c.args.mode.now) _ order (none_is _ _ c.number.ensures (c.is_none.ensures ∙ ap not c.if-is_none.true)) read refl

pub returns-in-Err-clause-moves : goal.returns-in-Err-clause-moves
returns-in-Err-clause-moves g c = λ rules text work kept read other sound order.
    let st : Stored = g.S.Store.shows c.args.store.now in
    rw c.refusal_of.ensures
    (nothing_moves rules st _ _ (with_mode kept c.args.mode.now) (Asked.Text text) _ _ order
    (withholds rules st _ _ (with_mode kept c.args.mode.now) (asks.Commit work) text _ other read refl (reserved _ _ _ _ _ (rw c.in-Err.is at c.commit.ensures.refused) sound (λ bad. bad) (λ bad. bad)))
    (same st _ (rw c.in-Err.is at c.commit.ensures.same)))

pub returns-then-is_writer-clause-moves : goal.returns-then-is_writer-clause-moves
returns-then-is_writer-clause-moves g c = λ rules text work kept read other sound order.
    let writes = writer_is c.args.session c.args.writer.now (sym c.is_writer.ensures ∙ c.if-is_writer.true) in
    let commits : g.S.Store.shows c.commit.new.self ≡ committed (g.S.Store.shows c.args.store.now) = rw c.in_default.is at c.commit.ensures.shows in
    rw writes (commits_as_writer rules _ text work _ (with_mode kept c.args.mode.now) _ _ (rw writes at order) read
    (settled_declared _ (with_mode kept ReadWrite)) (settled_mode _ (with_mode kept ReadWrite)) (c.end.ensures.shows ∙ ap (λ (x : Stored). ended x c.args.session) commits))

pub returns-clause-moves : goal.returns-clause-moves
returns-clause-moves g c = λ rules text work kept read other sound order.
    let active = some_is _ _ c.number.ensures (c.is_none.ensures ∙ ap not c.if-is_none.false) in
    commits_as_reader rules _ text work _ _ (with_mode kept c.args.mode.now) _ active.0 _ order (sym c.is_writer.ensures ∙ c.if-is_writer.false) active.1 read
    (settled_declared _ (with_mode kept ReadWrite)) (settled_mode _ (with_mode kept ReadWrite)) c.end-2.ensures.shows

pub returns-in-Err-clause-limits : goal.returns-in-Err-clause-limits
returns-in-Err-clause-limits g c = tells_reached _ _ _ _ _ _ c.refusal_of.ensures (rw c.in-Err.is at c.commit.ensures.refused)

pub returns-then-is_writer-clause-goes : goal.returns-then-is_writer-clause-goes
returns-then-is_writer-clause-goes g c = rw (sym c.is_writer.ensures ∙ c.if-is_writer.true) (g.met.S.Store.goes_on_trans _ _ _ (writes ((g.S.Store.shows c.args.store.now).working ∷ [])) keeps c.commit.ensures.goes c.end.ensures.goes)

pub returns-in-Err-clause-kept : goal.returns-in-Err-clause-kept
returns-in-Err-clause-kept g c = (rw c.in-Err.is at c.commit.ensures.same, refl, refl)

pub returns-in-Err-clause-idle : goal.returns-in-Err-clause-idle
returns-in-Err-clause-idle g c = λ unchanged. c.commit.ensures.idle unchanged

pub returns-then-is_writer-clause-idle : goal.returns-then-is_writer-clause-idle
returns-then-is_writer-clause-idle g c = λ unchanged. (g.met.S.Store.goes_on_goes _ _ _ c.end.ensures.goes).stays.writes ∙ c.commit.ensures.idle unchanged

pub returns-clause-idle : goal.returns-clause-idle
returns-clause-idle g c = λ unchanged. (g.met.S.Store.goes_on_goes _ _ _ c.end-2.ensures.goes).stays.writes

pub returns-then-is_none-clause-left : goal.returns-then-is_none-clause-left
returns-then-is_none-clause-left g c = inl (none_is _ _ c.number.ensures (c.is_none.ensures ∙ ap not c.if-is_none.true))

pub returns-in-Err-clause-left : goal.returns-in-Err-clause-left
returns-in-Err-clause-left g c = inr (rw c.in-Err.is at c.commit.ensures.same, refl)

pub returns-then-is_writer-clause-left : goal.returns-then-is_writer-clause-left
returns-then-is_writer-clause-left g c = inl (rw c.end.ensures.shows (get_gone (g.S.Store.shows c.commit.new.self).readers c.args.session))

pub returns-clause-left : goal.returns-clause-left
returns-clause-left g c = inl (rw c.end-2.ensures.shows (get_gone (g.S.Store.shows c.args.store.now).readers c.args.session))

pub returns-then-is_none-clause-damage : goal.returns-then-is_none-clause-damage
returns-then-is_none-clause-damage g c = refl

pub returns-in-Err-clause-damage : goal.returns-in-Err-clause-damage
returns-in-Err-clause-damage g c =
    tells_damage (g.S.Store.damaged c.args.store.now) (g.S.Store.damaged c.commit.new.self) c.in-Err.error c.refusal_of.result c.refusal_of.ensures (rw c.in-Err.is at c.commit.ensures.damage).1

pub returns-then-is_writer-clause-damage : goal.returns-then-is_writer-clause-damage
returns-then-is_writer-clause-damage g c = c.end.ensures.damage ∙ (rw c.in_default.is at c.commit.ensures.damage).0

pub returns-clause-damage : goal.returns-clause-damage
returns-clause-damage g c = c.end-2.ensures.damage
