use Rattle.std.proofs.Common.{subst, sym, true}
use Rattle.sessions.specs.OfCore.{world_of}
use Rattle.scripts.specs.Settled.{HoldAll}
use Rattle.scripts.specs.declared.script.Sessions.{Sessions}
use Rattle.scripts.proofs.Carried.{carried_silently, carried_printing}
use Rattle.scripts.proofs.script.carry_out_piece.Goals as goal

pub returns-in-None-clause-carries_out : goal.returns-in-None-clause-carries_out
returns-in-None-clause-carries_out g c = λ known piece kept asks.
    carried_silently known piece _ (world_of g.S.Store.shows c.args.core.now) (world_of g.S.Store.shows c.reply_to.new.core) c.args.sessions.now c.args.sessions.now c.reply_to.new.sessions
    (g.W.Write.contents c.args.writer.now) (g.W.Write.contents c.args.writer.now) _ _ true asks c.in-None.ensures.prints
    (λ rules is ready. c.in-None.ensures.performs rules piece (kept rules is).0 (kept rules is).1 ready asks) c.reply_to.ensures.refused c.reply_to.ensures.counts

pub returns-in-Some-clause-carries_out : goal.returns-in-Some-clause-carries_out
returns-in-Some-clause-carries_out g c = λ known piece kept asks.
    carried_printing known piece _ (world_of g.S.Store.shows c.args.core.now) (world_of g.S.Store.shows c.reply_to.new.core) c.args.sessions.now c.reply_to.new.sessions c.note.new.self _ _ _ _ _
    c.in-Some.reply asks c.in-Some.ensures.prints (λ rules is ready. c.in-Some.ensures.performs rules piece (kept rules is).0 (kept rules is).1 ready asks) c.reply_to.ensures.refused c.note.ensures
    c.print_reply.ensures.writes c.in-Some.ensures.device c.reply_to.ensures.counts c.in-Some.ensures.limits (λ rules is. c.in-Some.ensures.within rules (kept rules is).0 (kept rules is).1)

pub returns-in-Some-clause-held : goal.returns-in-Some-clause-held
returns-in-Some-clause-held g c = λ held.
    subst (λ (s : Sessions). HoldAll s.standing (world_of g.S.Store.shows c.reply_to.new.core)) (sym c.note.ensures) (c.reply_to.ensures.held held)

pub returns-in-None-clause-tried_again : goal.returns-in-None-clause-tried_again
returns-in-None-clause-tried_again g c = tt

pub returns-in-None-clause-kept : goal.returns-in-None-clause-kept
returns-in-None-clause-kept g c = c.reply_to.ensures.kept

pub returns-in-None-clause-held : goal.returns-in-None-clause-held
returns-in-None-clause-held g c = c.reply_to.ensures.held

pub returns-in-None-clause-counts : goal.returns-in-None-clause-counts
returns-in-None-clause-counts g c = c.reply_to.ensures.counts

pub returns-in-Some-clause-tried_again : goal.returns-in-Some-clause-tried_again
returns-in-Some-clause-tried_again g c = c.print_reply.ensures.tried_again

pub returns-in-Some-clause-kept : goal.returns-in-Some-clause-kept
returns-in-Some-clause-kept g c = c.reply_to.ensures.kept

pub returns-in-Some-clause-counts : goal.returns-in-Some-clause-counts
returns-in-Some-clause-counts g c = c.reply_to.ensures.counts
