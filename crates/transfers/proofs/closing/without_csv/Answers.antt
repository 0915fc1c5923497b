use Rattle.std.proofs.Common.{refl, rules}
use Rattle.refusals.specs.declared.refusal.Refusal.TheVariants.{Disk}
use Rattle.endings.specs.Tells.{Tells}
use Rattle.transfers.proofs.Closed.{closed_failed}
use Rattle.transfers.proofs.closing.without_csv.Goals as goal

pub returns-clause-lacks : goal.returns-clause-lacks
returns-clause-lacks g c =
    let told : Tells Disk c.is_ok.result (g.W.Write.contents c.args.writer.now) (g.W.Write.contents c.tell.new.writer) = search rules in
    record { was_told = c.is_ok.result; mid = g.W.Write.contents c.tell.new.writer; told = told; closes = c.close_behind.ensures.closes }

pub returns-clause-failed : goal.returns-clause-failed
returns-clause-failed g c = closed_failed _ _ _ _ _ _ _ _ refl c.close_behind.ensures.closes

pub returns-clause-saved : goal.returns-clause-saved
returns-clause-saved g c = c.close_behind.ensures.saved

pub returns-clause-handed : goal.returns-clause-handed
returns-clause-handed g c = c.close_behind.ensures.handed
