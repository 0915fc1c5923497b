use Rattle.std.proofs.Common.{◌≡◌}
use Rattle.btree.proofs.RefusalLemmas.{change_harm_on}
use Rattle.btree.proofs.RunLemmas.{last_root_refused, root_appended, root_appended_keeps}
use Rattle.btree.proofs.run.append_run.Goals as goal

pub returns-clause-appends : goal.returns-clause-appends
returns-clause-appends g c = root_appended _ _ _ c.args.entries.now c.append_below.result c.if-root-eq0.false c.append_below.ensures.grows

pub returns-clause-keeps : goal.returns-clause-keeps
returns-clause-keeps g c = root_appended_keeps _ _ _ c.args.entries.now c.append_below.result c.if-root-eq0.false c.append_below.ensures.grows

pub returns-clause-refusal : goal.returns-clause-refusal
returns-clause-refusal g c =
    change_harm_on c.append_below.result (g.S.PageSpace.at_limit c.append_below.new.space) _ _ (g.S.PageReader.refused c.args.space.now) (g.S.PageReader.refused c.append_below.new.space)
    (last_root_refused (g.S.PageReader.pages c.args.space.now) c.args.root (g.S.PageReader.is_whole c.args.space.now) (λ n h. g.met.S.PageReader.bounded _ n h) c.if-root-eq0.false) c.append_below.ensures.refusal
