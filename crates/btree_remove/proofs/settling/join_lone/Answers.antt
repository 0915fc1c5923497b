use Rattle.std.proofs.Common.{arith, ap}
use Rattle.std.proofs.lemmas.List.{length-map}
use Rattle.std.proofs.lemmas.Result.{err_from_is_err_and}
use Rattle.btree_read.specs.Nodes.{branch_of}
use Rattle.btree.proofs.RefusalLemmas.{change_harm, change_refused_on}
use Rattle.btree_remove.proofs.SettleLemmas.{lone_settled, lone_refused, inners_not_joined}
use Rattle.btree_remove.proofs.settling.join_lone.Goals as goal

pub key-requires : goal.key-requires
key-requires g c = omega (arith, c.pair_at-pair.ensures.within, length-map c.args.node.now.cells branch_of)

pub returns-in_err-branch-clause-refusal : goal.returns-in_err-branch-clause-refusal
returns-in_err-branch-clause-refusal g c =
    let p = err_from_is_err_and c.from_residual.result c.from_residual.ensures.1 in
    rw (p.1, p.2) (change_harm (g.S.PageSpace.at_limit c.join_inners.new.space) _ _ (g.S.PageReader.refused c.args.space.now) (g.S.PageReader.refused c.join_inners.new.space) _
    (inners_not_joined _ _ _ _ _ _ _ (g.S.PageReader.is_whole c.args.space.now) c.requires.inner c.pair_at-pair.ensures c.key.ensures) c.in_err-branch.ensures.refusal)

pub returns-clause-settles : goal.returns-clause-settles
returns-clause-settles g c =
    lone_settled _ _ _ _ _ _ _ _ _ _ _ c.requires.inner c.pair_at-pair.ensures c.key.ensures c.in_ok-branch.ensures.before c.in_ok-branch.ensures.behind c.exchange_branches.ensures.written

pub returns-clause-refusal : goal.returns-clause-refusal
returns-clause-refusal g c =
    change_refused_on c.exchange_branches.result (g.S.PageSpace.at_limit c.exchange_branches.new.space) _ _ (g.S.PageReader.refused c.args.space.now) (g.S.PageReader.refused c.join_inners.new.space)
    (g.S.PageReader.refused c.exchange_branches.new.space) c.in_ok-branch.ensures.rising
    (lone_refused _ _ _ _ _ _ _ _ _ (g.S.PageReader.is_whole c.args.space.now) (g.S.PageReader.is_whole c.join_inners.new.space) c.requires.inner c.pair_at-pair.ensures c.key.ensures
    c.in_ok-branch.ensures.before c.in_ok-branch.ensures.behind c.in_ok-branch.ensures.whole) c.exchange_branches.ensures.refusal
