use Rattle.std.proofs.Common.{refl, arith}
use Rattle.btree_read.specs.declared.entry.Start.TheVariants.{Behind}
use Rattle.btree_read.specs.Sorted.{first_from}
use Rattle.btree_read.proofs.NodeLemmas.{read_refused_on, never_ok, memory_passed}
use Rattle.btree_read.proofs.SearchLemmas.{answers_root}
use Rattle.btree_read.proofs.CountLemmas.{no_tree_at_root}
use Rattle.btree_read.proofs.AscendLemmas.{root_ascends}
use Rattle.btree_read.proofs.NearLemmas.{lies_on}
use Rattle.btree_read.proofs.near.next_near.Goals as goal

pub returns-then-root-eq0-clause-lies : goal.returns-then-root-eq0-clause-lies
returns-then-root-eq0-clause-lies g c = c.requires

pub returns-in_err-entry-clause-found : goal.returns-in_err-entry-clause-found
returns-in_err-entry-clause-found g c = λ owned entries w. never_ok c.from_residual.result _ _ c.from_residual.ensures.1

pub returns-in_err-entry-clause-lies : goal.returns-in_err-entry-clause-lies
returns-in_err-entry-clause-lies g c = c.requires

pub returns-in_err-entry-clause-same : goal.returns-in_err-entry-clause-same
returns-in_err-entry-clause-same g c = refl

pub returns-in_err-entry-clause-whole : goal.returns-in_err-entry-clause-whole
returns-in_err-entry-clause-whole g c = λ w. w

pub returns-in_err-entry-clause-refusal : goal.returns-in_err-entry-clause-refusal
returns-in_err-entry-clause-refusal g c = memory_passed c.from_residual.result _ _ _ c.from_residual.ensures.1

pub returns-in-Some-clause-found : goal.returns-in-Some-clause-found
returns-in-Some-clause-found g c = λ owned entries w.
    rw c.in-Some.is at (c.in_ok-entry.ensures entries (root_ascends _ _ owned entries w) (c.requires owned entries w))

pub returns-in-Some-clause-lies : goal.returns-in-Some-clause-lies
returns-in-Some-clause-lies g c = c.requires

pub returns-in-Some-clause-same : goal.returns-in-Some-clause-same
returns-in-Some-clause-same g c = refl

pub returns-in-Some-clause-whole : goal.returns-in-Some-clause-whole
returns-in-Some-clause-whole g c = λ w. w

pub returns-in-Some-clause-refusal : goal.returns-in-Some-clause-refusal
returns-in-Some-clause-refusal g c = tt

pub returns-in-None-clause-found : goal.returns-in-None-clause-found
returns-in-None-clause-found g c =
    answers_root _ _ (first_from Behind c.args.after.now) c.find_near.result c.if-root-eq0.false c.find_near.ensures.found

pub returns-in-None-clause-lies : goal.returns-in-None-clause-lies
returns-in-None-clause-lies g c =
    lies_on _ _ _ _ _ c.find_near.ensures.same c.if-root-eq0.false c.find_near.ensures.kept c.requires

pub returns-in-None-clause-same : goal.returns-in-None-clause-same
returns-in-None-clause-same g c = c.find_near.ensures.same

pub returns-in-None-clause-whole : goal.returns-in-None-clause-whole
returns-in-None-clause-whole g c = c.find_near.ensures.whole

pub returns-in-None-clause-refusal : goal.returns-in-None-clause-refusal
returns-in-None-clause-refusal g c =
    read_refused_on _ _ _ _ _ _ (omega arith) (no_tree_at_root _ _ (λ n h. g.met.R.PageReader.bounded _ n h) c.if-root-eq0.false) c.find_near.ensures.refusal

pub returns-in-None-clause-rising : goal.returns-in-None-clause-rising
returns-in-None-clause-rising g c = c.find_near.ensures.rising

pub returns-in-None-clause-follows : goal.returns-in-None-clause-follows
returns-in-None-clause-follows g c = c.find_near.ensures.follows
