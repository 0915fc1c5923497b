use Rattle.std.proofs.Common.{sym, subst, ℕ, List, Option, IfOk}
use Rattle.std.specs.FinMap.{get}
use Rattle.store.specs.Indexes.{entries_of, matching}
use Rattle.store.specs.View.{AreEntries}
use Rattle.stored_tables.proofs.RefusalLemmas.{reads_later}
use Rattle.database_trees.specs.Held.{HoldsNoDatabase, contents_of}
use Rattle.index_lookups.specs.declared.places.Place.{Place}
use Rattle.index_lookups.specs.Walked.{HoldsNoIndexed, IsPlaceOf, HasTypesOf}
use Rattle.index_lookups.proofs.StandLemmas.{indexed_in}
use Rattle.std.specs.Prelude.{IfSome}
use Rattle.stored_tables.specs.Named.{table_named, IsTyped}
use Rattle.index_lookups.proofs.TypeLemmas.{rows_typed}
use Rattle.std.specs.List.{AllByRecursion}
use Rattle.index_lookups.proofs.lookups.seek.Goals as goal

pub returns-in-Ok-Some-clause-rows : goal.returns-in-Ok-Some-clause-rows
returns-in-Ok-Some-clause-rows g c = λ tables h.
    let t = get (contents_of tables) c.args.name.now in
    let p = subst (λ (o : Option Place). IsPlaceOf (g.R.PageReader.pages c.args.space.now) t c.args.index o) c.in-Ok-Some.field-0-is (c.in-Ok-Some.ensures.found tables h) in
    let there = indexed_in (g.R.PageReader.pages c.args.space.now) (g.R.PageReader.pages c.index_at.new.space) c.in-Ok-Some.place.root c.in-Ok-Some.place.rows_root c.in-Ok-Some.place.types c.in-Ok-Some.place.columns (entries_of t) c.index_at.ensures.same p.1 in
    subst (λ (o : Option (List ℕ)). IfOk c.matching.result (λ found. AreEntries found (matching o c.args.key.now (entries_of t)))) (sym p.0) (c.matching.ensures.rows (entries_of t) there)

pub returns-in-Ok-Some-clause-refusal : goal.returns-in-Ok-Some-clause-refusal
returns-in-Ok-Some-clause-refusal g c =
    reads_later c.matching.result (HoldsNoIndexed (g.R.PageReader.pages c.index_at.new.space) c.in-Ok-Some.place.root c.in-Ok-Some.place.rows_root c.in-Ok-Some.place.types c.in-Ok-Some.place.columns) (HoldsNoDatabase (g.R.PageReader.pages c.args.space.now) c.args.root)
    (g.R.PageReader.refused c.args.space.now) (g.R.PageReader.refused c.index_at.new.space) (g.R.PageReader.refused c.matching.new.space)
    (λ none tables h. let t = get (contents_of tables) c.args.name.now in
    let p = subst (λ (o : Option Place). IsPlaceOf (g.R.PageReader.pages c.args.space.now) t c.args.index o) c.in-Ok-Some.field-0-is (c.in-Ok-Some.ensures.found tables h) in
    none (entries_of t) (indexed_in (g.R.PageReader.pages c.args.space.now) (g.R.PageReader.pages c.index_at.new.space) c.in-Ok-Some.place.root c.in-Ok-Some.place.rows_root c.in-Ok-Some.place.types c.in-Ok-Some.place.columns (entries_of t) c.index_at.ensures.same p.1))
    c.index_at.ensures.rising c.matching.ensures.refusal

pub returns-in-Ok-Some-clause-whole : goal.returns-in-Ok-Some-clause-whole
returns-in-Ok-Some-clause-whole g c = λ whole. c.matching.ensures.whole (c.index_at.ensures.whole whole)

pub returns-in-Ok-Some-clause-follows : goal.returns-in-Ok-Some-clause-follows
returns-in-Ok-Some-clause-follows g c = g.met.R.PageReader.follows_trans _ _ _ c.index_at.ensures.follows c.matching.ensures.follows

pub returns-in-Ok-None-clause-rows : goal.returns-in-Ok-None-clause-rows
returns-in-Ok-None-clause-rows g c = λ tables h.
    let t = get (contents_of tables) c.args.name.now in
    let none = subst (λ (o : Option Place). IsPlaceOf (g.R.PageReader.pages c.args.space.now) t c.args.index o) c.in-Ok-None.field-0-is (c.in-Ok-None.ensures.found tables h) in
    subst (λ (o : Option (List ℕ)). AreEntries c.no_rows.result (matching o c.args.key.now (entries_of t))) (sym none) c.no_rows.ensures

pub returns-in-Ok-Some-clause-typed : goal.returns-in-Ok-Some-clause-typed
returns-in-Ok-Some-clause-typed g c = λ owned tables h.
    rows_typed (table_named c.args.name.now tables) c.in-Ok-Some.place c.matching.result
    (subst (λ (o : Option Place). IfSome o (HasTypesOf (table_named c.args.name.now tables))) c.in-Ok-Some.field-0-is (c.in-Ok-Some.ensures.types owned tables h)) c.matching.ensures.typed

pub returns-in-Ok-None-clause-typed : goal.returns-in-Ok-None-clause-typed
returns-in-Ok-None-clause-typed g c = λ owned tables h. subst (AllByRecursion (IsTyped _)) (sym c.no_rows.ensures.rows) tt
