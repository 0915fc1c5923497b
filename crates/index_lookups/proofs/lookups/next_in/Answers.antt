use Rattle.std.proofs.Common.{Bor, sym, ap, subst, ℕ, List, Option, Some, None, IfOk}
use Rattle.std.specs.Prelude.{slice_get, IfSome}
use Rattle.std.specs.FinMap.{get}
use Rattle.std.specs.Option.{option_map}
use Rattle.store.specs.declared.rows.Position.{Position as At}
use Rattle.store.specs.Indexes.{entries_of, in_order, beyond, next_entry}
use Rattle.store.specs.View.{IsEntry, position_of}
use Rattle.stored_tables.proofs.RefusalLemmas.{reads_later}
use Rattle.database_trees.specs.Held.{HoldsNoDatabase, contents_of}
use Rattle.index_lookups.specs.declared.places.Place.{Place}
use Rattle.index_lookups.specs.Walked.{HoldsNoIndexed, IsPlaceOf, HasTypesOf}
use Rattle.index_lookups.proofs.StandLemmas.{indexed_in}
use Rattle.stored_tables.specs.Named.{table_named}
use Rattle.index_lookups.proofs.TypeLemmas.{row_typed}
use Rattle.index_lookups.proofs.lookups.next_in.Goals as goal

pub returns-in-Some-clause-row : goal.returns-in-Some-clause-row
returns-in-Some-clause-row g c = λ tables h.
    let t = get (contents_of tables) c.args.name.now in
    let p = subst (λ (o : Option Place). IsPlaceOf (g.R.PageReader.pages c.args.space.now) t c.args.index o) c.in-Ok-Some.field-0-is (c.in-Ok-Some.ensures.found tables h) in
    let there = indexed_in (g.R.PageReader.pages c.args.space.now) (g.R.PageReader.pages c.index_at.new.space) c.in-Ok-Some.place.root c.in-Ok-Some.place.rows_root c.in-Ok-Some.place.types c.in-Ok-Some.place.columns (entries_of t) c.index_at.ensures.same p.1 in
    subst (λ (a : Option (Bor At)). IfOk c.row_beyond.result (λ found. IsEntry found (next_entry t c.args.index (option_map (λ (q : Bor At). position_of q.now) a)))) (sym c.in-Some.is)
    (subst (λ (o : Option (List ℕ)). IfOk c.row_beyond.result (λ found. IsEntry found (slice_get (beyond (Some (position_of c.in-Some.after.now)) o (in_order o (entries_of t))) 0))) (sym p.0) (c.row_beyond.ensures.row (entries_of t) there))

pub returns-in-Some-clause-refusal : goal.returns-in-Some-clause-refusal
returns-in-Some-clause-refusal g c =
    reads_later c.row_beyond.result (HoldsNoIndexed (g.R.PageReader.pages c.index_at.new.space) c.in-Ok-Some.place.root c.in-Ok-Some.place.rows_root c.in-Ok-Some.place.types c.in-Ok-Some.place.columns) (HoldsNoDatabase (g.R.PageReader.pages c.args.space.now) c.args.root)
    (g.R.PageReader.refused c.args.space.now) (g.R.PageReader.refused c.index_at.new.space) (g.R.PageReader.refused c.row_beyond.new.space)
    (λ none tables h. let t = get (contents_of tables) c.args.name.now in
    let p = subst (λ (o : Option Place). IsPlaceOf (g.R.PageReader.pages c.args.space.now) t c.args.index o) c.in-Ok-Some.field-0-is (c.in-Ok-Some.ensures.found tables h) in
    none (entries_of t) (indexed_in (g.R.PageReader.pages c.args.space.now) (g.R.PageReader.pages c.index_at.new.space) c.in-Ok-Some.place.root c.in-Ok-Some.place.rows_root c.in-Ok-Some.place.types c.in-Ok-Some.place.columns (entries_of t) c.index_at.ensures.same p.1))
    c.index_at.ensures.rising c.row_beyond.ensures.refusal

pub returns-in-Ok-Some-clause-row : goal.returns-in-Ok-Some-clause-row
returns-in-Ok-Some-clause-row g c = λ tables h.
    let t = get (contents_of tables) c.args.name.now in
    let p = subst (λ (o : Option Place). IsPlaceOf (g.R.PageReader.pages c.args.space.now) t c.args.index o) c.in-Ok-Some.field-0-is (c.in-Ok-Some.ensures.found tables h) in
    let there = indexed_in (g.R.PageReader.pages c.args.space.now) (g.R.PageReader.pages c.index_at.new.space) c.in-Ok-Some.place.root c.in-Ok-Some.place.rows_root c.in-Ok-Some.place.types c.in-Ok-Some.place.columns (entries_of t) c.index_at.ensures.same p.1 in
    subst (λ (a : Option (Bor At)). IfOk c.first_row.result (λ found. IsEntry found (next_entry t c.args.index (option_map (λ (q : Bor At). position_of q.now) a)))) (sym c.in-None.is)
    (subst (λ (o : Option (List ℕ)). IfOk c.first_row.result (λ found. IsEntry found (slice_get (beyond None o (in_order o (entries_of t))) 0))) (sym p.0) (c.first_row.ensures.row (entries_of t) there))

pub returns-in-Ok-Some-clause-refusal : goal.returns-in-Ok-Some-clause-refusal
returns-in-Ok-Some-clause-refusal g c =
    reads_later c.first_row.result (HoldsNoIndexed (g.R.PageReader.pages c.index_at.new.space) c.in-Ok-Some.place.root c.in-Ok-Some.place.rows_root c.in-Ok-Some.place.types c.in-Ok-Some.place.columns) (HoldsNoDatabase (g.R.PageReader.pages c.args.space.now) c.args.root)
    (g.R.PageReader.refused c.args.space.now) (g.R.PageReader.refused c.index_at.new.space) (g.R.PageReader.refused c.first_row.new.space)
    (λ none tables h. let t = get (contents_of tables) c.args.name.now in
    let p = subst (λ (o : Option Place). IsPlaceOf (g.R.PageReader.pages c.args.space.now) t c.args.index o) c.in-Ok-Some.field-0-is (c.in-Ok-Some.ensures.found tables h) in
    none (entries_of t) (indexed_in (g.R.PageReader.pages c.args.space.now) (g.R.PageReader.pages c.index_at.new.space) c.in-Ok-Some.place.root c.in-Ok-Some.place.rows_root c.in-Ok-Some.place.types c.in-Ok-Some.place.columns (entries_of t) c.index_at.ensures.same p.1))
    c.index_at.ensures.rising c.first_row.ensures.refusal

pub returns-in-Ok-None-clause-row : goal.returns-in-Ok-None-clause-row
returns-in-Ok-None-clause-row g c = λ tables h.
    let t = get (contents_of tables) c.args.name.now in
    let none = subst (λ (o : Option Place). IsPlaceOf (g.R.PageReader.pages c.args.space.now) t c.args.index o) c.in-Ok-None.field-0-is (c.in-Ok-None.ensures.found tables h) in
    ap (λ (o : Option (List ℕ)). slice_get (beyond (option_map (λ (q : Bor At). position_of q.now) c.args.after) o (in_order o (entries_of t))) 0) (sym none)

pub returns-in-Some-clause-typed : goal.returns-in-Some-clause-typed
returns-in-Some-clause-typed g c = λ owned tables h.
    row_typed (table_named c.args.name.now tables) c.in-Ok-Some.place c.row_beyond.result
    (subst (λ (o : Option Place). IfSome o (HasTypesOf (table_named c.args.name.now tables))) c.in-Ok-Some.field-0-is (c.in-Ok-Some.ensures.types owned tables h)) c.row_beyond.ensures.typed

pub returns-in-Ok-Some-clause-typed : goal.returns-in-Ok-Some-clause-typed
returns-in-Ok-Some-clause-typed g c = λ owned tables h.
    row_typed (table_named c.args.name.now tables) c.in-Ok-Some.place c.first_row.result
    (subst (λ (o : Option Place). IfSome o (HasTypesOf (table_named c.args.name.now tables))) c.in-Ok-Some.field-0-is (c.in-Ok-Some.ensures.types owned tables h)) c.first_row.ensures.typed

pub returns-in-Ok-None-clause-typed : goal.returns-in-Ok-None-clause-typed
returns-in-Ok-None-clause-typed g c = λ owned tables h. tt
