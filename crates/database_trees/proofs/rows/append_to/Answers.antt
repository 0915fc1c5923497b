use Rattle.std.proofs.Common.{map, length, ◌+◌, ◌^◌, ◌<◌, None, false}
use Rattle.denote.specs.SchemaOf.{index_of}
use Rattle.store.specs.Contents.{next_number}
use Rattle.store.specs.Errors.{HasLongRow, HasLongKey}
use Rattle.stored_tables.proofs.ChangeLemmas.{whole_later}
use Rattle.tablestore.specs.Held.{HoldsNoRows}
use Rattle.database_trees.specs.Exchanged.{IsTableOf, IsAppendable}
use Rattle.database_trees.proofs.DatabaseLemmas.{rows_of_it}
use Rattle.database_trees.proofs.ChangeLemmas.{to_append, numbers_end}
use Rattle.database_trees.proofs.RefusalLemmas.{refused_later, read_refused, memory_refused, reaches, reaches_so}
use Rattle.database_trees.proofs.rows.append_to.Goals as goal

pub returns-in-Ok-numbers_on-clause-appended : goal.returns-in-Ok-numbers_on-clause-appended
returns-in-Ok-numbers_on-clause-appended g c = λ alone h. c.put_rows.ensures.appended _ (to_append (g.S.PageReader.pages c.args.space.now) (g.S.PageReader.pages c.next_number.new.space) c.args.root c.in-Ok.first c.args.table.now c.in-Ok-numbers_on.numbers c.as_slice.result.now c.args.rows c.next_number.ensures.same c.as_slice.ensures c.in-Ok-numbers_on.ensures.numbers h (c.in-Ok.ensures.found h.at.owned h.at.rows (rows_of_it (g.S.PageReader.pages c.args.space.now) c.args.root c.args.table.now h)))

pub returns-in-Ok-numbers_on-clause-limits : goal.returns-in-Ok-numbers_on-clause-limits
returns-in-Ok-numbers_on-clause-limits g c =
    reaches_so c.put_rows.result (HasLongRow c.args.rows) (HasLongKey (map index_of c.args.table.now.indexes) c.args.rows) ((h : IsAppendable false (g.S.PageReader.pages c.next_number.new.space) c.args.root c.args.table.now (record { taken = None; put = record { numbers = c.in-Ok-numbers_on.numbers; rows = c.args.rows } })) → 2 ^ 63 < next_number h.its.at.rows + length c.args.rows)
    (HasLongRow c.args.rows) (HasLongKey (map index_of c.args.table.now.indexes) c.args.rows) ((h : IsTableOf false (g.S.PageReader.pages c.args.space.now) c.args.root c.args.table.now) → 2 ^ 63 < next_number h.at.rows + length c.args.rows)
    (λ long. long) (λ key. key) (λ ends h. ends (to_append (g.S.PageReader.pages c.args.space.now) (g.S.PageReader.pages c.next_number.new.space) c.args.root c.in-Ok.first c.args.table.now c.in-Ok-numbers_on.numbers c.as_slice.result.now c.args.rows c.next_number.ensures.same c.as_slice.ensures c.in-Ok-numbers_on.ensures.numbers h (c.in-Ok.ensures.found h.at.owned h.at.rows (rows_of_it (g.S.PageReader.pages c.args.space.now) c.args.root c.args.table.now h)))) c.put_rows.ensures.limits

pub returns-in-Ok-numbers_on-clause-whole : goal.returns-in-Ok-numbers_on-clause-whole
returns-in-Ok-numbers_on-clause-whole g c = whole_later c.put_rows.result (g.S.PageReader.is_whole c.args.space.now) (g.S.PageReader.is_whole c.next_number.new.space) (g.S.PageReader.is_whole c.put_rows.new.space) c.next_number.ensures.whole c.put_rows.ensures.whole

pub returns-in-Ok-numbers_on-clause-follows : goal.returns-in-Ok-numbers_on-clause-follows
returns-in-Ok-numbers_on-clause-follows g c = g.met.S.PageReader.follows_trans _ _ _ c.next_number.ensures.follows c.put_rows.ensures.follows

pub returns-in-Ok-numbers_on-clause-refusal : goal.returns-in-Ok-numbers_on-clause-refusal
returns-in-Ok-numbers_on-clause-refusal g c =
    refused_later c.put_rows.result (g.S.PageSpace.at_limit c.put_rows.new.space) (IsAppendable false (g.S.PageReader.pages c.next_number.new.space) c.args.root c.args.table.now (record { taken = None; put = record { numbers = c.in-Ok-numbers_on.numbers; rows = c.args.rows } }) → (g.S.PageReader.is_whole c.next_number.new.space) → ⊥) (IsTableOf false (g.S.PageReader.pages c.args.space.now) c.args.root c.args.table.now → (g.S.PageReader.is_whole c.args.space.now) → ⊥) (g.S.PageReader.refused c.args.space.now) (g.S.PageReader.refused c.next_number.new.space) (g.S.PageReader.refused c.put_rows.new.space)
    (λ none h whole. none (to_append (g.S.PageReader.pages c.args.space.now) (g.S.PageReader.pages c.next_number.new.space) c.args.root c.in-Ok.first c.args.table.now c.in-Ok-numbers_on.numbers c.as_slice.result.now c.args.rows c.next_number.ensures.same c.as_slice.ensures c.in-Ok-numbers_on.ensures.numbers h (c.in-Ok.ensures.found h.at.owned h.at.rows (rows_of_it (g.S.PageReader.pages c.args.space.now) c.args.root c.args.table.now h))) (c.next_number.ensures.whole whole)) c.next_number.ensures.rising c.put_rows.ensures.refusal

pub returns-in-Err-numbers_on-clause-limits : goal.returns-in-Err-numbers_on-clause-limits
returns-in-Err-numbers_on-clause-limits g c =
    reaches c.in-Err-numbers_on.error ⊥ ⊥ (2 ^ 63 < c.in-Ok.first + length c.as_slice.result.now) (HasLongRow c.args.rows) (HasLongKey (map index_of c.args.table.now.indexes) c.args.rows) ((h : IsTableOf false (g.S.PageReader.pages c.args.space.now) c.args.root c.args.table.now) → 2 ^ 63 < next_number h.at.rows + length c.args.rows) (λ none. absurd none) (λ none. absurd none)
    (λ ends h. numbers_end c.in-Ok.first c.as_slice.result.now c.args.rows h.at.rows c.as_slice.ensures (c.in-Ok.ensures.found h.at.owned h.at.rows (rows_of_it (g.S.PageReader.pages c.args.space.now) c.args.root c.args.table.now h)) ends) c.in-Err-numbers_on.ensures.limits

pub returns-in-Err-numbers_on-clause-refusal : goal.returns-in-Err-numbers_on-clause-refusal
returns-in-Err-numbers_on-clause-refusal g c = memory_refused c.in-Err-numbers_on.error (g.S.PageSpace.at_limit c.next_number.new.space) (IsTableOf false (g.S.PageReader.pages c.args.space.now) c.args.root c.args.table.now → (g.S.PageReader.is_whole c.args.space.now) → ⊥) (g.S.PageReader.refused c.args.space.now) (g.S.PageReader.refused c.next_number.new.space) c.in-Err-numbers_on.ensures.memory

pub returns-in-Err-clause-refusal : goal.returns-in-Err-clause-refusal
returns-in-Err-clause-refusal g c = read_refused c.in-Err.fault (g.S.PageSpace.at_limit c.next_number.new.space) (HoldsNoRows (g.S.PageReader.pages c.args.space.now) c.args.table.now.root) (IsTableOf false (g.S.PageReader.pages c.args.space.now) c.args.root c.args.table.now → (g.S.PageReader.is_whole c.args.space.now) → ⊥) (g.S.PageReader.refused c.args.space.now) (g.S.PageReader.refused c.next_number.new.space) (λ none h whole. none h.at.owned h.at.rows (rows_of_it (g.S.PageReader.pages c.args.space.now) c.args.root c.args.table.now h)) c.in-Err.ensures.refusal
