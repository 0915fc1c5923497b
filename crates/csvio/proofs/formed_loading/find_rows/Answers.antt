use Rattle.std.proofs.Common.{sym, refl, le_refl}
use Rattle.sessions.specs.OfCore.{slots_of, world_of}
use Rattle.csvio.specs.Formed.{FindsNone}
use Rattle.csvio.proofs.Found.{unnamed_table}
use Rattle.csvio.proofs.Seeing.{seen_so}
use Rattle.csvio.proofs.formed_loading.find_rows.Goals as goal

pub returns-in-Err-clause-refused : goal.returns-in-Err-clause-refused
returns-in-Err-clause-refused g c = λ sound live.
    unnamed_table (world_of g.S.Store.shows c.args.core.now) c.args.session.number c.args.form c.args.table.now (g.R.Read.remaining c.args.reader) c.in-Err.refusal c.in-Err.ensures.refused

pub returns-in-Err-prepare_schema-clause-refused : goal.returns-in-Err-prepare_schema-clause-refused
returns-in-Err-prepare_schema-clause-refused g c = λ sound live. FindsNone.unread (c.in-Err-prepare_schema.ensures.refused sound live)

pub returns-in-Err-prepare_schema-clause-counts : goal.returns-in-Err-prepare_schema-clause-counts
returns-in-Err-prepare_schema-clause-counts g c = (g.met.S.Store.goes_on_goes _ _ _ c.prepare_schema.ensures.goes).refused

pub returns-in-Ok-find_in-clause-rows : goal.returns-in-Ok-find_in-clause-rows
returns-in-Ok-find_in-clause-rows g c = λ sound live.
    let core = c.args.core.now in
    let n = c.args.session.number in
    let schema = c.schema.result.now in
    let of = c.in-Ok-prepare_schema.ensures.prepared sound in
    record {
      schema = schema;
      named = c.in-Ok.ensures.gives;
      sees = seen_so schema (g.S.Store.shows core.store) core.writer (slots_of core) n sound.order live (rw (sym c.schema.ensures) at of);
      finds = c.in-Ok-find_in.ensures.rows;
    }

pub returns-in-Ok-find_in-clause-counts : goal.returns-in-Ok-find_in-clause-counts
returns-in-Ok-find_in-clause-counts g c = (g.met.S.Store.goes_on_goes _ _ _ c.prepare_schema.ensures.goes).refused

pub returns-in-Err-find_in-clause-refused : goal.returns-in-Err-find_in-clause-refused
returns-in-Err-find_in-clause-refused g c = λ sound live.
    let core = c.args.core.now in
    let n = c.args.session.number in
    let schema = c.schema.result.now in
    let of = c.in-Ok-prepare_schema.ensures.prepared sound in
    FindsNone.refused c.in-Ok.name schema c.in-Ok.ensures.gives
    (seen_so schema (g.S.Store.shows core.store) core.writer (slots_of core) n sound.order live (rw (sym c.schema.ensures) at of)) c.in-Err-find_in.ensures.refused

pub returns-in-Err-find_in-clause-counts : goal.returns-in-Err-find_in-clause-counts
returns-in-Err-find_in-clause-counts g c = (g.met.S.Store.goes_on_goes _ _ _ c.prepare_schema.ensures.goes).refused

pub returns-in-Err-clause-rows : goal.returns-in-Err-clause-rows
returns-in-Err-clause-rows g c = tt

pub returns-in-Err-clause-world : goal.returns-in-Err-clause-world
returns-in-Err-clause-world g c = refl

pub returns-in-Err-clause-sound : goal.returns-in-Err-clause-sound
returns-in-Err-clause-sound g c = λ sound. sound

pub returns-in-Err-clause-counts : goal.returns-in-Err-clause-counts
returns-in-Err-clause-counts g c = le_refl _

pub returns-in-Err-prepare_schema-clause-rows : goal.returns-in-Err-prepare_schema-clause-rows
returns-in-Err-prepare_schema-clause-rows g c = tt

pub returns-in-Err-find_in-clause-rows : goal.returns-in-Err-find_in-clause-rows
returns-in-Err-find_in-clause-rows g c = tt

pub returns-in-Ok-find_in-clause-refused : goal.returns-in-Ok-find_in-clause-refused
returns-in-Ok-find_in-clause-refused g c = tt

pub returns-in-Err-prepare_schema-clause-world : goal.returns-in-Err-prepare_schema-clause-world
returns-in-Err-prepare_schema-clause-world g c = c.prepare_schema.ensures.kept

pub returns-in-Err-prepare_schema-clause-sound : goal.returns-in-Err-prepare_schema-clause-sound
returns-in-Err-prepare_schema-clause-sound g c = c.prepare_schema.ensures.sound

pub returns-in-Ok-find_in-clause-world : goal.returns-in-Ok-find_in-clause-world
returns-in-Ok-find_in-clause-world g c = c.prepare_schema.ensures.kept

pub returns-in-Ok-find_in-clause-sound : goal.returns-in-Ok-find_in-clause-sound
returns-in-Ok-find_in-clause-sound g c = c.prepare_schema.ensures.sound

pub returns-in-Err-find_in-clause-world : goal.returns-in-Err-find_in-clause-world
returns-in-Err-find_in-clause-world g c = c.prepare_schema.ensures.kept

pub returns-in-Err-find_in-clause-sound : goal.returns-in-Err-find_in-clause-sound
returns-in-Err-find_in-clause-sound g c = c.prepare_schema.ensures.sound
