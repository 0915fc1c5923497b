use Rattle.std.proofs.Common.{◌≡◌, refl, sym, Some, None, rules}
use Rattle.std.proofs.KnownBytes.{Keeps-refl}
use Rattle.sessions.specs.OfCore.{slots_of}
use Rattle.csvio.specs.Forms.{columns_named}
use Rattle.csvio.specs.Formed.{WritesSeen}
use Rattle.csvio.proofs.Seeing.{seen_so}
use Rattle.csvio.proofs.formed_dumping.write_seen.Goals as goal

pub returns-in-Err-clause-writes : goal.returns-in-Err-clause-writes
returns-in-Err-clause-writes g c = λ sound live. WritesSeen.unread c.in-Err.refusal (c.in-Err.ensures.refused sound live) refl (Keeps-refl _)

pub returns-in-Err-clause-counts : goal.returns-in-Err-clause-counts
returns-in-Err-clause-counts g c = (g.met.S.Store.goes_on_goes _ _ _ c.prepare_schema.ensures.goes).refused

pub returns-in-Some-clause-writes : goal.returns-in-Some-clause-writes
returns-in-Some-clause-writes g c = λ sound live.
    let core = c.args.core.now in
    let schema = c.schema.result.now in
    let is : Some c.in-Some.columns.now ≡ columns_named schema.tables c.args.name.now = search rules in
    WritesSeen.writes c.in-Some.columns.now
    (record {
      schema = schema;
      sees = seen_so schema (g.S.Store.shows core.store) core.writer (slots_of core) c.args.session.number sound.order live (rw (sym c.schema.ensures) at (c.in-Ok.ensures.prepared sound));
      is = is;
    }) c.write_formed.ensures.writes

pub returns-in-Some-clause-counts : goal.returns-in-Some-clause-counts
returns-in-Some-clause-counts g c = (g.met.S.Store.goes_on_goes _ _ _ c.prepare_schema.ensures.goes).refused

pub returns-in-None-clause-writes : goal.returns-in-None-clause-writes
returns-in-None-clause-writes g c = λ sound live.
    let core = c.args.core.now in
    let schema = c.schema.result.now in
    let is : None ≡ columns_named schema.tables c.args.name.now = search rules in
    WritesSeen.no_table
    (record {
      schema = schema;
      sees = seen_so schema (g.S.Store.shows core.store) core.writer (slots_of core) c.args.session.number sound.order live (rw (sym c.schema.ensures) at (c.in-Ok.ensures.prepared sound));
      is = is;
    }) refl (Keeps-refl _)

pub returns-in-None-clause-counts : goal.returns-in-None-clause-counts
returns-in-None-clause-counts g c = (g.met.S.Store.goes_on_goes _ _ _ c.prepare_schema.ensures.goes).refused

pub returns-in-Err-clause-world : goal.returns-in-Err-clause-world
returns-in-Err-clause-world g c = c.prepare_schema.ensures.kept

pub returns-in-Err-clause-sound : goal.returns-in-Err-clause-sound
returns-in-Err-clause-sound g c = c.prepare_schema.ensures.sound

pub returns-in-Some-clause-world : goal.returns-in-Some-clause-world
returns-in-Some-clause-world g c = c.prepare_schema.ensures.kept

pub returns-in-Some-clause-sound : goal.returns-in-Some-clause-sound
returns-in-Some-clause-sound g c = c.prepare_schema.ensures.sound

pub returns-in-None-clause-world : goal.returns-in-None-clause-world
returns-in-None-clause-world g c = c.prepare_schema.ensures.kept

pub returns-in-None-clause-sound : goal.returns-in-None-clause-sound
returns-in-None-clause-sound g c = c.prepare_schema.ensures.sound
