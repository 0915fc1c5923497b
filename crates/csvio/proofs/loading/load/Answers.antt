use Rattle.std.proofs.Common.{◌≡◌, inr, refl, le_refl}
use Rattle.sessions.specs.OfCore.{world_of}
use Rattle.csvio.specs.Loading.{Loads}
use Rattle.scripts.specs.Settled.{store_of}
use Rattle.csvio.proofs.Counted.{of_device}
use Rattle.csvio.proofs.Unloaded.{unnamed, without_rows}
use Rattle.csvio.proofs.loading.load.Goals as goal

pub returns-in-Err-clause-loads : goal.returns-in-Err-clause-loads
returns-in-Err-clause-loads g c = λ rules are kept live.
    unnamed rules (world_of g.S.Store.shows c.args.core.now) c.args.session.number c.args.table.now (g.R.Read.remaining c.args.reader) c.in-Err.refusal c.in-Err.ensures.refused

pub returns-in-Ok-read_rows-clause-loads : goal.returns-in-Ok-read_rows-clause-loads
returns-in-Ok-read_rows-clause-loads g c = λ rules are kept live.
    Loads.puts_in c.in-Ok.name c.in-Ok-read_rows.rows c.in-Ok.ensures.gives c.in-Ok-read_rows.ensures.rows (c.put_in.ensures.puts_in rules are kept live)

pub returns-clause-loads : goal.returns-clause-loads
returns-clause-loads g c = λ rules are kept live.
    without_rows rules (world_of g.S.Store.shows c.args.core.now) c.args.session.number c.args.table.now (g.R.Read.remaining c.args.reader) c.in-Err-read_rows.error c.refusal_of.result
    c.refusal_of.ensures.memory c.refusal_of.ensures.reader c.refusal_of.ensures.field c.in-Err-read_rows.ensures.field

pub returns-in-Ok-read_rows-clause-device : goal.returns-in-Ok-read_rows-clause-device
returns-in-Ok-read_rows-clause-device g c =
    of_device c.put_in.result (g.S.Store.refused (store_of c.args.core.now)) (g.S.Store.refused (store_of c.put_in.new.core)) (c.put_in.new.core ≡ c.args.core.now) c.put_in.ensures.device

pub returns-clause-device : goal.returns-clause-device
returns-clause-device g c = λ is. inr refl

pub returns-in-Err-clause-device : goal.returns-in-Err-clause-device
returns-in-Err-clause-device g c = λ is. inr refl

pub returns-in-Err-clause-kept : goal.returns-in-Err-clause-kept
returns-in-Err-clause-kept g c = λ rules are kept. kept

pub returns-in-Err-clause-live : goal.returns-in-Err-clause-live
returns-in-Err-clause-live g c = λ s. refl

pub returns-in-Err-clause-counts : goal.returns-in-Err-clause-counts
returns-in-Err-clause-counts g c = le_refl _

pub returns-in-Ok-read_rows-clause-kept : goal.returns-in-Ok-read_rows-clause-kept
returns-in-Ok-read_rows-clause-kept g c = c.put_in.ensures.kept

pub returns-in-Ok-read_rows-clause-live : goal.returns-in-Ok-read_rows-clause-live
returns-in-Ok-read_rows-clause-live g c = c.put_in.ensures.live

pub returns-in-Ok-read_rows-clause-counts : goal.returns-in-Ok-read_rows-clause-counts
returns-in-Ok-read_rows-clause-counts g c = c.put_in.ensures.counts

pub returns-clause-kept : goal.returns-clause-kept
returns-clause-kept g c = λ rules are kept. kept

pub returns-clause-live : goal.returns-clause-live
returns-clause-live g c = λ s. refl

pub returns-clause-counts : goal.returns-clause-counts
returns-clause-counts g c = le_refl _
