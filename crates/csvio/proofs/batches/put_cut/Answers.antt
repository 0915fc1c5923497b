use Rattle.std.proofs.Common.{◌∙◌, sym, refl, le_refl}
use Rattle.csvio.specs.Batches.{PutsCut}
use Rattle.csvio.proofs.batches.put_cut.Goals as goal

pub put_batches-requires : goal.put_batches-requires
put_batches-requires g c = c.in-Ok.ensures.count ∙ sym c.len-count.ensures

pub returns-in-Ok-clause-puts : goal.returns-in-Ok-clause-puts
returns-in-Ok-clause-puts g c = λ some rules are kept live.
    PutsCut.puts c.in-Ok.batches (c.in-Ok.ensures.batches some) (c.put_batches.ensures.puts rules are kept live)

pub returns-in-Err-clause-puts : goal.returns-in-Err-clause-puts
returns-in-Err-clause-puts g c = λ some rules are kept live. PutsCut.uncut c.unloaded.ensures.reply c.unloaded.ensures.none refl

pub returns-in-Err-clause-device : goal.returns-in-Err-clause-device
returns-in-Err-clause-device g c = rw c.unloaded.ensures.reply (λ e. absurd (cc e))

pub returns-in-Ok-clause-kept : goal.returns-in-Ok-clause-kept
returns-in-Ok-clause-kept g c = c.put_batches.ensures.kept

pub returns-in-Ok-clause-live : goal.returns-in-Ok-clause-live
returns-in-Ok-clause-live g c = c.put_batches.ensures.live

pub returns-in-Ok-clause-counts : goal.returns-in-Ok-clause-counts
returns-in-Ok-clause-counts g c = c.put_batches.ensures.counts

pub returns-in-Ok-clause-device : goal.returns-in-Ok-clause-device
returns-in-Ok-clause-device g c = c.put_batches.ensures.device

pub returns-in-Err-clause-kept : goal.returns-in-Err-clause-kept
returns-in-Err-clause-kept g c = λ rules are kept. kept

pub returns-in-Err-clause-live : goal.returns-in-Err-clause-live
returns-in-Err-clause-live g c = λ s. refl

pub returns-in-Err-clause-counts : goal.returns-in-Err-clause-counts
returns-in-Err-clause-counts g c = le_refl _
