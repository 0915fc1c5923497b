use Rattle.sessions.specs.OfCore.{world_of}
use Rattle.transfers.proofs.Closed.{closed_status, handed_since}
use Rattle.transfers.proofs.over_core_formed.load_formed_batches_to_end.Goals as goal

pub returns-clause-status : goal.returns-clause-status
returns-clause-status g c = closed_status _ _ _ _ _ _ _ _ c.answer-said.ensures.status c.close_behind.ensures.closes

pub returns-clause-loads : goal.returns-clause-loads
returns-clause-loads g c = λ some rules are kept.
    let end = c.load_batches_alone-loaded.ensures.kept rules are kept in
    record {
      reply = c.load_batches_alone-loaded.result.reply;
      end = world_of g.S.Store.shows c.load_batches_alone-loaded.new.core;
      was = _;
      was_told = _;
      mid = _;
      done = record {
        committed = c.load_batches_alone-loaded.result.committed;
        loads = c.load_batches_alone-loaded.ensures.loads some rules are kept;
        says = c.note.ensures;
      };
      answers = c.answer-said.ensures.answers;
      closes = c.close_behind.ensures.closes;
      left = c.close_behind.ensures.saved end.sound;
      good = end.good.last;
    }

pub returns-clause-handed : goal.returns-clause-handed
returns-clause-handed g c = handed_since _ _ _ _ _ c.load_batches_alone-loaded.ensures.counts _ _ c.close_behind.ensures.handed
