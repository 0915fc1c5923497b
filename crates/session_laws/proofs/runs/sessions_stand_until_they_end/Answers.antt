use Rattle.session_definitions.specs.Asked.{Asked}
use Rattle.session_laws.proofs.Live.{keeps_live, made_live, made_others, dropped_live, dropped_others}
use Rattle.session_laws.proofs.runs.sessions_stand_until_they_end.Goals as goal

pub returns : goal.returns
returns c = record {
  calls = λ rules old new s text reply step. keeps_live rules old new s (Asked.Text text) reply step;
  asked = keeps_live;
  made = made_live;
  was_free = λ old new s h. h.0.free;
  made_alone = made_others;
  dropped = dropped_live;
  dropped_alone = dropped_others;
}
