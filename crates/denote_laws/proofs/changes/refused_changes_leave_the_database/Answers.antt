use Rattle.denote.specs.Change.{changed}
use Rattle.denote_laws.proofs.ChangedLemmas.{after-raised, after-named, raised-alone, named-alone, after-accepted}
use Rattle.denote_laws.proofs.changes.refused_changes_leave_the_database.Goals as goal

pub returns : goal.returns
returns c = record {
  raised = λ reading db change fault h. after-raised db (changed reading db change) fault h;
  named = λ reading db change name h. after-named db (changed reading db change) name h;
  raised_alone = λ reading db new change fault count h k. raised-alone (changed reading db change) new fault count h k;
  named_alone = λ reading db new change name count h k. named-alone (changed reading db change) new name count h k;
  accepted = λ reading db new change count h. after-accepted db (changed reading db change) new count h;
}
