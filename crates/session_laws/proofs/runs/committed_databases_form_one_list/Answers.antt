use Rattle.session_laws.proofs.Serializable.{history_counted, history_latest, made_by}
use Rattle.session_laws.proofs.runs.committed_databases_form_one_list.Goals as goal

pub returns : goal.returns
returns c = record { counted = history_counted; latest = history_latest; made_by = made_by }
