use Rattle.std.proofs.Common.{sym, ◌∙◌, ap, Some}
use Rattle.fleet_model.specs.History.{PutRecords}
use Rattle.script_model.specs.Lines.Settles.{is_adding}
use Rattle.fleet_history.specs.Changes.{record_change_of}
use Rattle.fleet_history.specs.declared.record_change.RecordChange.{RecordChange}
use Rattle.fleet_lines.proofs.WorkLeft.{adds_some}
use Rattle.fleet_lines.proofs.progress.adds_job.Goals as goal

pub returns-in-Poll : goal.returns-in-Poll
returns-in-Poll c =
    adds_some c.is_empty.result c.in-Poll.change.added c.is_empty.ensures ∙ ap (λ (r : RecordChange). is_adding (Some (PutRecords (record_change_of r)))) (sym c.in-Poll.is)
