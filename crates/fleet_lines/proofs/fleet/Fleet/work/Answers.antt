use Rattle.std.proofs.Common.{rules, ◌∙◌, refl, ap, subst, ℤ, List, Some, None}
use Rattle.std.specs.Int.{w64, cast_signed, cast_unsigned}
use Rattle.fleet_model.specs.Jobs.{JobSpec}
use Rattle.script_model.specs.Lines.Flushes.{flush_line}
use Rattle.script_model.specs.Lines.Submits.{submit_line}
use Rattle.script_model.specs.Script as model
use Rattle.script_model.specs.Script.{IsInBounds}
use Rattle.fleet_rows.specs.Row.{rows_of}
use Rattle.fleet_text.specs.Lines.{line_of, nodes_of}
use Rattle.fleet_text.specs.declared.line.Line.{Line}
use Rattle.fleet_text.specs.declared.node.NodeName.{NodeName}
use Rattle.fleet_lines.specs.Fleets.{state_of}
use Rattle.fleet_lines.specs.Lines.{RunsAlone}
use Rattle.fleet_lines.proofs.ServeLines.{claim_serves, drain_serves, full_serves, served_as, submit_serves, commit_serves, kill_coordinator_serves, poll_serves, start_coordinator_serves, stop_coordinator_serves, flush_serves, heartbeat_serves, kill_worker_serves, start_worker_serves, stop_worker_serves}
use Rattle.fleet_lines.proofs.FlushAsks.{may_flush, tick_back}
use Rattle.fleet_lines.proofs.fleet.Fleet.work.Goals as goal

pub returns-in-StartWorker-clause-served : goal.returns-in-StartWorker-clause-served
returns-in-StartWorker-clause-served g c scheduler =
    let old = c.args.self.now in
    let i = c.in-StartWorker in
    served_as _ c.args.number _ (model.StartWorker i.worker i.release) old c.start_worker.new.self c.start_worker.new.self _ c.start_worker.result (ap line_of i.is) refl
    (λ answer ran. start_worker_serves _ c.args.number old answer i.worker i.release c.start_worker.new.self ran)
    c.start_worker.ensures.ran

pub returns-in-KillWorker-clause-served : goal.returns-in-KillWorker-clause-served
returns-in-KillWorker-clause-served g c scheduler =
    let old = c.args.self.now in
    let i = c.in-KillWorker in
    served_as _ c.args.number _ (model.KillWorker i.worker) old c.kill_worker.new.self c.kill_worker.new.self _ c.kill_worker.result (ap line_of i.is) refl
    (λ answer ran. kill_worker_serves _ c.args.number old answer i.worker c.kill_worker.new.self ran)
    c.kill_worker.ensures.ran

pub returns-in-StopWorker-clause-served : goal.returns-in-StopWorker-clause-served
returns-in-StopWorker-clause-served g c scheduler =
    let old = c.args.self.now in
    let i = c.in-StopWorker in
    served_as _ c.args.number _ (model.StopWorker i.worker) old c.stop_worker.new.self c.stop_worker.new.self _ c.stop_worker.result (ap line_of i.is) refl
    (λ answer ran. stop_worker_serves _ c.args.number old answer i.worker c.stop_worker.new.self ran)
    c.stop_worker.ensures.ran

pub returns-in-Heartbeat-clause-served : goal.returns-in-Heartbeat-clause-served
returns-in-Heartbeat-clause-served g c scheduler =
    let old = c.args.self.now in
    let i = c.in-Heartbeat in
    served_as _ c.args.number _ (model.Heartbeat i.worker) old c.heartbeat.new.self c.heartbeat.new.self _ c.heartbeat.result (ap line_of i.is) refl
    (λ answer ran. heartbeat_serves _ c.args.number old answer i.worker c.heartbeat.new.self ran)
    c.heartbeat.ensures.ran

pub returns-in-Claim-clause-served : goal.returns-in-Claim-clause-served
returns-in-Claim-clause-served g c scheduler =
    let old = c.args.self.now in
    served_as _ c.args.number _ (model.ClaimJobs c.in-Claim.worker) old c.claim.new.self c.claim.new.self _ c.claim.result (ap line_of c.in-Claim.is) refl
    (λ answer ran. claim_serves _ c.args.number old answer c.in-Claim.worker c.claim.new.self ran)
    c.claim.ensures.ran

pub output-requires-clause-counted : goal.output-requires-clause-counted
output-requires-clause-counted g c κs within = (subst (λ (l : Line). IsInBounds (line_of l)) c.in-Output.is c.requires.bounds).3

pub output-requires-clause-some : goal.output-requires-clause-some
output-requires-clause-some g c κs within = (subst (λ (l : Line). IsInBounds (line_of l)) c.in-Output.is c.requires.bounds).5

pub returns-in-Output-clause-served : goal.returns-in-Output-clause-served
returns-in-Output-clause-served g c scheduler =
    let i = c.in-Output in
    served_as _ c.args.number _ (model.Output i.worker i.job i.range i.rows) c.args.self.now c.output.new.self c.output.new.self _ c.output.result (ap line_of c.in-Output.is) refl (λ answer serves. serves) (c.output.ensures.served _)

pub returns-in-Finish-clause-served : goal.returns-in-Finish-clause-served
returns-in-Finish-clause-served g c scheduler =
    let i = c.in-Finish in
    served_as _ c.args.number _ (model.FinishJob i.worker i.job) c.args.self.now c.finish.new.self c.finish.new.self _ c.finish.result (ap line_of c.in-Finish.is) refl (λ answer serves. serves) (c.finish.ensures.served _)
