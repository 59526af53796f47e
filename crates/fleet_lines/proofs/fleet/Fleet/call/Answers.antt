use Rattle.std.proofs.Common.{rules, ◌∙◌, refl, ap, subst, ℤ, List, Some, None}
use Rattle.std.specs.Int.{w64, cast_signed, cast_unsigned}
use Rattle.fleet_model.specs.Jobs.{JobSpec}
use Rattle.script_model.specs.Lines.Flushes.{flush_line}
use Rattle.script_model.specs.Lines.Submits.{submit_line}
use Rattle.script_model.specs.Script as model
use Rattle.script_model.specs.Script.{IsInBounds}
use Rattle.fleet_rows.specs.Row.{rows_of}
use Rattle.fleet_text.specs.Lines.{line_of, nodes_of}
use Rattle.fleet_text.specs.declared.line.Line.{Line}
use Rattle.fleet_text.specs.declared.node.NodeName.{NodeName}
use Rattle.fleet_lines.specs.Fleets.{state_of}
use Rattle.fleet_lines.specs.Lines.{RunsAlone}
use Rattle.fleet_lines.proofs.ServeLines.{claim_serves, drain_serves, full_serves, served_as, submit_serves, commit_serves, kill_coordinator_serves, poll_serves, start_coordinator_serves, stop_coordinator_serves, sweep_serves, flush_serves, heartbeat_serves, kill_worker_serves, start_worker_serves, stop_worker_serves}
use Rattle.fleet_lines.proofs.FlushAsks.{may_flush, tick_back}
use Rattle.fleet_lines.proofs.fleet.Fleet.call.Goals as goal

pub returns-in-StartCoordinator-clause-served : goal.returns-in-StartCoordinator-clause-served
returns-in-StartCoordinator-clause-served g c =
    let old = c.args.self.now in
    served_as _ c.args.number _ (model.StartCoordinator c.in-StartCoordinator.party) old c.start_coordinator.new.self c.start_coordinator.new.self _ c.start_coordinator.result (ap line_of c.in-StartCoordinator.is) refl
    (λ answer ran. start_coordinator_serves _ c.args.number old answer c.in-StartCoordinator.party c.start_coordinator.new.self ran)
    c.start_coordinator.ensures.ran

pub returns-in-KillCoordinator-clause-served : goal.returns-in-KillCoordinator-clause-served
returns-in-KillCoordinator-clause-served g c =
    let old = c.args.self.now in
    served_as _ c.args.number _ (model.KillCoordinator c.in-KillCoordinator.party) old c.end_coordinator.new.self c.end_coordinator.new.self _ c.end_coordinator.result (ap line_of c.in-KillCoordinator.is) refl
    (λ answer ran. kill_coordinator_serves _ c.args.number old answer c.in-KillCoordinator.party c.end_coordinator.new.self ran)
    c.end_coordinator.ensures.ran

pub returns-in-StopCoordinator-clause-served : goal.returns-in-StopCoordinator-clause-served
returns-in-StopCoordinator-clause-served g c =
    let old = c.args.self.now in
    served_as _ c.args.number _ (model.StopCoordinator c.in-StopCoordinator.party) old c.end_coordinator-in-StopCoordinator.new.self c.end_coordinator-in-StopCoordinator.new.self _ c.end_coordinator-in-StopCoordinator.result (ap line_of c.in-StopCoordinator.is) refl
    (λ answer ran. stop_coordinator_serves _ c.args.number old answer c.in-StopCoordinator.party c.end_coordinator-in-StopCoordinator.new.self ran)
    c.end_coordinator-in-StopCoordinator.ensures.ran

pub returns-in-Poll-clause-served : goal.returns-in-Poll-clause-served
returns-in-Poll-clause-served g c =
    let old = c.args.self.now in
    served_as _ c.args.number _ (model.Poll c.in-Poll.coordinator) old c.poll.new.self c.poll.new.self _ c.poll.result (ap line_of c.in-Poll.is) refl
    (λ answer ran. poll_serves _ c.args.number old answer c.in-Poll.coordinator c.poll.new.self ran)
    c.poll.ensures.ran

pub returns-in-Commit-clause-served : goal.returns-in-Commit-clause-served
returns-in-Commit-clause-served g c =
    let old = c.args.self.now in
    served_as _ c.args.number _ (model.CommitOnly c.in-Commit.coordinator) old c.poll-in-Commit.new.self c.poll-in-Commit.new.self _ c.poll-in-Commit.result (ap line_of c.in-Commit.is) refl
    (λ answer ran. commit_serves _ c.args.number old answer c.in-Commit.coordinator c.poll-in-Commit.new.self ran)
    c.poll-in-Commit.ensures.ran

pub returns-in-Sweep-clause-served : goal.returns-in-Sweep-clause-served
returns-in-Sweep-clause-served g c =
    let old = c.args.self.now in
    served_as _ c.args.number _ model.Sweep old c.sweep.new.self c.sweep.new.self _ c.sweep.result (ap line_of c.in-Sweep.is) refl
    (λ answer ran. sweep_serves _ c.args.number old answer c.sweep.new.self ran)
    c.sweep.ensures.ran
