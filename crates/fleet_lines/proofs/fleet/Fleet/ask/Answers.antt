use Rattle.std.proofs.Common.{rules, ◌∙◌, refl, ap, subst, ℤ, List, Some, None}
use Rattle.std.specs.Int.{w64, cast_signed, cast_unsigned}
use Rattle.fleet_model.specs.Jobs.{JobSpec}
use Rattle.script_model.specs.Lines.Flushes.{flush_line}
use Rattle.script_model.specs.Lines.Submits.{submit_line}
use Rattle.script_model.specs.Script as model
use Rattle.script_model.specs.Script.{IsInBounds}
use Rattle.fleet_rows.specs.Row.{rows_of}
use Rattle.fleet_text.specs.Lines.{line_of, nodes_of}
use Rattle.fleet_text.specs.declared.line.Line.{Line}
use Rattle.fleet_text.specs.declared.node.NodeName.{NodeName}
use Rattle.fleet_lines.specs.Fleets.{state_of}
use Rattle.fleet_lines.specs.Lines.{RunsAlone}
use Rattle.fleet_lines.proofs.ServeLines.{claim_serves, drain_serves, full_serves, served_as, submit_serves, commit_serves, kill_coordinator_serves, poll_serves, start_coordinator_serves, stop_coordinator_serves, flush_serves, heartbeat_serves, kill_worker_serves, start_worker_serves, stop_worker_serves}
use Rattle.fleet_lines.proofs.FlushAsks.{may_flush, tick_back}
use Rattle.fleet_lines.proofs.fleet.Fleet.ask.Goals as goal

pub flush-requires-clause-may : goal.flush-requires-clause-may
flush-requires-clause-may g c = λ κs held.
    may_flush c.in-Flush.name c.in-Flush.segment c.in-Flush.floor c.in-Flush.tick (cast_signed w64 (cast_unsigned w64 c.in-Flush.tick)) (rows_of c.in-Flush.rows) (subst (λ (l : Line). IsInBounds (line_of l)) c.in-Flush.is c.requires.bounds)

pub returns-in-Flush-clause-served : goal.returns-in-Flush-clause-served
returns-in-Flush-clause-served g c =
    let old = c.args.self.now in
    let i = c.in-Flush in
    let bounds = subst (λ (l : Line). IsInBounds (line_of l)) c.in-Flush.is c.requires.bounds in
    served_as _ c.args.number _ (model.FlushRows i.name i.segment i.floor i.tick (rows_of i.rows)) old c.flush.new.self c.flush.new.self _ c.flush.result (ap line_of i.is) refl
    (λ answer ran. flush_serves _ c.args.number old answer i.name i.segment i.floor i.tick (rows_of i.rows) c.flush.new.self
    (subst (λ (t : ℤ). RunsAlone (g.O.MergeOperator.merged (g.O.MergeOperator.settings c.args.operator.now)) c.args.number (state_of old) (flush_line i.name i.segment i.floor t (rows_of i.rows) (state_of old)) old c.flush.new.self answer) (tick_back i.tick bounds.3) ran))
    c.flush.ensures.ran

pub returns-in_ok-spec-in-Submit-clause-served : goal.returns-in_ok-spec-in-Submit-clause-served
returns-in_ok-spec-in-Submit-clause-served g c =
    let old = c.args.self.now in
    let i = c.in-Submit in
    served_as _ c.args.number _ (model.SubmitJob i.segment i.destination (nodes_of i.sources)) old c.submit.new.self c.submit.new.self _ c.submit.result (ap line_of i.is) refl
    (λ answer ran. submit_serves _ c.args.number old answer i.segment i.destination (nodes_of i.sources) c.submit.new.self
    (subst (λ (spec : JobSpec). RunsAlone (g.O.MergeOperator.merged (g.O.MergeOperator.settings c.args.operator.now)) c.args.number (state_of old) (submit_line spec (state_of old)) old c.submit.new.self answer)
    (c.in_ok-spec-in-Submit.ensures.spec ∙ ap (λ (nodes : List NodeName). record { segment = i.segment; sources = nodes_of nodes; destination = Some i.destination }) (search rules)) ran))
    c.submit.ensures.ran

pub returns-in_ok-spec-in-Drain-clause-served : goal.returns-in_ok-spec-in-Drain-clause-served
returns-in_ok-spec-in-Drain-clause-served g c =
    let old = c.args.self.now in
    let i = c.in-Drain in
    served_as _ c.args.number _ (model.SubmitDrain i.segment (nodes_of i.sources)) old c.submit-in-Drain.new.self c.submit-in-Drain.new.self _ c.submit-in-Drain.result (ap line_of i.is) refl
    (λ answer ran. drain_serves _ c.args.number old answer i.segment (nodes_of i.sources) c.submit-in-Drain.new.self
    (subst (λ (spec : JobSpec). RunsAlone (g.O.MergeOperator.merged (g.O.MergeOperator.settings c.args.operator.now)) c.args.number (state_of old) (submit_line spec (state_of old)) old c.submit-in-Drain.new.self answer)
    (c.in_ok-spec-in-Drain.ensures.spec ∙ ap (λ (nodes : List NodeName). record { segment = i.segment; sources = nodes_of nodes; destination = None }) (search rules)) ran))
    c.submit-in-Drain.ensures.ran

pub returns-in-Full-clause-served : goal.returns-in-Full-clause-served
returns-in-Full-clause-served g c =
    let old = c.args.self.now in
    served_as _ c.args.number _ (model.SubmitFull c.in-Full.segment) old c.full.new.self c.full.new.self _ c.full.result (ap line_of c.in-Full.is) refl
    (λ answer ran. full_serves _ c.args.number old answer c.in-Full.segment c.full.new.self ran)
    c.full.ensures.ran
