-- The run of a line's course serves the line.
use Rattle.std.proofs.Common.{◌≡◌, refl, sym, ◌∙◌, ap, subst, ℕ, List, true, false, Option, Some, None, Result, Ok, Err, arith}
use Rattle.std.specs.Prelude.{ℤ, Bool, IfOk, drop, length, max}
use Rattle.std.specs.Option.{unwrap_or}
use Rattle.row_model.specs.Rows.{Row}
use Rattle.fleet_model.specs.Nodes.{NodeName, node_named, tree_at}
use Rattle.script_model.specs.Lines.Flushes.{flush_line}
use Rattle.script_model.specs.Lines.Looks.{dump_reply}
use Rattle.line_laws.specs.Lines.PollLines.{spell_poll}
use Rattle.script_model.specs.Lines.PollLines.{polls}
use Rattle.script_model.specs.Lines.Starts.{start_coordinator, start_worker, end_coordinator, kill_worker}
use Rattle.script_model.specs.Lines.Submits.{submit_line, full_line}
use Rattle.script_model.specs.Lines.Sweeps.{sweep_line}
use Rattle.script_model.specs.Lines.WorkLines.{claim_line, heartbeat_line, stop_worker}
use Rattle.script_model.specs.Replies.{absent_reply, jobs_reply, ok, tables_reply, trees_reply}
use Rattle.script_model.specs.Script.{Line, Options, Clock, StartCoordinator, StartWorker, KillCoordinator, KillWorker, StopCoordinator, StopWorker, FlushRows, SubmitJob, SubmitDrain, SubmitFull, ClaimJobs, Heartbeat, SetFault, ShowTrees, ShowJobs, ShowTables, Dump, Sweep, IsInBounds, Poll, CommitOnly, ReadKey, Scan}
use Rattle.script_model.specs.States.{Inputs, State}
use Rattle.script_model.specs.LineRuns.{LineCourse, if_some, only_replies}
use Rattle.script_model.specs.LineCourses.{prepared_state, course_of}
use Rattle.script_model.specs.LineSteps.{MayRefuse}
use Rattle.fleet_rows.specs.declared.errors.SlateDBError.{SlateDBError}
use Rattle.step_model.specs.Entries.{last_name}
use Rattle.fleet_history.specs.Entries.{history_of}
use Rattle.fleet_history.specs.declared.entry.HistoryEntry.{HistoryEntry}
use Rattle.fleet_lines.specs.Fleets.{FleetParts, IsServing, Stands, state_of}
use Rattle.fleet_lines.specs.Lines.{RunsAlone, Serves}
use Rattle.fleet_looks.specs.Looks.{read_said, scan_said}
use Rattle.fleet_lines.proofs.NamesAfter.{named_after}

-- A line whose course ran.
serves : (inputs : Inputs) (number : ℕ) (line : Line) (old new : FleetParts) (answer : List ℕ) (course : LineCourse) → MayRefuse inputs line (prepared_state line (state_of old)) None → course ≡ course_of inputs line None (prepared_state line (state_of old))
    → RunsAlone inputs.merge number (prepared_state line (state_of old)) course old new answer → Serves inputs number line old new answer
serves inputs number line old new answer course may is runs = record {
  course = record { course = course; does = record { refusal = None; may = may; is = is }; ends = runs.ends };
  stands = runs.stands;
  same_name = runs.same_name;
}

-- A line that only replies.
replies : (inputs : Inputs) (number : ℕ) (line : Line) (old new : FleetParts) (said answer : List ℕ) → MayRefuse inputs line (prepared_state line (state_of old)) None
    → only_replies (prepared_state line (state_of old)) said ≡ course_of inputs line None (prepared_state line (state_of old)) → state_of new ≡ prepared_state line (state_of old) → Stands inputs.merge new → new.last_name ≡ old.last_name → answer ≡ said → Serves inputs number line old new answer
replies inputs number line old new said answer may is state stands same says =
    serves inputs number line old new answer (only_replies (prepared_state line (state_of old)) said) may is
    (record { ends = ap (λ (a : List ℕ). (a, prepared_state line (state_of old))) (sym says) ∙ ap (λ (s : State). (answer, s)) (sym state); stands = stands; same_name = same })

-- A line of the program serves as the line of the model that it is.
pub served_as : (inputs : Inputs) (number : ℕ) (line is : Line) (old new last : FleetParts) (P : List ℕ → Type 0) (result : Result (List ℕ) SlateDBError) → line ≡ is → new ≡ last → ((answer : List ℕ) → P answer → Serves inputs number is old last answer) → IfOk result P
    → IfOk result (Serves inputs number line old new)
served_as inputs number line is old new last P (Err e) same leaves serves says = tt
served_as inputs number line is old new last P (Ok answer) same leaves serves says =
    subst (λ (f : FleetParts). Serves inputs number line old f answer) (sym leaves) (subst (λ (l : Line). Serves inputs number l old last answer) (sym same) (serves answer says))

module _ (inputs : Inputs) (number : ℕ) (old : FleetParts) (answer : List ℕ) where
  -- ---- lines that set something

  pub clock_serves : (moment : ℕ) → Stands inputs.merge old → answer ≡ ok → Serves inputs number (Clock moment) old (record old { moment = moment }) answer
  unfolding course_of
  clock_serves moment stands says = replies inputs number (Clock moment) old (record old { moment = moment }) ok answer refl refl refl (record { keeps = stands.keeps; up = stands.up; few = stands.few }) refl says

  pub fault_serves : (k : ℕ) (lasts : Bool) → Stands inputs.merge old → answer ≡ ok → Serves inputs number (SetFault k lasts) old (record old { store = record old.store { waits = Some (record { k = k; stands = lasts }) } }) answer
  unfolding course_of
  fault_serves k lasts stands says = replies inputs number (SetFault k lasts) old (record old { store = record old.store { waits = Some (record { k = k; stands = lasts }) } }) ok answer refl refl refl (record { keeps = stands.keeps; up = stands.up; few = stands.few }) refl says

  -- A line of options is served by setting the fleet's options to its own.
  pub options_serves : (timeout concurrent slots ranges table_size : ℕ) (moves : Bool) (retention : Option ℕ) → Stands inputs.merge old → IsInBounds (Options timeout concurrent slots ranges table_size moves retention) → answer ≡ ok
      → Serves inputs number (Options timeout concurrent slots ranges table_size moves retention) old (record old {
        options = record {
          compactor = record {
            max_concurrent_compactions = concurrent;
            worker_heartbeat_timeout_ms = timeout;
            enable_trivial_move = moves;
            scheduler_options = old.options.compactor.scheduler_options;
          };
          worker = record {
            max_concurrent_compactions = slots;
            max_subcompactions = ranges;
            max_sst_size = table_size;
            retention_ms = unwrap_or retention 0;
          };
        };
      }) answer
  unfolding course_of
  options_serves timeout concurrent slots ranges table_size moves retention stands bounds says =
      let low = bounds.3 in
      replies inputs number (Options timeout concurrent slots ranges table_size moves retention) old _ ok answer refl refl refl (record { keeps = stands.keeps; up = stands.up; few = omega (arith, low) }) refl says

  -- ---- lines that look

  pub trees_serves : Stands inputs.merge old → answer ≡ trees_reply old.store.world.store.manifest.trees → Serves inputs number ShowTrees old old answer
  unfolding course_of
  trees_serves stands says = replies inputs number ShowTrees old old (trees_reply old.store.world.store.manifest.trees) answer refl refl refl stands refl says

  pub jobs_serves : Stands inputs.merge old → answer ≡ if_some old.store.world.store.records absent_reply (λ records. jobs_reply records.jobs) → Serves inputs number ShowJobs old old answer
  unfolding course_of
  jobs_serves stands says = replies inputs number ShowJobs old old (if_some old.store.world.store.records absent_reply (λ records. jobs_reply records.jobs)) answer refl refl refl stands refl says

  pub tables_serves : (segment : List ℕ) (node : NodeName) → Stands inputs.merge old → answer ≡ tables_reply old.store.world.store.tables (node_named node (tree_at segment old.store.world.store.manifest.trees)) → Serves inputs number (ShowTables segment node) old old answer
  unfolding course_of
  tables_serves segment node stands says =
      replies inputs number (ShowTables segment node) old old (tables_reply old.store.world.store.tables (node_named node (tree_at segment old.store.world.store.manifest.trees))) answer refl refl refl stands refl says

  pub read_serves : (segment key : List ℕ) (seq : ℕ) (now : ℤ) → Stands inputs.merge old → answer ≡ read_said inputs.merge old.store.world.store segment key seq now → Serves inputs number (ReadKey segment key seq now) old old answer
  unfolding course_of
  read_serves segment key seq now stands says = replies inputs number (ReadKey segment key seq now) old old (read_said inputs.merge old.store.world.store segment key seq now) answer refl refl refl stands refl says

  pub scan_serves : (segment from to : List ℕ) (seq : ℕ) (now : ℤ) (limit : ℕ) → Stands inputs.merge old → answer ≡ scan_said inputs.merge old.store.world.store segment from to seq now limit → Serves inputs number (Scan segment from to seq now limit) old old answer
  unfolding course_of
  scan_serves segment from to seq now limit stands says =
      replies inputs number (Scan segment from to seq now limit) old old (scan_said inputs.merge old.store.world.store segment from to seq now limit) answer refl refl refl stands refl says

  pub dump_serves : (segment : List ℕ) (node : NodeName) → Stands inputs.merge old → answer ≡ dump_reply old.store.world.store.tables (node_named node (tree_at segment old.store.world.store.manifest.trees)) → Serves inputs number (Dump segment node) old old answer
  unfolding course_of
  dump_serves segment node stands says =
      replies inputs number (Dump segment node) old old (dump_reply old.store.world.store.tables (node_named node (tree_at segment old.store.world.store.manifest.trees))) answer refl refl refl stands refl says

  -- ---- lines that do a step

  pub flush_serves : (name : ℕ) (segment : List ℕ) (floor : ℕ) (tick : ℤ) (rows : List Row) (new : FleetParts) → RunsAlone inputs.merge number (state_of old) (flush_line name segment floor tick rows (state_of old)) old new answer → Serves inputs number (FlushRows name segment floor tick rows) old new answer
  unfolding course_of
  flush_serves name segment floor tick rows new runs = serves inputs number (FlushRows name segment floor tick rows) old new answer _ refl refl runs

  pub submit_serves : (segment : List ℕ) (destination : ℕ) (sources : List NodeName) (new : FleetParts) → RunsAlone inputs.merge number (state_of old) (submit_line (record { segment = segment; sources = sources; destination = Some destination }) (state_of old)) old new answer → Serves inputs number (SubmitJob segment destination sources) old new answer
  unfolding course_of
  submit_serves segment destination sources new runs = serves inputs number (SubmitJob segment destination sources) old new answer _ refl refl runs

  pub drain_serves : (segment : List ℕ) (sources : List NodeName) (new : FleetParts) → RunsAlone inputs.merge number (state_of old) (submit_line (record { segment = segment; sources = sources; destination = None }) (state_of old)) old new answer → Serves inputs number (SubmitDrain segment sources) old new answer
  unfolding course_of
  drain_serves segment sources new runs = serves inputs number (SubmitDrain segment sources) old new answer _ refl refl runs

  pub full_serves : (segment : Option (List ℕ)) (new : FleetParts) → RunsAlone inputs.merge number (state_of old) (full_line inputs segment (state_of old)) old new answer → Serves inputs number (SubmitFull segment) old new answer
  unfolding course_of
  full_serves segment new runs = serves inputs number (SubmitFull segment) old new answer _ refl refl runs

  pub start_coordinator_serves : (n : ℕ) (new : FleetParts) → RunsAlone inputs.merge number (state_of old) (start_coordinator n (state_of old)) old new answer → Serves inputs number (StartCoordinator n) old new answer
  unfolding course_of
  start_coordinator_serves n new runs = serves inputs number (StartCoordinator n) old new answer _ refl refl runs

  pub poll_serves : (n : ℕ) (new : FleetParts) → RunsAlone inputs.merge number (state_of old) (polls false (spell_poll false) inputs n (state_of old)) old new answer → Serves inputs number (Poll n) old new answer
  unfolding course_of
  poll_serves n new runs = serves inputs number (Poll n) old new answer _ refl refl runs

  pub commit_serves : (n : ℕ) (new : FleetParts) → RunsAlone inputs.merge number (state_of old) (polls true (spell_poll true) inputs n (state_of old)) old new answer → Serves inputs number (CommitOnly n) old new answer
  unfolding course_of
  commit_serves n new runs = serves inputs number (CommitOnly n) old new answer _ refl refl runs

  pub sweep_serves : (new : FleetParts) → RunsAlone inputs.merge number (state_of old) (sweep_line (state_of old)) old new answer → Serves inputs number Sweep old new answer
  unfolding course_of
  sweep_serves new runs = serves inputs number Sweep old new answer _ refl refl runs

  pub start_worker_serves : (n : ℕ) (release : Option ℕ) (new : FleetParts) → RunsAlone inputs.merge number (state_of old) (start_worker n release (state_of old)) old new answer → Serves inputs number (StartWorker n release) old new answer
  unfolding course_of
  start_worker_serves n release new runs = serves inputs number (StartWorker n release) old new answer _ refl refl runs

  pub kill_coordinator_serves : (n : ℕ) (new : FleetParts) → RunsAlone inputs.merge number (state_of old) (end_coordinator n (state_of old)) old new answer → Serves inputs number (KillCoordinator n) old new answer
  unfolding course_of
  kill_coordinator_serves n new runs = serves inputs number (KillCoordinator n) old new answer _ refl refl runs

  pub stop_coordinator_serves : (n : ℕ) (new : FleetParts) → RunsAlone inputs.merge number (state_of old) (end_coordinator n (state_of old)) old new answer → Serves inputs number (StopCoordinator n) old new answer
  unfolding course_of
  stop_coordinator_serves n new runs = serves inputs number (StopCoordinator n) old new answer _ refl refl runs

  pub kill_worker_serves : (n : ℕ) (new : FleetParts) → RunsAlone inputs.merge number (state_of old) (kill_worker n (state_of old)) old new answer → Serves inputs number (KillWorker n) old new answer
  unfolding course_of
  kill_worker_serves n new runs = serves inputs number (KillWorker n) old new answer _ refl refl runs

  pub stop_worker_serves : (n : ℕ) (new : FleetParts) → RunsAlone inputs.merge number (state_of old) (stop_worker n (state_of old)) old new answer → Serves inputs number (StopWorker n) old new answer
  unfolding course_of
  stop_worker_serves n new runs = serves inputs number (StopWorker n) old new answer _ refl refl runs

  pub heartbeat_serves : (n : ℕ) (new : FleetParts) → RunsAlone inputs.merge number (state_of old) (heartbeat_line n (state_of old)) old new answer → Serves inputs number (Heartbeat n) old new answer
  unfolding course_of
  heartbeat_serves n new runs = serves inputs number (Heartbeat n) old new answer _ refl refl runs

  pub claim_serves : (n : ℕ) (new : FleetParts) → RunsAlone inputs.merge number (state_of old) (claim_line n (state_of old)) old new answer → Serves inputs number (ClaimJobs n) old new answer
  unfolding course_of
  claim_serves n new runs = serves inputs number (ClaimJobs n) old new answer _ refl refl runs

-- ---- after the line

-- The fleet may run the next line, once it knows the greatest name after this one.
pub serving_after : (inputs : Inputs) (number : ℕ) (line : Line) (old new seen : FleetParts) (answer : List ℕ) (before after : List HistoryEntry) (name : ℕ) → IsServing inputs.merge old → Serves inputs number line old new answer → seen ≡ new → history_of before ≡ old.store.world.store.history
    → history_of after ≡ seen.store.world.store.history → name ≡ max seen.last_name (last_name (history_of (drop (length before) after))) → IsServing inputs.merge (record seen { last_name = name })
serving_after inputs number line old new seen answer before after name serving served same were are is =
    let stands = subst (Stands inputs.merge) (sym same) served.stands in
    record {
      stands = record { keeps = stands.keeps; up = stands.up; few = stands.few };
      named =
          named_after inputs number (state_of old) line answer (state_of new) before after served.course were (are ∙ ap (λ (f : FleetParts). f.store.world.store.history) same) seen.last_name name (ap (λ (f : FleetParts). f.last_name) same ∙ (served.same_name ∙ serving.named)) is
          ∙ ap (λ (f : FleetParts). last_name f.store.world.store.history) (sym same);
    }
