-- Scripts keep the invariant: each line does, the rounds of settle lines do, and so do all lines.
use Rattle.std.proofs.Common.{◌≡◌, refl, sym, ◌∙◌, ap, subst, ℕ, zero, suc, ◌+◌, ◌≤◌, List, [], ◌∷◌, ◌++◌, Bool, true, false, cond, Option, Some, None, length, arith}
use Rattle.std.specs.Prelude.{⊤, bytes_eq}
use Rattle.fleet_model.specs.Nodes.{tree_at, tree_or_empty}
use Rattle.fleet_model.specs.Trees.{empty_segment}
use Rattle.line_laws.specs.Undrained.{flushes_in}
use Rattle.std.specs.List.{AllByRecursion}
use Rattle.row_model.specs.Fold.{Operator, IsLawful}
use Rattle.step_model.specs.Past.{fresh_world}
use Rattle.step_laws.proofs.Elements.{all_front, all_back}
use Rattle.step_laws.proofs.Fresh.{fresh_keeps}
use Rattle.script_model.specs.Script.{Line, Options, Clock, StartCoordinator, StartWorker, KillCoordinator, KillWorker, StopCoordinator, StopWorker, FlushRows, ReadKey, SubmitJob, SubmitDrain, SubmitFull, Poll, CommitOnly, ClaimJobs, Heartbeat, Output, FinishJob, SetFault, ShowTrees, ShowJobs, ShowTables, Dump, Sweep, Scan, Settle, Together, IsInBounds}
use Rattle.script_model.specs.Replies.{poll_reply, commit_reply}
use Rattle.script_model.specs.States.{Inputs, State, FleetOptions, fresh_state}
use Rattle.script_model.specs.LineRuns.{run_line}
use Rattle.script_model.specs.LineCourses.{prepared_state, course_of}
use Rattle.script_model.specs.LineSteps.{MayRefuse, OneCourse}
use Rattle.script_model.specs.Lines.Settles.{is_ok, are_live, has_active, has_added, jobs_run}
use Rattle.script_model.proofs.Rounds.{settle_unfolds, EndsOr, Step, FinishesInTurn, AfterPoll, Rounds}
use Rattle.script_model.specs.Follows.{SettleStep, LineStep, ScriptRun}
use Rattle.line_laws.specs.Alone.{HadRoom}
use Rattle.line_laws.specs.States.{StateKeeps}
use Rattle.line_laws.specs.Scripts.{FirstLinesRun, ScriptsKeep}
use Rattle.line_laws.specs.Ran.{StopsIfRefused, StepsRan, IsStepOf}
use Rattle.line_laws.proofs.AloneRuns.{alone_grows}
use Rattle.line_laws.proofs.SameLines.{flush_keeps, submit_keeps, full_keeps, sweep_keeps, polls_keep}
use Rattle.line_laws.proofs.PartyLines.{start_worker_keeps, end_coordinator_keeps, kill_worker_keeps, start_coordinator_keeps}
use Rattle.line_laws.proofs.WorkerLines.{claim_keeps, heartbeat_keeps, output_keeps, finish_keeps, stop_keeps}

-- ---- one line

-- What a line must see to, of what its bounds say.
abbrev pub IsAskedWell : Line → Type 0
IsAskedWell (FlushRows name segment floor tick rows) = IsInBounds (FlushRows name segment floor tick rows)
IsAskedWell (Output n job place rows) = 1 ≤ place
IsAskedWell line = ⊤

pub asked_well : (line : Line) → IsInBounds line → IsAskedWell line
asked_well (FlushRows name segment floor tick rows) is = is
asked_well (Output n job place rows) is = is.3
asked_well line is = tt

prepared_keeps : (merge : Operator) (line : Line) (s : State) → StateKeeps merge s → StateKeeps merge (prepared_state line s)
prepared_keeps merge (Options timeout concurrent slots ranges table_size moves retention) s k = record { past = k.past; fleet = k.fleet }
prepared_keeps merge (Clock moment) s k = record { past = k.past; fleet = k.fleet }
prepared_keeps merge (SetFault n stands) s k = record { past = k.past; fleet = k.fleet }
prepared_keeps merge line s k = k

-- A course of a line keeps the invariant if there was room, and if the line may have its refusal or none.
course_keeps : (inputs : Inputs) (number : ℕ) (line : Line) (refusal : Option (List ℕ)) (s : State) → IsLawful inputs.merge → IsAskedWell line → MayRefuse inputs line s refusal → StateKeeps inputs.merge s
    → HadRoom (run_line number s (course_of inputs line refusal s)).1.store → StateKeeps inputs.merge (run_line number s (course_of inputs line refusal s)).1
unfolding course_of
course_keeps inputs number (StartCoordinator n) refusal s lawful well may k room = start_coordinator_keeps inputs.merge number n s k lawful room
course_keeps inputs number (StartWorker n release) refusal s lawful well may k room = start_worker_keeps inputs.merge number n release s k lawful room
course_keeps inputs number (KillCoordinator n) refusal s lawful well may k room = end_coordinator_keeps inputs.merge number n s k lawful room
course_keeps inputs number (KillWorker n) refusal s lawful well may k room = kill_worker_keeps inputs.merge number n s k lawful room
course_keeps inputs number (StopCoordinator n) refusal s lawful well may k room = end_coordinator_keeps inputs.merge number n s k lawful room
course_keeps inputs number (StopWorker n) refusal s lawful well may k room = stop_keeps inputs.merge number n s k lawful room
course_keeps inputs number (FlushRows name segment floor tick rows) refusal s lawful well may k room = flush_keeps inputs.merge number name segment floor tick rows s k lawful well room
course_keeps inputs number (SubmitJob segment destination sources) refusal s lawful well may k room = submit_keeps inputs.merge number (record { segment = segment; sources = sources; destination = Some destination }) s k lawful room
course_keeps inputs number (SubmitDrain segment sources) refusal s lawful well may k room = submit_keeps inputs.merge number (record { segment = segment; sources = sources; destination = None }) s k lawful room
course_keeps inputs number (SubmitFull segment) refusal s lawful well may k room = full_keeps inputs number segment s k lawful room
course_keeps inputs number (Poll n) refusal s lawful well may k room = polls_keep inputs number false poll_reply n s k lawful room
course_keeps inputs number (CommitOnly n) refusal s lawful well may k room = polls_keep inputs number true commit_reply n s k lawful room
course_keeps inputs number (ClaimJobs n) refusal s lawful well may k room = claim_keeps inputs.merge number n s k lawful room
course_keeps inputs number (Heartbeat n) refusal s lawful well may k room = heartbeat_keeps inputs.merge number n s k lawful room
course_keeps inputs number (Output n job place rows) refusal s lawful well may k room = output_keeps inputs number n job place rows refusal s k lawful well room
course_keeps inputs number (FinishJob n job) refusal s lawful well may k room = finish_keeps inputs number n job refusal s k lawful may room
course_keeps inputs number Sweep refusal s lawful well may k room = sweep_keeps inputs.merge number s k lawful room
course_keeps inputs number (Options timeout concurrent slots ranges table_size moves retention) refusal s lawful well may k room = record { past = k.past; fleet = k.fleet }
course_keeps inputs number (Clock moment) refusal s lawful well may k room = record { past = k.past; fleet = k.fleet }
course_keeps inputs number (ReadKey segment key seq now) refusal s lawful well may k room = record { past = k.past; fleet = k.fleet }
course_keeps inputs number (SetFault n stands) refusal s lawful well may k room = record { past = k.past; fleet = k.fleet }
course_keeps inputs number ShowTrees refusal s lawful well may k room = record { past = k.past; fleet = k.fleet }
course_keeps inputs number ShowJobs refusal s lawful well may k room = record { past = k.past; fleet = k.fleet }
course_keeps inputs number (ShowTables segment node) refusal s lawful well may k room = record { past = k.past; fleet = k.fleet }
course_keeps inputs number (Dump segment node) refusal s lawful well may k room = record { past = k.past; fleet = k.fleet }
course_keeps inputs number (Scan segment from to seq now limit) refusal s lawful well may k room = record { past = k.past; fleet = k.fleet }
course_keeps inputs number (Settle coordinator worker rounds) refusal s lawful well may k room = record { past = k.past; fleet = k.fleet }
course_keeps inputs number (Together workers turns) refusal s lawful well may k room = record { past = k.past; fleet = k.fleet }

-- ---- what leads to what

-- Histories grow from the one state to the other, and the invariant stays if there was room.
pub record Leads (merge : Operator) (old new : State) : Type 0 where
  pub grows : length old.store.history ≤ length new.store.history
  pub keeps : HadRoom new.store → StateKeeps merge old → StateKeeps merge new

leads_nowhere : (merge : Operator) (old new : State) → new ≡ old → Leads merge old new
leads_nowhere merge old new same = subst (Leads merge old) (sym same) (record { grows = omega arith; keeps = λ room k. k })

leads_on : (merge : Operator) (old mid new : State) → Leads merge old mid → Leads merge mid new → Leads merge old new
leads_on merge old mid new first second =
    let low = first.grows in
    let high = second.grows in
    record { grows = omega (arith, low, high); keeps = λ room k. second.keeps room (first.keeps (omega (arith, high, room)) k) }

pub prepared_history : (line : Line) (s : State) → (prepared_state line s).store ≡ s.store
prepared_history (Options timeout concurrent slots ranges table_size moves retention) s = refl
prepared_history (Clock moment) s = refl
prepared_history (SetFault n stands) s = refl
prepared_history line s = refl

-- A course of a line makes the history no shorter, and keeps the invariant if there was room.
pub course_leads : (inputs : Inputs) (number : ℕ) (old : State) (line : Line) (answer : List ℕ) (new : State) → IsLawful inputs.merge → IsAskedWell line → OneCourse inputs number old line answer new → Leads inputs.merge old new
course_leads inputs number old line answer new lawful well one =
    let s = prepared_state line old in
    let refusal = one.does.refusal in
    let is : run_line number s (course_of inputs line refusal s) ≡ (answer, new) = ap (run_line number s) (sym one.does.is) ∙ one.ends in
    let there : (run_line number s (course_of inputs line refusal s)).1 ≡ new = ap (λ (p : List ℕ × State). p.1) is in
    subst (Leads inputs.merge old) there (record {
      grows = let c = course_of inputs line refusal s in
          let on = alone_grows number c.party c.course s.fault s.store in
          let same = ap (λ store. length (store.history)) (prepared_history line old) in
          omega (arith, on, same);
      keeps = λ room k. course_keeps inputs number line refusal s lawful well one.does.may (prepared_keeps inputs.merge line old k) room;
    })

-- ---- settle lines

-- Each of these steps took the state that the one before it left on by one course, all in the line of this number.
abbrev pub StepsRun : Inputs → ℕ → State → List Line → List ℕ → State → Type 0
StepsRun inputs number old [] answer new = new ≡ old
StepsRun inputs number old (step ∷ others) answer new = (replied : List ℕ) × (mid : State) × OneCourse inputs number old step replied mid × StopsIfRefused replied others answer × StepsRun inputs number mid others answer new

-- The steps of a settle line, from this state on.
pub record Steps (inputs : Inputs) (number coordinator worker : ℕ) (old : State) (answer : List ℕ) (new : State) : Type 0 where
  pub steps : List Line
  pub each : AllByRecursion (IsStepOf coordinator worker) steps
  pub run : StepsRun inputs number old steps answer new

abbrev no_steps : (inputs : Inputs) (number coordinator worker : ℕ) (old : State) (answer : List ℕ) (new : State) → new ≡ old → Steps inputs number coordinator worker old answer new
no_steps inputs number coordinator worker old answer new same = record { steps = []; each = tt; run = same }

step_steps : (inputs : Inputs) (number coordinator worker : ℕ) (line : Line) (old : State) (answer : List ℕ) (new : State) (Rest : State → Type 0) → IsStepOf coordinator worker line
    → ((after : State) → Rest after → Steps inputs number coordinator worker after answer new) → Step inputs number line old answer new Rest → Steps inputs number coordinator worker old answer new
step_steps inputs number coordinator worker line old answer new Rest is next step = by (is_ok step.replied) refl step.rest
  where
    first : (more : Steps inputs number coordinator worker step.after answer new) → StopsIfRefused step.replied more.steps answer → Steps inputs number coordinator worker old answer new
    first more stops = record { steps = line ∷ more.steps; each = (is, more.each); run = (step.replied, step.after, step.does, stops, more.run) }

    by : (ok : Bool) → is_ok step.replied ≡ ok → EndsOr ok step.replied step.after answer new (Rest step.after) → Steps inputs number coordinator worker old answer new
    by true e rest = first (next step.after rest) (λ refused. absurd (cc (e, refused)))
    by false e rest = first (no_steps inputs number coordinator worker step.after answer new rest.1) (λ refused. (refl, rest.0))

finishes_steps : (inputs : Inputs) (number coordinator worker : ℕ) (jobs : List ℕ) (s : State) (answer : List ℕ) (new : State) (Rest : State → Type 0) → ((after : State) → Rest after → Steps inputs number coordinator worker after answer new)
    → FinishesInTurn inputs number worker jobs s answer new Rest → Steps inputs number coordinator worker s answer new
finishes_steps inputs number coordinator worker [] s answer new Rest next rest = next s rest
finishes_steps inputs number coordinator worker (job ∷ jobs) s answer new Rest next step =
    step_steps inputs number coordinator worker (FinishJob worker job) s answer new (λ after. FinishesInTurn inputs number worker jobs after answer new Rest) refl
    (λ after rest. finishes_steps inputs number coordinator worker jobs after answer new Rest next rest) step

after_poll_steps : (active added : Bool) (inputs : Inputs) (number coordinator worker round : ℕ) (s : State) (answer : List ℕ) (new : State) (Next : State → Type 0) → ((after : State) → Next after → Steps inputs number coordinator worker after answer new)
    → AfterPoll active added inputs number worker round s answer new Next → Steps inputs number coordinator worker s answer new
after_poll_steps true added inputs number coordinator worker round s answer new Next next step =
    step_steps inputs number coordinator worker (ClaimJobs worker) s answer new (λ claimed. FinishesInTurn inputs number worker (jobs_run worker claimed) claimed answer new Next) refl
    (λ claimed rest. finishes_steps inputs number coordinator worker (jobs_run worker claimed) claimed answer new Next next rest) step
after_poll_steps false true inputs number coordinator worker round s answer new Next next rest = next s rest
after_poll_steps false false inputs number coordinator worker round s answer new Next next rest = no_steps inputs number coordinator worker s answer new rest.1

rounds_steps : (inputs : Inputs) (number coordinator worker left taken : ℕ) (s : State) (answer : List ℕ) (new : State) → Rounds inputs number coordinator worker left taken s answer new → Steps inputs number coordinator worker s answer new
rounds_steps inputs number coordinator worker zero taken s answer new rest = no_steps inputs number coordinator worker s answer new rest.1
rounds_steps inputs number coordinator worker (suc left) taken s answer new step =
    step_steps inputs number coordinator worker (Poll coordinator) s answer new
    (λ after. AfterPoll (has_active after) (has_added coordinator after) inputs number worker (taken + 1) after answer new (λ next. Rounds inputs number coordinator worker left (taken + 1) next answer new)) refl
    (λ after rest.
    after_poll_steps (has_active after) (has_added coordinator after) inputs number coordinator worker (taken + 1) after answer new (λ next. Rounds inputs number coordinator worker left (taken + 1) next answer new)
    (λ next more. rounds_steps inputs number coordinator worker left (taken + 1) next answer new more) rest) step

-- A settle line whose parties are not both live changes nothing.
refused_same : (inputs : Inputs) (number : ℕ) (old : State) (coordinator worker rounds : ℕ) (answer : List ℕ) (new : State) → OneCourse inputs number old (Settle coordinator worker rounds) answer new → new ≡ old
unfolding course_of
refused_same inputs number old coordinator worker rounds answer new one = sym (ap (λ (p : List ℕ × State). p.1) (ap (run_line number old) (sym one.does.is) ∙ one.ends))

pub settle_steps : (live : Bool) (inputs : Inputs) (number : ℕ) (old : State) (coordinator worker rounds : ℕ) (answer : List ℕ) (new : State) → SettleStep live inputs number old coordinator worker rounds answer new
    → Steps inputs number coordinator worker old answer new
settle_steps true inputs number old coordinator worker rounds answer new step = rounds_steps inputs number coordinator worker rounds 0 old answer new (settle_unfolds inputs number coordinator worker rounds old answer new step)
settle_steps false inputs number old coordinator worker rounds answer new step = no_steps inputs number coordinator worker old answer new (refused_same inputs number old coordinator worker rounds answer new step)

step_asked_well : (coordinator worker : ℕ) (line : Line) → IsStepOf coordinator worker line → IsAskedWell line
step_asked_well coordinator worker (Poll n) is = tt
step_asked_well coordinator worker (ClaimJobs n) is = tt
step_asked_well coordinator worker (FinishJob n job) is = tt
step_asked_well coordinator worker line is = absurd is

-- The steps lead to the new state, and each is a course from a state that keeps the invariant.
pub record StepsLead (inputs : Inputs) (old : State) (steps : List Line) (answer : List ℕ) (new : State) : Type 0 where
  pub leads : Leads inputs.merge old new
  pub ran : HadRoom new.store → StateKeeps inputs.merge old → StepsRan inputs old steps answer new

-- The steps of a settle line keep the invariant if there was room, and each is a course from a state that keeps it.
pub steps_lead : (inputs : Inputs) (number coordinator worker : ℕ) (old : State) (steps : List Line) (answer : List ℕ) (new : State) → IsLawful inputs.merge → AllByRecursion (IsStepOf coordinator worker) steps → StepsRun inputs number old steps answer new
    → StepsLead inputs old steps answer new
steps_lead inputs number coordinator worker old [] answer new lawful each same = record { leads = leads_nowhere inputs.merge old new same; ran = λ room k. same }
steps_lead inputs number coordinator worker old (step ∷ others) answer new lawful each (replied, mid, one, stops, more) =
    further (course_leads inputs number old step replied mid lawful (step_asked_well coordinator worker step each.0) one) (steps_lead inputs number coordinator worker mid others answer new lawful each.1 more)
  where
    further : Leads inputs.merge old mid → StepsLead inputs mid others answer new → StepsLead inputs old (step ∷ others) answer new
    further first rest = record {
      leads = leads_on inputs.merge old mid new first rest.leads;
      ran = λ room k.
          let grows = rest.leads.grows in
          let mid_room : HadRoom mid.store = omega (arith, grows, room) in
          (replied, mid, record { lawful = lawful; keeps = k; number = number; course = one; had_room = mid_room }, stops, rest.ran room (first.keeps mid_room k));
    }

settle_leads : (inputs : Inputs) (number coordinator worker : ℕ) (old : State) (answer : List ℕ) (new : State) → IsLawful inputs.merge → Steps inputs number coordinator worker old answer new → Leads inputs.merge old new
settle_leads inputs number coordinator worker old answer new lawful s = (steps_lead inputs number coordinator worker old s.steps answer new lawful s.each s.run).leads

-- ---- lines

pub line_leads : (inputs : Inputs) (number : ℕ) (old : State) (line : Line) (answer : List ℕ) (new : State) → IsLawful inputs.merge → IsInBounds line → LineStep inputs number old line answer new → Leads inputs.merge old new
line_leads inputs number old (Settle coordinator worker rounds) answer new lawful is step = settle_leads inputs number coordinator worker old answer new lawful (settle_steps (are_live coordinator worker old) inputs number old coordinator worker rounds answer new step)
line_leads inputs number old (Together workers turns) answer new lawful is step = absurd step
line_leads inputs number old line answer new lawful is step = course_leads inputs number old line answer new lawful (asked_well line is) step

pub run_leads : (inputs : Inputs) (number : ℕ) (old : State) (lines : List Line) (answers : List (List ℕ)) (new : State) → IsLawful inputs.merge → AllByRecursion IsInBounds lines → ScriptRun inputs number old lines answers new → Leads inputs.merge old new
run_leads inputs number old [] [] new lawful is run = leads_nowhere inputs.merge old new run
run_leads inputs number old (line ∷ lines) (answer ∷ answers) new lawful is (mid, step, rest) =
    leads_on inputs.merge old mid new (line_leads inputs number old line answer mid lawful is.0 step) (run_leads inputs (number + 1) mid lines answers new lawful is.1 rest)
run_leads inputs number old [] (answer ∷ answers) new lawful is run = absurd run
run_leads inputs number old (line ∷ lines) [] new lawful is run = absurd run

-- A fresh store has no flush.
pub fresh_flushes : (prefix : List ℕ) → flushes_in (tree_at prefix fresh_world.store.manifest.trees) ≡ []
fresh_flushes prefix = by (bytes_eq prefix [])
  where
    by : (b : Bool) → flushes_in (tree_or_empty (cond b (Some (empty_segment [])) None)) ≡ []
    by true = refl
    by false = refl

pub fresh_state_keeps : (merge : Operator) (options : FleetOptions) → StateKeeps merge (fresh_state options)
fresh_state_keeps merge options = record {
  past = fresh_world.past;
  fleet = record { store = fresh_keeps merge; workers = tt; coordinators = tt; workers_differ = tt; coordinators_differ = tt; none_pending = λ table. refl; finished = λ id. refl; flushes = λ specs faithful prefix. fresh_flushes prefix; counts = record { finished_once = tt; committed_once = tt; each = tt } };
}

pub scripts_keep : ScriptsKeep
scripts_keep inputs lines last run = (run_leads inputs 1 (fresh_state run.options) lines run.answers last run.lawful run.in_bounds run.run).keeps run.had_room (fresh_state_keeps inputs.merge run.options)

-- ---- the first lines

-- A run of lines, cut in two.
record CutRun (inputs : Inputs) (number : ℕ) (old : State) (first others : List Line) (answers : List (List ℕ)) (last : State) : Type 0 where
  mid : State
  front : List (List ℕ)
  back : List (List ℕ)
  both : answers ≡ front ++ back
  before : ScriptRun inputs number old first front mid
  rest : ScriptRun inputs (length first + number) mid others back last

-- A run of lines may be cut after any first lines into two runs, and the replies are cut with it.
cut_run : (inputs : Inputs) (number : ℕ) (old : State) (first others : List Line) (answers : List (List ℕ)) (last : State) → ScriptRun inputs number old (first ++ others) answers last → CutRun inputs number old first others answers last
cut_run inputs number old [] others answers last run = record { mid = old; front = []; back = answers; both = refl; before = refl; rest = subst (λ (n : ℕ). ScriptRun inputs n old others answers last) (omega arith) run }
cut_run inputs number old (line ∷ first) others [] last run = absurd run
cut_run inputs number old (line ∷ first) others (answer ∷ answers) last (mid, step, run) = further (cut_run inputs (number + 1) mid first others answers last run)
  where
    further : CutRun inputs (number + 1) mid first others answers last → CutRun inputs number old (line ∷ first) others (answer ∷ answers) last
    further c = record {
      mid = c.mid;
      front = answer ∷ c.front;
      back = c.back;
      both = ap (λ (all : List (List ℕ)). answer ∷ all) c.both;
      before = (mid, step, c.before);
      rest = subst (λ (n : ℕ). ScriptRun inputs n c.mid others c.back last) (omega arith) c.rest;
    }

-- The first lines of a run ran too, with its options and first replies, and the others from the state that they left.
pub first_lines_run : FirstLinesRun
first_lines_run inputs first others last run =
    let c = cut_run inputs 1 (fresh_state run.options) first others run.answers last run.run in
    let grows = (run_leads inputs (length first + 1) c.mid others c.back last run.lawful (all_back IsInBounds first others run.in_bounds) c.rest).grows in
    let room = run.had_room in
    record {
      mid = c.mid;
      before = record { lawful = run.lawful; in_bounds = all_front IsInBounds first others run.in_bounds; options = run.options; answers = c.front; run = c.before; had_room = omega (arith, grows, room) };
      options = refl;
      answers = c.back;
      replies = c.both;
      rest = c.rest;
    }
