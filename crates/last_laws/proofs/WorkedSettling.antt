-- The worked settle line.
use Rattle.std.proofs.Common.{◌≡◌, ◌≢◌, refl, sym, ◌∙◌, ap, subst, ℕ, List, [], ◌∷◌, Bool, true, Option, None, Some, arith}
use Rattle.std.specs.Prelude.{◌==◌, not, codes, map, IsTrue}
use Rattle.std.specs.Fmt.{digits}
use Rattle.std.specs.List.{list_all, AllByRecursion}
use Rattle.hex.specs.Hex.{encode_with}
use Rattle.row_model.specs.Written.Plan.{planned_ranges}
use Rattle.row_laws.proofs.Lawful.{append_is_lawful}
use Rattle.fleet_model.specs.Jobs.{JobSpec}
use Rattle.fleet_model.specs.History.{Entry}
use Rattle.fleet_model.specs.Past.Replay.{named_specs}
use Rattle.fleet_model.specs.Work.Gates.{is_nonempty}
use Rattle.fleet_model.specs.Work.Parties.{Attempt, LiveWorker, worker_with}
use Rattle.fleet_model.specs.Work.Polls.{committed_poll}
use Rattle.step_model.specs.Steps.PollSteps.{start, poll}
use Rattle.step_model.specs.Steps.ClaimSteps.{claim}
use Rattle.step_model.specs.Steps.BeatSteps.{heartbeat, release_all}
use Rattle.step_model.specs.Steps.OutputSteps.{output}
use Rattle.step_model.specs.Steps.FinishSteps.{end_job, finish}
use Rattle.step_model.specs.Steps.SubmitSteps.{submit, submit_request}
use Rattle.step_model.specs.Steps.FlushSteps.{flush}
use Rattle.step_model.specs.Steps.SweepSteps.{sweep}
use Rattle.step_laws.proofs.Elements.{all_to, all_true_front}
use Rattle.sched_model.specs.Levels.{level_picks}
use Rattle.script_model.specs.Examples.Worked.{newline}
use Rattle.script_model.specs.Script.{Line, Settle}
use Rattle.script_model.specs.States.{Inputs, State, fresh_state}
use Rattle.script_model.specs.Defaults.{default_options}
use Rattle.script_model.specs.Follows.{LineStep, ScriptRun}
use Rattle.script_model.specs.Grammars.{full_grammar}
use Rattle.script_model.specs.LineCourses.{course_of}
use Rattle.script_model.specs.Lines.Settles.{settled_reply}
use Rattle.script_model.proofs.InBounds.{lines_fit}
use Rattle.script_model.proofs.Evaluation.{last_state, run_so}
use Rattle.line_laws.specs.Scripts.{HasRun}
use Rattle.line_laws.proofs.Scripts.{scripts_keep}
use Rattle.line_laws.proofs.Texts.{all_in_bounds}
use Rattle.last_laws.specs.Levels.{flushes_in, runs_in}
use Rattle.last_laws.specs.Settling.{HasFreeId}
use Rattle.last_laws.specs.WorkedSettling.{tight_inputs, lines_before, WorkedSettling}

-- ---- tests of premises

-- The number is not that of the greatest run.
abbrev is_other : Option ℕ → Bool
is_other None = true
is_other (Some id) = not (id == 4294967295)

other_run : (destination : Option ℕ) → is_other destination ≡ true → destination ≢ Some 4294967295
other_run destination other greatest = let never = ap is_other greatest in cc (never, other)

-- No entry names a spec of the greatest run.
abbrev names_others : Entry → Bool
names_others entry = list_all (λ (named : ℕ × JobSpec). is_other named.1.destination) (named_specs entry.event)

all_free : (history : List Entry) → list_all names_others history ≡ true → AllByRecursion (λ entry. AllByRecursion HasFreeId (named_specs entry.event)) history
all_free history others =
    all_to (λ (entry : Entry). IsTrue (names_others entry)) (λ (entry : Entry). AllByRecursion HasFreeId (named_specs entry.event)) history
    (λ entry there other. all_to (λ (named : ℕ × JobSpec). IsTrue (is_other named.1.destination)) HasFreeId (named_specs entry.event) (λ named one free. other_run named.1.destination free)
    (all_true_front (λ (named : ℕ × JobSpec). is_other named.1.destination) (named_specs entry.event) other)) (all_true_front names_others history others)

-- The worker, if it is found, runs nothing.
abbrev is_idle : Option LiveWorker → Bool
is_idle None = true
is_idle (Some w) = not (is_nonempty w.attempts)

found_idle : (found : Option LiveWorker) → is_idle found ≡ true → (w : LiveWorker) → found ≡ Some w → w.attempts ≡ []
found_idle found rests w is = by w.attempts (ap is_idle (sym is) ∙ rests)
  where
    by : (attempts : List Attempt) → not (is_nonempty attempts) ≡ true → attempts ≡ []
    by [] e = refl
    by (a ∷ attempts) e = absurd (cc e)

-- The run of one line is its step.
only_step : (inputs : Inputs) (number : ℕ) (old : State) (line : Line) (answer : List ℕ) (new : State) → ScriptRun inputs number old (line ∷ []) (answer ∷ []) new → LineStep inputs number old line answer new
only_step inputs number old line answer new (mid, step, same) = subst (LineStep inputs number old line answer) (sym same) step

-- ---- the run

-- The replies to the lines before the settle line.
replies_before : List (List ℕ)
replies_before =
    map newline
    (codes "ok"
    ∷ codes "ok"
    ∷ codes "ok epoch 1"
    ∷ codes "ok"
    ∷ codes "ok settled 2"
    ∷ codes "ok"
    ∷ codes "ok"
    ∷ codes "ok"
    ∷ [])

abbrev state_before : State
state_before = last_state tight_inputs 1 (fresh_state default_options) lines_before

abbrev state_after : State
state_after = last_state tight_inputs 9 state_before (Settle 1 1 8 ∷ [])

ran_before : HasRun tight_inputs lines_before state_before
unfolding digits encode_with planned_ranges committed_poll start poll claim heartbeat release_all output end_job finish submit submit_request flush sweep course_of level_picks replies_before
ran_before = record {
  lawful = append_is_lawful;
  in_bounds = all_in_bounds full_grammar (λ before line is. is.0) [] lines_before (lines_fit lines_before refl);
  options = default_options;
  answers = replies_before;
  run = (run_so tight_inputs 1 (fresh_state default_options) lines_before replies_before refl refl).run;
  had_room = omega arith;
}

-- The worked settle line meets each premise of the law, by computing.
pub worked_settling : WorkedSettling
unfolding digits encode_with planned_ranges committed_poll start poll claim heartbeat release_all output end_job finish submit submit_request flush sweep course_of level_picks
worked_settling = record {
  old = state_before;
  new = state_after;
  before = ran_before;
  line =
      record {
        allowed = refl;
        some_job = omega arith;
        levels = refl;
        line =
            record {
              lawful = append_is_lawful;
              keeps = scripts_keep tight_inputs lines_before state_before ran_before;
              number = 9;
              ran = only_step tight_inputs 9 state_before (Settle 1 1 8) (settled_reply 3) state_after (run_so tight_inputs 9 state_before (Settle 1 1 8 ∷ []) (settled_reply 3 ∷ []) refl refl).run;
              had_room = omega arith;
              not_refused = refl;
              some_place = let place : state_before.options.concurrent ≡ 4 = refl in omega (arith, place);
              some_slot = let slots : state_before.options.slots ≡ 4 = refl in omega (arith, slots);
              none_active = refl;
              idle = found_idle (worker_with 1 state_before.parties) refl;
              free_ids = all_free state_after.store.history refl;
            };
        enough =
            let flushes : flushes_in state_before.store.manifest.trees ≡ 3 = refl in
            let runs : runs_in state_before.store.manifest.trees ≡ 1 = refl in
            omega (arith, flushes, runs);
      };
  flushes = refl;
  runs = refl;
  root = refl;
  other = refl;
}
