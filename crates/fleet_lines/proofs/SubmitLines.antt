-- The lines that submit jobs.
use Rattle.std.proofs.Common.{◌≡◌, refl, sym, ◌∙◌, ap, subst, ℕ, List, [], ◌∷◌, Option, Result, Ok, Err}
use Rattle.std.specs.Prelude.{codes, IfOk}
use Rattle.row_model.specs.Fold.{Operator, IsLawful}
use Rattle.fleet_model.specs.Jobs.{JobSpec}
use Rattle.fleet_model.specs.Work.Parties.{Parties}
use Rattle.fleet_model.specs.Work.Scheduler.{Request, Scheduler}
use Rattle.step_model.specs.Courses.Course.{Course}
use Rattle.step_model.specs.Courses.CourseRuns.{End, Gives, MeetsFault, LacksMemory, IsLawfulCourse}
use Rattle.step_model.specs.Courses.StepEnds.{StepEnd, Reports}
use Rattle.step_model.specs.Steps.SubmitSteps.{submit, submit_request}
use Rattle.step_laws.proofs.RanLaws.{ran_runs}
use Rattle.commit_laws.proofs.AllCalls.{calls_keep}
use Rattle.course_laws.proofs.Submits.{submits_are_lawful}
use Rattle.script_model.specs.Lines.Submits.{submits, submit_line, full_line, request_of}
use Rattle.script_model.specs.States.{Inputs}
use Rattle.fleet_model.specs.History.{Submitter}
use Rattle.line_laws.proofs.Lines.{caller_of}
use Rattle.line_laws.proofs.Steps.{same_either}
use Rattle.fleet_rows.specs.declared.errors.SlateDBError.{SlateDBError}
use Rattle.fleet_history.specs.declared.party.Party.TheVariants as party
use Rattle.fleet_store.specs.Memory.{StoreParts}
use Rattle.fleet_lines.specs.Fleets.{FleetParts, Stands, options_of, parties_of, state_of}
use Rattle.fleet_lines.specs.Lines.{RunsAlone}
use Rattle.fleet_lines.specs.Steps.{Made, Says, jobs_said}
use Rattle.fleet_lines.proofs.Made.{step_run, step_ends, live_after, ran_later}
use Rattle.fleet_lines.proofs.Runs.{state_at}
use Rattle.fleet_lines.proofs.Kept.{submitter_keeps}
use Rattle.fleet_lines.proofs.Standing.{still_up}

-- The same parties are live after a step, however it ends.
pub all_live : {A : Type 0} (parties : Parties) (end : End (StepEnd A)) → live_after (λ (report : A). parties) parties parties end ≡ parties
all_live parties (Gives end) = same_either parties end
all_live parties MeetsFault = refl
all_live parties LacksMemory = refl

-- A line that does a lawful step of the submitter.
submitter_runs : (merge : Operator) (number : ℕ) (word : List ℕ) (step : Course (StepEnd (List ℕ))) (old : FleetParts) (store : StoreParts) (result : Result (List ℕ) SlateDBError) (answer : List ℕ) → IsLawful merge → Stands merge old
    → IsLawfulCourse (caller_of merge number Submitter) old.store.world step → Made Reports step merge number party.Submitter old.store store result → Says Reports (jobs_said word) result answer
    → RunsAlone merge number (state_of old) (submits (state_of old) word step) old (record old { store = store }) answer
submitter_runs merge number word step old store result answer lawful stands is made says =
    let run = step_run Reports (jobs_said word) step merge number party.Submitter old.store store result answer made says in
    record {
      ends =
          step_ends merge number (options_of old.options) old.moment (parties_of old) party.Submitter step (jobs_said word) (λ jobs. parties_of old) (parties_of old) (parties_of old) old.store.world store.world old.store.waits store.waits answer run.end run.ran run.says
          ∙ ap (λ (parties : Parties). (answer, state_at (options_of old.options) old.moment store.world store.waits parties)) (all_live (parties_of old) run.end);
      stands = record {
        keeps = submitter_keeps merge number old.store.world store.world (parties_of old) step run.end lawful stands.keeps is (ran_runs (caller_of merge number Submitter) step old.store.world store.world old.store.waits store.waits run.end run.ran);
        up = still_up old.store.world.store store.world.store old.workers (ran_later merge number party.Submitter step old.store.world store.world old.store.waits store.waits run.end run.ran) stands.up;
        few = stands.few;
      };
      same_name = refl;
    }

pub submit_runs : (merge : Operator) (number : ℕ) (specs : List JobSpec) (spec : JobSpec) (old : FleetParts) (store : StoreParts) (result : Result (List ℕ) SlateDBError) (answer : List ℕ) → IsLawful merge → Stands merge old → specs ≡ spec ∷ []
    → Made Reports (submit old.moment specs) merge number party.Submitter old.store store result → Says Reports (jobs_said (codes "job")) result answer
    → RunsAlone merge number (state_of old) (submit_line spec (state_of old)) old (record old { store = store }) answer
submit_runs merge number specs spec old store result answer lawful stands one made says =
    submitter_runs merge number (codes "job") (submit old.moment (spec ∷ [])) old store result answer lawful stands
    ((submits_are_lawful (caller_of merge number Submitter) old.store.world).submits old.moment (spec ∷ []) (calls_keep merge lawful) stands.keeps.store refl)
    (subst (λ (specs : List JobSpec). Made Reports (submit old.moment specs) merge number party.Submitter old.store store result) one made) says

pub full_runs : (inputs : Inputs) (number : ℕ) (segment : Option (List ℕ)) (old : FleetParts) (store : StoreParts) (result : Result (List ℕ) SlateDBError) (answer : List ℕ) → IsLawful inputs.merge → Stands inputs.merge old
    → Made Reports (submit_request old.moment inputs.scheduler (request_of segment)) inputs.merge number party.Submitter old.store store result → Says Reports (jobs_said (codes "jobs")) result answer
    → RunsAlone inputs.merge number (state_of old) (full_line inputs segment (state_of old)) old (record old { store = store }) answer
full_runs inputs number segment old store result answer lawful stands made says =
    submitter_runs inputs.merge number (codes "jobs") (submit_request old.moment inputs.scheduler (request_of segment)) old store result answer lawful stands
    ((submits_are_lawful (caller_of inputs.merge number Submitter) old.store.world).requests old.moment inputs.scheduler (request_of segment) (calls_keep inputs.merge lawful) stands.keeps.store refl) made says

-- The same for the code's reply, if the fleet is seen so.
pub full_said : (merge : Operator) (scheduler : Scheduler) (number : ℕ) (segment : Option (List ℕ)) (request : Request) (old seen : FleetParts) (store : StoreParts) (result said : Result (List ℕ) SlateDBError) → IsLawful merge → Stands merge old → seen ≡ old → request ≡ request_of segment
    → Made Reports (submit_request seen.moment scheduler request) merge number party.Submitter seen.store store result → IfOk said (Says Reports (jobs_said (codes "jobs")) result)
    → IfOk said (RunsAlone merge number (state_of old) (full_line (record { merge = merge; scheduler = scheduler }) segment (state_of old)) old (record seen { store = store }))
full_said merge scheduler number segment request old seen store result (Err e) lawful stands same asks made says = tt
full_said merge scheduler number segment request old seen store result (Ok answer) lawful stands same asks made says =
    subst (λ (f : FleetParts). RunsAlone merge number (state_of old) (full_line (record { merge = merge; scheduler = scheduler }) segment (state_of old)) old (record f { store = store }) answer) (sym same)
    (full_runs (record { merge = merge; scheduler = scheduler }) number segment old store result answer lawful stands
    (subst (λ (r : Request). Made Reports (submit_request old.moment scheduler r) merge number party.Submitter old.store store result) asks
    (subst (λ (f : FleetParts). Made Reports (submit_request f.moment scheduler request) merge number party.Submitter f.store store result) same made)) says)
