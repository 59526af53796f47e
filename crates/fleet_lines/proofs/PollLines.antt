-- The lines by which a coordinator polls, or only commits.
use Rattle.std.proofs.Common.{◌≡◌, refl, sym, ◌∙◌, ap, subst, ℕ, List, [], ◌∷◌, Bool, true, false, Option, Some, None, Ok, Err}
use Rattle.std.specs.Prelude.{◌==◌, not, filter, find, is_some, map, codes}
use Rattle.std.specs.List.{insert}
use Rattle.std.proofs.lemmas.Bool.Decides.{Decides-eqb}
use Rattle.row_model.specs.Fold.{Operator, IsLawful}
use Rattle.fleet_model.specs.History.{Coordinator}
use Rattle.fleet_model.specs.Work.Parties.{LiveCoordinator, Parties, without_coordinator}
use Rattle.fleet_model.specs.Work.PollStates.{PollState}
use Rattle.step_model.specs.Rivals.{Caller}
use Rattle.step_model.specs.Fits.{CoordinatorHolds}
use Rattle.step_model.specs.Courses.CourseRuns.{End, Gives, IsLawfulCourse}
use Rattle.step_model.specs.Courses.Ran.{Ran}
use Rattle.step_model.specs.Courses.StepEnds.{StepEnd, Reports}
use Rattle.step_model.specs.Steps.PollSteps.{PollAsk, poll}
use Rattle.step_laws.proofs.Elements.{all_at}
use Rattle.step_laws.proofs.RanLaws.{ran_runs}
use Rattle.coordinator_laws.proofs.Course.{polls_are_lawful}
use Rattle.script_model.specs.Replies.{jobs_text, reply, rules_text}
use Rattle.script_model.specs.States.{Inputs}
use Rattle.script_model.specs.LineRuns.{LineCourse, run_line, step_line, line_end, no_such_party, if_some}
use Rattle.script_model.specs.Lines.PollLines.{poll_ask, polls}
use Rattle.line_laws.specs.States.{FleetKeeps}
use Rattle.line_laws.specs.Lines.PollLines.{spell_poll}
use Rattle.line_laws.proofs.Lines.{caller_of}
use Rattle.line_laws.proofs.Parties.{Found, found}
use Rattle.fleet_rows.specs.declared.errors.SlateDBError.{SlateDBError}
use Rattle.fleet_history.specs.declared.party.Party.TheVariants as party
use Rattle.fleet_store.specs.Memory.{StoreParts}
use Rattle.fleet_poll.specs.declared.report.PollReport.{PollReport}
use Rattle.fleet_text.proofs.Places.{places_of_nines}
use Rattle.fleet_coordinator.specs.Handling.{shown_of}
use Rattle.fleet_lines.specs.Fleets.{FleetParts, Stands, options_of, parties_of, state_of}
use Rattle.fleet_lines.specs.Lines.{RunsAlone}
use Rattle.fleet_lines.specs.Lists.{IsTaken}
use Rattle.fleet_lines.specs.Steps.{Made, Polled, end_reply, error_reply, report_said}
use Rattle.fleet_lines.proofs.Fails.{failed_live}
use Rattle.fleet_lines.proofs.Kept.{coordinator_goes, coordinator_stays}
use Rattle.fleet_lines.proofs.Made.{StepRun, error_says, live_after, ran_later, step_ends, step_run}
use Rattle.fleet_lines.proofs.Runs.{state_at}
use Rattle.fleet_lines.proofs.Standing.{still_up}
use Rattle.fleet_lines.proofs.Takes.{Takes, no_coordinator_runs}

-- ---- reports

-- The reply to the report of a poll is that to what the poll reached.
pub report_shown : (commits_only : Bool) (p : PollState) → report_said commits_only (shown_of p) ≡ spell_poll commits_only p
report_shown true p = refl
report_shown false p =
    ap (λ (dropped : List ℕ). reply (codes "ok"
    ∷ codes "freed" ∷ jobs_text p.freed ∷ codes "done" ∷ jobs_text p.done ∷ codes "lost" ∷ rules_text p.lost
    ∷ codes "added" ∷ jobs_text (map (λ a. a.0) p.added) ∷ codes "dropped" ∷ dropped
    ∷ codes "open" ∷ jobs_text p.opened ∷ codes "moved" ∷ jobs_text p.moved
    ∷ codes "drained" ∷ jobs_text p.drained ∷ codes "bad" ∷ rules_text p.refused ∷ [])) (places_of_nines p.dropped)

-- ---- the coordinator that a line names

is_found : (n : ℕ) (coordinators : List LiveCoordinator) (c : LiveCoordinator) → find (λ (c : LiveCoordinator). n == c.number) coordinators ≡ Some c → Found (λ (c : LiveCoordinator). n == c.number) coordinators c
is_found n coordinators c there = found (λ (c : LiveCoordinator). n == c.number) coordinators c there

-- A live coordinator fits the store.
pub live_fits : (merge : Operator) (n : ℕ) (old : FleetParts) (c : LiveCoordinator) → Stands merge old → find (λ (c : LiveCoordinator). n == c.number) old.coordinators ≡ Some c → CoordinatorHolds old.store.world c None
live_fits merge n old c stands there = all_at (λ (c : LiveCoordinator). CoordinatorHolds old.store.world c None) old.coordinators c stands.keeps.coordinators (is_found n old.coordinators c there).there

-- A poll of one that is not live.
pub no_poll_runs : (inputs : Inputs) (number n : ℕ) (commits_only : Bool) (old : FleetParts) (result : Option (ℕ × LiveCoordinator)) (coordinators : List LiveCoordinator) (answer : List ℕ) → Takes n old result coordinators → Stands inputs.merge old → is_some result ≡ false
    → answer ≡ reply (codes "nosuchparty" ∷ []) → RunsAlone inputs.merge number (state_of old) (polls commits_only (spell_poll commits_only) inputs n (state_of old)) old (record old { coordinators = coordinators }) answer
no_poll_runs inputs number n commits_only old result coordinators answer takes stands none says =
    let gone = without_coordinator n (parties_of old) in
    no_coordinator_runs n old result coordinators takes inputs.merge number
    (λ (c : LiveCoordinator). step_line (Coordinator n) (poll (poll_ask inputs (state_of old) c commits_only)) (line_end (spell_poll commits_only) (λ reached. parties_of old) gone) gone) answer stands none says

-- ---- polls

module _ (inputs : Inputs) (number n : ℕ) (commits_only : Bool) (old : FleetParts) (c : LiveCoordinator) (lawful : IsLawful inputs.merge) (stands : Stands inputs.merge old) (there : find (λ (c : LiveCoordinator). n == c.number) old.coordinators ≡ Some c) where
  abbrev who : Caller
  who = caller_of inputs.merge number (Coordinator n)

  abbrev ask : PollAsk
  ask = poll_ask inputs (state_of old) c commits_only

  abbrev gone : Parties
  gone = without_coordinator n (parties_of old)

  abbrev act : LiveCoordinator → LineCourse
  act d = step_line (Coordinator n) (poll (poll_ask inputs (state_of old) d commits_only)) (line_end (spell_poll commits_only) (λ reached. parties_of old) gone) gone

  abbrev course : LineCourse
  course = polls commits_only (spell_poll commits_only) inputs n (state_of old)

  is_number : n ≡ c.number
  is_number = (Decides-eqb n c.number).0 (is_found n old.coordinators c there).passes

  poll_lawful : IsLawfulCourse who old.store.world (poll ask)
  poll_lawful = polls_are_lawful who old.store.world c.number ask None lawful (ap Coordinator is_number) stands.keeps.store (live_fits inputs.merge n old c stands there)

  -- The poll ended so and left these coordinators.
  runs : (store : StoreParts) (end : End (StepEnd PollState)) (answer : List ℕ) (coordinators : List LiveCoordinator) → Ran who (poll ask) old.store.world store.world old.store.waits store.waits end → end_reply (spell_poll commits_only) end ≡ Some answer
      → live_after (λ reached. parties_of old) gone gone end ≡ record (parties_of old) { coordinators = coordinators } → FleetKeeps inputs.merge store.world (record (parties_of old) { coordinators = coordinators })
      → RunsAlone inputs.merge number (state_of old) course old (record old { store = store; coordinators = coordinators }) answer
  runs store end answer coordinators ran says live keeps = record {
    ends = ap (λ (o : Option LiveCoordinator). run_line number (state_of old) (if_some o (no_such_party (state_of old)) act)) there
        ∙ (step_ends inputs.merge number (options_of old.options) old.moment (parties_of old) (party.Coordinator n) (poll ask) (spell_poll commits_only) (λ reached. parties_of old) gone gone old.store.world store.world old.store.waits store.waits answer end ran says
        ∙ ap (λ (parties : Parties). (answer, state_at (options_of old.options) old.moment store.world store.waits parties)) live);
    stands = record {
      keeps = keeps;
      up = still_up old.store.world.store store.world.store old.workers (ran_later inputs.merge number (party.Coordinator n) (poll ask) old.store.world store.world old.store.waits store.waits end ran) stands.up;
      few = stands.few;
    };
    same_name = refl;
  }

  -- A poll that reports keeps the coordinator, which is put back at its place.
  pub poll_reports : (store : StoreParts) (left coordinators : List LiveCoordinator) (place : ℕ) (live : LiveCoordinator) (report : PollReport) (answer : List ℕ) → IsTaken old.coordinators place c left → Polled (poll ask) inputs.merge number c old.store store (Ok (live, report))
      → coordinators ≡ insert left place live → answer ≡ report_said commits_only report → RunsAlone inputs.merge number (state_of old) course old (record old { store = store; coordinators = coordinators }) answer
  poll_reports store left coordinators place live report answer taken polled put says =
      let end = Gives (Reports polled.reached) in
      let ran : Ran who (poll ask) old.store.world store.world old.store.waits store.waits end =
      subst (λ (m : ℕ). Ran (caller_of inputs.merge number (Coordinator m)) (poll ask) old.store.world store.world old.store.waits store.waits end) (sym is_number) polled.made.ran in
      subst (λ (cs : List LiveCoordinator). RunsAlone inputs.merge number (state_of old) course old (record old { store = store; coordinators = cs }) answer)
      (sym (put ∙ (ap (λ (d : LiveCoordinator). insert left place d) polled.same ∙ taken.back)))
      (runs store end answer old.coordinators ran (ap Some (sym (says ∙ (ap (report_said commits_only) polled.report ∙ report_shown commits_only polled.reached)))) refl
      (coordinator_stays inputs.merge number n old.store.world store.world (parties_of old) (poll ask) end lawful stands.keeps poll_lawful (ran_runs who (poll ask) old.store.world store.world old.store.waits store.waits end ran)))

  -- A poll that does not report drops it.
  pub poll_fails : (store : StoreParts) (coordinators : List LiveCoordinator) (e : SlateDBError) (answer : List ℕ) → Polled (poll ask) inputs.merge number c old.store store (Err e) → coordinators ≡ filter (λ (c : LiveCoordinator). not (n == c.number)) old.coordinators → error_reply e ≡ Some answer
      → RunsAlone inputs.merge number (state_of old) course old (record old { store = store; coordinators = coordinators }) answer
  poll_fails store coordinators e answer polled left says =
      let run : StepRun (λ (done : LiveCoordinator × PollReport). Reports polled.reached) (spell_poll commits_only) (poll ask) inputs.merge number (party.Coordinator n) old.store store (Err e) answer =
      step_run (λ (done : LiveCoordinator × PollReport). Reports polled.reached) (spell_poll commits_only) (poll ask) inputs.merge number (party.Coordinator n) old.store store (Err e) answer
      (subst (λ (m : ℕ). Made (λ (done : LiveCoordinator × PollReport). Reports polled.reached) (poll ask) inputs.merge number (party.Coordinator m) old.store store (Err e)) (sym is_number) polled.made)
      (error_says (λ (done : LiveCoordinator × PollReport). Reports polled.reached) (spell_poll commits_only) e answer says) in
      subst (λ (cs : List LiveCoordinator). RunsAlone inputs.merge number (state_of old) course old (record old { store = store; coordinators = cs }) answer) (sym left)
      (runs store run.end answer (filter (λ (c : LiveCoordinator). not (n == c.number)) old.coordinators) run.ran run.says
      (failed_live (λ (done : LiveCoordinator × PollReport). Reports polled.reached) (λ reached. parties_of old) gone e run.end run.is)
      (coordinator_goes inputs.merge number n old.store.world store.world (parties_of old) (poll ask) run.end lawful stands.keeps poll_lawful (ran_runs who (poll ask) old.store.world store.world old.store.waits store.waits run.end run.ran)))
