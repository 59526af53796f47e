-- The line that stops a worker.
use Rattle.std.proofs.Common.{◌≡◌, refl, sym, ◌∙◌, ap, subst, ℕ, List, [], ◌∷◌, true, false, Some, Result, Err}
use Rattle.std.specs.Prelude.{◌==◌, not, find, codes}
use Rattle.row_model.specs.Fold.{Operator, IsLawful}
use Rattle.fleet_model.specs.History.{Worker, Kill}
use Rattle.fleet_model.specs.Work.Parties.{LiveWorker, Parties, without_worker}
use Rattle.step_model.specs.Rivals.{Caller}
use Rattle.step_model.specs.Courses.Course.{Ends, calls_each, then_course}
use Rattle.step_model.specs.Courses.CourseRuns.{End, Gives, MeetsFault, LacksMemory, IsLawfulCourse}
use Rattle.step_model.specs.Courses.Ran.{Ran}
use Rattle.step_model.specs.Courses.StepEnds.{StepEnd, Reports}
use Rattle.step_model.specs.Steps.BeatSteps.{release_all}
use Rattle.step_laws.proofs.RanLaws.{ran_runs}
use Rattle.course_laws.proofs.Composed.{then_ran, then_ran_struck}
use Rattle.course_laws.proofs.Releases.{releases_are_lawful}
use Rattle.script_model.specs.LineRuns.{LineEnd, LineCourse, run_line, no_such_party, line_end, step_reply}
use Rattle.script_model.specs.Lines.WorkLines.{stop_worker}
use Rattle.script_model.specs.Replies.{reply}
use Rattle.line_laws.specs.States.{FleetKeeps}
use Rattle.line_laws.proofs.Courses.{then_lawful}
use Rattle.line_laws.proofs.Lines.{caller_of}
use Rattle.line_laws.proofs.PartyLines.{own_lawful}
use Rattle.fleet_rows.specs.declared.errors.MergeOperatorError.TheVariants as merge_error
use Rattle.fleet_rows.specs.declared.errors.SlateDBError.{SlateDBError}
use Rattle.fleet_rows.specs.declared.errors.SlateDBError.TheVariants as error
use Rattle.fleet_history.specs.declared.party.Party.TheVariants as party
use Rattle.fleet_store.specs.Memory.{StoreParts}
use Rattle.fleet_worker.specs.Workers.{WorkerParts, live_of}
use Rattle.fleet_step.specs.Steps.{end_of}
use Rattle.fleet_lines.specs.Fleets.{FleetParts, Stands, options_of, parties_of, state_of}
use Rattle.fleet_lines.specs.Lines.{RunsAlone}
use Rattle.fleet_lines.specs.Steps.{Made, Noted, Says, end_reply, is_struck, note_event, released_said}
use Rattle.fleet_lines.proofs.Made.{step_run, ran_later, the_reply}
use Rattle.fleet_lines.proofs.NoteLines.{one_note, others, others_live, own_note}
use Rattle.fleet_lines.proofs.Runs.{state_at, line_gives, line_struck}
use Rattle.fleet_lines.proofs.Kept.{worker_goes}
use Rattle.fleet_lines.proofs.Standing.{still_up, some_up, is_found}
use Rattle.fleet_lines.proofs.WorkLines.{at_found}

module _ (merge : Operator) (number n : ℕ) (old : FleetParts) (w : WorkerParts) (lawful : IsLawful merge) (stands : Stands merge old) (there : find (λ (w : WorkerParts). n == w.number) old.workers ≡ Some w) where
  abbrev who : Caller
  who = caller_of merge number (Worker n)

  abbrev gone : Parties
  gone = without_worker n (parties_of old)

  abbrev ends : StepEnd (List ℕ) → LineEnd
  ends = line_end released_said (λ jobs. gone) gone

  abbrev act : LiveWorker → LineCourse
  act v = record { party = Worker n; course = then_course (release_all v) (λ end. calls_each (Kill (Worker n) ∷ []) (Ends (ends end))); struck = gone }

  abbrev course : LineCourse
  course = act (live_of w)

  is_number : n ≡ w.number
  is_number = (is_found merge old n w stands there).number

  line_lawful : IsLawfulCourse who old.store.world course.course
  line_lawful = then_lawful who (release_all (live_of w)) (λ end. calls_each (Kill (Worker n) ∷ []) (Ends (ends end))) old.store.world (releases_are_lawful who old.store.world (live_of w) (ap Worker is_number))
      (λ end new. own_lawful who (Kill (Worker n) ∷ []) (Ends (ends end)) new (own_note false (party.Worker n), tt) (λ last. tt))

  -- The worker is not live after the line, however its course ended.
  runs : (store : StoreParts) (end : End LineEnd) (answer : List ℕ) → Ran who course.course old.store.world store.world old.store.waits store.waits end
      → run_line number (state_of old) course ≡ (answer, state_at (options_of old.options) old.moment store.world store.waits gone) → RunsAlone merge number (state_of old) (stop_worker n (state_of old)) old (record old { store = store; workers = others n old.workers }) answer
  runs store end answer ran is =
      let run = ran_runs who course.course old.store.world store.world old.store.waits store.waits end ran in
      record {
        ends = ap (run_line number (state_of old)) (at_found n old w (no_such_party (state_of old)) act there) ∙ is
            ∙ ap (λ (ws : List LiveWorker). (answer, state_at (options_of old.options) old.moment store.world store.waits (record { coordinators = old.coordinators; workers = ws }))) (others_live n old.workers);
        stands = record {
          keeps = subst (λ (ws : List LiveWorker). FleetKeeps merge store.world (record { coordinators = old.coordinators; workers = ws })) (others_live n old.workers)
              (worker_goes merge number n old.store.world store.world (parties_of old) course.course end lawful stands.keeps line_lawful run);
          up = still_up old.store.world.store store.world.store (others n old.workers) (ran_later merge number (party.Worker n) course.course old.store.world store.world old.store.waits store.waits end ran)
              (some_up old.store.world.store (λ w. not (n == w.number)) old.workers stands.up);
          few = stands.few;
        };
        same_name = refl;
      }

  -- A fault struck a call of the release.
  pub stop_struck : (store : StoreParts) (result : Result (List ℕ) SlateDBError) (answer : List ℕ) → Made Reports (release_all (live_of w)) merge number (party.Worker w.number) old.store store result → is_struck result ≡ true → answer ≡ reply (codes "storefault" ∷ [])
      → RunsAlone merge number (state_of old) (stop_worker n (state_of old)) old (record old { store = store; workers = others n old.workers }) answer
  stop_struck store result answer made struck says = by result made struck
    where
      by : (result : Result (List ℕ) SlateDBError) → Made Reports (release_all (live_of w)) merge number (party.Worker w.number) old.store store result → is_struck result ≡ true → RunsAlone merge number (state_of old) (stop_worker n (state_of old)) old (record old { store = store; workers = others n old.workers }) answer
      by (Err error.StoreFault) made e =
          let made_by = subst (λ (m : ℕ). Made Reports (release_all (live_of w)) merge number (party.Worker m) old.store store (Err error.StoreFault)) (sym is_number) made in
          let ran = then_ran_struck who (release_all (live_of w)) (λ end. calls_each (Kill (Worker n) ∷ []) (Ends (ends end))) old.store.world store.world old.store.waits store.waits made_by.ran in
          runs store MeetsFault answer ran
          (line_struck merge number (options_of old.options) old.moment (parties_of old) course old.store.world store.world old.store.waits store.waits ran
          ∙ ap (λ (a : List ℕ). (a, state_at (options_of old.options) old.moment store.world store.waits gone)) (sym says))
      by result made e = absurd (cc e)

  same_parties : (end : StepEnd (List ℕ)) → (ends end).parties ≡ gone
  same_parties (Reports jobs) = refl
  same_parties end = refl

  -- The release ended otherwise, and then the worker noted that it goes.
  pub stop_runs : (mid store : StoreParts) (result : Result (List ℕ) SlateDBError) (answer : List ℕ) → Made Reports (release_all (live_of w)) merge number (party.Worker w.number) old.store mid result → is_struck result ≡ false → Says Reports released_said result answer
      → Noted merge number (party.Worker n) (note_event false (party.Worker n) ∷ []) mid store → RunsAlone merge number (state_of old) (stop_worker n (state_of old)) old (record old { store = store; workers = others n old.workers }) answer
  stop_runs mid store result answer made unstruck says noted =
      let run = step_run Reports released_said (release_all (live_of w)) merge number (party.Worker n) old.store mid result answer (subst (λ (m : ℕ). Made Reports (release_all (live_of w)) merge number (party.Worker m) old.store mid result) (sym is_number) made) says in
      by run.end (is_over result unstruck run.end run.is) run.ran run.says
    where
      is_over : (result : Result (List ℕ) SlateDBError) → is_struck result ≡ false → (end : End (StepEnd (List ℕ))) → end_of Reports result ≡ Some end → end ≡ MeetsFault → ⊥
      is_over (Err error.StoreFault) e end is struck = absurd (cc e)
      is_over (Err (error.MergeOperator (merge_error.Callback message))) e end is struck = absurd (cc (is, struck))
      is_over (Err (error.MergeOperator merge_error.EmptyBatch)) e end is struck = absurd (cc is)
      is_over (Err (error.MergeOperator merge_error.Memory)) e end is struck = absurd (cc is)
      is_over result e end is struck = absurd (cc (is, struck))

      by : (end : End (StepEnd (List ℕ))) → (end ≡ MeetsFault → ⊥) → Ran who (release_all (live_of w)) old.store.world mid.world old.store.waits mid.waits end → end_reply released_said end ≡ Some answer
          → RunsAlone merge number (state_of old) (stop_worker n (state_of old)) old (record old { store = store; workers = others n old.workers }) answer
      by (Gives end) over ran said =
          let whole = then_ran who (release_all (live_of w)) (λ end. calls_each (Kill (Worker n) ∷ []) (Ends (ends end))) old.store.world mid.world store.world end old.store.waits mid.waits store.waits (Gives (ends end)) ran
          (one_note who (Kill (Worker n)) (ends end) mid.world store.world mid.waits store.waits noted.ran) in
          runs store (Gives (ends end)) answer whole
          (line_gives merge number (options_of old.options) old.moment (parties_of old) course old.store.world store.world old.store.waits store.waits (ends end) whole
          ∙ ap (λ (a : List ℕ). (a, state_at (options_of old.options) old.moment store.world store.waits (ends end).parties)) (the_reply (step_reply released_said end) answer said)
          ∙ ap (λ (parties : Parties). (answer, state_at (options_of old.options) old.moment store.world store.waits parties)) (same_parties end))
      by MeetsFault over ran said = absurd (over refl)
      by LacksMemory over ran said = absurd (cc said)
