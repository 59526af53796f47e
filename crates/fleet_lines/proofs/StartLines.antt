-- The line that starts a coordinator.
use Rattle.std.proofs.Common.{◌≡◌, refl, sym, ◌∙◌, ap, subst, ℕ, List, [], ◌∷◌, Bool, true, Some, None, Result, Ok, Err}
use Rattle.std.specs.Prelude.{⊤, ◌==◌, not, filter, find, is_some, codes}
use Rattle.std.specs.List.{AllByRecursion}
use Rattle.row_model.specs.Fold.{Operator, IsLawful}
use Rattle.fleet_model.specs.History.{Coordinator, Start, Event}
use Rattle.fleet_model.specs.Work.Parties.{LiveCoordinator, Parties, without_coordinator, with_coordinator}
use Rattle.step_model.specs.Past.{World}
use Rattle.step_model.specs.Rivals.{Caller}
use Rattle.step_model.specs.Kept.Keeps.{Keeps}
use Rattle.step_model.specs.Fits.{CoordinatorHolds}
use Rattle.step_model.specs.Courses.Course.{Course, Ends, calls_each}
use Rattle.step_model.specs.Courses.CourseRuns.{End, Gives, MeetsFault, IsLawfulCourse}
use Rattle.step_model.specs.Courses.Ran.{Ran}
use Rattle.step_model.specs.Courses.StepEnds.{StepEnd, Reports, GivesUp, Fenced, NotOwner, NoRecords, Invalid, Declined, OperatorRefuses}
use Rattle.step_model.specs.Steps.PollSteps.{start}
use Rattle.step_laws.proofs.RanLaws.{ran_runs}
use Rattle.commit_laws.proofs.AllCalls.{calls_keep}
use Rattle.course_laws.proofs.Composed.{then_ran, then_ran_struck}
use Rattle.course_laws.proofs.Starts.{starts_are_lawful}
use Rattle.script_model.specs.LineRuns.{LineEnd, LineCourse, run_line, line_end, step_reply, noted_line}
use Rattle.script_model.specs.Lines.Starts.{killed_first, start_notes, start_coordinator}
use Rattle.script_model.specs.Replies.{reply}
use Rattle.line_laws.specs.States.{FleetKeeps}
use Rattle.line_laws.proofs.Courses.{all_calls, runs_hold, then_lawful}
use Rattle.line_laws.proofs.Lines.{caller_of}
use Rattle.line_laws.proofs.Others.{coordinator_holds}
use Rattle.line_laws.proofs.PartyLines.{IsOwnNote, own_lawful}
use Rattle.fleet_rows.specs.declared.errors.MergeOperatorError.TheVariants as merge_error
use Rattle.fleet_rows.specs.declared.errors.SlateDBError.{SlateDBError}
use Rattle.fleet_rows.specs.declared.errors.SlateDBError.TheVariants as error
use Rattle.fleet_step.specs.Steps.{end_of}
use Rattle.step_model.specs.LawfulRecords.{OfSome}
use Rattle.fleet_history.specs.declared.party.Party.TheVariants as party
use Rattle.fleet_store.specs.Memory.{StoreParts}
use Rattle.fleet_lines.specs.Fleets.{FleetParts, Stands, options_of, parties_of, state_of}
use Rattle.fleet_lines.specs.Lines.{RunsAlone}
use Rattle.fleet_lines.specs.Steps.{Made, Noted, end_reply, epoch_said, error_reply, note_event, nothing}
use Rattle.fleet_lines.proofs.Fails.{failed_alike}
use Rattle.fleet_lines.proofs.Made.{error_says, ran_later, the_reply}
use Rattle.fleet_lines.proofs.NoteLines.{one_note, own_kills, own_note, then_on}
use Rattle.fleet_lines.proofs.Runs.{state_at, line_gives, line_struck}
use Rattle.fleet_lines.proofs.Kept.{coordinator_goes, coordinator_goes_on}
use Rattle.fleet_lines.proofs.Standing.{still_up}

-- A coordinator fits the store after a note of its own.
fits_on : (merge : Operator) (number n epoch : ℕ) (old new : StoreParts) → IsLawful merge → Keeps merge old.world → Noted merge number (party.Coordinator n) (note_event true (party.Coordinator n) ∷ []) old new
    → CoordinatorHolds old.world (record { number = n; epoch = epoch }) None → CoordinatorHolds new.world (record { number = n; epoch = epoch }) None
fits_on merge number n epoch old new lawful kept noted holds =
    let who = caller_of merge number (Coordinator n) in
    let notes = Start (Coordinator n) ∷ [] in
    runs_hold who (λ x. ⊤) (λ (t : World). CoordinatorHolds t (record { number = n; epoch = epoch }) None) (calls_each notes (Ends nothing)) refl (calls_keep merge lawful) (coordinator_holds who (record { number = n; epoch = epoch })) (all_calls (λ x. ⊤) (λ x. tt) (calls_each notes (Ends nothing)))
    old.world new.world (Gives nothing) kept (own_lawful who notes (Ends nothing) old.world (own_note true (party.Coordinator n), tt) (λ last. tt)) (ran_runs who (calls_each notes (Ends nothing)) old.world new.world old.waits new.waits (Gives nothing) noted.ran) holds

module _ (merge : Operator) (number n : ℕ) (old : FleetParts) (b : Bool) (mid : StoreParts) (lawful : IsLawful merge) (stands : Stands merge old) (was : b ≡ is_some (find (λ (c : LiveCoordinator). n == c.number) old.coordinators))
    (killed : Noted merge number (party.Coordinator n) (killed_first b (Coordinator n)) old.store mid) where
  abbrev who : Caller
  who = caller_of merge number (Coordinator n)

  abbrev gone : Parties
  gone = without_coordinator n (parties_of old)

  abbrev with_epoch : ℕ → Parties
  with_epoch epoch = with_coordinator (record { number = n; epoch = epoch }) (parties_of old)

  abbrev ends : StepEnd ℕ → LineEnd
  ends = line_end epoch_said with_epoch gone

  abbrev step : Course (StepEnd ℕ)
  step = calls_each (killed_first b (Coordinator n)) start

  abbrev course : LineCourse
  course = noted_line (Coordinator n) step (start_notes n) ends gone

  abbrev other_coordinators : List LiveCoordinator
  other_coordinators = filter (λ (c : LiveCoordinator). not (n == c.number)) old.coordinators

  starts_own : (end : StepEnd ℕ) → AllByRecursion (IsOwnNote (Coordinator n)) (start_notes n end)
  starts_own (Reports epoch) = (own_note true (party.Coordinator n), tt)
  starts_own end = tt

  line_lawful : IsLawfulCourse who old.store.world course.course
  line_lawful = then_lawful who step (λ end. calls_each (start_notes n end) (Ends (ends end))) old.store.world (own_lawful who (killed_first b (Coordinator n)) start old.store.world (own_kills b (party.Coordinator n)) (λ new. starts_are_lawful who new n refl))
      (λ end new. own_lawful who (start_notes n end) (Ends (ends end)) new (starts_own end) (λ last. tt))

  -- The line's course ended so and left these parties.
  runs : (store : StoreParts) (end : End LineEnd) (answer : List ℕ) (coordinators : List LiveCoordinator) → Ran who course.course old.store.world store.world old.store.waits store.waits end
      → run_line number (state_of old) course ≡ (answer, state_at (options_of old.options) old.moment store.world store.waits (record (parties_of old) { coordinators = coordinators })) → FleetKeeps merge store.world (record (parties_of old) { coordinators = coordinators })
      → RunsAlone merge number (state_of old) (start_coordinator n (state_of old)) old (record old { store = store; coordinators = coordinators }) answer
  runs store end answer coordinators ran is keeps = subst (λ (c : Bool). RunsAlone merge number (state_of old) (noted_line (Coordinator n) (calls_each (killed_first c (Coordinator n)) start) (start_notes n) ends gone) old (record old { store = store; coordinators = coordinators }) answer) was (record {
    ends = is;
    stands = record {
      keeps = keeps;
      up = still_up old.store.world.store store.world.store old.workers (ran_later merge number (party.Coordinator n) course.course old.store.world store.world old.store.waits store.waits end ran) stands.up;
      few = stands.few;
    };
    same_name = refl;
  })

  -- The course up to the end of the start.
  first : (end : End (StepEnd ℕ)) (store : StoreParts) → Ran who start mid.world store.world mid.waits store.waits end → Ran who step old.store.world store.world old.store.waits store.waits end
  first end store ran = then_on who b (Coordinator n) start old.store.world mid.world store.world old.store.waits mid.waits store.waits end killed.ran ran

  -- The coordinator did not start.
  pub start_fails : (store : StoreParts) (coordinators : List LiveCoordinator) (e : SlateDBError) (answer : List ℕ) → Made (λ (c : LiveCoordinator). Reports c.epoch) start merge number (party.Coordinator n) mid store (Err e) → coordinators ≡ other_coordinators → error_reply e ≡ Some answer
      → RunsAlone merge number (state_of old) (start_coordinator n (state_of old)) old (record old { store = store; coordinators = coordinators }) answer
  start_fails store coordinators e answer made left says =
      subst (λ (cs : List LiveCoordinator). RunsAlone merge number (state_of old) (start_coordinator n (state_of old)) old (record old { store = store; coordinators = cs }) answer) (sym left)
      (by (Err e) (λ epoch is. absurd (cc is)) (failed_alike (λ (c : LiveCoordinator). Reports c.epoch) Reports start merge number (party.Coordinator n) mid store e made).ran (error_says Reports epoch_said e answer says).says)
    where
      struck : Ran who start mid.world store.world mid.waits store.waits MeetsFault → end_reply epoch_said MeetsFault ≡ Some answer → RunsAlone merge number (state_of old) (start_coordinator n (state_of old)) old (record old { store = store; coordinators = other_coordinators }) answer
      struck ran said =
          let whole = then_ran_struck who step (λ end. calls_each (start_notes n end) (Ends (ends end))) old.store.world store.world old.store.waits store.waits (first MeetsFault store ran) in
          runs store MeetsFault answer other_coordinators whole
          (line_struck merge number (options_of old.options) old.moment (parties_of old) course old.store.world store.world old.store.waits store.waits whole
          ∙ ap (λ (a : List ℕ). (a, state_at (options_of old.options) old.moment store.world store.waits gone)) (the_reply (reply (codes "storefault" ∷ [])) answer said))
          (coordinator_goes merge number n old.store.world store.world (parties_of old) course.course MeetsFault lawful stands.keeps line_lawful (ran_runs who course.course old.store.world store.world old.store.waits store.waits MeetsFault whole))

      refused : (end : StepEnd ℕ) → start_notes n end ≡ [] → (ends end).parties ≡ gone → Ran who start mid.world store.world mid.waits store.waits (Gives end) → end_reply epoch_said (Gives end) ≡ Some answer
          → RunsAlone merge number (state_of old) (start_coordinator n (state_of old)) old (record old { store = store; coordinators = other_coordinators }) answer
      refused end none parties ran said =
          let last : Ran who (calls_each (start_notes n end) (Ends (ends end))) store.world store.world store.waits store.waits (Gives (ends end)) =
          subst (λ (notes : List Event). Ran who (calls_each notes (Ends (ends end))) store.world store.world store.waits store.waits (Gives (ends end))) (sym none) (refl, (λ alone. refl, refl)) in
          let whole = then_ran who step (λ end. calls_each (start_notes n end) (Ends (ends end))) old.store.world store.world store.world end old.store.waits store.waits store.waits (Gives (ends end)) (first (Gives end) store ran) last in
          runs store (Gives (ends end)) answer other_coordinators whole
          (line_gives merge number (options_of old.options) old.moment (parties_of old) course old.store.world store.world old.store.waits store.waits (ends end) whole
          ∙ ap (λ (a : List ℕ). (a, state_at (options_of old.options) old.moment store.world store.waits (ends end).parties)) (the_reply (step_reply epoch_said end) answer said)
          ∙ ap (λ (parties : Parties). (answer, state_at (options_of old.options) old.moment store.world store.waits parties)) parties)
          (coordinator_goes merge number n old.store.world store.world (parties_of old) course.course (Gives (ends end)) lawful stands.keeps line_lawful (ran_runs who course.course old.store.world store.world old.store.waits store.waits (Gives (ends end)) whole))

      by : (result : Result ℕ SlateDBError) → ((epoch : ℕ) → result ≡ Ok epoch → ⊥) → OfSome (Ran who start mid.world store.world mid.waits store.waits) (end_of Reports result) → OfSome (λ end. end_reply epoch_said end ≡ Some answer) (end_of Reports result)
          → RunsAlone merge number (state_of old) (start_coordinator n (state_of old)) old (record old { store = store; coordinators = other_coordinators }) answer
      by (Ok epoch) failed runs said = absurd (failed epoch refl)
      by (Err error.StoreFault) failed runs said = struck runs said
      by (Err error.Memory) failed runs said = absurd (cc said)
      by (Err (error.Conflict seen)) failed runs said = refused (GivesUp seen) refl refl runs said
      by (Err (error.Fenced stored)) failed runs said = refused (Fenced stored) refl refl runs said
      by (Err error.NotOwner) failed runs said = refused NotOwner refl refl runs said
      by (Err error.InvalidDBState) failed runs said = refused NoRecords refl refl runs said
      by (Err error.InvalidCompaction) failed runs said = refused Invalid refl refl runs said
      by (Err (error.Generate message)) failed runs said = refused (Declined message) refl refl runs said
      by (Err (error.MergeOperator (merge_error.Callback message))) failed runs said = refused (OperatorRefuses message) refl refl runs said
      by (Err (error.MergeOperator merge_error.EmptyBatch)) failed runs said = absurd runs
      by (Err (error.MergeOperator merge_error.Memory)) failed runs said = absurd runs
      by (Err error.IteratorNotInitialized) failed runs said = absurd runs
      by (Err error.IteratorFailed) failed runs said = absurd runs
      by (Err error.MergeOperatorMissing) failed runs said = absurd runs
      by (Err (error.InvalidSequenceOrder current after)) failed runs said = absurd runs
      by (Err (error.CompactionFilter cause)) failed runs said = absurd runs

  -- The coordinator started with this epoch, and noted it.
  epoch_runs : (last store : StoreParts) (epoch : ℕ) (answer : List ℕ) → Keeps merge last.world → Made Reports start merge number (party.Coordinator n) mid last (Ok epoch) → CoordinatorHolds last.world (record { number = n; epoch = epoch }) None
      → Noted merge number (party.Coordinator n) (note_event true (party.Coordinator n) ∷ []) last store → answer ≡ epoch_said epoch
      → RunsAlone merge number (state_of old) (start_coordinator n (state_of old)) old (record old { store = store; coordinators = record { number = n; epoch = epoch } ∷ other_coordinators }) answer
  epoch_runs last store epoch answer kept made holds noted says =
      let ran = then_ran who step (λ end. calls_each (start_notes n end) (Ends (ends end))) old.store.world last.world store.world (Reports epoch) old.store.waits last.waits store.waits (Gives (ends (Reports epoch)))
      (first (Gives (Reports epoch)) last made.ran) (one_note who (Start (Coordinator n)) (ends (Reports epoch)) last.world store.world last.waits store.waits noted.ran) in
      runs store (Gives (ends (Reports epoch))) answer (record { number = n; epoch = epoch } ∷ other_coordinators) ran
      (line_gives merge number (options_of old.options) old.moment (parties_of old) course old.store.world store.world old.store.waits store.waits (ends (Reports epoch)) ran
      ∙ ap (λ (a : List ℕ). (a, state_at (options_of old.options) old.moment store.world store.waits (with_epoch epoch))) (sym says))
      (coordinator_goes_on merge number n old.store.world store.world (parties_of old) course.course (Gives (ends (Reports epoch))) lawful stands.keeps line_lawful (ran_runs who course.course old.store.world store.world old.store.waits store.waits (Gives (ends (Reports epoch))) ran) epoch
      (fits_on merge number n epoch last store lawful kept noted holds))

  -- The coordinator started, and noted it.
  pub start_runs : (last store : StoreParts) (c : LiveCoordinator) (left coordinators : List LiveCoordinator) (answer : List ℕ) → c.number ≡ n → Keeps merge last.world → Made (λ (c : LiveCoordinator). Reports c.epoch) start merge number (party.Coordinator n) mid last (Ok c) → CoordinatorHolds last.world c None
      → Noted merge number (party.Coordinator n) (note_event true (party.Coordinator n) ∷ []) last store → answer ≡ epoch_said c.epoch → left ≡ other_coordinators → coordinators ≡ c ∷ left
      → RunsAlone merge number (state_of old) (start_coordinator n (state_of old)) old (record old { store = store; coordinators = coordinators }) answer
  start_runs last store c left coordinators answer is kept made holds noted says others put =
      let with_number : ℕ → LiveCoordinator = λ m. record { number = m; epoch = c.epoch } in
      subst (λ (cs : List LiveCoordinator). RunsAlone merge number (state_of old) (start_coordinator n (state_of old)) old (record old { store = store; coordinators = cs }) answer)
      (sym (put ∙ (ap (λ (cs : List LiveCoordinator). c ∷ cs) others ∙ ap (λ (m : ℕ). with_number m ∷ other_coordinators) is)))
      (epoch_runs last store c.epoch answer kept (record { ran = made.ran }) (subst (λ (m : ℕ). CoordinatorHolds last.world (with_number m) None) is holds) noted says)
