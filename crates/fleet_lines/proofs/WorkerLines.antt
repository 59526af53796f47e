-- The lines of workers, as the calls of a fleet run them.
use Rattle.std.proofs.Common.{◌≡◌, refl, sym, ◌∙◌, ap, subst, ℕ, List, [], ◌∷◌, cond, Bool, true, false, Option, Some, None, Result, Ok, Err}
use Rattle.std.specs.Prelude.{◌==◌, find, is_some, codes, IfOk, OnErr}
use Rattle.std.specs.Bool.{OnFalse}
use Rattle.row_model.specs.Fold.{Operator, IsLawful}
use Rattle.fleet_model.specs.History.{Worker}
use Rattle.step_model.specs.LawfulRecords.{OfSome}
use Rattle.step_model.specs.Kept.Keeps.{Keeps}
use Rattle.step_model.specs.Courses.Course.{Course}
use Rattle.step_model.specs.Courses.CourseRuns.{End, IsLawfulCourse}
use Rattle.step_model.specs.Courses.Ran.{Ran}
use Rattle.step_model.specs.Courses.StepEnds.{StepEnd, Reports}
use Rattle.step_model.specs.Steps.BeatSteps.{heartbeat, release_all}
use Rattle.step_laws.proofs.RanLaws.{ran_runs}
use Rattle.step_laws.proofs.Runs.{runs_keep}
use Rattle.commit_laws.proofs.AllCalls.{calls_keep}
use Rattle.course_laws.proofs.Releases.{releases_are_lawful}
use Rattle.script_model.specs.Lines.Starts.{killed_first, kill_worker, release_named, start_worker}
use Rattle.script_model.specs.Lines.WorkLines.{heartbeat_line, stop_worker}
use Rattle.script_model.specs.Replies.{beat_reply, ok, reply}
use Rattle.line_laws.proofs.Lines.{caller_of}
use Rattle.fleet_rows.specs.declared.errors.SlateDBError.{SlateDBError}
use Rattle.fleet_history.specs.Parties.{party_of}
use Rattle.fleet_history.specs.declared.party.Party.{Party}
use Rattle.fleet_history.specs.declared.party.Party.TheVariants as party
use Rattle.fleet_jobs.specs.Workers.{release_of}
use Rattle.fleet_jobs.specs.declared.release.Release.{Release}
use Rattle.fleet_step.specs.Steps.{end_of, stops}
use Rattle.fleet_store.specs.Memory.{StoreParts}
use Rattle.fleet_worker.specs.Beats.{beat_ends}
use Rattle.fleet_worker.specs.Workers.{AttemptParts, WorkerParts, live_of, started_worker}
use Rattle.fleet_worker.specs.declared.beat.BeatReport.{BeatReport}
use Rattle.fleet_lines.specs.Fleets.{FleetParts, Stands, state_of}
use Rattle.fleet_lines.specs.Lines.{RunsAlone}
use Rattle.fleet_lines.specs.Steps.{Made, MayWork, Noted, Says, is_struck, note_event, released_said}
use Rattle.fleet_lines.proofs.Named.{found_old, kept_workers}
use Rattle.fleet_lines.proofs.NoteLines.{kill_worker_runs, others, start_worker_runs}
use Rattle.fleet_lines.proofs.StopLines.{stop_runs, stop_struck}
use Rattle.fleet_lines.proofs.WorkLines.{beat_runs}

-- There is no worker if none is found.
pub none_there : (o : Option WorkerParts) → is_some o ≡ false → o ≡ None
none_there None e = refl
none_there (Some w) e = absurd (cc e)

-- ---- workers that come and go

-- What a fleet did to start a worker runs the line, if the fleet gives a reply.
pub start_said : (merge : Operator) (number n : ℕ) (release : Option ℕ) (named : Release) (was_live : Bool) (old seen : FleetParts) (taken : Option WorkerParts) (w : WorkerParts) (left workers : List WorkerParts) (mid store : StoreParts) (said : Result (List ℕ) SlateDBError) → IsLawful merge → Stands merge old
    → seen ≡ old → taken ≡ find (λ (w : WorkerParts). n == w.number) seen.workers → left ≡ others n seen.workers → was_live ≡ is_some taken → Noted merge number (party.Worker n) (killed_first was_live (Worker n)) seen.store mid
    → Noted merge number (party.Worker n) (note_event true (party.Worker n) ∷ []) mid store → release_of named ≡ release_named release → w ≡ started_worker n named → workers ≡ cond w.stopped left (w ∷ left) → IfOk said (λ (answer : List ℕ). answer ≡ ok)
    → IfOk said (RunsAlone merge number (state_of old) (start_worker n release (state_of old)) old (record seen { store = store; workers = workers }))
start_said merge number n release named was_live old seen taken w left workers mid store (Err e) lawful stands same found lefts was killed noted is_named is are says = tt
start_said merge number n release named was_live old seen taken w left workers mid store (Ok answer) lawful stands same found lefts was killed noted is_named is are says =
    let all : workers ≡ started_worker n named ∷ others n old.workers = are ∙ (ap (λ (v : WorkerParts). cond v.stopped left (v ∷ left)) is ∙ ap (λ (ws : List WorkerParts). started_worker n named ∷ ws) (lefts ∙ ap (λ (f : FleetParts). others n f.workers) same)) in
    subst (λ (f : FleetParts). RunsAlone merge number (state_of old) (start_worker n release (state_of old)) old (record f { store = store; workers = workers }) answer) (sym same)
    (subst (λ (ws : List WorkerParts). RunsAlone merge number (state_of old) (start_worker n release (state_of old)) old (record old { store = store; workers = ws }) answer) (sym all)
    (start_worker_runs merge number n release named was_live old mid store answer lawful stands is_named (was ∙ (ap (λ (o : Option WorkerParts). is_some o) found ∙ ap (λ (f : FleetParts). is_some (find (λ (w : WorkerParts). n == w.number) f.workers)) same))
    (subst (λ (f : FleetParts). Noted merge number (party.Worker n) (killed_first was_live (Worker n)) f.store mid) same killed) noted says))

pub kill_said : (merge : Operator) (number n : ℕ) (old seen : FleetParts) (taken : Option WorkerParts) (left : List WorkerParts) (store : StoreParts) (said : Result (List ℕ) SlateDBError) → IsLawful merge → Stands merge old → seen ≡ old
    → taken ≡ find (λ (w : WorkerParts). n == w.number) seen.workers → left ≡ others n seen.workers → is_some taken ≡ true → Noted merge number (party.Worker n) (note_event false (party.Worker n) ∷ []) seen.store store → IfOk said (λ (answer : List ℕ). answer ≡ ok)
    → IfOk said (RunsAlone merge number (state_of old) (kill_worker n (state_of old)) old (record seen { store = store; workers = left }))
kill_said merge number n old seen taken left store (Err e) lawful stands same found are live noted says = tt
kill_said merge number n old seen taken left store (Ok answer) lawful stands same found are live noted says =
    let was_live : is_some (find (λ (w : WorkerParts). n == w.number) old.workers) ≡ true = ap (λ (f : FleetParts). is_some (find (λ (w : WorkerParts). n == w.number) f.workers)) (sym same) ∙ (ap (λ (o : Option WorkerParts). is_some o) (sym found) ∙ live) in
    subst (λ (f : FleetParts). RunsAlone merge number (state_of old) (kill_worker n (state_of old)) old (record f { store = store; workers = left }) answer) (sym same)
    (subst (λ (ws : List WorkerParts). RunsAlone merge number (state_of old) (kill_worker n (state_of old)) old (record old { store = store; workers = ws }) answer) (sym (are ∙ ap (λ (f : FleetParts). others n f.workers) same))
    (kill_worker_runs merge number n old store answer lawful stands was_live (subst (λ (f : FleetParts). Noted merge number (party.Worker n) (note_event false (party.Worker n) ∷ []) f.store store) same noted) says))

-- ---- heartbeats

-- What a fleet did for a heartbeat runs the line, if the fleet gives a reply.
pub beat_said : (merge : Operator) (number n : ℕ) (old seen : FleetParts) (taken : Option WorkerParts) (w after : WorkerParts) (left workers : List WorkerParts) (store : StoreParts) (result : Result BeatReport SlateDBError) (said : Result (List ℕ) SlateDBError) → IsLawful merge → Stands merge old → seen ≡ old
    → taken ≡ find (λ (w : WorkerParts). n == w.number) seen.workers → left ≡ others n seen.workers → taken ≡ Some w → after.stopped ≡ stops result → after ≡ record w { attempts = after.attempts; stopped = after.stopped } → OnErr result (after.attempts ≡ w.attempts)
    → OnFalse after.stopped (MayWork merge store.world after) → Made (beat_ends after.attempts) (heartbeat seen.moment (live_of w)) merge number (party.Worker w.number) seen.store store result → workers ≡ cond after.stopped left (after ∷ left)
    → IfOk said (λ (answer : List ℕ). (attempts : List AttemptParts) → Says (beat_ends attempts) (λ r. beat_reply r.beat r.not_owner) result answer) → IfOk said (RunsAlone merge number (state_of old) (heartbeat_line n (state_of old)) old (record seen { store = store; workers = workers }))
beat_said merge number n old seen taken w after left workers store result (Err e) lawful stands same found lefts is stopped kept unchanged may made are says = tt
beat_said merge number n old seen taken w after left workers store result (Ok answer) lawful stands same found lefts is stopped kept unchanged may made are says =
    let there = found_old n old seen taken (Some w) same found is in
    let all = kept_workers n old seen w after left workers same lefts kept are in
    subst (λ (f : FleetParts). RunsAlone merge number (state_of old) (heartbeat_line n (state_of old)) old (record f { store = store; workers = workers }) answer) (sym same)
    (subst (λ (ws : List WorkerParts). RunsAlone merge number (state_of old) (heartbeat_line n (state_of old)) old (record old { store = store; workers = ws }) answer) (sym all)
    (beat_runs merge number n old w after.attempts after.stopped store result answer lawful stands there stopped unchanged (subst (λ (v : WorkerParts). OnFalse after.stopped (MayWork merge store.world v)) kept may)
    (subst (λ (f : FleetParts). Made (beat_ends after.attempts) (heartbeat f.moment (live_of w)) merge number (party.Worker w.number) f.store store result) same made) (says after.attempts)))

-- ---- workers that stop

-- The store keeps the invariant over a step that a party made.
pub made_keeps : {A B : Type 0} (ends : A → StepEnd B) (course : Course (StepEnd B)) (merge : Operator) (number : ℕ) (p : Party) (old new : StoreParts) (result : Result A SlateDBError) → IsLawful merge → Keeps merge old.world → IsLawfulCourse (caller_of merge number (party_of p)) old.world course
    → Made ends course merge number p old new result → Keeps merge new.world
made_keeps {A} {B} ends course merge number p old new result lawful kept is made = by (end_of ends result) made.ran
  where
    by : (o : Option (End (StepEnd B))) → OfSome (Ran (caller_of merge number (party_of p)) course old.world new.world old.waits new.waits) o → Keeps merge new.world
    by None ran = absurd ran
    by (Some end) ran = let who = caller_of merge number (party_of p) in runs_keep who course (calls_keep merge lawful) old.world new.world end kept is (ran_runs who course old.world new.world old.waits new.waits end ran)

-- The store keeps the invariant when the worker has given its attempts back.
pub released_keeps : (merge : Operator) (number : ℕ) (w : WorkerParts) (old new : StoreParts) (result : Result (List ℕ) SlateDBError) → IsLawful merge → Keeps merge old.world → Made Reports (release_all (live_of w)) merge number (party.Worker w.number) old new result → Keeps merge new.world
released_keeps merge number w old new result lawful kept made =
    made_keeps Reports (release_all (live_of w)) merge number (party.Worker w.number) old new result lawful kept (releases_are_lawful (caller_of merge number (Worker w.number)) old.world (live_of w) refl) made

module _ (merge : Operator) (number n : ℕ) (old seen : FleetParts) (taken : Option WorkerParts) (w : WorkerParts) (left : List WorkerParts) (lawful : IsLawful merge) (stands : Stands merge old) (same : seen ≡ old) (found : taken ≡ find (λ (w : WorkerParts). n == w.number) seen.workers) (lefts : left ≡ others n seen.workers) (is : taken ≡ Some w) where
  there : find (λ (w : WorkerParts). n == w.number) old.workers ≡ Some w
  there = found_old n old seen taken (Some w) same found is

  -- The fleet that the line leaves, seen as the code leaves it.
  as_left : (store : StoreParts) (answer : List ℕ) → RunsAlone merge number (state_of old) (stop_worker n (state_of old)) old (record old { store = store; workers = others n old.workers }) answer → RunsAlone merge number (state_of old) (stop_worker n (state_of old)) old (record seen { store = store; workers = left }) answer
  as_left store answer runs =
      subst (λ (f : FleetParts). RunsAlone merge number (state_of old) (stop_worker n (state_of old)) old (record f { store = store; workers = left }) answer) (sym same)
      (subst (λ (ws : List WorkerParts). RunsAlone merge number (state_of old) (stop_worker n (state_of old)) old (record old { store = store; workers = ws }) answer) (sym (lefts ∙ ap (λ (f : FleetParts). others n f.workers) same)) runs)

  -- A fault struck the release.
  pub struck_said : (store : StoreParts) (result : Result (List ℕ) SlateDBError) (said : Result (List ℕ) SlateDBError) → Made Reports (release_all (live_of w)) merge number (party.Worker w.number) seen.store store result → is_struck result ≡ true
      → IfOk said (λ (answer : List ℕ). answer ≡ reply (codes "storefault" ∷ [])) → IfOk said (RunsAlone merge number (state_of old) (stop_worker n (state_of old)) old (record seen { store = store; workers = left }))
  struck_said store result (Err e) made struck says = tt
  struck_said store result (Ok answer) made struck says =
      as_left store answer (stop_struck merge number n old w lawful stands there store result answer (subst (λ (f : FleetParts). Made Reports (release_all (live_of w)) merge number (party.Worker w.number) f.store store result) same made) struck says)

  -- The release ended otherwise, and the worker noted that it goes.
  pub stop_said : (mid store : StoreParts) (result : Result (List ℕ) SlateDBError) (said : Result (List ℕ) SlateDBError) → Made Reports (release_all (live_of w)) merge number (party.Worker w.number) seen.store mid result → is_struck result ≡ false
      → Noted merge number (party.Worker n) (note_event false (party.Worker n) ∷ []) mid store → IfOk said (Says Reports released_said result)
      → IfOk said (RunsAlone merge number (state_of old) (stop_worker n (state_of old)) old (record seen { store = store; workers = left }))
  stop_said mid store result (Err e) made unstruck noted says = tt
  stop_said mid store result (Ok answer) made unstruck noted says =
      as_left store answer (stop_runs merge number n old w lawful stands there mid store result answer (subst (λ (f : FleetParts). Made Reports (release_all (live_of w)) merge number (party.Worker w.number) f.store mid result) same made) unstruck says noted)
