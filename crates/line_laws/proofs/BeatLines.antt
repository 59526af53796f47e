-- What a heartbeat and the stop of a worker do that are not refused.
use Rattle.std.proofs.Common.{◌≡◌, refl, sym, ◌∙◌, ap, ℕ, List, [], ◌∷◌, cond, Bool, true, false, Option, Some, None}
use Rattle.std.specs.Prelude.{⊤, codes, filter}
use Rattle.fleet_model.specs.Jobs.{Jobs}
use Rattle.fleet_model.specs.History.{Party, Worker, Event, Kill, GetRecords, Beat, Release}
use Rattle.fleet_model.specs.Store.{Records, Store, stored_jobs, jobs_in}
use Rattle.fleet_model.specs.Exchanges.{Plain, after_answered}
use Rattle.fleet_model.specs.Work.Gates.{is_nonempty}
use Rattle.fleet_model.specs.Work.Parties.{Attempt, LiveWorker, Parties, worker_with, without_worker, attempt_jobs, named_attempts, live_attempts, is_live}
use Rattle.fleet_model.specs.Work.Records.{Unrecorded, jobs_after}
use Rattle.step_model.specs.Courses.Course.{Course, Ends, calls_each}
use Rattle.step_model.specs.Courses.Tries.{tries}
use Rattle.step_model.specs.Courses.StepEnds.{StepEnd, Reports, GivesUp, Fenced, NotOwner, NoRecords, Invalid, Declined, OperatorRefuses, BadFlush}
use Rattle.step_model.specs.Steps.ClaimSteps.{at_moment}
use Rattle.step_model.specs.Steps.BeatSteps.{Beaten, published_by, beat_report, beat_of, beat_by, beat_try, heartbeat, release_live, release_by, release_try, release_all}
use Rattle.script_model.specs.Script.{Heartbeat, StopWorker}
use Rattle.script_model.specs.States.{Inputs, State}
use Rattle.script_model.specs.Replies.{reply, jobs_text, beat_reply}
use Rattle.script_model.specs.LineRuns.{LineEnd, LineCourse, run_line, no_such_party, if_some, noted_line, line_end}
use Rattle.script_model.specs.LineCourses.{course_of}
use Rattle.script_model.specs.LineSteps.{OneCourse}
use Rattle.script_model.specs.Lines.Settles.{is_ok}
use Rattle.script_model.specs.Lines.WorkLines.{parties_running, worker_line, heartbeat_line, stop_worker}
use Rattle.line_laws.specs.Lines.BeatLines.{OnlyRecords, with_beaten, BeatRan, BeatsPublish, with_released, StopRan, StopsRelease}
use Rattle.line_laws.proofs.AloneEnds.{EndsSo, then_so, gets_so, IsLike, put_so, put_left}
use Rattle.line_laws.proofs.RefusedLines.{worker_number, OfStep, LineEnded, LineStruck, LineEnds, line_ended}
use Rattle.line_laws.proofs.OkLines.{StepDid, step_did}
use Rattle.line_laws.proofs.ClaimLines.{found_worker}

-- ---- heartbeats

-- What a heartbeat leaves that reports.
pub record BeatLeft (moment : ℕ) (w : LiveWorker) (old : Store) (report : Beaten) (left : Store) : Type 0 where
  pub is : report ≡ beat_report w (stored_jobs old)
  pub jobs : stored_jobs left ≡ with_beaten moment w (live_attempts (stored_jobs old) w) (stored_jobs old)
  pub same : OnlyRecords old left

abbrev pub Beats : ℕ → LiveWorker → Store → StepEnd Beaten → Store → Type 0
Beats moment w old (Reports report) left = BeatLeft moment w old report left
Beats moment w old end left = ⊤

only_history : (old left : Store) → IsLike old left → OnlyRecords old left
only_history old left like = ap (λ (s : Store). record s { records = left.records; history = left.history }) like

-- The end of a heartbeat, over records that are stored with these jobs.
beat_of_left : (line : ℕ) (party : Party) (moment : ℕ) (w : LiveWorker) (got : Records) (live : List Attempt) (again : ℕ → Course (StepEnd Beaten)) (old store : Store) → IsLike old store → store.records ≡ Some got → stored_jobs old ≡ got.jobs → live ≡ live_attempts got.jobs w
    → EndsSo line party (beat_of moment w got live again) store (Beats moment w old)
beat_of_left line party moment w got [] again old store like stored jobs live = record {
  is = ap (beat_report w) (sym jobs);
  jobs = ap (λ (s : Store). stored_jobs s) like ∙ ap (λ (l : List Attempt). with_beaten moment w l (stored_jobs old)) live ∙ ap (λ (js : Jobs). with_beaten moment w (live_attempts js w) (stored_jobs old)) (sym jobs);
  same = only_history old store like;
}
beat_of_left line party moment w got (a ∷ live) again old store like stored jobs are =
    let unrecorded : Unrecorded = record { moment = moment; published = published_by (a ∷ live); kept_cut = None; tables_of = λ spec. [] } in
    let change = Beat w.number (named_attempts (a ∷ live)) in
    let left = put_left line party got change got.epoch (jobs_after unrecorded change got.jobs) old store like stored in
    put_so line party got change got.epoch (jobs_after unrecorded change got.jobs) (Ends (Reports (beat_report w got.jobs))) again store (Beats moment w old) stored (record {
      is = ap (beat_report w) (sym jobs);
      jobs = left.jobs ∙ ap (λ (js : Jobs). with_beaten moment w (a ∷ live) js) (sym jobs) ∙ ap (λ (l : List Attempt). with_beaten moment w l (stored_jobs old)) are ∙ ap (λ (js : Jobs). with_beaten moment w (live_attempts js w) (stored_jobs old)) (sym jobs);
      same = left.same;
    })

-- A worker that runs nothing has no live attempt, whatever is stored.
none_live : (w : LiveWorker) (xs : List Attempt) (jobs : Jobs) → xs ≡ w.attempts → is_nonempty xs ≡ false → live_attempts jobs w ≡ []
none_live w [] jobs are none = ap (filter (is_live jobs w.number)) (sym are)
none_live w (a ∷ xs) jobs are none = absurd (cc none)

idle_report : (w : LiveWorker) (xs : List Attempt) (jobs : Jobs) → xs ≡ w.attempts → is_nonempty xs ≡ false → beat_report w [] ≡ beat_report w jobs
idle_report w [] jobs are none = ap (λ (ys : List Attempt). beat_report (record w { attempts = ys }) []) (sym are) ∙ ap (λ (ys : List Attempt). beat_report (record w { attempts = ys }) jobs) are
idle_report w (a ∷ xs) jobs are none = absurd (cc none)

-- A heartbeat that is alone reports the beats of the stored records, and leaves the leases that it renewed.
pub beat_left : (line : ℕ) (party : Party) (moment : ℕ) (w : LiveWorker) (store : Store) → EndsSo line party (heartbeat moment w) store (Beats moment w store)
unfolding heartbeat
beat_left line party moment w store = either (is_nonempty w.attempts) refl
  where
    again : ℕ → Course (StepEnd Beaten)
    again = tries (beat_try moment w) 63

    got_now : Store
    got_now = after_answered line party (Plain GetRecords) store

    by : (o : Option Records) → store.records ≡ o → EndsSo line party (beat_by moment w o again) got_now (Beats moment w store)
    by None e = record {
      is = ap (λ (o : Option Records). beat_report w (jobs_in o)) (sym e);
      jobs = ap (λ (o : Option Records). jobs_in o) e ∙ nothing (live_attempts [] w) ∙ ap (λ (o : Option Records). with_beaten moment w (live_attempts (jobs_in o) w) (jobs_in o)) (sym e);
      same = only_history store got_now refl;
    }
      where
        nothing : (live : List Attempt) → [] ≡ with_beaten moment w live []
        nothing [] = refl
        nothing (a ∷ live) = refl
    by (Some got) e = beat_of_left line party moment w got (live_attempts got.jobs w) again store got_now refl e (ap jobs_in e) refl

    either : (b : Bool) → is_nonempty w.attempts ≡ b → EndsSo line party (cond b (tries (beat_try moment w) 64 0) (Ends (Reports (beat_report w [])))) store (Beats moment w store)
    either true some = by store.records refl
    either false none = record {
      is = idle_report w w.attempts (stored_jobs store) refl none;
      jobs = ap (λ (l : List Attempt). with_beaten moment w l (stored_jobs store)) (sym (none_live w w.attempts (stored_jobs store) refl none));
      same = refl;
    }

beat_is : (inputs : Inputs) (number : ℕ) (old new : State) (n : ℕ) (answer : List ℕ) → OneCourse inputs number old (Heartbeat n) answer new → run_line number old (heartbeat_line n old) ≡ (answer, new)
unfolding course_of
beat_is inputs number old new n answer one = ap (run_line number old) (sym one.does.is) ∙ one.ends

-- A heartbeat that is not refused beats for the live attempts of its worker and publishes their contexts.
pub beats_publish : BeatsPublish
beats_publish inputs number old new n answer one ok = by (worker_with n old.parties) refl (beat_is inputs number old new n answer one)
  where
    line : Option LiveWorker → LineCourse
    line o = if_some o (no_such_party old) (λ w. worker_line w old (heartbeat old.moment w) (λ r. beat_reply r.beat r.not_owner) (λ r. r.attempts) w.attempts)

    by : (o : Option LiveWorker) → worker_with n old.parties ≡ o → run_line number old (line o) ≡ (answer, new) → BeatRan n old answer new
    by None there is = let same = ap (λ (p : List ℕ × State). p.0) is in absurd (cc (ap is_ok same ∙ ok))
    by (Some w) there is = at (step_did number old (Worker w.number) (heartbeat old.moment w) (λ r. beat_reply r.beat r.not_owner) (λ r. parties_running w old r.attempts) (parties_running w old w.attempts) (without_worker w.number old.parties) (Beats old.moment w old.store) answer new
        (beat_left number (Worker w.number) old.moment w old.store) is ok)
      where
        at : StepDid (λ (r : Beaten). beat_reply r.beat r.not_owner) (λ r. parties_running w old r.attempts) (Beats old.moment w old.store) answer new → BeatRan n old answer new
        at d = record {
          worker = w;
          live = there;
          printed = d.printed ∙ ap (λ (r : Beaten). beat_reply r.beat r.not_owner) d.left.is;
          jobs = d.left.jobs;
          store = d.left.same;
          runs = ap (worker_with n) d.live ∙ ap (λ (r : Beaten). worker_with n (parties_running w old r.attempts)) d.left.is ∙ found_worker n (record w { attempts = _ }) old.parties (worker_number n old w there);
        }

-- ---- stops

-- What a release of all attempts leaves that reports.
record ReleaseLeft (w : LiveWorker) (old : Store) (report : List ℕ) (left : Store) : Type 0 where
  is : report ≡ attempt_jobs (live_attempts (stored_jobs old) w)
  jobs : stored_jobs left ≡ with_released w (live_attempts (stored_jobs old) w) (stored_jobs old)
  same : OnlyRecords old left

abbrev Releases : LiveWorker → Store → StepEnd (List ℕ) → Store → Type 0
Releases w old (Reports report) left = ReleaseLeft w old report left
Releases w old end left = ⊤

-- A release reports, once its live attempts are given back.
abbrev gives : List ℕ → Course (StepEnd (List ℕ))
gives released = Ends (Reports released)

-- A release of these attempts, which are live by the records, leaves their jobs to wait.
release_live_left : (line : ℕ) (party : Party) (w : LiveWorker) (got : Records) (live : List Attempt) (again : ℕ → Course (StepEnd (List ℕ))) (old store : Store) → IsLike old store → store.records ≡ Some got → stored_jobs old ≡ got.jobs → live ≡ live_attempts got.jobs w
    → EndsSo line party (release_live w got live gives again) store (Releases w old)
release_live_left line party w got [] again old store like stored jobs live = record {
  is = ap attempt_jobs live ∙ ap (λ (js : Jobs). attempt_jobs (live_attempts js w)) (sym jobs);
  jobs = ap (λ (s : Store). stored_jobs s) like ∙ ap (λ (l : List Attempt). with_released w l (stored_jobs old)) live ∙ ap (λ (js : Jobs). with_released w (live_attempts js w) (stored_jobs old)) (sym jobs);
  same = only_history old store like;
}
release_live_left line party w got (a ∷ live) again old store like stored jobs are =
    let change = Release w.number (named_attempts (a ∷ live)) in
    let left = put_left line party got change got.epoch (jobs_after (at_moment 0) change got.jobs) old store like stored in
    put_so line party got change got.epoch (jobs_after (at_moment 0) change got.jobs) (gives (attempt_jobs (a ∷ live))) again store (Releases w old) stored (record {
      is = ap attempt_jobs are ∙ ap (λ (js : Jobs). attempt_jobs (live_attempts js w)) (sym jobs);
      jobs = left.jobs ∙ ap (λ (js : Jobs). with_released w (a ∷ live) js) (sym jobs) ∙ ap (λ (l : List Attempt). with_released w l (stored_jobs old)) are ∙ ap (λ (js : Jobs). with_released w (live_attempts js w) (stored_jobs old)) (sym jobs);
      same = left.same;
    })

-- So a release of all attempts gives exactly the live ones back.
release_left : (line : ℕ) (party : Party) (w : LiveWorker) (store : Store) → EndsSo line party (release_all w) store (Releases w store)
unfolding release_all
release_left line party w store = either (is_nonempty w.attempts) refl
  where
    again : ℕ → Course (StepEnd (List ℕ))
    again = tries (release_try w w.attempts gives) 63

    got_now : Store
    got_now = after_answered line party (Plain GetRecords) store

    -- Without records nothing is live.
    unstored : (xs : List Attempt) → filter (is_live [] w.number) xs ≡ []
    unstored [] = refl
    unstored (a ∷ xs) = unstored xs

    by : (o : Option Records) → store.records ≡ o → EndsSo line party (release_by w w.attempts o gives again) got_now (Releases w store)
    by None e = record {
      is = ap attempt_jobs (sym (unstored w.attempts)) ∙ ap (λ (o : Option Records). attempt_jobs (live_attempts (jobs_in o) w)) (sym e);
      jobs = ap (λ (l : List Attempt). with_released w l (stored_jobs store)) (sym (unstored w.attempts)) ∙ ap (λ (o : Option Records). with_released w (live_attempts (jobs_in o) w) (stored_jobs store)) (sym e);
      same = only_history store got_now refl;
    }
    by (Some got) e = release_live_left line party w got (live_attempts got.jobs w) again store got_now refl e (ap jobs_in e) refl

    either : (b : Bool) → is_nonempty w.attempts ≡ b → EndsSo line party (cond b (tries (release_try w w.attempts gives) 64 0) (Ends (Reports []))) store (Releases w store)
    either true some = by store.records refl
    either false none = record {
      is = ap attempt_jobs (sym (none_live w w.attempts (stored_jobs store) refl none));
      jobs = ap (λ (l : List Attempt). with_released w l (stored_jobs store)) (sym (none_live w w.attempts (stored_jobs store) refl none));
      same = refl;
    }

stop_is : (inputs : Inputs) (number : ℕ) (old new : State) (n : ℕ) (answer : List ℕ) → OneCourse inputs number old (StopWorker n) answer new → run_line number old (stop_worker n old) ≡ (answer, new)
unfolding course_of
stop_is inputs number old new n answer one = ap (run_line number old) (sym one.does.is) ∙ one.ends

-- A note after a release leaves what the release left.
noted_left : (line : ℕ) (party : Party) (w : LiveWorker) (notes : List Event) (old : Store) (end : StepEnd (List ℕ)) (left last : Store) → IsLike left last → Releases w old end left → Releases w old end last
noted_left line party w notes old (Reports report) left last like r = record {
  is = r.is;
  jobs = ap (λ (s : Store). stored_jobs s) like ∙ r.jobs;
  same = ap (λ (s : Store). record s { records = last.records; history = last.history }) (like ∙ ap (λ (s : Store). record s { history = last.history }) r.same);
}
noted_left line party w notes old end left last like r = tt

-- A line that stops a worker and is not refused gives its live attempts back.
pub stops_release : StopsRelease
stops_release inputs number old new n answer one ok = by (worker_with n old.parties) refl (stop_is inputs number old new n answer one)
  where
    others : Parties
    others = without_worker n old.parties

    spell : List ℕ → List ℕ
    spell jobs = reply (codes "ok" ∷ codes "released" ∷ jobs_text jobs ∷ [])

    ends : StepEnd (List ℕ) → LineEnd
    ends = line_end spell (λ jobs. others) others

    kills : List Event
    kills = Kill (Worker n) ∷ []

    line : LiveWorker → LineCourse
    line w = noted_line (Worker n) (release_all w) (λ end. kills) ends others

    at : (w : LiveWorker) → worker_with n old.parties ≡ Some w → (end : StepEnd (List ℕ)) → answer ≡ (ends end).reply → new.parties ≡ (ends end).parties → Releases w old.store end new.store → StopRan n old answer new
    at w there (Reports report) printed parties r = record { worker = w; live = there; printed = printed ∙ ap spell r.is; jobs = r.jobs; store = r.same; parties = parties }
    at w there (GivesUp seen) printed parties r = absurd (cc (sym (ap is_ok printed) ∙ ok))
    at w there (Fenced stored) printed parties r = absurd (cc (sym (ap is_ok printed) ∙ ok))
    at w there NotOwner printed parties r = absurd (cc (sym (ap is_ok printed) ∙ ok))
    at w there NoRecords printed parties r = absurd (cc (sym (ap is_ok printed) ∙ ok))
    at w there Invalid printed parties r = absurd (cc (sym (ap is_ok printed) ∙ ok))
    at w there (Declined message) printed parties r = absurd (cc (sym (ap is_ok printed) ∙ ok))
    at w there (OperatorRefuses message) printed parties r = absurd (cc (sym (ap is_ok printed) ∙ ok))
    at w there (BadFlush fault) printed parties r = absurd (cc (sym (ap is_ok printed) ∙ ok))

    made : (w : LiveWorker) → worker_with n old.parties ≡ Some w → LineEnded number old (line w) (OfStep ends (Releases w old.store)) answer new → StopRan n old answer new
    made w there (LineStruck printed store parties fault) = absurd (cc (sym (ap is_ok printed) ∙ ok))
    made w there (LineEnds end printed parties (of, is, r)) = at w there of (printed ∙ ap (λ (e : LineEnd). e.reply) is) (parties ∙ ap (λ (e : LineEnd). e.parties) is) r

    by : (o : Option LiveWorker) → worker_with n old.parties ≡ o → run_line number old (if_some o (no_such_party old) line) ≡ (answer, new) → StopRan n old answer new
    by None there is = let same = ap (λ (p : List ℕ × State). p.0) is in absurd (cc (ap is_ok same ∙ ok))
    by (Some w) there is = made w there (line_ended number old (line w) (OfStep ends (Releases w old.store)) answer new
        (then_so number (Worker n) (release_all w) (λ end. calls_each kills (Ends (ends end))) old.store (Releases w old.store) (OfStep ends (Releases w old.store))
        (λ end left r. gets_so number (Worker n) kills (Ends (ends end)) left left (OfStep ends (Releases w old.store)) refl (λ last like. (end, refl, noted_left number (Worker n) w kills old.store end left last like r)))
        (release_left number (Worker n) w old.store)) is)
