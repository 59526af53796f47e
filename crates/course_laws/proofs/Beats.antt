-- A heartbeat of a worker that fits is a lawful course.
use Rattle.std.proofs.Common.{◌≡◌, refl, sym, ◌∙◌, ap, subst, ℕ, zero, suc, ◌<◌, List, [], ◌∷◌, ◌++◌, cond, Bool, true, false, inl, inr, Option, Some, None, arith}
use Rattle.std.specs.Prelude.{IfSome, ◌==◌}
use Rattle.std.specs.List.{AllByRecursion}
use Rattle.std.proofs.lemmas.Bool.Decides.{Decides-eqb}
use Rattle.row_model.specs.Lists.{Pairs}
use Rattle.fleet_model.specs.Jobs.{JobSpec, Job, job_with}
use Rattle.fleet_model.specs.History.{Worker, GetRecords, Beat}
use Rattle.fleet_model.specs.Store.{Store, Records, jobs_in, stored_jobs, is_held, AreHeld}
use Rattle.fleet_model.specs.Handles.{context_tables}
use Rattle.fleet_model.specs.Work.Records.{Unrecorded, jobs_after}
use Rattle.fleet_model.specs.Sweeps.{attempt_tables}
use Rattle.fleet_model.specs.Work.Parties.{Attempt, LiveWorker, attempt_at, is_live, runs_attempt, named_attempts, live_attempts}
use Rattle.fleet_model.specs.Invariants.AttemptsFit.{AttemptFits}
use Rattle.fleet_model.specs.Work.Gates.{is_nonempty}
use Rattle.fleet_model.specs.Exchanges.{Plain, PutsRecords, records_version}
use Rattle.step_model.specs.Past.{World}
use Rattle.step_model.specs.Kept.Faithful.{Faithful}
use Rattle.step_model.specs.Lawful.{Lawful}
use Rattle.step_model.specs.LawfulTables.{MayUse}
use Rattle.step_model.specs.LawfulRecords.{OfSome, IsLiveAt, Publishes, PublishedApart, BeatFits}
use Rattle.step_model.specs.Kept.TablesKept.{AreApart}
use Rattle.step_model.specs.Fits.{noted_tables, WorkerHolds}
use Rattle.step_model.specs.Rivals.{Caller, Rivals, after_call}
use Rattle.step_model.specs.Kept.Keeps.{Keeps}
use Rattle.step_model.specs.Courses.CourseRuns.{IsLawfulCourse}
use Rattle.step_model.specs.Courses.Tries.{tries}
use Rattle.step_model.specs.Steps.BeatSteps.{Beaten, context_of, published_by, beat_report, beat_of, beat_by, beat_try, heartbeat}
use Rattle.step_model.specs.Courses.StepEnds.{StepEnd, Reports, most_refused}
use Rattle.step_model.specs.Courses.Course.{Course, Ends}
use Rattle.step_laws.specs.Runs.{CallsKeep}
use Rattle.step_laws.proofs.Runs.{rivals_keep}
use Rattle.step_laws.proofs.Elements.{IsIn, all_at, all_from, all_back, all_true_front, all_true_from, is_itself, pairs_map}
use Rattle.step_laws.proofs.TableReplays.{all_filter}
use Rattle.course_laws.specs.Beats.{BeatsAreLawful}
use Rattle.course_laws.proofs.Later.{Later, later_itself, later_met}
use Rattle.course_laws.proofs.Puts.{got_records, over_got, filter_passes}
use Rattle.course_laws.proofs.Calls.{keeps_after, pairs_filter, all_map}
use Rattle.course_laws.proofs.OwnCalls.{RivalsKeepWorker, rivals_keep_worker, holds_got, holds_refused}
use Rattle.step_laws.proofs.MidwayCalls.{unnamed}

-- ---- what a store and a worker have in common

-- The store meets the invariant, and the worker fits it.
pub record Fit (who : Caller) (w : LiveWorker) (world : World) : Type 0 where
  pub kept : Keeps who.merge world
  pub holds : WorkerHolds who.merge world w

pub fit_met : (who : Caller) (w : LiveWorker) (old new : World) → CallsKeep who.merge → RivalsKeepWorker who w → Fit who w old → Rivals who old new → Fit who w new
fit_met who w old new keep stay fit rivals = record { kept = rivals_keep who old new keep fit.kept rivals; holds = stay old new fit.kept rivals fit.holds }

pub fit_got : (who : Caller) (w : LiveWorker) (world : World) → CallsKeep who.merge → Fit who w world → Fit who w (after_call who.line who.party (Plain GetRecords) None world)
fit_got who w world keep fit = record { kept = keeps_after who (Plain GetRecords) world keep fit.kept tt; holds = holds_got who.merge who.line who.party world w fit.holds }

-- ---- the put

pub found_attempt : (attempts : List Attempt) (a : Attempt) → Pairs (λ a b. a.job < b.job) attempts → IsIn a attempts → attempt_at a.job attempts ≡ Some a
found_attempt [] a rise there = absurd there
found_attempt (first ∷ attempts) a rise (inl same) = subst (λ (x : Attempt). attempt_at x.job (first ∷ attempts) ≡ Some x) same (ap (λ b. cond b (Some first) (attempt_at first.job attempts)) (is_itself first.job))
found_attempt (first ∷ attempts) a rise (inr there) = by (a.job == first.job) refl (found_attempt attempts a rise.1 there)
  where
    by : (b : Bool) → (a.job == first.job) ≡ b → attempt_at a.job attempts ≡ Some a → cond b (Some first) (attempt_at a.job attempts) ≡ Some a
    by true e rest = let low = all_at (λ (other : Attempt). first.job < other.job) attempts a rise.0 there in let same = (Decides-eqb a.job first.job).0 e in absurd (omega (arith, low, same))
    by false e rest = rest

held_back : (store : Store) (xs ys : List ℕ) → AreHeld store (xs ++ ys) → AreHeld store ys
held_back store xs ys h = all_true_from (is_held store) ys (all_back _ xs ys (all_true_front (is_held store) (xs ++ ys) h))

-- The worker may publish the context of the attempt for its job, if the attempt is live there.
abbrev IsReady : Caller → LiveWorker → World → Attempt → Option Job → Type 0
IsReady who w world a stored = OfSome (λ job. IsLiveAt w.number a.number job × Publishes who.merge who.party world job a.context) stored

-- A worker may publish the context of a live attempt that fits its stored job and notes held tables that it may name.
ready : (who : Caller) (w : LiveWorker) (world : World) (a : Attempt) (stored : Option Job) → who.party ≡ Worker w.number → Keeps who.merge world → runs_attempt w.number a.number stored ≡ true
    → ((specs : ℕ → JobSpec) → Faithful world specs → IfSome stored (λ job. AttemptFits who.merge world.store specs job a)) → IfSome stored (λ job. AllByRecursion (MayUse (Worker w.number) world job) (noted_tables a))
    → AreHeld world.store (attempt_tables a) → IsReady who w world a stored
ready who w world a None by kept live fits own held = absurd (cc live)
ready who w world a (Some job) by kept live fits own held = (
  live,
  record {
    fits = λ specs faithful. (fits specs faithful).context;
    extends = (fits kept.stored.replay.specs kept.faithful).published;
    held = held_back world.store a.sources (context_tables (Some a.context)) held;
    own = subst (λ party. AllByRecursion (MayUse party world job) (noted_tables a)) (sym by) own;
  },
)

-- All live attempts are ready, and what they have noted lies apart.
record AreReady (who : Caller) (w : LiveWorker) (world : World) (live : List Attempt) : Type 0 where
  each : AllByRecursion (λ a. IsReady who w world a (job_with a.job (stored_jobs world.store))) live
  rise : Pairs (λ a b. a.job < b.job) live
  apart : Pairs (λ a b. AreApart (noted_tables a) (noted_tables b)) live

-- A worker that fits may publish the contexts of all its live attempts, and no two of these note the same table.
are_ready : (who : Caller) (w : LiveWorker) (world : World) → who.party ≡ Worker w.number → Fit who w world → AreReady who w world (live_attempts (stored_jobs world.store) w)
are_ready who w world by fit =
    let live = live_attempts (stored_jobs world.store) w in
    let test = is_live (stored_jobs world.store) w.number in
    let now = fit.holds.fits fit.kept.stored.replay.specs fit.kept.faithful in
    record {
      each = all_from _ live (λ a there. ready who w world a (job_with a.job (stored_jobs world.store)) by fit.kept (all_at _ live a (filter_passes test w.attempts) there)
          (λ specs faithful. all_at _ live a (fit.holds.fits specs faithful).live there) (all_at _ live a fit.holds.own there)
          (all_at _ live a (all_filter _ test w.attempts now.each) there).held);
      rise = pairs_filter _ test w.attempts fit.holds.jobs_rise;
      apart = fit.holds.apart;
    }

-- What a heartbeat publishes, and when.
abbrev pub beat_unrecorded : ℕ → List Attempt → Unrecorded
beat_unrecorded moment live = record { moment = moment; published = published_by live; kept_cut = None; tables_of = λ spec. [] }

-- A heartbeat of live attempts is a lawful change of the records, if the worker may publish all their contexts.
beat_fits : (who : Caller) (w : LiveWorker) (world : World) (moment : ℕ) (live : List Attempt) → who.party ≡ Worker w.number → AreReady who w world live
    → BeatFits who.merge who.party world (beat_unrecorded moment live) w.number (named_attempts live)
beat_fits who w world moment live by r = record {
  by = by;
  each = all_map _ (λ (a : Attempt). (a.job, a.number)) live (all_from _ live (λ a there.
      publish a (ap context_of (found_attempt live a r.rise there)) (job_with a.job (stored_jobs world.store)) (all_at (λ (a : Attempt). IsReady who w world a (job_with a.job (stored_jobs world.store))) live a r.each there)));
  apart = pairs_map (λ a b. AreApart (noted_tables a) (noted_tables b)) (PublishedApart (beat_unrecorded moment live)) (λ (a : Attempt). (a.job, a.number)) live
      (λ a b one other apart. rw (ap context_of (found_attempt live a r.rise one), ap context_of (found_attempt live b r.rise other)) apart) r.apart;
}
  where
    publish : (a : Attempt) → published_by live a.job ≡ Some a.context → (stored : Option Job) → IsReady who w world a stored
        → OfSome (λ job. IsLiveAt w.number a.number job × OfSome (Publishes who.merge who.party world job) (published_by live a.job)) stored
    publish a e None is = absurd is
    publish a e (Some job) is = (is.0, subst (OfSome (Publishes who.merge who.party world job)) (sym e) is.1)

-- ---- tries

-- Another try of the heartbeat is a lawful course over each store that the worker fits.
abbrev Tries : Caller → LiveWorker → (ℕ → Course (StepEnd Beaten)) → Type 0
Tries who w again = (version : ℕ) (world : World) → Fit who w world → IsLawfulCourse who world (again version)

put_fits : (who : Caller) (w : LiveWorker) (moment : ℕ) (old new : World) (got : Records) (live : List Attempt) → who.party ≡ Worker w.number → old.store.records ≡ Some got → Later old new → Fit who w new → live_attempts got.jobs w ≡ live
    → Lawful who.merge who.party new (PutsRecords got.version (Beat w.number (named_attempts live)) got.epoch (jobs_after (beat_unrecorded moment live) (Beat w.number (named_attempts live)) got.jobs))
put_fits who w moment old new got live by is later fit these = (
  unnamed who.party new,
  λ version.
      let same = got_records old new (Some got) is later version in
      let all : live_attempts (stored_jobs new.store) w ≡ live = ap (λ r. live_attempts (jobs_in r) w) same ∙ these in
      over_got who.merge who.party new got (Beat w.number (named_attempts live)) (beat_unrecorded moment live) got.epoch same (λ r there stored. rw stored there) refl
      (beat_fits who w new moment live by (subst (AreReady who w new) all (are_ready who w new by fit))),
)

after : (who : Caller) (w : LiveWorker) (report : Beaten) (again : ℕ → Course (StepEnd Beaten)) → Tries who w again → (world : World) (version : ℕ) (b : Bool) → (b ≡ false → Fit who w world)
    → IsLawfulCourse who world (cond b (Ends (Reports report)) (again version))
after who w report again tries world version true fit = tt
after who w report again tries world version false fit = tries version world (fit refl)

-- Once a heartbeat has got the records, its put for the live attempts is a lawful course, if another try is.
those : (who : Caller) (w : LiveWorker) (moment : ℕ) (again : ℕ → Course (StepEnd Beaten)) → CallsKeep who.merge → RivalsKeepWorker who w → who.party ≡ Worker w.number → Tries who w again
    → (met : World) (got : Records) (live : List Attempt) → Fit who w met → met.store.records ≡ Some got → live_attempts got.jobs w ≡ live
    → IsLawfulCourse who (after_call who.line who.party (Plain GetRecords) None met) (beat_of moment w got live again)
those who w moment again keep stay by tries met got [] fit is these = tt
those who w moment again keep stay by tries met got (a ∷ live) fit is these = λ put rivals room.
    let change = Beat w.number (named_attempts (a ∷ live)) in
    let jobs = jobs_after (beat_unrecorded moment (a ∷ live)) change got.jobs in
    let there = fit_met who w _ put keep stay (fit_got who w met keep fit) rivals in
    let lawful = put_fits who w moment met put got (a ∷ live) by is (later_met who (Plain GetRecords) met met put (later_itself met) rivals) there these in (
      lawful,
      after who w (beat_report w got.jobs) again tries (after_call who.line who.party (PutsRecords got.version change got.epoch jobs) None put) (records_version put.store.records) (got.version == records_version put.store.records)
          (λ other. record { kept = keeps_after who (PutsRecords got.version change got.epoch jobs) put keep there.kept lawful; holds = holds_refused who.merge who.line who.party put w got.version change got.epoch jobs other there.holds }),
    )

over : (who : Caller) (w : LiveWorker) (moment : ℕ) (again : ℕ → Course (StepEnd Beaten)) → CallsKeep who.merge → RivalsKeepWorker who w → who.party ≡ Worker w.number → Tries who w again
    → (met : World) (records : Option Records) → Fit who w met → met.store.records ≡ records → IsLawfulCourse who (after_call who.line who.party (Plain GetRecords) None met) (beat_by moment w records again)
over who w moment again keep stay by tries met None fit is = tt
over who w moment again keep stay by tries met (Some got) fit is = those who w moment again keep stay by tries met got (live_attempts got.jobs w) fit is refl

beats : (who : Caller) (w : LiveWorker) (moment : ℕ) → CallsKeep who.merge → RivalsKeepWorker who w → who.party ≡ Worker w.number → (left seen : ℕ) (world : World) → Fit who w world → IsLawfulCourse who world (tries (beat_try moment w) left seen)
beats who w moment keep stay by zero seen world fit = tt
beats who w moment keep stay by (suc left) seen world fit = λ met rivals room.
    (tt, over who w moment (tries (beat_try moment w) left) keep stay by (λ version next there. beats who w moment keep stay by left version next there) met met.store.records (fit_met who w world met keep stay fit rivals) refl)

pub beats_are_lawful : BeatsAreLawful
unfolding heartbeat
beats_are_lawful who world moment w keep by kept holds = at (is_nonempty w.attempts)
  where
    at : (b : Bool) → IsLawfulCourse who world (cond b (tries (beat_try moment w) most_refused 0) (Ends (Reports (beat_report w []))))
    at true = beats who w moment keep (rivals_keep_worker who w keep by) by most_refused 0 world (record { kept = kept; holds = holds })
    at false = tt
