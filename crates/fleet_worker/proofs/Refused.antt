-- The release of an attempt after the operator refused a fold is the release of an attempt that failed, but for its end.
use Rattle.std.proofs.Common.{◌≡◌, refl, ◌∙◌, ap, subst, ℕ, zero, suc, cond, Bool, true, false, inl, inr, List, [], ◌∷◌, Option, Some, None, Result, Ok, Err}
use Rattle.std.specs.Prelude.{◌==◌, filter}
use Rattle.fleet_model.specs.Exchanges.{Exchange, Fault, records_version}
use Rattle.fleet_model.specs.Store.{Records, Store}
use Rattle.fleet_model.specs.Work.Parties.{Attempt, LiveWorker, is_live, without_attempts}
use Rattle.step_model.specs.Past.{World}
use Rattle.step_model.specs.Rivals.{Caller}
use Rattle.step_model.specs.Courses.Course.{Calls, Course, Ends}
use Rattle.step_model.specs.Courses.CourseRuns.{End, EndsAs, Gives, LacksMemory, MeetsFault}
use Rattle.step_model.specs.Courses.Ran.{Ran, StopsHere}
use Rattle.step_model.specs.Courses.StepEnds.{BadFlush, Declined, Fenced, GivesUp, Invalid, NoRecords, NotOwner, OperatorRefuses, Reports, StepEnd}
use Rattle.step_model.specs.Courses.Tries.{tries}
use Rattle.step_model.specs.LawfulRecords.{OfSome}
use Rattle.step_model.specs.Steps.BeatSteps.{release_by, release_live, release_try}
use Rattle.step_model.specs.Steps.MessageSteps.{attempt_run, gives_run, release_job, take_failed}
use Rattle.step_model.specs.Steps.OutputSteps.{gives_back}
use Rattle.step_model.specs.Views.{StoreView}
use Rattle.fleet_rows.specs.declared.errors.MergeOperatorError.TheVariants as merge_error
use Rattle.fleet_rows.specs.declared.errors.SlateDBError.{SlateDBError}
use Rattle.fleet_rows.specs.declared.errors.SlateDBError.TheVariants as error
use Rattle.fleet_step.specs.Steps.{FaultsRise, RunsTo, StepRan, end_of}
use Rattle.fleet_worker.specs.Messages.{one_return, runs_then}
use Rattle.fleet_worker.specs.Workers.{AttemptParts}

module _ (B : Type 0) (message : List ℕ) where
  -- The end of a release after a refusal, in place of that of an attempt that failed.
  abbrev said : StepEnd (List Attempt) → StepEnd B
  said (Reports report) = OperatorRefuses message
  said (GivesUp seen) = GivesUp seen
  said (Fenced stored) = Fenced stored
  said NotOwner = NotOwner
  said NoRecords = NoRecords
  said Invalid = Invalid
  said (Declined other) = Declined other
  said (OperatorRefuses other) = OperatorRefuses other
  said (BadFlush fault) = BadFlush fault

  abbrev end_said : End (StepEnd (List Attempt)) → End (StepEnd B)
  end_said (Gives answer) = Gives (said answer)
  end_said MeetsFault = MeetsFault
  end_said LacksMemory = LacksMemory

  -- Both courses make the same calls, and end so.
  abbrev Alike : Course (StepEnd (List Attempt)) → Course (StepEnd B) → Type 0
  Alike (Ends answer) (Ends other) = other ≡ said answer
  Alike (Ends answer) (Calls y more) = ⊥
  Alike (Calls x next) (Ends other) = ⊥
  Alike (Calls x next) (Calls y more) = (y ≡ x) × ((met : Store) → Alike (next met) (more met))

  -- ---- runs

  stops_said : (who : Caller) (x : Exchange) (met new : World) (waits left : Option Fault) (end : End (StepEnd (List Attempt))) → StopsHere who x met new waits left end → StopsHere who x met new waits left (end_said end)
  stops_said who x met new waits left (Gives answer) h = absurd h
  stops_said who x met new waits left MeetsFault h = h
  stops_said who x met new waits left LacksMemory h = h

  ends_said : (answer : StepEnd (List Attempt)) (other : StepEnd B) (end : End (StepEnd (List Attempt))) → other ≡ said answer → EndsAs answer end → EndsAs other (end_said end)
  ends_said answer other (Gives given) is same = is ∙ ap said same
  ends_said answer other MeetsFault is none = absurd none
  ends_said answer other LacksMemory is same = tt

  ran_said : (who : Caller) (one : Course (StepEnd (List Attempt))) (two : Course (StepEnd B)) (old new : World) (waits left : Option Fault) (end : End (StepEnd (List Attempt))) → Alike one two → Ran who one old new waits left end → Ran who two old new waits left (end_said end)
  ran_said who (Ends answer) (Ends other) old new waits left end is (same, (rest, ended)) = (same, (rest, ends_said answer other end is ended))
  ran_said who (Ends answer) (Calls y more) old new waits left end is ran = absurd is
  ran_said who (Calls x next) (Ends other) old new waits left end is ran = absurd is
  ran_said who (Calls x next) (Calls y more) old new waits left end (same, on) (met, (rivals, inl stops)) = rw same (met, (rivals, inl (stops_said who x met new waits left end stops)))
  ran_said who (Calls x next) (Calls y more) old new waits left end (same, on) (met, (rivals, inr (room, (mid, (spares, ran))))) =
      rw same (met, (rivals, inr (room, (mid, (spares, ran_said who (next met.store) (more met.store) _ new mid left end (on met.store) ran)))))

  faults_said : (end : End (StepEnd (List Attempt))) (old new : StoreView) → FaultsRise end old new → FaultsRise (end_said end) old new
  faults_said (Gives answer) old new rise = rise
  faults_said MeetsFault old new rise = rise
  faults_said LacksMemory old new rise = rise

  runs_said : (one : Course (StepEnd (List Attempt))) (two : Course (StepEnd B)) (old new : StoreView) (end : End (StepEnd (List Attempt))) → Alike one two → RunsTo one old new end → RunsTo two old new (end_said end)
  runs_said one two old new end is runs = record { same = runs.same; faults = faults_said end old new runs.faults; ran = ran_said old.who one two old.world new.world old.waits new.waits end is runs.ran }

  module _ (attempts : List AttemptParts) (one : Course (StepEnd (List Attempt))) (two : Course (StepEnd B)) (old new : StoreView) (is : Alike one two) where
    -- A step that ran the one course ran the other, with the other end.
    step_said : (result : Result (Unit {0}) SlateDBError) → StepRan (runs_then attempts) one old new result → StepRan (λ (done : Unit {0}). OperatorRefuses message) two old new result
    step_said result ran = record { to_end = by result ran.to_end }
      where
        at : (end : End (StepEnd (List Attempt))) → RunsTo one old new end → RunsTo two old new (end_said end)
        at end runs = runs_said one two old new end is runs

        by : (result : Result (Unit {0}) SlateDBError) → OfSome (RunsTo one old new) (end_of (runs_then attempts) result) → OfSome (RunsTo two old new) (end_of (λ (done : Unit {0}). OperatorRefuses message) result)
        by (Ok done) runs = at (Gives (runs_then attempts done)) runs
        by (Err error.StoreFault) runs = at MeetsFault runs
        by (Err error.Memory) runs = at LacksMemory runs
        by (Err (error.Conflict seen)) runs = at (Gives (GivesUp seen)) runs
        by (Err (error.Fenced stored)) runs = at (Gives (Fenced stored)) runs
        by (Err error.NotOwner) runs = at (Gives NotOwner) runs
        by (Err error.InvalidDBState) runs = at (Gives NoRecords) runs
        by (Err error.InvalidCompaction) runs = at (Gives Invalid) runs
        by (Err (error.Generate other)) runs = at (Gives (Declined other)) runs
        by (Err (error.MergeOperator (merge_error.Callback other))) runs = at (Gives (OperatorRefuses other)) runs
        by (Err (error.MergeOperator merge_error.EmptyBatch)) runs = absurd runs
        by (Err (error.MergeOperator merge_error.Memory)) runs = absurd runs
        by (Err error.IteratorNotInitialized) runs = absurd runs
        by (Err error.IteratorFailed) runs = absurd runs
        by (Err error.MergeOperatorMissing) runs = absurd runs
        by (Err (error.InvalidSequenceOrder current after)) runs = absurd runs
        by (Err (error.CompactionFilter cause)) runs = absurd runs

  -- ---- releases

  module _ (w : LiveWorker) (a : Attempt) where
    abbrev refuses : List ℕ → Course (StepEnd B)
    refuses released = Ends (OperatorRefuses message)

    tries_alike : (left seen : ℕ) → Alike (tries (one_return w a) left seen) (tries (release_try w (a ∷ []) refuses) left seen)
    tries_alike zero seen = refl
    tries_alike (suc left) seen = (refl, λ met. by_got (tries_alike left) met.records)
      where
        by_live : ((version : ℕ) → Alike (tries (one_return w a) left version) (tries (release_try w (a ∷ []) refuses) left version)) → (got : Records) (live : List Attempt)
            → Alike (release_live w got live (λ released. Ends (Reports (without_attempts (a.job ∷ []) w.attempts))) (tries (one_return w a) left)) (release_live w got live refuses (tries (release_try w (a ∷ []) refuses) left))
        by_live later got [] = refl
        by_live later got (b ∷ live) = (refl, λ met. at (got.version == records_version met.records) (records_version met.records))
          where
            at : (b : Bool) (version : ℕ) → Alike (cond b (Ends (Reports (without_attempts (a.job ∷ []) w.attempts))) (tries (one_return w a) left version)) (cond b (refuses []) (tries (release_try w (a ∷ []) refuses) left version))
            at true version = refl
            at false version = later version

        by_got : ((version : ℕ) → Alike (tries (one_return w a) left version) (tries (release_try w (a ∷ []) refuses) left version)) → (got : Option Records)
            → Alike (release_by w (a ∷ []) got (λ released. Ends (Reports (without_attempts (a.job ∷ []) w.attempts))) (tries (one_return w a) left)) (release_by w (a ∷ []) got refuses (tries (release_try w (a ∷ []) refuses) left))
        by_got later None = refl
        by_got later (Some got) = by_live later got (filter (is_live got.jobs w.number) (a ∷ []))

    failed_is : (job number : ℕ) → attempt_run w job number ≡ Some a → take_failed w job number ≡ tries (one_return w a) 64 0
    unfolding take_failed release_job
    failed_is job number run = ap (gives_run w) run

    -- A release of the attempt is the release after a refusal.
    pub gave_back : (attempts : List AttemptParts) (job number : ℕ) → attempt_run w job number ≡ Some a → (old new : StoreView) (result : Result (Unit {0}) SlateDBError) → StepRan (runs_then attempts) (take_failed w job number) old new result
        → StepRan (λ (done : Unit {0}). OperatorRefuses message) (gives_back {A = B} w a message) old new result
    gave_back attempts job number run old new result ran =
        step_said attempts (tries (one_return w a) 64 0) (gives_back {A = B} w a message) old new (tries_alike 64 0) result (subst (λ course. StepRan (runs_then attempts) course old new result) (failed_is job number run) ran)
