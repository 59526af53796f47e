-- What heartbeats and releases did that report: walks over their calls.
use Rattle.std.proofs.Common.{◌≡◌, refl, sym, ◌∙◌, ap, ℕ, zero, suc, List, [], ◌∷◌, cond, Bool, true, false, Option, Some, None}
use Rattle.std.specs.Prelude.{◌==◌, filter, not}
use Rattle.fleet_model.specs.Jobs.{Jobs}
use Rattle.fleet_model.specs.History.{GetRecords, Beat, Release}
use Rattle.fleet_model.specs.Store.{Records, Store, stored_jobs, jobs_in}
use Rattle.fleet_model.specs.Work.Records.{Unrecorded, jobs_after}
use Rattle.fleet_model.specs.Work.Parties.{Attempt, LiveWorker, attempt_jobs, named_attempts, is_live, live_attempts, not_owned}
use Rattle.fleet_model.specs.Work.Gates.{is_nonempty}
use Rattle.fleet_model.specs.Exchanges.{Exchange, Plain, PutsRecords, records_version}
use Rattle.step_model.specs.Past.{World}
use Rattle.step_model.specs.Rivals.{Caller, after_call}
use Rattle.step_model.specs.Courses.Course.{Course, Ends}
use Rattle.step_model.specs.Courses.Tries.{tries}
use Rattle.step_model.specs.Courses.StepEnds.{StepEnd, Reports, most_refused}
use Rattle.step_model.specs.Steps.ClaimSteps.{at_moment}
use Rattle.step_model.specs.Steps.BeatSteps.{Beaten, published_by, beat_report, beat_of, beat_by, beat_try, heartbeat, release_live, release_by, release_try, release_all}
use Rattle.step_laws.specs.Runs.{CallsKeep}
use Rattle.course_laws.specs.Afterwards.{ComesAfter}
use Rattle.course_laws.proofs.Afterwards.{comes_itself, comes_met, comes_called}
use Rattle.course_laws.proofs.Beats.{beats_are_lawful}
use Rattle.course_laws.proofs.Releases.{releases_are_lawful}
use Rattle.course_laws.proofs.Going.{Going, Gone, goes}
use Rattle.worker_laws.specs.BeatReports.{BeatDid, ReleaseDid, BeatsReport}

-- ---- heartbeats

beat_did : (w : LiveWorker) (start found : World) (jobs : Jobs) (report : Beaten) → ComesAfter start found → stored_jobs found.store ≡ jobs → beat_report w jobs ≡ report → BeatDid w start report
beat_did w start found jobs report after stored is = record {
  found = found;
  after = after;
  beat = ap (λ (r : Beaten). r.beat) (sym is) ∙ ap (λ (js : Jobs). attempt_jobs (live_attempts js w)) (sym stored);
  not_owner = ap (λ (r : Beaten). r.not_owner) (sym is) ∙ ap (λ (js : Jobs). attempt_jobs (not_owned js w)) (sym stored);
  attempts = ap (λ (r : Beaten). r.attempts) (sym is) ∙ ap (λ (js : Jobs). live_attempts js w) (sym stored);
}

-- Another try did what it is to do.
abbrev BeatsOn : Caller → LiveWorker → World → World → Beaten → (ℕ → Course (StepEnd Beaten)) → Type 0
BeatsOn who w start last report again = (seen : ℕ) (world : World) → ComesAfter start world → Going who (again seen) world last (Reports report) → BeatDid w start report

-- From its get of the records on, a heartbeat that reports did what it says, if it does so after another try.
beat_these : (who : Caller) (moment : ℕ) (w : LiveWorker) (start last : World) (report : Beaten) (again : ℕ → Course (StepEnd Beaten)) → CallsKeep who.merge → BeatsOn who w start last report again → (found world : World) (got : Records) (live : List Attempt)
    → ComesAfter start found → ComesAfter start world → stored_jobs found.store ≡ got.jobs → Going who (beat_of moment w got live again) world last (Reports report) → BeatDid w start report
beat_these who moment w start last report again keep on found world got [] after comes stored going = beat_did w start found got.jobs report after stored (cc (going.run.1))
beat_these who moment w start last report again keep on found world got (a ∷ live) after comes stored going = put (goes who x next world last (Reports report) keep going)
  where
    u : Unrecorded
    u = record { moment = moment; published = published_by (a ∷ live); kept_cut = None; tables_of = λ spec. [] }

    x : Exchange
    x = PutsRecords got.version (Beat w.number (named_attempts (a ∷ live))) got.epoch (jobs_after u (Beat w.number (named_attempts (a ∷ live))) got.jobs)

    next : Store → Course (StepEnd Beaten)
    next met = cond (got.version == records_version met.records) (Ends (Reports (beat_report w got.jobs))) (again (records_version met.records))

    put : Gone who x next world last (Reports report) → BeatDid w start report
    put g = by (got.version == records_version g.met.store.records) g.going
      where
        by : (b : Bool) → Going who (cond b (Ends (Reports (beat_report w got.jobs))) (again (records_version g.met.store.records))) (after_call who.line who.party x None g.met) last (Reports report) → BeatDid w start report
        by true going = beat_did w start found got.jobs report after stored (cc (going.run.1))
        by false going = on (records_version g.met.store.records) (after_call who.line who.party x None g.met) (comes_called who x start g.met (comes_met who start world g.met comes g.rivals)) going

beat_over : (who : Caller) (moment : ℕ) (w : LiveWorker) (start last : World) (report : Beaten) (again : ℕ → Course (StepEnd Beaten)) → CallsKeep who.merge → BeatsOn who w start last report again → (found world : World) (records : Option Records) → ComesAfter start found
    → ComesAfter start world → found.store.records ≡ records → Going who (beat_by moment w records again) world last (Reports report) → BeatDid w start report
beat_over who moment w start last report again keep on found world None after comes is going = beat_did w start found [] report after (ap jobs_in is) (cc (going.run.1))
beat_over who moment w start last report again keep on found world (Some got) after comes is going = beat_these who moment w start last report again keep on found world got (live_attempts got.jobs w) after comes (ap jobs_in is) going

beats_did : (who : Caller) (moment : ℕ) (w : LiveWorker) (start last : World) (report : Beaten) → CallsKeep who.merge → (left seen : ℕ) (world : World) → ComesAfter start world → Going who (tries (beat_try moment w) left seen) world last (Reports report) → BeatDid w start report
beats_did who moment w start last report keep zero seen world comes going = absurd (cc (going.run.1))
beats_did who moment w start last report keep (suc left) seen world comes going =
    let again = tries (beat_try moment w) left in
    let g = goes who (Plain GetRecords) (λ (met : Store). beat_by moment w met.records again) world last (Reports report) keep going in
    let after = comes_met who start world g.met comes g.rivals in
    beat_over who moment w start last report again keep (λ seen world comes going. beats_did who moment w start last report keep left seen world comes going) g.met (after_call who.line who.party (Plain GetRecords) None g.met) g.met.store.records after
    (comes_called who (Plain GetRecords) start g.met after) refl g.going

none_live : (test : Attempt → Bool) (attempts : List Attempt) → is_nonempty attempts ≡ false → filter test attempts ≡ []
none_live test [] e = refl
none_live test (a ∷ attempts) e = absurd (cc e)

-- A heartbeat that reports named the attempts that were live by records that it found, and stopped the others.
heartbeat_did : (who : Caller) (moment : ℕ) (w : LiveWorker) (start last : World) (report : Beaten) → CallsKeep who.merge → Going who (heartbeat moment w) start last (Reports report) → BeatDid w start report
unfolding heartbeat
heartbeat_did who moment w start last report keep going = by (is_nonempty w.attempts) refl going
  where
    -- Without attempts the report is the same over any jobs.
    none : is_nonempty w.attempts ≡ false → beat_report w (stored_jobs start.store) ≡ beat_report w []
    none e =
        let live = none_live (is_live (stored_jobs start.store) w.number) w.attempts e ∙ sym (none_live (is_live [] w.number) w.attempts e) in
        let lost = none_live (λ a. not (is_live (stored_jobs start.store) w.number a)) w.attempts e ∙ sym (none_live (λ a. not (is_live [] w.number a)) w.attempts e) in
        λ i. record { beat = attempt_jobs (live i); not_owner = attempt_jobs (lost i); attempts = live i }

    by : (b : Bool) → is_nonempty w.attempts ≡ b → Going who (cond b (tries (beat_try moment w) most_refused 0) (Ends (Reports (beat_report w [])))) start last (Reports report) → BeatDid w start report
    by true e going = beats_did who moment w start last report keep most_refused 0 start (comes_itself start) going
    by false e going = beat_did w start start (stored_jobs start.store) report (comes_itself start) refl (none e ∙ cc (going.run.1))

-- ---- releases

-- The end of a release that reports.
abbrev ends_with : List ℕ → Course (StepEnd (List ℕ))
ends_with released = Ends (Reports released)

abbrev ReleasesOn : Caller → LiveWorker → World → World → List ℕ → (ℕ → Course (StepEnd (List ℕ))) → Type 0
ReleasesOn who w start last released again = (seen : ℕ) (world : World) → ComesAfter start world → Going who (again seen) world last (Reports released) → ReleaseDid w start released

-- From its get of the records on, a release that reports gave back the live attempts, if another try does so.
release_these : (who : Caller) (w : LiveWorker) (start last : World) (released : List ℕ) (again : ℕ → Course (StepEnd (List ℕ))) → CallsKeep who.merge → ReleasesOn who w start last released again → (found world : World) (got : Records) (live : List Attempt)
    → live_attempts (stored_jobs found.store) w ≡ live → ComesAfter start found → ComesAfter start world → Going who (release_live w got live ends_with again) world last (Reports released) → ReleaseDid w start released
release_these who w start last released again keep on found world got [] these after comes going =
    let is : [] ≡ released = cc (going.run.1) in
    record { found = found; after = after; gave = sym is ∙ ap attempt_jobs (sym these) }
release_these who w start last released again keep on found world got (a ∷ live) these after comes going = put (goes who x next world last (Reports released) keep going)
  where
    x : Exchange
    x = PutsRecords got.version (Release w.number (named_attempts (a ∷ live))) got.epoch (jobs_after (at_moment 0) (Release w.number (named_attempts (a ∷ live))) got.jobs)

    next : Store → Course (StepEnd (List ℕ))
    next met = cond (got.version == records_version met.records) (ends_with (attempt_jobs (a ∷ live))) (again (records_version met.records))

    put : Gone who x next world last (Reports released) → ReleaseDid w start released
    put g = by (got.version == records_version g.met.store.records) g.going
      where
        by : (b : Bool) → Going who (cond b (ends_with (attempt_jobs (a ∷ live))) (again (records_version g.met.store.records))) (after_call who.line who.party x None g.met) last (Reports released) → ReleaseDid w start released
        by true going =
            let is : attempt_jobs (a ∷ live) ≡ released = cc (going.run.1) in
            record { found = found; after = after; gave = sym is ∙ ap attempt_jobs (sym these) }
        by false going = on (records_version g.met.store.records) (after_call who.line who.party x None g.met) (comes_called who x start g.met (comes_met who start world g.met comes g.rivals)) going

no_jobs_live : (worker : ℕ) (attempts : List Attempt) → filter (is_live [] worker) attempts ≡ []
no_jobs_live worker [] = refl
no_jobs_live worker (a ∷ attempts) = no_jobs_live worker attempts

release_over : (who : Caller) (w : LiveWorker) (start last : World) (released : List ℕ) (again : ℕ → Course (StepEnd (List ℕ))) → CallsKeep who.merge → ReleasesOn who w start last released again → (found world : World) (records : Option Records) → ComesAfter start found
    → ComesAfter start world → found.store.records ≡ records → Going who (release_by w w.attempts records ends_with again) world last (Reports released) → ReleaseDid w start released
release_over who w start last released again keep on found world None after comes is going =
    let same : [] ≡ released = cc (going.run.1) in
    record { found = found; after = after; gave = sym same ∙ ap attempt_jobs (sym (ap (λ o. filter (is_live (jobs_in o) w.number) w.attempts) is ∙ no_jobs_live w.number w.attempts)) }
release_over who w start last released again keep on found world (Some got) after comes is going =
    release_these who w start last released again keep on found world got (filter (is_live got.jobs w.number) w.attempts) (ap (λ o. filter (is_live (jobs_in o) w.number) w.attempts) is) after comes going

releases_did : (who : Caller) (w : LiveWorker) (start last : World) (released : List ℕ) → CallsKeep who.merge → (left seen : ℕ) (world : World) → ComesAfter start world → Going who (tries (release_try w w.attempts ends_with) left seen) world last (Reports released)
    → ReleaseDid w start released
releases_did who w start last released keep zero seen world comes going = absurd (cc (going.run.1))
releases_did who w start last released keep (suc left) seen world comes going =
    let again = tries (release_try w w.attempts ends_with) left in
    let g = goes who (Plain GetRecords) (λ (met : Store). release_by w w.attempts met.records ends_with again) world last (Reports released) keep going in
    let after = comes_met who start world g.met comes g.rivals in
    release_over who w start last released again keep (λ seen world comes going. releases_did who w start last released keep left seen world comes going) g.met (after_call who.line who.party (Plain GetRecords) None g.met) g.met.store.records after
    (comes_called who (Plain GetRecords) start g.met after) refl g.going

release_did : (who : Caller) (w : LiveWorker) (start last : World) (released : List ℕ) → CallsKeep who.merge → Going who (release_all w) start last (Reports released) → ReleaseDid w start released
unfolding release_all
release_did who w start last released keep going = by (is_nonempty w.attempts) refl going
  where
    by : (b : Bool) → is_nonempty w.attempts ≡ b → Going who (cond b (tries (release_try w w.attempts ends_with) most_refused 0) (ends_with [])) start last (Reports released) → ReleaseDid w start released
    by true e going = releases_did who w start last released keep most_refused 0 start (comes_itself start) going
    by false e going =
        let is : [] ≡ released = cc (going.run.1) in
        record { found = start; after = comes_itself start; gave = sym is ∙ ap attempt_jobs (sym (none_live (is_live (stored_jobs start.store) w.number) w.attempts e)) }

pub beats_report : BeatsReport
beats_report = record {
  beats = λ who old new moment w report keep own kept holds run. heartbeat_did who moment w old new report keep (record { kept = kept; lawful = beats_are_lawful who old moment w keep own kept holds; run = run });
  releases = λ who old new w released keep own kept run. release_did who w old new released keep (record { kept = kept; lawful = releases_are_lawful who old w own; run = run });
}
