-- The steps by which jobs are submitted.
use Rattle.std.specs.Prelude.{ℕ, List, [], ◌∷◌, Option, Some, None}
use Rattle.fleet_model.specs.Jobs.{JobSpec}
use Rattle.fleet_model.specs.History.{GetManifest, Submit}
use Rattle.fleet_model.specs.Store.{Records}
use Rattle.fleet_model.specs.Work.Records.{jobs_after, firsts}
use Rattle.fleet_model.specs.Work.Scheduler.{Scheduler, Request, Generated, Specs, shown_view}
use Rattle.fleet_model.specs.Work.Scheduler as scheduler
use Rattle.fleet_model.specs.Exchanges.{Plain}
use Rattle.step_model.specs.Courses.Course.{Course, Ends, Calls, gets_records, draws_jobs, puts_records}
use Rattle.step_model.specs.Courses.Tries.{Try, tries}
use Rattle.step_model.specs.Courses.StepEnds.{StepEnd, Reports, NoRecords, Invalid, Declined, most_refused}
use Rattle.step_model.specs.Steps.ClaimSteps.{at_moment}

-- The submission of these jobs, each with its id. If there is at least one, the step puts the
-- records and reports the ids.
abbrev pub submits_drawn : (moment : ℕ) (got : Records) (specs : List (ℕ × JobSpec))
    (again : ℕ → Course (StepEnd (List ℕ))) → Course (StepEnd (List ℕ))
submits_drawn moment got [] again = Ends (Reports [])
submits_drawn moment got (p ∷ specs) again =
    let change = Submit (p ∷ specs) in
    puts_records got change got.epoch (jobs_after (at_moment moment) change got.jobs)
    (Ends (Reports (firsts (p ∷ specs)))) again

-- A submission that draws an id for each spec and puts the jobs.
abbrev pub submits_specs : (moment : ℕ) (got : Records) (specs : List JobSpec) (again : ℕ → Course (StepEnd (List ℕ)))
    → Course (StepEnd (List ℕ))
submits_specs moment got specs again = draws_jobs moment specs (λ drawn. submits_drawn moment got drawn again)

-- A submission after its get of the records. If there are no records, it ends with NoRecords.
abbrev pub submit_by : (moment : ℕ) (specs : List JobSpec) (got : Option Records)
    (again : ℕ → Course (StepEnd (List ℕ))) → Course (StepEnd (List ℕ))
submit_by moment specs None again = Ends NoRecords
submit_by moment specs (Some got) again = submits_specs moment got specs again

-- One try of a submission.
abbrev pub submit_try : (moment : ℕ) → List JobSpec → Try (List ℕ)
submit_try moment specs again = gets_records (λ got. submit_by moment specs got again)

-- A submission of jobs of these specs. It reports their ids.
unfoldable pub submit : ℕ → List JobSpec → Course (StepEnd (List ℕ))
submit moment specs = tries (submit_try moment specs) most_refused 0

-- A submission of the specs that the scheduler generated. If the scheduler refuses the request, the
-- step ends with that refusal.
abbrev pub submits_generated : (moment : ℕ) (got : Records) (generated : Generated)
    (again : ℕ → Course (StepEnd (List ℕ))) → Course (StepEnd (List ℕ))
submits_generated moment got (Specs specs) again = submits_specs moment got specs again
submits_generated moment got scheduler.Invalid again = Ends Invalid
submits_generated moment got (scheduler.Declined message) again = Ends (Declined message)

-- A request after its get of the records. It gets the manifest, and the scheduler generates specs
-- by both. If there are no records, it ends with NoRecords.
abbrev pub request_by : (moment : ℕ) (asked : Scheduler) (request : Request) (got : Option Records)
    (again : ℕ → Course (StepEnd (List ℕ))) → Course (StepEnd (List ℕ))
request_by moment asked request None again = Ends NoRecords
request_by moment asked request (Some got) again =
    Calls (Plain GetManifest)
    (λ met. submits_generated moment got
    (asked.generate (shown_view met.tables met.manifest got got.jobs) request) again)

-- One try of a request.
abbrev pub request_try : (moment : ℕ) → Scheduler → Request → Try (List ℕ)
request_try moment asked request again = gets_records (λ got. request_by moment asked request got again)

-- A request: the scheduler generates specs for it, and the step submits jobs of these specs and
-- reports their ids.
unfoldable pub submit_request : ℕ → Scheduler → Request → Course (StepEnd (List ℕ))
submit_request moment asked request = tries (request_try moment asked request) most_refused 0
