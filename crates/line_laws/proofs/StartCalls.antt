-- What the start of a coordinator calls and how it ends, if nobody disturbs it.
use Rattle.std.proofs.Common.{◌≡◌, refl, ◌∙◌, ap, ℕ, ◌+◌, List, [], ◌∷◌, ◌++◌, cond, Bool, true, false, Option, Some, arith}
use Rattle.std.specs.Prelude.{nat_lt, max}
use Rattle.std.specs.List.{AllByRecursion}
use Rattle.std.proofs.lemmas.Bool.{le-ltb}
use Rattle.fleet_model.specs.Nodes.{Tables}
use Rattle.fleet_model.specs.Jobs.{JobSpec, trimmed_jobs}
use Rattle.fleet_model.specs.History.{Party, Coordinator, Event, GetManifest, GetRecords, PutManifest, PutRecords, ManifestEpoch, RecordsEpoch, Done, Conflict}
use Rattle.fleet_model.specs.Store.{Manifest, Records, Store, jobs_in, records_epoch}
use Rattle.fleet_model.specs.Exchanges.{Plain, records_version, records_answer, event_of, answer_of, after_answered, with_entry}
use Rattle.fleet_model.specs.Past.Live.{LiveParties, last_epoch, fenced_by, without_coordinator_of}
use Rattle.step_model.specs.Courses.Course.{Course, Ends, Calls, then_course}
use Rattle.step_model.specs.Courses.Tries.{tries}
use Rattle.step_model.specs.Courses.StepEnds.{StepEnd, Reports, Fenced}
use Rattle.step_model.specs.Steps.PollSteps.{start, start_try, epoch_above, holds_at_start, puts_epoch}
use Rattle.step_laws.proofs.Elements.{is_itself}
use Rattle.line_laws.specs.Lines.PollRuns.{Answered, entry_of}
use Rattle.line_laws.specs.Faults.{calls_made, answer_made}
use Rattle.line_laws.proofs.PollCalls.{Alone}
use Rattle.line_laws.proofs.QuietCalls.{is_note}
use Rattle.line_laws.proofs.LiveCoordinators.{after_one, after_made}

-- ---- two courses, one after the other

-- The store that a course leaves which no fault strikes.
abbrev pub store_made : {A : Type 0} → ℕ → Party → Course A → Store → Store
store_made line party (Ends answer) store = store
store_made line party (Calls x next) store = store_made line party (next store) (after_answered line party x store)

-- A step and then another course make the calls of the step, and then those of the course over what the step left.
pub then_made : {A B : Type 0} (line : ℕ) (party : Party) (step : Course A) (rest : A → Course B) (store : Store)
    → Alone line party (then_course step rest) store
    (calls_made line party step store ++ calls_made line party (rest (answer_made line party step store)) (store_made line party step store))
    (answer_made line party (rest (answer_made line party step store)) (store_made line party step store))
then_made line party (Ends answer) rest store = record { calls_are = refl; answer_is = refl }
then_made {A} {B} line party (Calls x next) rest store = further (then_made line party (next store) rest (after_answered line party x store))
  where
    after : Store
    after = after_answered line party x store

    last : Store
    last = store_made line party (next store) after

    answer : A
    answer = answer_made line party (next store) after

    further : Alone line party (then_course (next store) rest) after (calls_made line party (next store) after ++ calls_made line party (rest answer) last) (answer_made line party (rest answer) last)
        → Alone line party (then_course (Calls x next) rest) store ((event_of x store, answer_of x store) ∷ (calls_made line party (next store) after ++ calls_made line party (rest answer) last)) (answer_made line party (rest answer) last)
    further a = record { calls_are = ap (λ (cs : List Answered). (event_of x store, answer_of x store) ∷ cs) a.calls_are; answer_is = a.answer_is }

-- ---- the start

-- The calls of a start over these objects: it gets both, puts the epoch into both, and gets both again.
abbrev pub start_calls : Manifest → Option Records → List Answered
start_calls m records =
    (GetManifest, Done m.version) ∷ (GetRecords, records_answer records) ∷ (PutManifest (ManifestEpoch (epoch_above m records)), Done (m.version + 1)) ∷ (PutRecords (RecordsEpoch (epoch_above m records)), Done (records_version records + 1))
    ∷ (GetManifest, Done (m.version + 1)) ∷ (GetRecords, Done (records_version records + 1)) ∷ []

-- Both objects have the epoch that the coordinator put.
holds_made : (line : ℕ) (party : Party) (epoch : ℕ) (store : Store) → store.manifest.epoch ≡ epoch → records_epoch store.records ≡ epoch
    → Alone line party (holds_at_start epoch) store ((GetManifest, Done store.manifest.version) ∷ (GetRecords, records_answer store.records) ∷ []) (Reports epoch)
holds_made line party epoch store first second = record {
  calls_are = ap (λ (b : Bool). (GetManifest, Done store.manifest.version) ∷ (GetRecords, records_answer store.records) ∷ calls_made line party (ends b) after) passes;
  answer_is = ap (λ (b : Bool). answer_made line party (ends b) after) passes;
}
  where
    stored : ℕ
    stored = max store.manifest.epoch (records_epoch store.records)

    after : Store
    after = after_answered line party (Plain GetRecords) (after_answered line party (Plain GetManifest) store)

    ends : Bool → Course (StepEnd ℕ)
    ends b = cond b (Ends (Fenced stored)) (Ends (Reports epoch))

    passes : nat_lt epoch stored ≡ false
    passes = le-ltb epoch stored (omega (arith, first, second))

-- A start that nobody disturbs puts its epoch into the records, gets both objects again, and reports the epoch.
records_made : (line : ℕ) (party : Party) (epoch : ℕ) (again : ℕ → Course (StepEnd ℕ)) (store : Store) → store.manifest.epoch ≡ epoch
    → Alone line party (puts_epoch store.records epoch (holds_at_start epoch) again) store
    ((PutRecords (RecordsEpoch epoch), Done (records_version store.records + 1)) ∷ (GetManifest, Done store.manifest.version) ∷ (GetRecords, Done (records_version store.records + 1)) ∷ []) (Reports epoch)
records_made line party epoch again store first = record {
  calls_are = ap (λ (b : Bool). (put, cond b (Done (version + 1)) (Conflict version)) ∷ calls_made line party (next b) (after b)) (is_itself version) ∙ ap (λ (cs : List Answered). (put, Done (version + 1)) ∷ cs) holds.calls_are;
  answer_is = ap (λ (b : Bool). answer_made line party (next b) (after b)) (is_itself version) ∙ holds.answer_is;
}
  where
    version : ℕ
    version = records_version store.records

    put : Event
    put = PutRecords (RecordsEpoch epoch)

    next : Bool → Course (StepEnd ℕ)
    next b = cond b (holds_at_start epoch) (again version)

    after : Bool → Store
    after b = with_entry line party put (cond b (Done (version + 1)) (Conflict version)) (cond b (record store { records = Some (record { version = version + 1; epoch = epoch; jobs = trimmed_jobs (jobs_in store.records) }) }) store)

    holds : Alone line party (holds_at_start epoch) (after true) ((GetManifest, Done store.manifest.version) ∷ (GetRecords, Done (version + 1)) ∷ []) (Reports epoch)
    holds = holds_made line party epoch (after true) first refl

-- A start that nobody disturbs puts an epoch above the stored ones into both objects, and reports it.
try_made : (line : ℕ) (party : Party) (again : ℕ → Course (StepEnd ℕ)) (store : Store) → Alone line party (start_try again) store (start_calls store.manifest store.records) (Reports (epoch_above store.manifest store.records))
try_made line party again store = record {
  calls_are = ap (λ (b : Bool). gets ++ (put, cond b (Done (m.version + 1)) (Conflict m.version)) ∷ calls_made line party (next b) (after b)) (is_itself m.version) ∙ ap (λ (cs : List Answered). gets ++ (put, Done (m.version + 1)) ∷ cs) rest.calls_are;
  answer_is = ap (λ (b : Bool). answer_made line party (next b) (after b)) (is_itself m.version) ∙ rest.answer_is;
}
  where
    m : Manifest
    m = store.manifest

    epoch : ℕ
    epoch = epoch_above m store.records

    gets : List Answered
    gets = (GetManifest, Done m.version) ∷ (GetRecords, records_answer store.records) ∷ []

    put : Event
    put = PutManifest (ManifestEpoch epoch)

    next : Bool → Course (StepEnd ℕ)
    next b = cond b (puts_epoch store.records epoch (holds_at_start epoch) again) (again m.version)

    got : Store
    got = after_answered line party (Plain GetRecords) (after_answered line party (Plain GetManifest) store)

    after : Bool → Store
    after b = with_entry line party put (cond b (Done (m.version + 1)) (Conflict m.version)) (cond b (record got { manifest = record m { epoch = epoch; version = m.version + 1 } }) got)

    rest : Alone line party (puts_epoch store.records epoch (holds_at_start epoch) again) (after true)
        ((PutRecords (RecordsEpoch epoch), Done (records_version store.records + 1)) ∷ (GetManifest, Done (m.version + 1)) ∷ (GetRecords, Done (records_version store.records + 1)) ∷ []) (Reports epoch)
    rest = records_made line party epoch again (after true) refl

pub start_made : (line : ℕ) (party : Party) (store : Store) → Alone line party start store (start_calls store.manifest store.records) (Reports (epoch_above store.manifest store.records))
unfolding start
start_made line party store = try_made line party (tries start_try 63) store

pub start_is_quiet : (m : Manifest) (records : Option Records) → AllByRecursion (λ (call : Answered). is_note call.0 ≡ false) (start_calls m records)
start_is_quiet m records = (refl, (refl, (refl, (refl, (refl, (refl, tt))))))

-- ---- the epoch that it puts

fenced_epochs : (n epoch : ℕ) (s : LiveParties) → (fenced_by n epoch s).epochs ≡ s.epochs
fenced_epochs n epoch s = by (nat_lt (last_epoch n s.coordinators) epoch)
  where
    by : (b : Bool) → (cond b (without_coordinator_of n s) s).epochs ≡ s.epochs
    by true = refl
    by false = refl

-- The history gives a coordinator the epoch that its start put.
pub start_puts : (tables : Tables) (specs : ℕ → JobSpec) (line n : ℕ) (s : LiveParties) (m : Manifest) (records : Option Records) → last_epoch n (after_made tables specs line (Coordinator n) s (start_calls m records)).epochs ≡ epoch_above m records
start_puts tables specs line n s m records =
    ap (last_epoch n) (fenced_epochs n (records_epoch again.objects.records) again ∙ fenced_epochs n put.objects.manifest.epoch put) ∙ ap (λ (b : Bool). cond b (epoch_above m records) (last_epoch n got.epochs)) (is_itself n)
  where
    got : LiveParties
    got = after_made tables specs line (Coordinator n) s ((GetManifest, Done m.version) ∷ (GetRecords, records_answer records) ∷ [])

    put : LiveParties
    put = after_made tables specs line (Coordinator n) got ((PutManifest (ManifestEpoch (epoch_above m records)), Done (m.version + 1)) ∷ (PutRecords (RecordsEpoch (epoch_above m records)), Done (records_version records + 1)) ∷ [])

    again : LiveParties
    again = after_one tables specs put (entry_of line (Coordinator n) (GetManifest, Done (m.version + 1)))
