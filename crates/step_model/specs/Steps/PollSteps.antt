-- The steps by which a coordinator starts and polls.
use Rattle.std.specs.Prelude.{ℕ, zero, suc, ◌+◌, ◌==◌, Bool, ◌&&◌, nat_lt, max, if◌then◌else◌, List, [], Option, Some, None}
use Rattle.std.specs.Cmp.Lexicographic.{pointwise}
use Rattle.fleet_model.specs.Nodes.{Node, Segment, Tables, name_eq}
use Rattle.fleet_model.specs.Jobs.{JobSpec, Jobs, ids_eq, trimmed_jobs}
use Rattle.fleet_model.specs.History.{GetRecords, ManifestEpoch, Commit, RecordsEpoch, Polled}
use Rattle.fleet_model.specs.Store.{Manifest, Records, jobs_in, records_epoch}
use Rattle.fleet_model.specs.Work.Scheduler.{Scheduler}
use Rattle.fleet_model.specs.Work.PollStates.{PollOptions, PollInput, PollState, poll_begun}
use Rattle.fleet_model.specs.Work.Polls.{free_stale, commit_finished, proposals, committed_poll, add_drawn, open_submitted, change_of, is_nothing}
use Rattle.fleet_model.specs.Exchanges.{Plain, PutsRecords, records_version}
use Rattle.step_model.specs.Courses.Course.{Course, Ends, Calls, gets_manifest, gets_records, draws_jobs, puts_manifest, puts_records}
use Rattle.step_model.specs.Courses.Tries.{Try, counted_tries, tries}
use Rattle.step_model.specs.Courses.StepEnds.{StepEnd, Reports, GivesUp, Fenced, most_refused}
use Rattle.step_model.specs.Steps.Merging.{merged_jobs}

-- ---- start

-- The next epoch: one more than the greater of the two stored epochs.
abbrev pub epoch_above : Manifest → Option Records → ℕ
epoch_above manifest records = max manifest.epoch (records_epoch records) + 1

-- A step of a coordinator goes on unless the stored epoch is above its own. In that case it ends as
-- fenced.
abbrev pub unless_fenced : {A : Type 0} → (epoch stored : ℕ) (next : Course (StepEnd A)) → Course (StepEnd A)
unless_fenced epoch stored next = if nat_lt epoch stored then Ends (Fenced stored) else next

-- The end of a start: the coordinator gets both objects again, so that it holds them as they are.
-- If a stored epoch is above its own, the coordinator is fenced.
abbrev pub holds_at_start : ℕ → Course (StepEnd ℕ)
holds_at_start epoch =
    gets_manifest (λ manifest. gets_records (λ records.
    unless_fenced epoch (max manifest.epoch (records_epoch records)) (Ends (Reports epoch))))

-- The records of a store. If the store has none, they have version 0, epoch 0 and no jobs.
abbrev pub records_or_none : Option Records → Records
records_or_none None = record { version = 0; epoch = 0; jobs = [] }
records_or_none (Some records) = records

-- A course that puts the records with a new epoch. If there are no records, the put is for version
-- 0.
abbrev pub puts_epoch : (records : Option Records) (epoch : ℕ) (next : Course (StepEnd ℕ))
    (again : ℕ → Course (StepEnd ℕ)) → Course (StepEnd ℕ)
puts_epoch records epoch next again =
    Calls (PutsRecords (records_version records) (RecordsEpoch epoch) epoch (trimmed_jobs (jobs_in records)))
    (λ met. if records_version records == records_version met.records then next
    else again (records_version met.records))

-- One try of a start. A refused put of either object begins the start again.
abbrev pub start_try : Try ℕ
start_try again = gets_manifest (λ manifest. gets_records (λ records.
    let epoch = epoch_above manifest records in
    puts_manifest manifest.version (ManifestEpoch epoch) (record manifest { epoch = epoch })
    (puts_epoch records epoch (holds_at_start epoch) again) again))

-- A start puts an epoch above both stored ones, first into the manifest and then into the records.
-- It reports the epoch.
unfoldable pub start : Course (StepEnd ℕ)
start = tries start_try most_refused 0

-- ---- polls

-- What a poll is asked with: the coordinator's epoch, its options, its scheduler and the moment.
pub record PollAsk : Type 0 where
  pub epoch : ℕ
  pub options : PollOptions
  pub scheduler : Scheduler
  pub moment : ℕ  -- in milliseconds
  pub commits_only : Bool  -- the poll takes its second step alone

-- Two nodes have the same name and tables.
abbrev pub node_eq : (a b : Node) → Bool
node_eq a b = name_eq a.name b.name && ids_eq a.pieces b.pieces

-- The nodes of two segments have the same names and tables, in the same order.
abbrev pub same_tree : (a b : Segment) → Bool
same_tree a b = pointwise node_eq a.tree b.tree

-- The poll has the names and tables of all nodes, and the horizon, of the manifest that it got. If its
-- steps fit, it then has that manifest's trees.
abbrev pub is_unchanged : Manifest → PollState → Bool
is_unchanged manifest p = pointwise same_tree manifest.trees p.trees && (manifest.horizon == p.horizon)

-- The input of a poll: the objects that it got, with its options, scheduler and moment.
abbrev pub input_of : (ask : PollAsk) (tables : Tables) (manifest : Manifest) (records : Records) → PollInput
input_of ask tables manifest records = record {
  options = ask.options;
  scheduler = ask.scheduler;
  tables = tables;
  manifest = manifest;
  records = records;
  moment = ask.moment;
}

-- The first two steps of a poll: it frees stale jobs and commits Compacted ones.
abbrev pub freed_and_committed : PollInput → PollState
freed_and_committed input =
    commit_finished input (free_stale input (poll_begun input.manifest.trees input.manifest.horizon input.records.jobs))

-- The steps of a poll before ids are drawn. A poll with `commits_only` commits and frees nothing.
abbrev pub first_steps : PollAsk → PollInput → PollState
first_steps ask input = if ask.commits_only then committed_poll input else freed_and_committed input

-- The proposals of the scheduler that a poll takes, up to its capacity. A poll with `commits_only`
-- takes none.
abbrev pub proposed_specs : PollAsk → PollInput → PollState → List JobSpec
proposed_specs ask input p = if ask.commits_only then [] else proposals input p

-- The steps of a poll after ids are drawn: it adds the proposals and opens submitted jobs. A poll
-- with `commits_only` does neither.
abbrev pub last_steps : (ask : PollAsk) (input : PollInput) (drawn : List (ℕ × JobSpec)) (p : PollState) → PollState
last_steps ask input drawn p = if ask.commits_only then p else open_submitted input (add_drawn 1 drawn p)

-- The poll's state after newer records are merged into its jobs, which happens when a put of the
-- records was refused. The poll then frees no job, since the newer records decide on the jobs that
-- it freed.
abbrev pub merged_into : PollState → Jobs → PollState
merged_into p jobs = record p { jobs = merged_jobs p.jobs jobs; freed = [] }

-- A poll that may put the records at most `left` more times. It puts them only if it changed a job.
-- After a refused put it gets the records again and merges them. `seen` is the version that the
-- last refused put met.
abbrev pub puts_polled : (epoch : ℕ) (p : PollState) (got : Records) (left seen : ℕ) → Course (StepEnd PollState)
puts_polled epoch p got zero seen = Ends (GivesUp seen)
puts_polled epoch p got (suc left) seen =
    if is_nothing (change_of p) then Ends (Reports p)
    else puts_records got (Polled (change_of p)) got.epoch (trimmed_jobs p.jobs) (Ends (Reports p)) (λ seen.
    if left == 0 then Ends (GivesUp seen) else gets_records (λ newer.
    let got = records_or_none newer in
    unless_fenced epoch got.epoch (puts_polled epoch (merged_into p got.jobs) got left seen)))

-- A poll puts the manifest if it changed the trees or the horizon, and then the records. If the put
-- of the manifest is refused, the poll begins again. If it takes effect, the count of refused puts
-- begins again.
abbrev pub puts_trees : (epoch : ℕ) (p : PollState) (manifest : Manifest) (got : Records) (left seen : ℕ)
    (again : ℕ → Course (StepEnd PollState)) → Course (StepEnd PollState)
puts_trees epoch p manifest got left seen again =
    if is_unchanged manifest p then puts_polled epoch p got left seen
    else puts_manifest manifest.version (Commit p.steps) (record manifest { trees = p.trees; horizon = p.horizon })
    (puts_polled epoch p got most_refused 0) again

-- A poll after its two gets: it draws an id for each proposal, and puts what it changed.
abbrev pub polls_over : (ask : PollAsk) (tables : Tables) (manifest : Manifest) (got : Records) (left seen : ℕ)
    (again : ℕ → Course (StepEnd PollState)) → Course (StepEnd PollState)
polls_over ask tables manifest got left seen again =
    let input = input_of ask tables manifest got in
    let p = first_steps ask input in
    draws_jobs ask.moment (proposed_specs ask input p)
    (λ drawn. puts_trees ask.epoch (last_steps ask input drawn p) manifest got left seen again)

-- One try of a poll. `left` and `seen` are those of `counted_tries`: its puts of the records count on.
abbrev pub poll_try : PollAsk → (left seen : ℕ) → Try PollState
poll_try ask left seen again =
    gets_manifest (λ manifest. unless_fenced ask.epoch manifest.epoch (Calls (Plain GetRecords) (λ met.
    let got = records_or_none met.records in
    unless_fenced ask.epoch got.epoch (polls_over ask met.tables manifest got (suc left) seen again))))

-- A poll of a coordinator. It reports the state that it reached, which says what it did.
unfoldable pub poll : PollAsk → Course (StepEnd PollState)
poll ask = counted_tries (poll_try ask) most_refused 0
