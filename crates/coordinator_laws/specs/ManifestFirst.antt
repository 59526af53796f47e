-- The law on the order of a poll's puts, over any store and however the poll ends.
use Rattle.std.specs.Prelude.{◌≡◌, Bool, true, false, List, ◌++◌}
use Rattle.std.specs.List.{AllByRecursion}
use Rattle.fleet_model.specs.History.{Party, Event, PutManifest, PutRecords, Entry}
use Rattle.fleet_model.specs.Work.PollStates.{PollState}
use Rattle.step_model.specs.Past.{World}
use Rattle.step_model.specs.Entries.{party_eq}
use Rattle.step_model.specs.Rivals.{Caller}
use Rattle.step_model.specs.Courses.CourseRuns.{End, Runs}
use Rattle.step_model.specs.Courses.StepEnds.{StepEnd}
use Rattle.step_model.specs.Steps.PollSteps.{PollAsk, poll}

-- True if the event puts the manifest.
abbrev pub is_manifest_put : Event → Bool
is_manifest_put (PutManifest change) = true
is_manifest_put event = false

-- True if the event puts the records.
abbrev pub is_records_put : Event → Bool
is_records_put (PutRecords change) = true
is_records_put event = false

-- Of these entries none is one of the party and of this kind, whatever its answer is.
abbrev pub NoneOwn : Party → (Event → Bool) → List Entry → Type 0
NoneOwn party is entries = AllByRecursion (λ entry. party_eq party entry.party ≡ true → is entry.event ≡ false) entries

-- The entries since the old world may be cut in two, so that the caller put no records before the cut and no manifest
-- after it.
pub record ManifestFirst (who : Caller) (old new : World) : Type 0 where
  pub front : List Entry
  pub back : List Entry
  pub history : new.store.history ≡ old.store.history ++ (front ++ back)
  pub no_records : NoneOwn who.party is_records_put front
  pub no_manifest : NoneOwn who.party is_manifest_put back

-- So it is after each run of a poll, whether it reports, is refused, is struck by a fault or lacks memory.
abbrev pub PollsPutTheManifestFirst : Type 0
PollsPutTheManifestFirst = (who : Caller) (old new : World) (ask : PollAsk) (end : End (StepEnd PollState))
    → Runs who (poll ask) old new end → ManifestFirst who old new
