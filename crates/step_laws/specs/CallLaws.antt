-- The laws on single calls: lawful ones keep the invariant.
use Rattle.std.specs.Prelude.{◌≡◌, ℕ, ℤ, Bool, true, false, List, Some}
use Rattle.row_model.specs.Fold.{Operator}
use Rattle.fleet_model.specs.Jobs.{JobSpec, Jobs}
use Rattle.fleet_model.specs.History.{Party, Event, ManifestChange, ManifestEpoch, Flush, Commit, RecordChange, RecordsEpoch, Submit, Claim, Beat, Finish, Release, Polled, PollChange}
use Rattle.fleet_model.specs.Store.{Manifest}
use Rattle.row_model.specs.Rows.{Row}
use Rattle.fleet_model.specs.Exchanges.{Exchange, Plain, DrawsJob, DrawsTable, PutsTable, PutsManifest, PutsRecords, ListsTables, DeletesTable, records_version}
use Rattle.step_model.specs.Past.{World}
use Rattle.step_model.specs.Lawful.{Lawful}
use Rattle.step_model.specs.Rivals.{Strike, MayStrike, after_call}
use Rattle.step_model.specs.Kept.Keeps.{Keeps}

-- A call keeps the invariant and the facts where this condition on its party and on the world
-- holds, whether a fault strikes the call or not.
abbrev pub CallKeepsIf : Operator → Exchange → (Party → World → Type 0) → Type 0
CallKeepsIf merge x Fits = (line : ℕ) (party : Party) (strike : Strike) (world : World)
    → Keeps merge world → Fits party world → MayStrike x world strike
    → Keeps merge (after_call line party x strike world)

-- A call that is lawful where it comes keeps the invariant and the facts.
abbrev pub CallKeeps : Operator → Exchange → Type 0
CallKeeps merge x = CallKeepsIf merge x (λ party world. Lawful merge party world x)

-- ---- gets, notes and draws

-- Gets, notes and lists of the held tables keep the invariant.
pub record LooksKeep (merge : Operator) : Type 0 where
  pub plain : (event : Event) → CallKeeps merge (Plain event)
  pub lists : CallKeeps merge ListsTables

-- Draws keep the invariant.
pub record DrawsKeep (merge : Operator) : Type 0 where
  pub jobs : (moment : ℕ) → CallKeeps merge (DrawsJob moment)
  pub tables : (moment : ℕ) → CallKeeps merge (DrawsTable moment)

-- ---- puts that change nothing

-- Puts that a fault strikes and that are lost keep the invariant, and so do puts of the manifest and
-- of the records that are refused because another version is stored.
pub record VainPutsKeep (merge : Operator) : Type 0 where
  pub lost : (x : Exchange) (line : ℕ) (party : Party) (world : World) → Keeps merge world → Lawful merge party world x
      → MayStrike x world (Some false) → Keeps merge (after_call line party x (Some false) world)
  pub refused : (line : ℕ) (party : Party) (strike : Strike) (world : World) (version : ℕ) (change : ManifestChange)
      (value : Manifest)
      → Keeps merge world
      → (version ≡ world.store.manifest.version → ⊥)
      → Keeps merge (after_call line party (PutsManifest version change value) strike world)
  pub records_refused : (line : ℕ) (party : Party) (strike : Strike) (world : World) (version : ℕ)
      (change : RecordChange) (epoch : ℕ) (jobs : Jobs)
      → Keeps merge world
      → Lawful merge party world (PutsRecords version change epoch jobs)
      → (version ≡ records_version world.store.records → ⊥)
      → Keeps merge (after_call line party (PutsRecords version change epoch jobs) strike world)

-- ---- tables

-- Puts and deletions of tables keep the invariant.
pub record TableCallsKeep (merge : Operator) : Type 0 where
  pub puts : (table : ℕ) (rows : List Row) → CallKeeps merge (PutsTable table rows)
  pub deletions : (table : ℕ) → CallKeeps merge (DeletesTable table)

-- ---- puts of the manifest and of the records

-- A put of the manifest with this change keeps the invariant.
abbrev pub ManifestPutKeeps : Operator → ManifestChange → Type 0
ManifestPutKeeps merge change = (version : ℕ) (value : Manifest) → CallKeeps merge (PutsManifest version change value)

-- A put of the records with this change keeps the invariant.
abbrev pub RecordsPutKeeps : Operator → RecordChange → Type 0
RecordsPutKeeps merge change = (version epoch : ℕ) (jobs : Jobs)
    → CallKeeps merge (PutsRecords version change epoch jobs)

-- Puts of epochs keep the invariant, in the manifest and in the records.
pub record EpochsKeep (merge : Operator) : Type 0 where
  pub manifest : (epoch : ℕ) → ManifestPutKeeps merge (ManifestEpoch epoch)
  pub records : (epoch : ℕ) → RecordsPutKeeps merge (RecordsEpoch epoch)

-- Flushes keep the invariant.
abbrev pub FlushesKeep : Operator → Type 0
FlushesKeep merge = (name : ℕ) (segment : List ℕ) (floor : ℕ) (tick : ℤ)
    → ManifestPutKeeps merge (Flush name segment floor tick)

-- A worker's puts of the records keep the invariant.
pub record WorkerPutsKeep (merge : Operator) : Type 0 where
  pub claims : (worker : ℕ) (attempts : List (ℕ × ℕ)) → RecordsPutKeeps merge (Claim worker attempts)
  pub beats : (worker : ℕ) (attempts : List (ℕ × ℕ)) → RecordsPutKeeps merge (Beat worker attempts)
  pub finishes : (worker job attempt : ℕ) (outputs : List (List ℕ))
      → RecordsPutKeeps merge (Finish worker job attempt outputs)
  pub releases : (worker : ℕ) (attempts : List (ℕ × ℕ)) → RecordsPutKeeps merge (Release worker attempts)

-- Submissions and polls keep the invariant in the records.
pub record JobPutsKeep (merge : Operator) : Type 0 where
  pub submits : (specs : List (ℕ × JobSpec)) → RecordsPutKeeps merge (Submit specs)
  pub polls : (change : PollChange) → RecordsPutKeeps merge (Polled change)

-- ---- all calls but commits

-- True if the call is the put of a manifest with a commit.
abbrev pub is_commit : Exchange → Bool
is_commit (PutsManifest version (Commit steps) value) = true
is_commit _ = false

-- Every lawful call that is no commit keeps the invariant, under any operator.
abbrev pub OtherCallsKeep : Operator → Type 0
OtherCallsKeep merge = (x : Exchange) → is_commit x ≡ false → CallKeeps merge x
