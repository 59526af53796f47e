-- A sweep leaves no trace in what a history says, apart from the tables that it deletes.
use Rattle.std.specs.Prelude.{◌≡◌, ℕ, Bool, true, false, not, IsTrue, List, filter}
use Rattle.std.specs.List.{AllByRecursion}
use Rattle.fleet_model.specs.Nodes.{Tables}
use Rattle.fleet_model.specs.Jobs.{JobSpec}
use Rattle.fleet_model.specs.History.{Party, Sweeper, Event, GetManifest, GetRecords, ListTables, DeleteTable, Entry}
use Rattle.fleet_model.specs.Store.{fresh_store}
use Rattle.fleet_model.specs.Past.Replay.{plain_objects, replayed_objects}
use Rattle.fleet_model.specs.Past.Live.{live_after}
use Rattle.fleet_model.specs.Past.Claimed.{settings_of, ranges_of}
use Rattle.fleet_model.specs.Invariants.JobsFit.{was_joined}
use Rattle.fleet_model.specs.Invariants.AttemptsFit.{was_beaten}
use Rattle.fleet_model.specs.Past.Finished.{is_finished_by}

-- True if the party is a sweeper.
abbrev pub is_sweeper : Party → Bool
is_sweeper Sweeper = true
is_sweeper _ = false

-- True if the event is one of a sweep: a get of the manifest or of the records, a list of the held tables,
-- or the deletion of a table.
abbrev pub is_of_sweep : Event → Bool
is_of_sweep GetManifest = true
is_of_sweep GetRecords = true
is_of_sweep (ListTables count) = true
is_of_sweep (DeleteTable table) = true
is_of_sweep _ = false

-- Each call that a sweeper made is one of a sweep.
abbrev pub SweepersOnlySweep : List Entry → Type 0
SweepersOnlySweep history =
    AllByRecursion (λ entry. IsTrue (is_sweeper entry.party) → IsTrue (is_of_sweep entry.event)) history

-- The history without the sweepers' entries.
abbrev pub without_sweeps : List Entry → List Entry
without_sweeps history = filter (λ entry. not (is_sweeper entry.party)) history

-- Without the sweepers' entries, a history gives the same stored objects, with their trees and jobs, and the
-- same live parties. It gives the same settings and ranges of each attempt. And it says the same of joins,
-- heartbeats and finishes.
pub record SweepsLeaveNoTrace (tables : Tables) (specs : ℕ → JobSpec) (history : List Entry) : Type 0 where
  pub objects : replayed_objects tables specs (without_sweeps history) (plain_objects fresh_store)
      ≡ replayed_objects tables specs history (plain_objects fresh_store)
  pub live : live_after tables specs (without_sweeps history) ≡ live_after tables specs history
  pub settings : (job attempt : ℕ)
      → settings_of tables specs (without_sweeps history) job attempt ≡ settings_of tables specs history job attempt
  pub ranges : (job attempt : ℕ) → ranges_of (without_sweeps history) job attempt ≡ ranges_of history job attempt
  pub joined : (job : ℕ) → was_joined (without_sweeps history) job ≡ was_joined history job
  pub beaten : (job : ℕ) → was_beaten (without_sweeps history) job ≡ was_beaten history job
  pub finished : (job : ℕ) → is_finished_by (without_sweeps history) job ≡ is_finished_by history job

-- Sweepers that only sweep leave no trace.
abbrev pub SweepsAreTransparent : Type 0
SweepsAreTransparent = (tables : Tables) (specs : ℕ → JobSpec) (history : List Entry) → SweepersOnlySweep history
    → SweepsLeaveNoTrace tables specs history
