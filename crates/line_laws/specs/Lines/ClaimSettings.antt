-- The law on settings: an attempt has those that its claim read off the stored manifest at the moment of its line, or
-- those of the context that it takes over.
use Rattle.std.specs.Prelude.{◌≡◌, ℕ, ◌+◌, true, List, map, Option, Some, None}
use Rattle.std.specs.List.{AllByRecursion}
use Rattle.row_model.specs.Settings.{Settings}
use Rattle.fleet_model.specs.Jobs.{JobSpec, Context, Job}
use Rattle.fleet_model.specs.Store.{Store}
use Rattle.fleet_model.specs.Past.Claimed.{settings_of, without_cut}
use Rattle.fleet_model.specs.Past.Replay.{IsReplayed}
use Rattle.fleet_model.specs.Work.Attempts.{ClaimInput, claim_cut, claim_settings}
use Rattle.fleet_model.specs.Work.Claims.{claimed_attempt}
use Rattle.fleet_model.specs.Work.Parties.{Attempt, LiveWorker, worker_with}
use Rattle.script_model.specs.Script.{ClaimJobs}
use Rattle.script_model.specs.States.{Inputs, State}
use Rattle.script_model.specs.Replies.{claim_reply}
use Rattle.script_model.specs.Lines.Settles.{is_ok}
use Rattle.line_laws.specs.Ran.{CourseRan}
use Rattle.line_laws.specs.Lines.ClaimLines.{taken_in, stopped_in}

-- The settings that a claim of the worker reads in this state for a job of this spec: floor and tick of the stored
-- manifest, whether the job makes the last run of its tree there, and the cut at the moment of the line.
abbrev pub settings_read : State → LiveWorker → JobSpec → Settings
settings_read s w spec =
    claim_settings s.store.manifest (claim_cut w.release s.store.manifest s.moment s.options.retention) spec

-- The settings of a published context, or those that are read if none is published.
abbrev pub settings_or : Option Context → Settings → Settings
settings_or None read = read
settings_or (Some context) read = context.settings

-- The settings that a claim of the worker gives to its attempt at the job.
abbrev pub settings_taken : State → LiveWorker → Job → Settings
settings_taken s w job = settings_or job.context (settings_read s w job.spec)

-- What a claim of the worker depends on in this state.
abbrev pub input_in : State → LiveWorker → ClaimInput
input_in s w = record {
  release = w.release;
  manifest = s.store.manifest;
  moment = s.moment;
  retention = s.options.retention;
  most = s.options.ranges;
  tables = s.store.tables;
}

-- The attempt that a claim of the worker begins at the job.
abbrev pub attempt_in : State → LiveWorker → Job → Attempt
attempt_in s w job = claimed_attempt (input_in s w) job

-- The attempt at the job has the settings that its claim gives it. The history after the claim gives them for this
-- attempt, but for their cut.
pub record HasSettings (old : State) (w : LiveWorker) (new : Store) (specs : ℕ → JobSpec) (job : Job) : Type 0 where
  pub has : (attempt_in old w job).context.settings ≡ settings_taken old w job
  pub claimed : settings_of new.tables specs new.history job.id (job.attempt + 1)
      ≡ Some (without_cut (settings_taken old w job))

-- A live worker claimed the jobs of its rule, and the reply has its attempts. Each of them has such settings.
pub record SettingsGiven (n : ℕ) (old : State) (answer : List ℕ) (new : State) : Type 0 where
  pub worker : LiveWorker
  pub live : worker_with n old.parties ≡ Some worker
  pub printed : answer
      ≡ claim_reply (map (attempt_in old worker) (taken_in old worker)) (stopped_in old worker)
  pub replay : IsReplayed new.store
  pub each : AllByRecursion (HasSettings old worker new.store replay.specs) (taken_in old worker)

-- Each course of a claim that is not refused gives such settings.
abbrev pub ClaimsGiveSettings : Type 0
ClaimsGiveSettings = (inputs : Inputs) (old new : State) (n : ℕ) (answer : List ℕ)
    → CourseRan inputs old (ClaimJobs n) answer new → is_ok answer ≡ true → SettingsGiven n old answer new
