-- The turns of one try of a claim.
use Rattle.std.proofs.Common.{◌≡◌, ◌≢◌, refl, sym, subst, ℕ, List, [], Some, None, Option, Result, Ok, Err, not}
use Rattle.std.specs.Prelude.{IfOk}
use Rattle.row_model.specs.Fold.{IsLawful}
use Rattle.fleet_model.specs.Jobs.{contains}
use Rattle.fleet_model.specs.Store.{Store}
use Rattle.step_model.specs.Steps.ClaimSteps.{Claimed, claim_by, claim_try}
use Rattle.step_model.specs.Courses.Course.{Course}
use Rattle.step_model.specs.Courses.CourseRuns.{IsLawfulCourse}
use Rattle.step_model.specs.Kept.Keeps.{Keeps}
use Rattle.step_model.specs.Later.{IsLater}
use Rattle.step_model.specs.Courses.StepEnds.{StepEnd}
use Rattle.step_model.specs.Courses.Tries.{tries}
use Rattle.step_model.specs.Views.{StoreView}
use Rattle.step_laws.proofs.Later.{later_itself, later_then}
use Rattle.fleet_rows.specs.declared.errors.SlateDBError.{SlateDBError}
use Rattle.fleet_rows.specs.declared.errors.SlateDBError.TheVariants.{Memory}
use Rattle.fleet_jobs.specs.Parts.JobParts.{JobParts}
use Rattle.fleet_jobs.specs.Jobs.{jobs_of}
use Rattle.fleet_book.specs.VersionedRecords.{VersionedRecords}
use Rattle.fleet_book.specs.Versions.{records_of}
use Rattle.fleet_store.specs.Asks.{GetsRecords, PutsRecords, RecordsPutFit}
use Rattle.fleet_store.specs.Records.{DescribeTables}
use Rattle.fleet_claim.specs.Beginnings.{options_of}
use Rattle.fleet_claim.specs.declared.options.CompactionWorkerOptions.{CompactionWorkerOptions}
use Rattle.fleet_step.specs.Steps.{Leads, TryRan}
use Rattle.fleet_step.proofs.Puts.{got_described, got_records, put_fails, put_leads}
use Rattle.fleet_step.proofs.Steps.{then_leads, then_tried}
use Rattle.fleet_step.proofs.Turns.{at_put, ends_with, records_put_fits, wants_memory}
use Rattle.fleet_worker.specs.Claims.{BeginsNothing, IsChoice, IsClaimPut, after_put, claim_ends_with}
use Rattle.fleet_worker.specs.Workers.{AreNoted, AttemptParts, IsReady, WorkerParts, live_of}
use Rattle.fleet_worker.specs.declared.claim.ClaimPut.{ClaimPut}
use Rattle.fleet_worker.specs.declared.claim.ClaimReport.{ClaimReport}
use Rattle.fleet_worker.proofs.Claims.{claims_by, claims_none, claims_nothing, describe_claimed, try_safe}
use Rattle.fleet_worker.proofs.Later.{some_noted, still_noted}
use Rattle.fleet_worker.proofs.Ready.{ready_midway, step_later}

-- What is left has noted what was noted before.
pub nothing_noted : (old new : Store) (w : WorkerParts) (stopped : List ℕ) (report : ClaimReport) (attempts : List AttemptParts) → BeginsNothing w stopped report attempts → IsLater old new → AreNoted w.attempts old → AreNoted attempts new
nothing_noted old new w stopped report attempts nothing later noted = subst (λ xs. AreNoted xs new) (sym nothing.left) (some_noted new (λ a. not (contains stopped a.job)) w.attempts (still_noted old new w.attempts later noted))

module _ (options : CompactionWorkerOptions) (moment : ℕ) (w : WorkerParts) where
  abbrev TRY : (ℕ → Course (StepEnd Claimed)) → Course (StepEnd Claimed)
  TRY again = claim_try (options_of options) moment (live_of w) again

  -- The tries that may follow the first one.
  abbrev more : ℕ → Course (StepEnd Claimed)
  more = tries (claim_try (options_of options) moment (live_of w)) 63

  -- There are no records.
  pub no_records : (old mid : StoreView) (got : Option VersionedRecords) → GetsRecords old mid (Ok got) → got ≡ None → (stopped : List ℕ) (end : ClaimReport × List AttemptParts) → stopped ≡ [] → BeginsNothing w stopped end.0 end.1 → (again : ℕ → Course (StepEnd Claimed))
      → TryRan claim_ends_with (TRY again) again old mid (Ok end)
  no_records old mid got gets none stopped end no_job nothing again =
      ends_with (got_records (subst (λ o. GetsRecords old mid (Ok o)) none gets) (λ r. claim_by (options_of options) moment (live_of w) r again)) end (claims_none (options_of options) moment w stopped end.0 end.1 no_job nothing again)

  module _ (old mid : StoreView) (found : Option VersionedRecords) (got : VersionedRecords) (called : GetsRecords old mid (Ok found)) (is : found ≡ Some got) where
    gets : GetsRecords old mid (Ok (Some got))
    gets = subst (λ o. GetsRecords old mid (Ok o)) is called

    to_choice : (again : ℕ → Course (StepEnd Claimed)) → Leads (TRY again) old (claim_by (options_of options) moment (live_of w) (Some (records_of got)) again) mid
    to_choice again = got_records gets (λ r. claim_by (options_of options) moment (live_of w) r again)

    pub no_memory : (again : ℕ → Course (StepEnd Claimed)) → TryRan claim_ends_with (TRY again) again old mid (Err Memory)
    no_memory again = wants_memory (to_choice again)

    pub later_got : IsLater old.world.store mid.world.store
    later_got = (to_choice more).later

    module _ (claimed : List JobParts) (stopped : List ℕ) (choice : IsChoice options w got.compactions.jobs claimed stopped) where
      -- No job is claimed.
      pub takes_none : claimed ≡ [] → (end : ClaimReport × List AttemptParts) → BeginsNothing w stopped end.0 end.1 → (again : ℕ → Course (StepEnd Claimed)) → TryRan claim_ends_with (TRY again) again old mid (Ok end)
      takes_none none end nothing again = ends_with (to_choice again) end (claims_nothing options moment w got claimed stopped choice none end.0 end.1 nothing again)

      module _ (some : claimed ≢ []) (put : ClaimPut) (puts : IsClaimPut moment w got claimed put) where
        abbrev next : Course (StepEnd Claimed)
        next = after_put (options_of options) moment (live_of w) (jobs_of claimed) stopped

        pub put_fits : IsReady old w → IsLawful old.who.merge → RecordsPutFit mid put.version put.value put.why
        put_fits ready merges =
            records_put_fits (to_choice more) put.version put.value put.why next more (claims_by options moment w got claimed stopped choice some put puts more) (try_safe old (options_of options) moment (live_of w) merges ready.may).lawful
            (λ met later. puts.made.described met.store (got_described gets met.store later))

        pub put_failed : (new : StoreView) (e : SlateDBError) → PutsRecords mid new put.version put.value put.why (Err e) → (again : ℕ → Course (StepEnd Claimed)) → TryRan claim_ends_with (TRY again) again old new (Err e)
        put_failed new e failed again =
            then_tried claim_ends_with (at_put (to_choice again) put.version put.value put.why next again (claims_by options moment w got claimed stopped choice some put puts again))
            (put_fails mid new put.version put.value put.why claim_ends_with next again e failed)

        module _ (new : StoreView) (version : ℕ) (done : PutsRecords mid new put.version put.value put.why (Ok version)) where
          -- The claimed jobs are to start.
          to_start : (again : ℕ → Course (StepEnd Claimed)) → Leads (TRY again) old next new
          to_start again =
              then_leads (at_put (to_choice again) put.version put.value put.why next again (claims_by options moment w got claimed stopped choice some put puts again)) (put_leads mid new put.version put.value put.why next again version done)

          pub keeps_at_start : IsReady old w → IsLawful old.who.merge → Keeps new.who.merge new.world
          keeps_at_start ready merges = (ready_midway old new w (λ (report : Claimed). report.attempts) (TRY more) next merges ready (try_safe old (options_of options) moment (live_of w) merges ready.may) (to_start more)).may.keeps

          pub lawful_at_start : IsReady old w → IsLawful old.who.merge → IsLawfulCourse new.who new.world next
          lawful_at_start ready merges =
              subst (λ who. IsLawfulCourse who new.world next) (sym (to_start more).same.who) ((to_start more).lawful (try_safe old (options_of options) moment (live_of w) merges ready.may).lawful)

          pub starts_then : (last : StoreView) (result : Result (ClaimReport × List AttemptParts) SlateDBError) (again : ℕ → Course (StepEnd Claimed)) → TryRan claim_ends_with next again new last result → TryRan claim_ends_with (TRY again) again old last result
          starts_then last result again ran = then_tried claim_ends_with (to_start again) ran

          pub noted_at_end : (last : StoreView) (result : Result (ClaimReport × List AttemptParts) SlateDBError) → TryRan claim_ends_with next more new last result → IfOk result (λ end. (store : Store) → IsLater last.world.store store → DescribeTables claimed store → AreNoted w.attempts store → AreNoted end.1 store) → IsReady old w
              → IfOk result (λ end. AreNoted end.1 last.world.store)
          noted_at_end last (Ok end) ran shown ready =
              let later = step_later claim_ends_with new last next (Ok end) (ran.ended refl) in
              let on = later_then _ _ _ (put_leads mid new put.version put.value put.why next more version done).later later in
              shown last.world.store (later_itself last.world.store) (describe_claimed options w got.compactions.jobs claimed stopped choice last.world.store (got_described gets last.world.store on))
              (still_noted old.world.store last.world.store w.attempts (later_then _ _ _ (to_start more).later later) ready.noted)
          noted_at_end last (Err error) ran shown ready = tt
