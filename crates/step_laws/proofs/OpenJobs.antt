-- A job that is Scheduled or Running stays as it is kept when its status, lease and attempt change.
use Rattle.std.proofs.Common.{◌≡◌, refl, ℕ, Bool, true, false, Option, Some, None}
use Rattle.std.specs.Prelude.{IsTrue, IfSome, is_none, ◌||◌, ◌&&◌, not}
use Rattle.row_model.specs.Fold.{Operator}
use Rattle.fleet_model.specs.Jobs.{JobSpec, Job, Status, Submitted, Scheduled, Running, Compacted, Completed, Failed, status_eq, is_finished, is_active, Lease, Context}
use Rattle.fleet_model.specs.Invariants.JobsFit.{SourcesStand, was_joined}
use Rattle.fleet_model.specs.Invariants.AttemptsFit.{ContextFits}
use Rattle.fleet_model.specs.Past.Claimed.{IsClaimed}
use Rattle.step_model.specs.Past.{World}
use Rattle.step_model.specs.Kept.TablesKept.{is_unjoined}
use Rattle.step_laws.proofs.Bodies.{JobKept}
use Rattle.step_laws.proofs.TableBodies.{active_if_open}

-- The job waits for a worker or has one.
abbrev pub is_open : Status → Bool
is_open status = status_eq Scheduled status || status_eq Running status

pub open_reserves : (s : Status) → IsTrue (is_open s) → IsTrue (status_eq Scheduled s || status_eq Running s || status_eq Compacted s)
open_reserves Scheduled h = refl
open_reserves Running h = refl
open_reserves Submitted h = absurd (cc h)
open_reserves Compacted h = refl
open_reserves Completed h = absurd (cc h)
open_reserves Failed h = absurd (cc h)

pub open_not_late : (s : Status) → IsTrue (is_open s) → IsTrue (status_eq Compacted s || is_finished s) → ⊥
open_not_late Scheduled h late = absurd (cc late)
open_not_late Running h late = absurd (cc late)
open_not_late Submitted h late = absurd (cc h)
open_not_late Compacted h late = absurd (cc h)
open_not_late Completed h late = absurd (cc h)
open_not_late Failed h late = absurd (cc h)

pub open_not_compacted : (s : Status) → IsTrue (is_open s) → IsTrue (status_eq Compacted s) → ⊥
open_not_compacted Scheduled h late = absurd (cc late)
open_not_compacted Running h late = absurd (cc late)
open_not_compacted Submitted h late = absurd (cc h)
open_not_compacted Compacted h late = absurd (cc h)
open_not_compacted Completed h late = absurd (cc h)
open_not_compacted Failed h late = absurd (cc h)

pub open_not_submitted : (s : Status) → IsTrue (is_open s) → IsTrue (status_eq Submitted s) → ⊥
open_not_submitted Submitted h late = absurd (cc h)
open_not_submitted Scheduled h late = absurd (cc late)
open_not_submitted Running h late = absurd (cc late)
open_not_submitted Compacted h late = absurd (cc late)
open_not_submitted Completed h late = absurd (cc late)
open_not_submitted Failed h late = absurd (cc late)

-- A lease is there only if the status is no longer Scheduled.
abbrev pub IsLeased : Status → Option Lease → Type 0
IsLeased status lease = IsTrue (status_eq Scheduled status) → IsTrue (is_none lease)

no_lease : (s : Status) (lease : Option Lease) → IsTrue (is_open s) → IsLeased s lease → IsTrue (status_eq Submitted s || status_eq Scheduled s) → IsTrue (is_none lease)
no_lease Scheduled lease h leased waits = leased refl
no_lease Running lease h leased waits = absurd (cc waits)
no_lease Submitted lease h leased waits = absurd (cc h)
no_lease Compacted lease h leased waits = absurd (cc h)
no_lease Completed lease h leased waits = absurd (cc h)
no_lease Failed lease h leased waits = absurd (cc h)

-- The job with these in place of its own.
abbrev pub with_state : Status → Option Lease → ℕ → Job → Job
with_state status lease attempt job = record job { status = status; lease = lease; attempt = attempt }

-- What is kept of a Scheduled or Running job is kept with another such status, another lease and another attempt,
-- if the published context is one of the new attempt too.
pub kept_open : (merge : Operator) (world : World) (specs : ℕ → JobSpec) (status : Status) (lease : Option Lease) (attempt : ℕ) (job : Job) → IsTrue (is_open job.status) → IsTrue (is_open status) → IsLeased status lease
    → ((c : Context) → job.context ≡ Some c → IsClaimed world.store specs job.id job.attempt c → IsClaimed world.store specs job.id attempt c)
    → JobKept merge world specs job → JobKept merge world specs (with_state status lease attempt job)
kept_open merge world specs status lease attempt job was is leased claims kept = record {
  fits = record {
    sources = ((λ waits. stand (kept.fits.sources.0 was)), λ compacted. absurd (open_not_compacted status is compacted));
    context = record {
      there = ((λ some. (is, (kept.fits.context.there.0 some).1)), λ both. kept.fits.context.there.1 (was, both.1));
      fits = context job.context refl kept.fits.context.fits;
    };
    outputs = λ compacted. absurd (open_not_compacted status is compacted);
    tables = λ active. let old = kept.fits.tables (active_if_open job was) in record { named = old.named; sources = old.sources };
  };
  facts = record {
    named = kept.facts.named;
    unbeaten = λ submitted. absurd (open_not_submitted status is submitted);
    unleased = λ waits. no_lease status lease is leased waits;
    flushed = λ holds. kept.facts.flushed (open_reserves job.status was);
    drawn = λ active. kept.facts.drawn (active_if_open job was);
    unused = λ unjoined. kept.facts.unused (unjoined_before unjoined);
    late = λ joined. absurd (open_not_late job.status was (kept.facts.late joined));
    stand = λ compacted joined. absurd (open_not_compacted status is compacted);
  };
  spec = kept.spec;
}
  where
    stand : SourcesStand world.store.manifest.trees job → SourcesStand world.store.manifest.trees (with_state status lease attempt job)
    stand s = record { some = s.some; stretch = s.stretch; source_tables = s.source_tables; destination = s.destination }

    context : (o : Option Context) → job.context ≡ o → IfSome o (ContextFits merge world.store specs job) → IfSome o (ContextFits merge world.store specs (with_state status lease attempt job))
    context None e fits = tt
    context (Some c) e fits = record { claimed = claims c e fits.claimed; settings = fits.settings; cut = fits.cut; ranges = fits.ranges; tables = fits.tables }

    unjoined_before : IsTrue (is_unjoined world.store.history (with_state status lease attempt job)) → IsTrue (is_unjoined world.store.history job)
    unjoined_before unjoined = both (is_active job) (not (was_joined world.store.history job.id)) (active_if_open job was) (second (is_active (with_state status lease attempt job)) (not (was_joined world.store.history job.id)) unjoined)
      where
        second : (a b : Bool) → IsTrue (a && b) → IsTrue b
        second true b h = h
        second false b h = absurd (cc h)

        both : (a b : Bool) → IsTrue a → IsTrue b → IsTrue (a && b)
        both true b h k = k
        both false b h k = absurd (cc h)
