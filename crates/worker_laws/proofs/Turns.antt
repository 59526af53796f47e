-- A worker fits after its turns.
use Rattle.std.proofs.Common.{◌≡◌, sym, subst, ℕ, List, [], ◌∷◌}
use Rattle.std.specs.Prelude.{not}
use Rattle.row_model.specs.Fold.{IsLawful}
use Rattle.fleet_model.specs.Jobs.{contains}
use Rattle.fleet_model.specs.History.{Worker}
use Rattle.fleet_model.specs.Work.Parties.{Attempt, LiveWorker, attempt_jobs}
use Rattle.step_model.specs.Past.{World}
use Rattle.step_model.specs.Rivals.{Caller}
use Rattle.step_model.specs.Kept.Keeps.{Keeps}
use Rattle.step_model.specs.Fits.{WorkerHolds}
use Rattle.step_model.specs.Courses.CourseRuns.{Gives, Runs}
use Rattle.step_model.specs.Courses.StepEnds.{StepEnd, Reports, GivesUp, Fenced, NotOwner, NoRecords, Invalid, Declined, OperatorRefuses, BadFlush}
use Rattle.step_model.specs.Steps.ClaimSteps.{WorkerOptions, Claimed, claim}
use Rattle.step_model.specs.Steps.FinishSteps.{FinishAsk, FinishedJob, finish}
use Rattle.step_laws.specs.Runs.{CallsKeep}
use Rattle.step_laws.proofs.Runs.{runs_keep}
use Rattle.commit_laws.proofs.AllCalls.{calls_keep}
use Rattle.course_laws.proofs.Claims.{claims_are_lawful}
use Rattle.course_laws.proofs.Finishes.{finishes_are_lawful}
use Rattle.worker_laws.specs.After.{FitsAfterwards}
use Rattle.worker_laws.specs.Turns.{after_claim, after_finish, FinishRan, FinishesRan, TurnRan, IsFit, TurnsFit}
use Rattle.worker_laws.proofs.Attempts.{holds_fewer}
use Rattle.worker_laws.proofs.Claims.{claims_keep_fit}
use Rattle.worker_laws.proofs.Finishes.{finishes_keep_fit, finishes_report}

-- ---- a claim

-- A worker that fits still fits after its claim, unless the claim meets a fault or is out of memory.
claim_fit : (who : Caller) (options : WorkerOptions) (moment : ℕ) (old new : World) (w : LiveWorker) (end : StepEnd Claimed) → CallsKeep who.merge → IsFit who old w → Runs who (claim options moment w) old new (Gives end) → IsFit who new (after_claim w end)
claim_fit who options moment old new w end keep fit run = by end ((claims_keep_fit who old options moment w keep fit.own fit.kept fit.holds).0 new (Gives end) run)
    (runs_keep who (claim options moment w) keep old new (Gives end) fit.kept (claims_are_lawful who old options moment w keep fit.kept fit.own) run)
  where
    by : (end : StepEnd Claimed) → FitsAfterwards who.merge w (λ (report : Claimed). report.attempts) new (Gives end) → Keeps who.merge new → IsFit who new (after_claim w end)
    by (Reports report) holds kept = record { kept = kept; holds = holds; own = fit.own }
    by (GivesUp seen) holds kept = record { kept = kept; holds = holds; own = fit.own }
    by (Fenced stored) holds kept = record { kept = kept; holds = holds; own = fit.own }
    by NotOwner holds kept = record { kept = kept; holds = holds; own = fit.own }
    by NoRecords holds kept = record { kept = kept; holds = holds; own = fit.own }
    by Invalid holds kept = record { kept = kept; holds = holds; own = fit.own }
    by (Declined message) holds kept = record { kept = kept; holds = holds; own = fit.own }
    by (OperatorRefuses message) holds kept = record { kept = kept; holds = holds; own = fit.own }
    by (BadFlush fault) holds kept = record { kept = kept; holds = holds; own = fit.own }

-- ---- finishes

-- Under a lawful operator, a worker that fits still fits after it finishes an attempt.
finish_fit : (who : Caller) (options : WorkerOptions) (moment job : ℕ) (old new : World) (w v : LiveWorker) → IsLawful who.merge → IsFit who old w → FinishRan who options moment job old w new v → IsFit who new v
finish_fit who options moment job old new w v lawful fit r =
    subst (IsFit who new) (sym r.left) (record {
      kept = runs_keep who (finish who.merge old.store.tables ask) keep old new (Gives r.end) fit.kept (finishes_are_lawful who old ask keep lawful fit.own fit.kept fit.holds r.runs r.whole) r.run;
      holds = by r.end r.run ((finishes_keep_fit who old ask keep lawful fit.own fit.kept fit.holds r.runs r.whole).0 new (Gives r.end) r.run);
      own = own r.end;
    })
  where
    keep : CallsKeep who.merge
    keep = calls_keep who.merge lawful

    a : Attempt
    a = r.attempt

    ask : FinishAsk
    ask = record { moment = moment; worker = w; attempt = r.attempt; table_size = options.table_size; refusal = r.refusal }

    own : (end : StepEnd FinishedJob) → who.party ≡ Worker (after_finish w a end).number
    own (Reports report) = fit.own
    own (GivesUp seen) = fit.own
    own (Fenced stored) = fit.own
    own NotOwner = fit.own
    own NoRecords = fit.own
    own Invalid = fit.own
    own (Declined message) = fit.own
    own (OperatorRefuses message) = fit.own
    own (BadFlush fault) = fit.own

    fewer : WorkerHolds who.merge new w → WorkerHolds who.merge new (after_finish w a NotOwner)
    fewer holds = holds_fewer who.merge new w (λ (b : Attempt). not (contains (a.job ∷ []) b.job)) holds

    by : (end : StepEnd FinishedJob) → Runs who (finish who.merge old.store.tables ask) old new (Gives end) → FitsAfterwards who.merge w (λ (report : FinishedJob). report.attempts) new (Gives end)
        → WorkerHolds who.merge new (after_finish w a end)
    by (Reports report) run holds =
        subst (λ (attempts : List Attempt). WorkerHolds who.merge new (record w { attempts = attempts })) (finishes_report who old new ask report keep lawful fit.own fit.kept fit.holds r.runs r.whole run).attempts holds
    by (GivesUp seen) run holds = holds
    by (Fenced stored) run holds = fewer holds
    by NotOwner run holds = fewer holds
    by NoRecords run holds = fewer holds
    by Invalid run holds = fewer holds
    by (Declined message) run holds = fewer holds
    by (OperatorRefuses message) run holds = fewer holds
    by (BadFlush fault) run holds = fewer holds

moved : (who : Caller) (old new : World) (w v : LiveWorker) → new ≡ old → v ≡ w → IsFit who old w → IsFit who new v
moved who old new w v same is fit = subst (IsFit who new) (sym is) (subst (λ (t : World). IsFit who t w) (sym same) fit)

finishes_fit : (who : Caller) (options : WorkerOptions) (moment : ℕ) (jobs : List ℕ) (old new : World) (w v : LiveWorker) → IsLawful who.merge → IsFit who old w → FinishesRan who options moment jobs old w new v → IsFit who new v
finishes_fit who options moment [] old new w v lawful fit (same, is) = moved who old new w v same is fit
finishes_fit who options moment (job ∷ jobs) old new w v lawful fit (mid, (u, (one, rest))) =
    finishes_fit who options moment jobs mid new u v lawful (finish_fit who options moment job old mid w u lawful fit one) rest

-- ---- turns

turn_fit : (who : Caller) (options : WorkerOptions) (moment : ℕ) (old new : World) (w v : LiveWorker) → IsLawful who.merge → IsFit who old w → TurnRan who options moment old w new v → IsFit who new v
turn_fit who options moment old new w v lawful fit t =
    finishes_fit who options moment (attempt_jobs (after_claim w t.end).attempts) t.mid new (after_claim w t.end) v lawful (claim_fit who options moment old t.mid w t.end (calls_keep who.merge lawful) fit t.claims) t.finishes

pub turns_fit : TurnsFit
turns_fit who options [] old new w v lawful fit (same, is) = moved who old new w v same is fit
turns_fit who options (moment ∷ moments) old new w v lawful fit (mid, (u, (one, rest))) =
    turns_fit who options moments mid new u v lawful (turn_fit who options moment old mid w u lawful fit one) rest
