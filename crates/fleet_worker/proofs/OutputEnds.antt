-- How an output ends.
use Rattle.std.proofs.Common.{◌≡◌, refl, sym, ◌∙◌, ap, subst, ℕ, ◌-◌, cond, nat_lt, not, Bool, true, false, inl, inr, map, List, [], ◌∷◌, ◌++◌, Option, Some, None, option_map, Result, Ok, Err}
use Rattle.std.specs.Prelude.{◌==◌, IfSome}
use Rattle.std.specs.Bool.{OnFalse}
use Rattle.std.specs.List.{AllByRecursion}
use Rattle.row_model.specs.Fold.{IsLawful}
use Rattle.fleet_model.specs.Exchanges.{Fault}
use Rattle.fleet_model.specs.Handles.{describe}
use Rattle.fleet_model.specs.Jobs.{contains}
use Rattle.fleet_model.specs.Store.{Store}
use Rattle.step_model.specs.Past.{World}
use Rattle.step_model.specs.Rivals.{Caller}
use Rattle.step_model.specs.Courses.Course.{Calls, Course, Ends}
use Rattle.step_model.specs.Courses.CourseRuns.{Gives, LacksMemory}
use Rattle.step_model.specs.Courses.Ran.{Ran}
use Rattle.step_model.specs.Steps.OutputSteps.{OutputAsk, Written}
use Rattle.step_model.specs.Views.{StoreView}
use Rattle.step_laws.proofs.Elements.{all_append, all_at}
use Rattle.fleet_rows.specs.declared.errors.SlateDBError.{SlateDBError}
use Rattle.fleet_rows.specs.declared.errors.SlateDBError.TheVariants as error
use Rattle.fleet_tree.specs.Handles.{handle_of}
use Rattle.fleet_tree.specs.declared.handle.SsTableHandle.{SsTableHandle}
use Rattle.fleet_plan.specs.Parts.{Part}
use Rattle.fleet_store.specs.Handles.{IsDescribed}
use Rattle.fleet_step.specs.Steps.{RunsTo, stops}
use Rattle.fleet_worker.specs.Claims.{put_part, without_parts}
use Rattle.fleet_worker.specs.Outputs.{HasNoted, IsPartAt, IsReason, OutputRan, OutputsRan, RangeRan, after_noting, asked_output, is_refusal, left_by, noted_parts, noting_part, output_ends, output_of, table_with, written_rows}
use Rattle.fleet_worker.specs.Workers.{AreNoted, AttemptParts, IsNoted, IsReady, WorkerParts, attempt_of, live_of, run_at}
use Rattle.fleet_worker.proofs.Later.{some_noted}
use Rattle.fleet_worker.proofs.OutputRuns.{err_alike}
use Rattle.fleet_worker.proofs.Outputs.{output_safe}
use Rattle.fleet_worker.proofs.Finishes.{fewer_ready}
use Rattle.fleet_worker.proofs.Ready.{noted_after, ready_with, worker_after}
use Rattle.fleet_worker.proofs.RunAttempts.{found_run, one_run, run_here}

-- ---- memory

-- Memory may run out where a run has made all calls.
ran_lacks : {A : Type 0} (who : Caller) (course : Course A) (old new : World) (waits left : Option Fault) (answer : A) → Ran who course old new waits left (Gives answer) → Ran who course old new waits left LacksMemory
ran_lacks who (Ends given) old new waits left answer (same, (rest, is)) = (same, (rest, tt))
ran_lacks who (Calls x next) old new waits left answer (met, (rivals, inl stops)) = absurd stops
ran_lacks who (Calls x next) old new waits left answer (met, (rivals, inr (room, (mid, (spares, ran))))) =
    (met, (rivals, inr (room, (mid, (spares, ran_lacks who (next met.store) _ new mid left answer ran)))))

runs_lack : {A : Type 0} (course : Course A) (old new : StoreView) (answer : A) → RunsTo course old new (Gives answer) → RunsTo course old new LacksMemory
runs_lack course old new answer runs = record { same = runs.same; faults = runs.faults; ran = ran_lacks old.who course old.world new.world old.waits new.waits answer runs.ran }

-- ---- answers of another type

module _ (moment : ℕ) (w : WorkerParts) (place rows : ℕ) (old new : StoreView) (a : AttemptParts) (part : Part) {A A' : Type 0} (t : A → Option SsTableHandle) (t' : A' → Option SsTableHandle) where
  -- Whatever the step answers, an error has the same reason.
  error_reason : (e : SlateDBError) (refusal : Option (List ℕ)) → IsReason moment w place rows old new {A = A} a part (Err e) refusal → IsReason moment w place rows old new {A = A'} a part (Err e) refusal
  error_reason e None because = because
  error_reason e (Some message) because = because

  -- So has an answer.
  answer_reason : (answer : A) (answer' : A') (refusal : Option (List ℕ)) → IsReason moment w place rows old new a part (Ok answer) refusal → IsReason moment w place rows old new a part (Ok answer') refusal
  answer_reason answer answer' None because = because
  answer_reason answer answer' (Some message) because = because

  -- So has an error after it.
  lacks_reason : (answer : A) (refusal : Option (List ℕ)) → IsReason moment w place rows old new a part (Ok answer) refusal → IsReason moment w place rows old new {A = A'} a part (Err error.Memory) refusal
  lacks_reason answer None (inl enough) = inl enough
  lacks_reason answer None (inr stops) = absurd stops
  lacks_reason answer (Some message) because = because

  -- An error says the same.
  pub same_error : (next next' : List AttemptParts) (e : SlateDBError) → RangeRan moment w place rows old new t next (Err e) a part → RangeRan moment w place rows old new t' next' (Err e) a part
  same_error next next' e ran =
      let ask = asked_output moment w a place part rows ran.refusal in
      let ends = λ (answer : A). output_ends (written_rows old ask) next (t answer) in
      let ends' = λ (answer : A'). output_ends (written_rows old ask) next' (t' answer) in
      record {
        refusal = ran.refusal;
        because = error_reason e ran.refusal ran.because;
        described = tt;
        ran = record { to_end = err_alike (RunsTo (output_of old ask) old new) ends ends' e ran.ran.to_end };
      }

  -- So does an answer with the same table.
  pub same_answer : (next : List AttemptParts) (answer : A) (answer' : A') → t answer ≡ t' answer' → RangeRan moment w place rows old new t next (Ok answer) a part → RangeRan moment w place rows old new t' next (Ok answer') a part
  same_answer next answer answer' same ran =
      let ask = asked_output moment w a place part rows ran.refusal in
      record {
        refusal = ran.refusal;
        because = answer_reason answer answer' ran.refusal ran.because;
        described = subst (λ (table : Option SsTableHandle). IfSome table (λ handle. handle_of handle ≡ describe handle.id (written_rows old ask))) same ran.described;
        ran = record { to_end = subst (λ table. RunsTo (output_of old ask) old new (Gives (output_ends (written_rows old ask) next table))) same ran.ran.to_end };
      }

  -- Memory may run out after it.
  pub lacks_after : (next next' : List AttemptParts) (answer : A) → RangeRan moment w place rows old new t next (Ok answer) a part → RangeRan moment w place rows old new t' next' (Err error.Memory) a part
  lacks_after next next' answer ran =
      let ask = asked_output moment w a place part rows ran.refusal in
      record {
        refusal = ran.refusal;
        because = lacks_reason answer ran.refusal ran.because;
        described = tt;
        ran = record { to_end = runs_lack (output_of old ask) old new _ ran.ran.to_end };
      }

-- ---- descriptions

module _ (store : Store) (place : ℕ) (table : SsTableHandle) (a : AttemptParts) (described : IsDescribed store.tables table) where
  parts_noted : (place : ℕ) (parts : List Part) → AllByRecursion (λ (p : Part). AllByRecursion (IsDescribed store.tables) p.output_ssts) parts → AllByRecursion (λ (p : Part). AllByRecursion (IsDescribed store.tables) p.output_ssts) (noted_parts place table parts)
  parts_noted place [] all = tt
  parts_noted place (p ∷ parts) all = by (place == 1) (parts_noted (place - 1) parts all.1)
    where
      by : (b : Bool) → AllByRecursion (λ (p : Part). AllByRecursion (IsDescribed store.tables) p.output_ssts) (noted_parts (place - 1) table parts)
          → AllByRecursion (λ (p : Part). AllByRecursion (IsDescribed store.tables) p.output_ssts) (cond b (record p { output_ssts = p.output_ssts ++ table ∷ [] } ∷ parts) (p ∷ noted_parts (place - 1) table parts))
      by true rest = (all_append (IsDescribed store.tables) p.output_ssts (table ∷ []) all.0 (described, tt), all.1)
      by false rest = (all.0, rest)

  one_noted : IsNoted store a → IsNoted store (noting_part place table a)
  one_noted noted = record { sources = noted.sources; described = noted.described; noted = parts_noted place a.ctx.ranges noted.noted }

  put_noted : IsNoted store (noting_part place table a) → (xs : List AttemptParts) → AreNoted xs store → AreNoted (put_part (noting_part place table a) xs) store
  put_noted one [] all = (one, tt)
  put_noted one (b ∷ xs) all = by (nat_lt a.job b.job) (put_noted one xs all.1)
    where
      by : (c : Bool) → AreNoted (put_part (noting_part place table a) xs) store → AreNoted (cond c (noting_part place table a ∷ b ∷ xs) (b ∷ put_part (noting_part place table a) xs)) store
      by true rest = (one, all)
      by false rest = (all.0, rest)

  -- The tables of the attempts are described after one more is noted.
  more_noted : (attempts : List AttemptParts) → run_at attempts a.job ≡ Some a → AreNoted attempts store → AreNoted (after_noting place table a attempts) store
  more_noted attempts run noted =
      put_noted (one_noted (all_at (IsNoted store) attempts a noted (found_run attempts a.job a run))) (without_parts (a.job ∷ []) attempts) (some_noted store (λ b. not (contains (a.job ∷ []) b.job)) attempts noted)

-- ---- ready

-- Whether an error stops the worker does not depend on what the step answers.
stops_alike : (A A' : Type 0) (e : SlateDBError) → stops {A = A} (Err e) ≡ stops {A = A'} (Err e)
stops_alike A A' error.StoreFault = refl
stops_alike A A' (error.Fenced stored) = refl
stops_alike A A' error.Memory = refl
stops_alike A A' (error.Conflict seen) = refl
stops_alike A A' error.NotOwner = refl
stops_alike A A' error.InvalidDBState = refl
stops_alike A A' error.InvalidCompaction = refl
stops_alike A A' (error.Generate message) = refl
stops_alike A A' (error.MergeOperator cause) = refl
stops_alike A A' error.IteratorNotInitialized = refl
stops_alike A A' error.IteratorFailed = refl
stops_alike A A' error.MergeOperatorMissing = refl
stops_alike A A' (error.InvalidSequenceOrder current after) = refl
stops_alike A A' (error.CompactionFilter cause) = refl

module _ (moment : ℕ) (w : WorkerParts) (place rows : ℕ) (old new : StoreView) (a : AttemptParts) (part : Part) (merges : IsLawful old.who.merge) (ready : IsReady old w) (run : run_at w.attempts a.job ≡ Some a) (at : IsPartAt a place part)
    (result : Result (Option SsTableHandle) SlateDBError) (next : List AttemptParts) (ran : RangeRan moment w place rows old new (λ (answer : Option SsTableHandle). answer) next result a part) where
  abbrev asked_so : OutputAsk
  asked_so = asked_output moment w a place part rows ran.refusal

  -- What the worker had noted is described after the output.
  pub noted_then : AreNoted w.attempts new.world.store
  noted_then = noted_after (λ (answer : Option SsTableHandle). output_ends (written_rows old asked_so) next answer) old new w (output_of old asked_so) result ran.ran ready

  -- The worker is ready with what it runs then.
  pub ready_then : (stopped : Bool) → stopped ≡ stops result → record (live_of w) { attempts = map attempt_of next } ≡ worker_after (λ (answer : Option SsTableHandle). map attempt_of next) (live_of w) result → AreNoted next new.world.store
      → OnFalse stopped (IsReady new (record w { attempts = next; stopped = stopped }))
  ready_then stopped is same noted =
      ready_with {B = Written} (λ (answer : Option SsTableHandle). record { table = option_map (λ (handle : SsTableHandle). (handle.id, written_rows old asked_so)) answer; attempts = map attempt_of next }) (λ (report : Written). report.attempts) old new w
      (output_of old asked_so) merges ready (output_safe old w a place part merges ready run at moment rows ran.refusal) result ran.ran stopped is next same noted

-- ---- the step

module _ (moment : ℕ) (w : WorkerParts) (job place rows : ℕ) (old new : StoreView) (merges : IsLawful old.who.merge) (ready : IsReady old w) (stopped : Bool) where
  abbrev Outputs : Result (Option (SsTableHandle × List AttemptParts)) SlateDBError → Type 0
  Outputs result = OutputsRan moment w place rows old new result job

  abbrev RanSo : List AttemptParts → Result (Option SsTableHandle) SlateDBError → Type 0
  RanSo next result = OutputRan moment w place rows old new next result job

  abbrev Ready : List AttemptParts → Type 0
  Ready next = OnFalse stopped (IsReady new (record w { attempts = next; stopped = stopped }))

  -- Nothing was left.
  pub none_ran : Outputs (Ok None) → RanSo w.attempts (Ok None)
  none_ran out = record { attempt = out.attempt; runs = out.runs; part = out.part; at = out.at; ran = same_answer moment w place rows old new out.attempt out.part table_with (λ answer. answer) w.attempts None None refl out.ran }

  pub none_ready : Outputs (Ok None) → stopped ≡ false → Ready w.attempts
  none_ready out is =
      let ran = none_ran out in
      let run = run_here w.attempts job ran.attempt ran.runs in
      ready_then moment w place rows old new ran.attempt ran.part merges ready run ran.at (Ok None) w.attempts ran.ran stopped is refl
      (noted_then moment w place rows old new ran.attempt ran.part merges ready run ran.at (Ok None) w.attempts ran.ran)

  -- A table was written.
  module _ (table : SsTableHandle) (attempts : List AttemptParts) (noted_so : HasNoted w job place new table attempts) (out : Outputs (Ok (Some (table, attempts)))) where
    attempts_are : after_noting place table out.attempt w.attempts ≡ attempts
    attempts_are = ap (λ a. after_noting place table a w.attempts) (one_run w.attempts job out.attempt noted_so.attempt out.runs noted_so.runs) ∙ sym noted_so.noted

    pub some_ran : RanSo attempts (Ok (Some table))
    some_ran = record {
      attempt = out.attempt;
      runs = out.runs;
      part = out.part;
      at = out.at;
      ran =
          subst (λ next. RangeRan moment w place rows old new (λ (answer : Option SsTableHandle). answer) next (Ok (Some table)) out.attempt out.part) attempts_are
          (same_answer moment w place rows old new out.attempt out.part table_with (λ answer. answer) (after_noting place table out.attempt w.attempts) (Some (table, attempts)) (Some table) refl out.ran);
    }

    pub some_ready : stopped ≡ false → Ready attempts
    unfolding some_ran
    some_ready is =
        let run = run_here w.attempts job out.attempt out.runs in
        let noted = noted_then moment w place rows old new out.attempt out.part merges ready run out.at (Ok (Some table)) attempts some_ran.ran in
        ready_then moment w place rows old new out.attempt out.part merges ready run out.at (Ok (Some table)) attempts some_ran.ran stopped is refl
        (subst (λ next. AreNoted next new.world.store) attempts_are (more_noted new.world.store place table out.attempt noted_so.described w.attempts run noted))

  -- An error.
  module _ (e : SlateDBError) (out : Outputs (Err e)) where
    pub err_ran : (next : List AttemptParts) → RanSo next (Err e)
    err_ran next = record { attempt = out.attempt; runs = out.runs; part = out.part; at = out.at; ran = same_error moment w place rows old new out.attempt out.part table_with (λ answer. answer) w.attempts next e out.ran }

    kept_ready : stopped ≡ stops {A = Option (SsTableHandle × List AttemptParts)} (Err e) → Ready w.attempts
    kept_ready is =
        let ran = err_ran w.attempts in
        let is = is ∙ stops_alike (Option (SsTableHandle × List AttemptParts)) (Option SsTableHandle) e in
        let run = run_here w.attempts job ran.attempt ran.runs in
        ready_then moment w place rows old new ran.attempt ran.part merges ready run ran.at (Err e) w.attempts ran.ran stopped is refl
        (noted_then moment w place rows old new ran.attempt ran.part merges ready run ran.at (Err e) w.attempts ran.ran)

    pub err_ready : stopped ≡ stops {A = Option (SsTableHandle × List AttemptParts)} (Err e) → Ready (left_by {A = Option SsTableHandle} (Err e) job w.attempts)
    err_ready is = by (is_refusal {A = Option SsTableHandle} (Err e))
      where
        by : (b : Bool) → Ready (cond b (without_parts (job ∷ []) w.attempts) w.attempts)
        by true = fewer_ready new w stopped (job ∷ []) (kept_ready is)
        by false = kept_ready is
