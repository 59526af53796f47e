-- The turns of an output.
use Rattle.std.proofs.Common.{◌≡◌, ◌≢◌, refl, sym, ◌∙◌, ap, subst, ℕ, zero, suc, ◌-◌, cond, Bool, true, false, map, List, [], ◌∷◌, ◌++◌, Option, Some, None, option_map}
use Rattle.std.specs.Prelude.{◌==◌, filter, slice_get, ⊤}
use Rattle.std.specs.List.{AllByRecursion}
use Rattle.std.proofs.lemmas.List.{map-append}
use Rattle.row_model.specs.Fold.{IsLawful, Operator}
use Rattle.row_model.specs.Ranges.{Range}
use Rattle.row_model.specs.Rows.{IsStrictlyOrdered, Row}
use Rattle.fleet_model.specs.Invariants.TreesFit.{IsTable}
use Rattle.fleet_model.specs.Nodes.{Tables}
use Rattle.fleet_model.specs.Work.Attempts.{rows_left}
use Rattle.fleet_model.specs.Work.Parties.{Attempt, put_attempt, without_attempts}
use Rattle.step_model.specs.Courses.Course.{Course, Ends, calls_each}
use Rattle.step_model.specs.Courses.StepEnds.{StepEnd}
use Rattle.step_model.specs.Fits.{WorkerHolds}
use Rattle.step_model.specs.Kept.Keeps.{Keeps}
use Rattle.step_model.specs.Rivals.{Caller}
use Rattle.step_model.specs.Steps.OutputSteps.{OutputAsk, Written, gets_tables, meets, noted_at, noting, output, rows_written, unless_refused, unwritten, with_noted, writes}
use Rattle.step_model.specs.Views.{StoreView}
use Rattle.commit_laws.proofs.AllCalls.{calls_keep}
use Rattle.course_laws.proofs.JobBounds.{left_good, take_good}
use Rattle.course_laws.proofs.Outputs.{outputs_are_lawful, table_lawful}
use Rattle.worker_laws.specs.Outputs.{IsRangeAt}
use Rattle.worker_laws.proofs.Outputs.{outputs_keep_fit}
use Rattle.fleet_rows.specs.Row.{rows_of}
use Rattle.fleet_rows.specs.Settings.{settings_of}
use Rattle.fleet_rows.specs.declared.row.RowEntry.{RowEntry}
use Rattle.fleet_range.specs.Keys.{range_of}
use Rattle.fleet_tree.specs.declared.handle.SsTableHandle.{SsTableHandle}
use Rattle.fleet_plan.specs.Parts.{Part}
use Rattle.fleet_jobs.specs.Contexts.{context_of, noted_range, settings_in, table_ids}
use Rattle.fleet_step.specs.Steps.{Leads}
use Rattle.fleet_output.specs.Gets.{GotEach, ids_in}
use Rattle.fleet_output.specs.Next.{CanResume, left_for}
use Rattle.fleet_output.specs.Writes.{MayWrite}
use Rattle.fleet_output.proofs.GotTables.{got_leads, ids_are}
use Rattle.fleet_worker.specs.Claims.{without_parts}
use Rattle.fleet_worker.specs.Outputs.{IsPartAt, after_noting, asked_output, noted_parts, noting_part}
use Rattle.fleet_worker.specs.Workers.{AttemptParts, IsNoted, IsReady, WorkerParts, attempt_of, live_of, run_at}
use Rattle.fleet_worker.proofs.Inserted.{put_same, without_same}
use Rattle.fleet_worker.proofs.Ready.{IsSafe, ready_midway}
use Rattle.fleet_worker.proofs.RunAttempts.{does_run, found_part, is_noted, resumes, tables_ordered}

-- ---- lists

range_at : (parts : List Part) (n : ℕ) (part : Part) → slice_get parts n ≡ Some part → slice_get (map noted_range parts) n ≡ Some (noted_range part)
range_at [] n part e = absurd (cc e)
range_at (p ∷ parts) zero part e = ap (λ (o : Option Part). option_map noted_range o) e
range_at (p ∷ parts) (suc n) part e = range_at parts n part e

-- ---- one more table

ranges_same : (place : ℕ) (table : SsTableHandle) (parts : List Part) → map noted_range (noted_parts place table parts) ≡ noted_at place table.id (map noted_range parts)
ranges_same place table [] = refl
ranges_same place table (p ∷ parts) = by (place == 1) (ranges_same (place - 1) table parts)
  where
    by : (b : Bool) → map noted_range (noted_parts (place - 1) table parts) ≡ noted_at (place - 1) table.id (map noted_range parts) → map noted_range (cond b (record p { output_ssts = p.output_ssts ++ table ∷ [] } ∷ parts) (p ∷ noted_parts (place - 1) table parts))
        ≡ cond b ((range_of p.range, table_ids p.output_ssts ++ table.id ∷ []) ∷ map noted_range parts) (noted_range p ∷ noted_at (place - 1) table.id (map noted_range parts))
    by true rest = ap (λ (ids : List ℕ). (range_of p.range, ids) ∷ map noted_range parts) (map-append (λ (t : SsTableHandle). t.id) p.output_ssts (table ∷ []))
    by false rest = ap (λ rs. noted_range p ∷ rs) rest

-- The range at a place of the attempt is the one at this place in the model.
pub range_there : (a : AttemptParts) (place : ℕ) (part : Part) → IsPartAt a place part → slice_get (map noted_range a.ctx.ranges) (place - 1) ≡ Some (noted_range part)
range_there a place part at = range_at a.ctx.ranges (place - 1) part at.there

noting_same : (place : ℕ) (table : SsTableHandle) (a : AttemptParts) → attempt_of (noting_part place table a) ≡ noting place table.id (attempt_of a)
noting_same place table a = ap (λ (rs : List (Range × List ℕ)). record (attempt_of a) { context = record (context_of a.ctx) { ranges = rs } }) (ranges_same place table a.ctx.ranges)

-- The attempts after one more table is noted are those of the model.
pub after_same : (place : ℕ) (table : SsTableHandle) (a : AttemptParts) (attempts : List AttemptParts) → map attempt_of (after_noting place table a attempts) ≡ with_noted place table.id (attempt_of a) (map attempt_of attempts)
after_same place table a attempts =
    put_same (noting_part place table a) (without_parts (a.job ∷ []) attempts)
    ∙ ap (put_attempt (attempt_of (noting_part place table a))) (without_same (a.job ∷ []) attempts)
    ∙ ap (λ (b : Attempt). put_attempt b (without_attempts (a.job ∷ []) (map attempt_of attempts))) (noting_same place table a)

-- ---- a range of an attempt that the worker runs

module _ (view : StoreView) (w : WorkerParts) (a : AttemptParts) (place : ℕ) (part : Part) (merges : IsLawful view.who.merge) (ready : IsReady view w) (run : run_at w.attempts a.job ≡ Some a) (at : IsPartAt a place part) where
  abbrev merge : Operator
  merge = view.who.merge

  abbrev stored : Tables
  stored = view.world.store.tables

  abbrev range : Range
  range = range_of part.range

  abbrev kept : Keeps merge view.world
  kept = ready.may.keeps

  abbrev holds : WorkerHolds merge view.world (live_of w)
  holds = ready.may.holds

  noted : IsNoted view.world.store a
  noted = is_noted view w a ready run

  -- The range can be resumed.
  pub can_resume : CanResume merge view.world.store (settings_in a.ctx) a.tables part
  can_resume = resumes view w a ready run part (found_part a.ctx.ranges (place - 1) part at.there)

  is_range : IsRangeAt (attempt_of a) place (noted_range part)
  is_range = record { counted = at.counted; there = range_there a place part at }

  module _ (moment rows : ℕ) where
    abbrev ask : Option (List ℕ) → OutputAsk
    ask refusal = asked_output moment w a place part rows refusal

    abbrev course : Option (List ℕ) → Course (StepEnd Written)
    course refusal = output merge stored (ask refusal)

    abbrev written : List Row
    written = rows_written merge stored (ask None)

    abbrev rest : Option (List ℕ) → Course (StepEnd Written)
    rest refusal = unless_refused (live_of w) (attempt_of a) refusal (writes (ask refusal) (rows_written merge stored (ask refusal)))

    -- The output is safe for the worker.
    pub output_safe : (refusal : Option (List ℕ)) → IsSafe view (live_of w) (λ (report : Written). report.attempts) (course refusal)
    output_safe refusal = record {
      lawful = outputs_are_lawful view.who view.world (ask refusal) (calls_keep merge merges) merges ready.may.party kept holds (does_run w a run);
      fits = outputs_keep_fit view.who view.world (ask refusal) (calls_keep merge merges) merges ready.may.party kept holds (does_run w a run) is_range;
    }

    ids_same : ids_in range a.tables ≡ filter (meets stored range) a.sources
    ids_same = ids_are stored range a.tables noted.described ∙ ap (filter (meets stored range)) noted.sources

    -- The course of the output.
    pub course_is : (refusal : Option (List ℕ)) → course refusal ≡ calls_each (gets_tables (ids_in range a.tables)) (rest refusal)
    unfolding output
    course_is refusal = ap (λ ids. calls_each (gets_tables ids) (rest refusal)) (sym ids_same)

    -- The tables were got.
    pub got_here : (mid : StoreView) → GotEach (ids_in range a.tables) view mid → (refusal : Option (List ℕ)) → Leads (course refusal) view (rest refusal) mid
    got_here mid got refusal = subst (λ (c : Course (StepEnd Written)). Leads c view (rest refusal) mid) (sym (course_is refusal)) (got_leads (ids_in range a.tables) view mid got (rest refusal))

    -- What is left is what the attempt has not yet written.
    pub left_same : left_for merge stored (settings_in a.ctx) a.tables part ≡ unwritten merge stored (attempt_of a) (noted_range part)
    left_same = ap (λ ids. rows_left merge stored (settings_of (settings_in a.ctx)) ids (noted_range part)) noted.sources

    -- The worker is ready after the gets.
    pub ready_then : (mid : StoreView) → GotEach (ids_in range a.tables) view mid → (refusal : Option (List ℕ)) → IsReady mid w
    ready_then mid got refusal = ready_midway view mid w (λ (report : Written). report.attempts) (course refusal) (rest refusal) merges ready (output_safe refusal) (got_here mid got refusal)

    -- The rows may be put.
    pub may_write : MayWrite merge (settings_in a.ctx) a.tables part rows moment view
    may_write mid table gives =
        let same = gives.next.rows in
        let good = take_good rows _ (left_good merge stored (settings_of (settings_in a.ctx)) (table_ids a.tables) (noted_range part) merges.short kept.stored.sound.tables (tables_ordered view w a ready run)) in
        let sound : IsTable (rows_of table) = record {
          some = some_rows table gives.next.filled;
          ordered = subst IsStrictlyOrdered (sym same) good.ordered;
          bounds = subst (AllByRecursion _) (sym same) good.bounds;
        } in
        let lawful = subst (λ (who : Caller). IsLawful who.merge) (sym (got_here mid gives.got None).same.who) merges in
        (sound, table_lawful {A = ⊤} mid.who moment (rows_of table) (λ id. Ends tt) mid.world (calls_keep mid.who.merge lawful) (ready_then mid gives.got None).may.keeps sound (λ new id after. tt))
      where
        some_rows : (table : List RowEntry) → table ≢ [] → rows_of table ≢ []
        some_rows [] some none = some refl
        some_rows (r ∷ table) some none = absurd (cc none)
