-- A finish over a store that is lent is one that a line may have.
use Rattle.std.proofs.Common.{◌≡◌, refl, sym, ◌∙◌, ap, subst, ℕ, List, [], ◌∷◌, ◌++◌, map, Bool, true, false, inl, inr, Option, Some, None, Result, Ok, Err}
use Rattle.std.specs.Prelude.{◌&&◌}
use Rattle.std.specs.List.{list_all}
use Rattle.row_model.specs.Fold.{Operator, IsLawful}
use Rattle.row_model.specs.JobRows.{JobRows}
use Rattle.row_model.specs.Ranges.{Range}
use Rattle.fleet_model.specs.Nodes.{Tables}
use Rattle.fleet_model.specs.Store.{Store}
use Rattle.fleet_model.specs.Work.Attempts.{rows_left, source_rows}
use Rattle.fleet_model.specs.Work.Scheduler.{Scheduler}
use Rattle.step_model.specs.Steps.FinishSteps.{finish}
use Rattle.step_model.specs.Views.{StoreView}
use Rattle.script_model.specs.Refusals.{FinishMay, IsRefusal, left_in}
use Rattle.script_model.specs.States.{Inputs, State}
use Rattle.line_laws.proofs.Goes.{finish_may}
use Rattle.fleet_rows.specs.Settings.{settings_of}
use Rattle.fleet_rows.specs.declared.errors.MergeOperatorError.TheVariants.{Callback}
use Rattle.fleet_rows.specs.declared.errors.SlateDBError.{SlateDBError}
use Rattle.fleet_rows.specs.declared.errors.SlateDBError.TheVariants.{MergeOperator}
use Rattle.fleet_range.specs.Keys.{range_of}
use Rattle.fleet_plan.specs.Parts.{Part}
use Rattle.fleet_jobs.specs.Contexts.{noted_range, settings_in, table_ids}
use Rattle.fleet_history.specs.declared.party.Party.TheVariants as party
use Rattle.fleet_store.specs.Memory.{StoreParts}
use Rattle.fleet_store.specs.Under.{view_of}
use Rattle.fleet_finish.specs.Puts.{Outputs}
use Rattle.fleet_output.specs.Gets.{GotUntil}
use Rattle.fleet_output.specs.Jobs.{cursor_of}
use Rattle.fleet_output.specs.Left.{AreWhole, RefusesLeft}
use Rattle.fleet_output.specs.Next.{left_for, read_for}
use Rattle.fleet_step.specs.Steps.{RunsTo, StepRan}
use Rattle.fleet_worker.specs.Finishing.{FinishRan, FinishesAttempt, IsWhy, StopsAtGets, all_ends, asked_all, finish_of}
use Rattle.fleet_worker.specs.Workers.{AttemptParts, IsReady, WorkerParts, attempt_of, live_of, run_at}
use Rattle.fleet_worker.proofs.FinishTurns.{gets_end}
use Rattle.fleet_worker.proofs.OutputRuns.{err_alike}
use Rattle.fleet_worker.proofs.RunAttempts.{is_noted, run_here}
use Rattle.fleet_lines.specs.Steps.{Made, MayWork, at_line}
use Rattle.fleet_lines.specs.Work.{FinishMade}
use Rattle.fleet_lines.proofs.Lent.{ready_lent}
use Rattle.fleet_lines.proofs.Made.{made_lent}
use Rattle.fleet_lines.proofs.MadeOutputs.{read_there}
use Rattle.fleet_lines.proofs.OperatorRefusals.{is_refusal}

-- ---- an attempt

module _ (scheduler : Scheduler) (s : State) (size : ℕ) (view : StoreView) (w : WorkerParts) (a : AttemptParts) (merges : IsLawful view.who.merge) (ready : IsReady view w) (run : run_at w.attempts a.job ≡ Some a) (here : s.store ≡ view.world.store) where
  abbrev inputs : Inputs
  inputs = record { merge = view.who.merge; scheduler = scheduler }

  -- The state with the store of the view.
  abbrev state : State
  state = record s { store = view.world.store }

  abbrev stored : Tables
  stored = view.world.store.tables

  sources_are : table_ids a.tables ≡ a.sources
  sources_are = (is_noted view w a ready run).sources

  -- What is left of a range.
  same : (part : Part) → left_for view.who.merge stored (settings_in a.ctx) a.tables part ≡ left_in inputs state (attempt_of a) (noted_range part)
  same part = ap (λ (ids : List ℕ). rows_left view.who.merge stored (settings_of (settings_in a.ctx)) ids (noted_range part)) sources_are

  abbrev is_left_whole : Range × List ℕ → Bool
  is_left_whole range = (left_in inputs state (attempt_of a) range).whole

  all_whole : (parts : List Part) → AreWhole view.who.merge stored (settings_in a.ctx) a.tables parts → list_all is_left_whole (map noted_range parts) ≡ true
  all_whole [] whole = refl
  all_whole (part ∷ parts) whole = by (is_left_whole (noted_range part)) (sym (ap (λ (j : JobRows). j.whole) (same part)) ∙ whole.0) (all_whole parts whole.1)
    where
      by : (b : Bool) → b ≡ true → list_all is_left_whole (map noted_range parts) ≡ true → (b && list_all is_left_whole (map noted_range parts)) ≡ true
      by true e rest = rest
      by false e rest = e

  -- A fold refuses in the range, so not all ranges are whole.
  one_breaks : (before : List Part) (part : Part) (later : List Part) → (left_for view.who.merge stored (settings_in a.ctx) a.tables part).whole ≡ false → list_all is_left_whole (map noted_range (before ++ part ∷ later)) ≡ false
  one_breaks [] part later broken = by (is_left_whole (noted_range part)) (sym (ap (λ (j : JobRows). j.whole) (same part)) ∙ broken)
    where
      by : (b : Bool) → b ≡ false → (b && list_all is_left_whole (map noted_range later)) ≡ false
      by true e = absurd (cc e)
      by false e = refl
  one_breaks (first ∷ before) part later broken = by (is_left_whole (noted_range first)) (one_breaks before part later broken)
    where
      by : (b : Bool) → list_all is_left_whole (map noted_range (before ++ part ∷ later)) ≡ false → (b && list_all is_left_whole (map noted_range (before ++ part ∷ later))) ≡ false
      by true rest = rest
      by false rest = refl

  abbrev Found : Option (List ℕ) → Type 0
  Found refusal = FinishMay inputs state (Some (live_of w, attempt_of a)) refusal

  -- A refusal is one that a line may have.
  refused : (message : List ℕ) → RefusesLeft view.who.merge stored (settings_in a.ctx) a.tables a.ctx.ranges (MergeOperator (Callback message)) → Found (Some message)
  refused message left = record {
    refusing =
        ap (λ (parts : List Part). list_all is_left_whole (map noted_range parts)) left.are
        ∙ one_breaks left.before left.part left.later left.refuses.refused;
    is_refusal =
        subst (λ (ids : List ℕ). IsRefusal view.who.merge (source_rows stored ids) message) sources_are
        (is_refusal view.who.merge merges (source_rows stored (table_ids a.tables)) (read_for stored a.tables left.part) message
        (read_there (source_rows stored (table_ids a.tables)) (range_of left.part.range) (cursor_of left.part.output_ssts)) left.refuses.operator);
  }

  -- So ran a finish that a line may have.
  pub record MayRun (new : StoreView) (next : List AttemptParts) (result : Result Outputs SlateDBError) : Type 0 where
    pub refusal : Option (List ℕ)
    pub may : FinishMay inputs s (Some (live_of w, attempt_of a)) refusal
    pub ran : StepRan (all_ends next) (finish_of view (asked_all s.moment w a size refusal)) view new result

  found_here : (refusal : Option (List ℕ)) → Found refusal → FinishMay inputs s (Some (live_of w, attempt_of a)) refusal
  found_here refusal may = subst (λ (store : Store). FinishMay inputs (record s { store = store }) (Some (live_of w, attempt_of a)) refusal) (sym here) may

  -- A finish that came no further than its gets ran so whatever the operator may refuse.
  ends_in_gets : (new : StoreView) (next : List AttemptParts) (e : SlateDBError) → GotUntil (table_ids a.tables) view new e → MayRun new next (Err e)
  ends_in_gets new next e until =
      let m = finish_may inputs state (Some (live_of w, attempt_of a)) in
      record {
        refusal = m.0;
        may = found_here m.0 m.1;
        ran = record { to_end = err_alike (RunsTo (finish_of view (asked_all s.moment w a size m.0)) view new) (all_ends w.attempts) (all_ends next) e (gets_end s.moment view w a size merges ready run new e until m.0).to_end };
      }

  pub may_run : (new : StoreView) (next : List AttemptParts) (result : Result Outputs SlateDBError) → FinishesAttempt s.moment w size view new next result a → MayRun new next result
  may_run new next result ran = by ran.refusal ran.because ran.ran
    where
      stops : (result : Result Outputs SlateDBError) → StopsAtGets a view new result → MayRun new next result
      stops (Ok outputs) ends = absurd ends
      stops (Err e) until = ends_in_gets new next e until

      by : (refusal : Option (List ℕ)) → IsWhy a view new result refusal → StepRan (all_ends next) (finish_of view (asked_all s.moment w a size refusal)) view new result → MayRun new next result
      by None (inl whole) ran = record { refusal = None; may = found_here None (all_whole a.ctx.ranges whole); ran = ran }
      by None (inr ends) ran = stops result ends
      by (Some message) refuses ran = record { refusal = Some message; may = found_here (Some message) (refused message refuses); ran = ran }

-- ---- the store that is lent

-- A finish over the lent store is one that the line may have, of an attempt that the worker runs.
pub finish_made : (merge mine : Operator) (scheduler : Scheduler) (s : State) (moment size number lent : ℕ) (w : WorkerParts) (old mid new : StoreParts) (last : StoreView) (next : List AttemptParts) (result : Result Outputs SlateDBError) (job : ℕ) → IsLawful merge → mine ≡ merge
    → mid ≡ at_line number (party.Worker w.number) old → last.world ≡ new.world → last.waits ≡ new.waits → MayWork merge old.world w → s.moment ≡ moment → s.options.table_size ≡ size → s.store ≡ old.world.store → FinishRan moment w size (view_of mine lent mid) last next result job
    → FinishMade (record { merge = merge; scheduler = scheduler }) s number w old new next result job
finish_made merge mine scheduler s moment size number lent w old mid new last next result job lawful same at world waits may when sized here out =
    let p = party.Worker w.number in
    let view = view_of merge lent (at_line number p old) in
    let ran = subst (λ (o : Operator). FinishRan s.moment w size (view_of o lent (at_line number p old)) last next result job) same (subst (λ (m : StoreParts). FinishRan s.moment w size (view_of mine lent m) last next result job) at (subst (λ (t : ℕ). FinishRan t w size (view_of mine lent mid) last next result job) (sym when) out)) in
    let ready = ready_lent merge merge number lent old (at_line number p old) w refl refl may in
    let m = may_run scheduler s size view w ran.attempt lawful ready (run_here w.attempts job ran.attempt ran.runs) here last next result ran.ran in
    record {
      attempt = ran.attempt;
      runs = ran.runs;
      refusal = m.refusal;
      may = m.may;
      made =
          subst (λ (n : ℕ). Made (all_ends next) (finish merge s.store.tables (asked_all s.moment w ran.attempt n m.refusal)) merge number p old new result) (sym sized)
          (subst (λ (store : Store). Made (all_ends next) (finish merge store.tables (asked_all s.moment w ran.attempt size m.refusal)) merge number p old new result) (sym here)
          (made_lent (all_ends next) (finish_of view (asked_all s.moment w ran.attempt size m.refusal)) merge merge number p lent old (at_line number p old) new last result refl refl world waits m.ran));
    }
