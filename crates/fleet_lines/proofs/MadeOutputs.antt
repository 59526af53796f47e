-- An output over a store that is lent is one that a line may have.
use Rattle.std.proofs.Common.{◌≡◌, refl, sym, ◌∙◌, ap, subst, ℕ, ◌-◌, ◌<◌, ◌≤◌, List, [], ◌∷◌, length, drop, cond, Bool, true, false, inl, inr, ◌⊎◌, Option, Some, None, Result, Ok, Err, arith}
use Rattle.std.specs.Prelude.{nat_le, IfOk, IfSome}
use Rattle.std.specs.List.{AllByRecursion}
use Rattle.std.proofs.Math.Seq.{drop-append_seam}
use Rattle.std.proofs.lemmas.Bool.Decides.{leb_tells}
use Rattle.std.proofs.lemmas.List.{length-take}
use Rattle.row_model.specs.Fold.{Operator, IsLawful}
use Rattle.row_model.specs.JobRows.{JobRows}
use Rattle.row_model.specs.Ranges.{Range, is_in_range, rows_in}
use Rattle.row_model.specs.Rows.{Row, IsStrictlyOrdered}
use Rattle.row_model.specs.Settings.{Settings}
use Rattle.row_laws.specs.Keys.{is_below}
use Rattle.row_laws.specs.Resume.{Cursor, made_after}
use Rattle.row_laws.proofs.ApartRows.{all_filter, ordered_filter}
use Rattle.row_laws.proofs.Resume.{resumes_after}
use Rattle.fleet_model.specs.Handles.{describe, Handle}
use Rattle.fleet_model.specs.Nodes.{Tables}
use Rattle.fleet_model.specs.Store.{Store}
use Rattle.fleet_model.specs.Work.Attempts.{noted_rows, source_rows}
use Rattle.fleet_model.specs.Work.Scheduler.{Scheduler}
use Rattle.step_model.specs.Steps.OutputSteps.{output, rows_written, unwritten}
use Rattle.step_model.specs.Views.{StoreView}
use Rattle.script_model.specs.Refusals.{IsRefusal, OutputGiven, OutputMay, below, key_before}
use Rattle.script_model.specs.States.{Inputs, State}
use Rattle.line_laws.proofs.FoundRefusals.{are_there}
use Rattle.line_laws.proofs.Goes.{output_may}
use Rattle.fleet_rows.specs.Settings.{settings_of}
use Rattle.fleet_rows.specs.declared.errors.MergeOperatorError.TheVariants.{Callback}
use Rattle.fleet_rows.specs.declared.errors.SlateDBError.{SlateDBError}
use Rattle.fleet_rows.specs.declared.errors.SlateDBError.TheVariants.{MergeOperator}
use Rattle.fleet_range.specs.Keys.{range_of}
use Rattle.fleet_iter.specs.Iteration.{from_key}
use Rattle.fleet_tree.specs.Handles.{handle_of}
use Rattle.fleet_tree.specs.declared.handle.SsTableHandle.{SsTableHandle}
use Rattle.fleet_plan.specs.Parts.{Part}
use Rattle.fleet_jobs.specs.Contexts.{noted_range, settings_in, table_ids}
use Rattle.fleet_history.specs.declared.party.Party.TheVariants as party
use Rattle.fleet_store.specs.Memory.{StoreParts}
use Rattle.fleet_store.specs.Under.{view_of}
use Rattle.fleet_exec.specs.Ranges.{from_cursor}
use Rattle.fleet_output.specs.Gets.{GotUntil, ids_in}
use Rattle.fleet_output.specs.Jobs.{cursor_of}
use Rattle.fleet_output.specs.Next.{RefusesNext, left_for, read_for}
use Rattle.fleet_output.proofs.Resumed.{cursor_is}
use Rattle.fleet_step.specs.Steps.{RunsTo, StepRan}
use Rattle.fleet_worker.specs.Outputs.{EndsInGets, IsPartAt, IsReason, OutputRan, RangeRan, WritesEnough, asked_output, output_ends, output_of, written_rows}
use Rattle.fleet_worker.specs.Workers.{AttemptParts, IsReady, WorkerParts, attempt_of, live_of, run_at}
use Rattle.fleet_worker.proofs.OutputRuns.{err_alike, gets_end}
use Rattle.fleet_worker.proofs.Outputs.{can_resume, left_same}
use Rattle.fleet_worker.proofs.RunAttempts.{is_noted, run_here, tables_ordered}
use Rattle.fleet_lines.specs.Steps.{Made, MayWork, at_line}
use Rattle.fleet_lines.specs.Work.{IsCounted, OutputMade}
use Rattle.fleet_lines.proofs.FewLeft.{few_left}
use Rattle.fleet_lines.proofs.Lent.{ready_lent}
use Rattle.fleet_lines.proofs.Made.{made_lent}
use Rattle.fleet_lines.proofs.OperatorRefusals.{IsThere, is_refusal}

-- What all rows have, the rows from a key on have.
all_from_key : (P : Row → Type 0) (key : List ℕ) (rows : List Row) → AllByRecursion P rows → AllByRecursion P (from_key key rows)
all_from_key P key [] all = tt
all_from_key P key (r ∷ rows) all = by (is_below key r) (all_from_key P key rows all.1)
  where
    by : (b : Bool) → AllByRecursion P (from_key key rows) → AllByRecursion P (cond b (from_key key rows) (r ∷ rows))
    by true rest = rest
    by false rest = all

-- So have the rows that are read for a range.
pub read_there : (all : List Row) (range : Range) (cursor : Option Cursor) → AllByRecursion (IsThere all) (from_cursor cursor (rows_in range all))
read_there all range cursor = by cursor (all_filter (IsThere all) (λ (r : Row). is_in_range range r.key) all (are_there all))
  where
    by : (c : Option Cursor) → AllByRecursion (IsThere all) (rows_in range all) → AllByRecursion (IsThere all) (from_cursor c (rows_in range all))
    by None there = there
    by (Some c) there = all_from_key (IsThere all) c.0 (rows_in range all) there

-- ---- a range of an attempt

module _ (scheduler : Scheduler) (s : State) (view : StoreView) (w : WorkerParts) (a : AttemptParts) (place rows : ℕ) (part : Part) (merges : IsLawful view.who.merge) (ready : IsReady view w) (run : run_at w.attempts a.job ≡ Some a) (at : IsPartAt a place part) (some : 1 ≤ rows) (here : s.store ≡ view.world.store) where
  abbrev inputs : Inputs
  inputs = record { merge = view.who.merge; scheduler = scheduler }

  -- The state with the store of the view.
  abbrev state : State
  state = record s { store = view.world.store }

  abbrev stored : Tables
  stored = view.world.store.tables

  abbrev settings : Settings
  settings = settings_of (settings_in a.ctx)

  abbrev range : Range
  range = range_of part.range

  abbrev sources : List ℕ
  sources = table_ids a.tables

  abbrev in_range : List Row
  in_range = rows_in range (source_rows stored sources)

  abbrev left : JobRows
  left = left_for view.who.merge stored (settings_in a.ctx) a.tables part

  same : left ≡ unwritten view.who.merge stored (attempt_of a) (noted_range part)
  same = left_same view w a place part merges ready run at s.moment rows

  sources_are : sources ≡ a.sources
  sources_are = (is_noted view w a ready run).sources

  ordered : IsStrictlyOrdered in_range
  ordered = ordered_filter (λ (r : Row). is_in_range range r.key) (source_rows stored sources) (tables_ordered view w a ready run)

  -- What is left is made after the cursor.
  made_left : left.rows ≡ (made_after view.who.merge settings (cursor_of part.output_ssts) in_range).rows
  made_left =
      let can = can_resume view w a place part merges ready run at in
      let noted = noted_rows stored (table_ids part.output_ssts) in
      let rest = can.first.0 in
      ap (drop (length noted)) (sym can.first.1) ∙ drop-append_seam noted rest
      ∙ sym (ap (λ (j : JobRows). j.rows) (resumes_after view.who.merge settings in_range noted rest ordered (sym can.first.1)))
      ∙ ap (λ (c : Option Cursor). (made_after view.who.merge settings c in_range).rows) (sym (cursor_is stored can.sound part.output_ssts can.noted))

  abbrev Found : Option (List ℕ) → Type 0
  Found refusal = OutputMay inputs state rows (Some (live_of w, attempt_of a, noted_range part)) refusal

  -- An output without a refusal may succeed.
  given : WritesEnough s.moment w place rows view view a part → Found None
  given enough = by (leb_tells rows (length made.rows))
    where
      made : JobRows
      made = unwritten view.who.merge stored (attempt_of a) (noted_range part)

      by : ((nat_le rows (length made.rows) ≡ true) × (rows ≤ length made.rows)) ⊎ ((nat_le rows (length made.rows) ≡ false) × (length made.rows < rows)) → OutputGiven inputs state (attempt_of a) (noted_range part) rows
      by (inl h) = inr h.1
      by (inr h) =
          let taken = length-take rows made.rows in
          let over = h.1 in
          inl (enough (omega (arith, taken, over)))

  -- A refusal is one that a line may have.
  refused : (message : List ℕ) → RefusesNext view.who.merge stored (settings_in a.ctx) a.tables part rows (MergeOperator (Callback message)) → Found (Some message)
  refused message refuses = record {
    refusing = sym (ap (λ (j : JobRows). j.whole) same) ∙ refuses.refused;
    few =
        subst (λ (j : JobRows). length (below (key_before inputs state (attempt_of a) range) j.rows) < rows) same
        (subst (λ (ids : List ℕ). length (below (key_before inputs state (record (attempt_of a) { sources = ids }) range) left.rows) < rows) sources_are
        (few_left view.who.merge settings in_range ordered (cursor_of part.output_ssts) rows some left.rows made_left refuses.refused refuses.early));
    is_refusal =
        subst (λ (ids : List ℕ). IsRefusal view.who.merge (source_rows stored ids) message) sources_are
        (is_refusal view.who.merge merges (source_rows stored sources) (read_for stored a.tables part) message (read_there (source_rows stored sources) range (cursor_of part.output_ssts)) refuses.operator);
  }

  -- ---- a run

  -- So ran an output that a line may have.
  pub record MayRun (new : StoreView) (next : List AttemptParts) (result : Result (Option SsTableHandle) SlateDBError) : Type 0 where
    pub refusal : Option (List ℕ)
    pub may : OutputMay inputs s rows (Some (live_of w, attempt_of a, noted_range part)) refusal
    pub ran : StepRan (output_ends (written_rows view (asked_output s.moment w a place part rows refusal)) next) (output_of view (asked_output s.moment w a place part rows refusal)) view new result

  found_here : (refusal : Option (List ℕ)) → Found refusal → OutputMay inputs s rows (Some (live_of w, attempt_of a, noted_range part)) refusal
  found_here refusal may = subst (λ (store : Store). OutputMay inputs (record s { store = store }) rows (Some (live_of w, attempt_of a, noted_range part)) refusal) (sym here) may

  -- An output that came no further than its gets ran so whatever the operator may refuse.
  ends_in_gets : (new : StoreView) (next : List AttemptParts) (e : SlateDBError) → GotUntil (ids_in range a.tables) view new e → MayRun new next (Err e)
  ends_in_gets new next e until =
      let m = output_may inputs state rows (Some (live_of w, attempt_of a, noted_range part)) in
      let ask = asked_output s.moment w a place part rows m.0 in
      record {
        refusal = m.0;
        may = found_here m.0 m.1;
        ran = record { to_end = err_alike (RunsTo (output_of view ask) view new) (output_ends (written_rows view ask) w.attempts) (output_ends (written_rows view ask) next) e (gets_end s.moment view w a place rows part merges ready run at new e until m.0).to_end };
      }

  -- An output of the range ran as one that the line may have, with a refusal of the operator or without.
  pub may_run : (new : StoreView) (next : List AttemptParts) (result : Result (Option SsTableHandle) SlateDBError) → RangeRan s.moment w place rows view new (λ (answer : Option SsTableHandle). answer) next result a part → MayRun new next result
  may_run new next result ran = by ran.refusal ran.because ran.ran
    where
      stops : (result : Result (Option SsTableHandle) SlateDBError) → EndsInGets a part view new result → MayRun new next result
      stops (Ok answer) ends = absurd ends
      stops (Err e) until = ends_in_gets new next e until

      by : (refusal : Option (List ℕ)) → IsReason s.moment w place rows view new a part result refusal
          → StepRan (output_ends (written_rows view (asked_output s.moment w a place part rows refusal)) next) (output_of view (asked_output s.moment w a place part rows refusal)) view new result → MayRun new next result
      by None (inl enough) ran = record { refusal = None; may = found_here None (given enough); ran = ran }
      by None (inr ends) ran = stops result ends
      by (Some message) refuses ran = record { refusal = Some message; may = found_here (Some message) (refused message refuses); ran = ran }

-- ---- the store that is lent

-- The table of an answer has as many rows as were written.
are_counted : (rows : List Row) (result : Result (Option SsTableHandle) SlateDBError) → IfOk result (λ answer. IfSome answer (λ handle. handle_of handle ≡ describe handle.id rows)) → IsCounted (length rows) result
are_counted rows (Err e) described = tt
are_counted rows (Ok None) described = tt
are_counted rows (Ok (Some handle)) described = ap (λ (h : Handle). h.rows) described

-- So an output of the worker is one that the line may have, of an attempt that it runs.
pub output_made : (merge mine : Operator) (scheduler : Scheduler) (s : State) (moment number lent : ℕ) (w : WorkerParts) (place rows : ℕ) (old mid new : StoreParts) (last : StoreView) (next : List AttemptParts) (result : Result (Option SsTableHandle) SlateDBError) (job : ℕ) → IsLawful merge → 1 ≤ rows
    → mine ≡ merge → mid ≡ at_line number (party.Worker w.number) old → last.world ≡ new.world → last.waits ≡ new.waits → MayWork merge old.world w → s.moment ≡ moment → s.store ≡ old.world.store → OutputRan moment w place rows (view_of mine lent mid) last next result job
    → OutputMade (record { merge = merge; scheduler = scheduler }) s number w old new next place rows result job
output_made merge mine scheduler s moment number lent w place rows old mid new last next result job lawful some same at world waits may when here out =
    let p = party.Worker w.number in
    let view = view_of merge lent (at_line number p old) in
    let ran = subst (λ (o : Operator). OutputRan s.moment w place rows (view_of o lent (at_line number p old)) last next result job) same (subst (λ (m : StoreParts). OutputRan s.moment w place rows (view_of mine lent m) last next result job) at (subst (λ (t : ℕ). OutputRan t w place rows (view_of mine lent mid) last next result job) (sym when) out)) in
    let ready = ready_lent merge merge number lent old (at_line number p old) w refl refl may in
    let m = may_run scheduler s view w ran.attempt place rows ran.part lawful ready (run_here w.attempts job ran.attempt ran.runs) ran.at some here last next result ran.ran in
    let ask = asked_output s.moment w ran.attempt place ran.part rows m.refusal in
    record {
      attempt = ran.attempt;
      runs = ran.runs;
      part = ran.part;
      at = ran.at;
      refusal = m.refusal;
      may = m.may;
      counted = subst (λ (store : Store). IsCounted (length (rows_written merge store.tables ask)) result) (sym here) (are_counted (written_rows view ask) result ran.ran.described);
      made =
          subst (λ (store : Store). Made (output_ends (rows_written merge store.tables ask) next) (output merge store.tables ask) merge number p old new result) (sym here)
          (made_lent (output_ends (written_rows view ask) next) (output_of view ask) merge merge number p lent old (at_line number p old) new last result refl refl world waits m.ran);
    }
