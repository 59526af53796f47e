-- An attempt that a worker runs: what is known of it, and its ranges.
use Rattle.std.proofs.Common.{◌≡◌, refl, sym, ◌∙◌, ap, subst, ℕ, zero, suc, ◌<◌, cond, Bool, true, false, inl, inr, map, length, List, [], ◌∷◌, Some, option_map, arith}
use Rattle.std.specs.Prelude.{◌==◌, IsTrue, slice_get}
use Rattle.std.specs.List.{AllByRecursion}
use Rattle.std.proofs.lemmas.Bool.{eqb-true}
use Rattle.row_model.specs.Fold.{Operator}
use Rattle.row_model.specs.Lists.{IsPrefixOf}
use Rattle.row_model.specs.Ranges.{Range}
use Rattle.row_model.specs.Rows.{IsStrictlyOrdered}
use Rattle.fleet_model.specs.Invariants.AttemptsFit.{AttemptStands}
use Rattle.fleet_model.specs.Nodes.{Tables}
use Rattle.fleet_model.specs.Store.{AreHeld, is_held}
use Rattle.fleet_model.specs.Sweeps.{attempt_tables}
use Rattle.fleet_model.specs.Work.Attempts.{noted_rows, range_rows, source_rows}
use Rattle.step_model.specs.Fits.{AttemptHeld, WorkerHolds}
use Rattle.step_model.specs.Kept.Keeps.{Keeps}
use Rattle.step_model.specs.Views.{StoreView}
use Rattle.step_laws.proofs.Elements.{IsIn, all_at, all_front, all_true_from, all_true_front}
use Rattle.course_laws.specs.Outputs.{DoesRun}
use Rattle.course_laws.proofs.Outputs.{found_in}
use Rattle.fleet_rows.specs.Settings.{settings_of}
use Rattle.fleet_range.specs.Keys.{range_of}
use Rattle.fleet_plan.specs.Parts.{Part}
use Rattle.fleet_jobs.specs.Contexts.{noted_range, settings_in, table_ids}
use Rattle.fleet_store.specs.Handles.{IsDescribed}
use Rattle.fleet_output.specs.Next.{CanResume}
use Rattle.fleet_worker.specs.Workers.{AttemptParts, IsNoted, IsReady, WorkerParts, attempt_of, live_of, run_at}
use Rattle.fleet_worker.proofs.Returns.{found_same}

-- ---- lists

pub found_run : (xs : List AttemptParts) (job : ℕ) (a : AttemptParts) → run_at xs job ≡ Some a → IsIn a xs
found_run [] job a e = absurd (cc e)
found_run (x ∷ xs) job a e = by (x.job == job) (found_run xs job a) e
  where
    by : (b : Bool) → (run_at xs job ≡ Some a → IsIn a xs) → cond b (Some x) (run_at xs job) ≡ Some a → IsIn a (x ∷ xs)
    by true rest e = inl (cc e)
    by false rest e = inr (rest e)

-- An attempt that is found by its job is at that job.
pub at_job : (xs : List AttemptParts) (job : ℕ) (a : AttemptParts) → run_at xs job ≡ Some a → a.job ≡ job
at_job [] job a e = absurd (cc e)
at_job (x ∷ xs) job a e = by (x.job == job) refl e (at_job xs job a)
  where
    pick : Some x ≡ Some a → a ≡ x
    pick e = cc e

    by : (b : Bool) → (x.job == job) ≡ b → cond b (Some x) (run_at xs job) ≡ Some a → (run_at xs job ≡ Some a → a.job ≡ job) → a.job ≡ job
    by true e is later = ap (λ (y : AttemptParts). y.job) (pick is) ∙ eqb-true x.job job e
    by false e is later = later is

-- It is found by its own job.
pub run_here : (xs : List AttemptParts) (job : ℕ) (a : AttemptParts) → run_at xs job ≡ Some a → run_at xs a.job ≡ Some a
run_here xs job a run = subst (λ j. run_at xs j ≡ Some a) (sym (at_job xs job a run)) run

-- A worker runs one attempt at a job.
pub one_run : (xs : List AttemptParts) (job : ℕ) (a b : AttemptParts) → run_at xs job ≡ Some a → run_at xs job ≡ Some b → a ≡ b
one_run xs job a b one two = same (sym one ∙ two)
  where
    same : Some a ≡ Some b → a ≡ b
    same e = cc e

pub found_part : (parts : List Part) (n : ℕ) (part : Part) → slice_get parts n ≡ Some part → IsIn part parts
found_part [] n part e = absurd (cc e)
found_part (p ∷ parts) zero part e = inl (cc e)
found_part (p ∷ parts) (suc n) part e = inr (found_part parts n part e)

-- A place below the length has a part.
pub part_there : (parts : List Part) (n : ℕ) → n < length parts → (part : Part) × (slice_get parts n ≡ Some part)
part_there [] n low = absurd (omega (arith, low))
part_there (part ∷ parts) zero low = (part, refl)
part_there (part ∷ parts) (suc n) low = part_there parts n (omega (arith, low))

in_ranges : (parts : List Part) (part : Part) → IsIn part parts → IsIn (noted_range part) (map noted_range parts)
in_ranges [] part there = absurd there
in_ranges (p ∷ parts) part (inl same) = inl (ap noted_range same)
in_ranges (p ∷ parts) part (inr there) = inr (in_ranges parts part there)

pub does_run : (w : WorkerParts) (a : AttemptParts) → run_at w.attempts a.job ≡ Some a → DoesRun (live_of w) (attempt_of a)
does_run w a run = found_same w.attempts a.job ∙ ap (option_map attempt_of) run

-- ---- what is known of the attempt

module _ (view : StoreView) (w : WorkerParts) (a : AttemptParts) (ready : IsReady view w) (run : run_at w.attempts a.job ≡ Some a) where
  abbrev merge : Operator
  merge = view.who.merge

  abbrev stored : Tables
  stored = view.world.store.tables

  abbrev kept : Keeps merge view.world
  kept = ready.may.keeps

  abbrev holds : WorkerHolds merge view.world (live_of w)
  holds = ready.may.holds

  in_model : IsIn (attempt_of a) (live_of w).attempts
  in_model = found_in (live_of w).attempts a.job (attempt_of a) (does_run w a run)

  pub is_noted : IsNoted view.world.store a
  is_noted = all_at (IsNoted view.world.store) w.attempts a ready.noted (found_run w.attempts a.job a run)

  stands : AttemptStands merge view.world.store kept.stored.replay.specs (attempt_of a)
  stands = all_at (AttemptStands merge view.world.store kept.stored.replay.specs) (live_of w).attempts (attempt_of a) (holds.fits kept.stored.replay.specs kept.faithful).each in_model

  -- Its source tables are held.
  pub are_held : AreHeld view.world.store (table_ids a.tables)
  are_held =
      subst (AreHeld view.world.store) (sym is_noted.sources)
      (all_true_from (is_held view.world.store) a.sources (all_front (λ id. IsTrue (is_held view.world.store id)) a.sources _ (all_true_front (is_held view.world.store) (attempt_tables (attempt_of a)) stands.held)))

  -- Their rows are in order.
  pub are_ordered : IsStrictlyOrdered (source_rows stored a.sources)
  are_ordered = (all_at (AttemptHeld view.world w.number) (live_of w).attempts (attempt_of a) holds.each in_model).ordered

  pub tables_ordered : IsStrictlyOrdered (source_rows stored (table_ids a.tables))
  tables_ordered = subst (λ ids. IsStrictlyOrdered (source_rows stored ids)) (sym is_noted.sources) are_ordered

  -- Each of its ranges can be resumed.
  pub resumes : (part : Part) → IsIn part a.ctx.ranges → CanResume merge view.world.store (settings_in a.ctx) a.tables part
  resumes part there = record {
    sound = kept.stored.sound.tables;
    described = is_noted.described;
    held = are_held;
    ordered = tables_ordered;
    noted = all_at (λ (p : Part). AllByRecursion (IsDescribed stored) p.output_ssts) a.ctx.ranges part is_noted.noted there;
    first =
        subst (λ ids. IsPrefixOf (noted_rows stored (table_ids part.output_ssts)) (range_rows merge stored (settings_of (settings_in a.ctx)) ids (range_of part.range)).rows) (sym is_noted.sources)
        (all_at (λ (r : Range × List ℕ). IsPrefixOf (noted_rows stored r.1) (range_rows merge stored (settings_of (settings_in a.ctx)) a.sources r.0).rows) (map noted_range a.ctx.ranges) (noted_range part) stands.tables
        (in_ranges a.ctx.ranges part there));
  }
