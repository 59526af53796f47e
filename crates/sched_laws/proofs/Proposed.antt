-- What holds of each pick holds of each proposal.
use Rattle.std.proofs.Common.{◌≡◌, refl, sym, ap, ◌∙◌, subst, ℕ, zero, suc, ◌-◌, ◌≤◌, List, [], ◌∷◌, length, map, cond, Bool, true, false, ◌&&◌, arith}
use Rattle.std.specs.Prelude.{Option, Some, None, nat_lt, nat_le, option_map}
use Rattle.std.specs.Option.{option_or, option_to_list}
use Rattle.std.specs.List.{AllByRecursion}
use Rattle.std.proofs.lemmas.Bool.{ltb-true, leb-true}
use Rattle.std.proofs.lemmas.List.{length-append, length-drop, length-map}
use Rattle.fleet_model.specs.Jobs.{JobSpec, is_drain_to}
use Rattle.sched_model.specs.FreshRuns.{fresh_run_id}
use Rattle.fleet_model.specs.Nodes.{L0, Run}
use Rattle.fleet_model.specs.Work.Scheduler.{View}
use Rattle.sched_model.specs.Picks.{Planned, Picking, flush_pick, into_last, last_of, run_pick, next_pick, picked_in, pass, passes}
use Rattle.sched_model.specs.Series.{TieredOptions, are_tiered, first_series, is_allowed, oldest}
use Rattle.sched_model.specs.Sizes.{Sized, flush_names, run_names, sized_trees, total_size}
use Rattle.sched_model.specs.SizeTiered.{by_flushes, free_slots, tiered_proposals, unplanned_tree}
use Rattle.sched_laws.specs.Proposals.{HasSourcesWithin, MakesRun}
use Rattle.sched_laws.proofs.Lists.{all_append, both_true}
use Rattle.sched_laws.proofs.Passes.{passed}
use Rattle.sched_laws.proofs.Series.{found_is_within, series_is_found, tiered_bounds, tiered_order}

at_most_one : (pick : Option JobSpec) → length (option_to_list pick) ≤ 1
at_most_one None = omega arith
at_most_one (Some spec) = omega arith

module _ (o : TieredOptions) (slots : ℕ) where
  within : (trees : List Planned) (p : Picking) → length p.picks ≤ slots → length (pass o slots trees p).1.picks ≤ slots
  within [] p h = h
  within (t ∷ trees) p h = by (nat_lt (length p.picks) slots) refl (λ g. within trees (picked_in o t p) g)
    where
      by : (b : Bool) → nat_lt (length p.picks) slots ≡ b → (length (picked_in o t p).picks ≤ slots → length (pass o slots trees (picked_in o t p)).1.picks ≤ slots)
          → length (passed o slots b t trees p).1.picks ≤ slots
      by true e later =
          let free = ltb-true (length p.picks) slots e in
          later (omega (arith, free, length-append p.picks (option_to_list (next_pick o p.fresh t)), at_most_one (next_pick o p.fresh t)))
      by false e later = h

  within_all : (count : ℕ) (trees : List Planned) (p : Picking) → length p.picks ≤ slots → length (passes o slots count trees p) ≤ slots
  within_all zero trees p h = h
  within_all (suc count) trees p h = within_all count (pass o slots trees p).0 (pass o slots trees p).1 (within trees p h)

  module _ (P : JobSpec → Type 0) (each : (fresh : ℕ) (t : Planned) (spec : JobSpec) → next_pick o fresh t ≡ Some spec → P spec) where
    of_pick : (fresh : ℕ) (t : Planned) (pick : Option JobSpec) → next_pick o fresh t ≡ pick → AllByRecursion P (option_to_list pick)
    of_pick fresh t None e = tt
    of_pick fresh t (Some spec) e = (each fresh t spec e, tt)

    pass_all : (trees : List Planned) (p : Picking) → AllByRecursion P p.picks → AllByRecursion P (pass o slots trees p).1.picks
    pass_all [] p all = all
    pass_all (t ∷ trees) p all =
        by (nat_lt (length p.picks) slots) (pass_all trees (picked_in o t p) (all_append P p.picks (option_to_list (next_pick o p.fresh t)) all (of_pick p.fresh t (next_pick o p.fresh t) refl)))
      where
        by : (b : Bool) → AllByRecursion P (pass o slots trees (picked_in o t p)).1.picks → AllByRecursion P (passed o slots b t trees p).1.picks
        by true later = later
        by false later = all

    pub passes_all : (count : ℕ) (trees : List Planned) (p : Picking) → AllByRecursion P p.picks → AllByRecursion P (passes o slots count trees p)
    passes_all zero trees p all = all
    passes_all (suc count) trees p all = passes_all count (pass o slots trees p).0 (pass o slots trees p).1 (pass_all trees p all)

-- There are at most as many proposals as free slots.
pub few : (o : TieredOptions) (most : ℕ) (view : View) → length (tiered_proposals o most view) ≤ free_slots most view.jobs
unfolding tiered_proposals
few o most view =
    within_all o (free_slots most view.jobs) (free_slots most view.jobs) (by_flushes (map (unplanned_tree view.jobs) (sized_trees view.handles view.manifest.trees)))
    (record { fresh = fresh_run_id view; picks = [] }) (omega arith)

flushes_make : (segment : List ℕ) (fresh : ℕ) (chosen : List Sized) → 1 ≤ length chosen → MakesRun (record { segment = segment; sources = flush_names chosen; destination = Some fresh })
flushes_make segment fresh [] some = absurd (omega arith)
flushes_make segment fresh (flush ∷ chosen) some = record { sources = refl; no_drain = refl }

last_is : (run : Sized) (runs : List Sized) → is_drain_to (last_of (map (λ r. r.id) (run ∷ runs))) ≡ false
last_is run [] = refl
last_is run (next ∷ runs) = last_is next runs

runs_make : (segment : List ℕ) (runs : List Sized) → 1 ≤ length runs → MakesRun (into_last segment runs)
runs_make segment [] some = absurd (omega arith)
runs_make segment (run ∷ runs) some = record { sources = refl; no_drain = last_is run runs }

run_pick_makes : (o : TieredOptions) → are_tiered o ≡ true → (t : Planned) (spec : JobSpec) → run_pick o t ≡ Some spec → MakesRun spec
run_pick_makes o tiered t spec e = by (first_series o t.used t.tree.runs) refl e
  where
    by : (found : Option (List Sized)) → found ≡ first_series o t.used t.tree.runs → option_map (into_last t.tree.segment) found ≡ Some spec → MakesRun spec
    by None is same = absurd (cc same)
    by (Some runs) is same =
        let bounds = tiered_bounds o tiered in
        let made : into_last t.tree.segment runs ≡ spec = cc same in
        let found = series_is_found o t.used bounds.0 bounds.1 t.tree.runs runs (sym is) in
        subst MakesRun made (runs_make t.tree.segment runs (omega (arith, ap length found.is)))

-- A pick of flushes makes a run, if the bounds of the options are in order.
flush_pick_makes : (o : TieredOptions) → are_tiered o ≡ true → (fresh : ℕ) (t : Planned) (spec : JobSpec) → flush_pick o fresh t ≡ Some spec → MakesRun spec
flush_pick_makes o tiered fresh t spec e =
    by (nat_le o.least (length t.tree.flushes) && is_allowed o t.used (flush_names (oldest o.most t.tree.flushes)) (total_size (oldest o.most t.tree.flushes)) (Run fresh) t.tree.runs) refl e
  where
    by : (b : Bool) → (nat_le o.least (length t.tree.flushes) && is_allowed o t.used (flush_names (oldest o.most t.tree.flushes)) (total_size (oldest o.most t.tree.flushes)) (Run fresh) t.tree.runs) ≡ b
        → cond b (Some (record { segment = t.tree.segment; sources = flush_names (oldest o.most t.tree.flushes); destination = Some fresh })) None ≡ Some spec → MakesRun spec
    by false is same = absurd (cc same)
    by true is same =
        let bounds = tiered_bounds o tiered in
        let tests = both_true (nat_le o.least (length t.tree.flushes)) (is_allowed o t.used (flush_names (oldest o.most t.tree.flushes)) (total_size (oldest o.most t.tree.flushes)) (Run fresh) t.tree.runs) is in
        let enough = leb-true o.least (length t.tree.flushes) tests.0 in
        let count = length-drop (length t.tree.flushes - o.most) t.tree.flushes in
        let made : JobSpec = record { segment = t.tree.segment; sources = flush_names (oldest o.most t.tree.flushes); destination = Some fresh } in
        let one : Some made ≡ Some spec = same in
        let equal : made ≡ spec = cc one in
        subst MakesRun equal (flushes_make t.tree.segment fresh (oldest o.most t.tree.flushes) (omega (arith, bounds.0, bounds.1, enough, count)))

pick_makes : (o : TieredOptions) → are_tiered o ≡ true → (fresh : ℕ) (t : Planned) (spec : JobSpec) → next_pick o fresh t ≡ Some spec → MakesRun spec
pick_makes o tiered fresh t spec e = by (flush_pick o fresh t) refl e
  where
    by : (pick : Option JobSpec) → flush_pick o fresh t ≡ pick → option_or pick (run_pick o t) ≡ Some spec → MakesRun spec
    by None is same = run_pick_makes o tiered t spec same
    by (Some other) is same = flush_pick_makes o tiered fresh t spec (is ∙ same)

-- Each proposal makes a run.
pub make_runs : (o : TieredOptions) → are_tiered o ≡ true → (most : ℕ) (view : View) → AllByRecursion MakesRun (tiered_proposals o most view)
unfolding tiered_proposals
make_runs o tiered most view =
    passes_all o (free_slots most view.jobs) MakesRun (pick_makes o tiered) (free_slots most view.jobs) (by_flushes (map (unplanned_tree view.jobs) (sized_trees view.handles view.manifest.trees)))
    (record { fresh = fresh_run_id view; picks = [] }) tt

-- ---- the number of sources

run_pick_within : (o : TieredOptions) → are_tiered o ≡ true → (t : Planned) (spec : JobSpec) → run_pick o t ≡ Some spec → HasSourcesWithin o spec
run_pick_within o tiered t spec e = by (first_series o t.used t.tree.runs) refl e
  where
    by : (found : Option (List Sized)) → first_series o t.used t.tree.runs ≡ found → option_map (into_last t.tree.segment) found ≡ Some spec → HasSourcesWithin o spec
    by None is same = absurd (cc same)
    by (Some runs) is same =
        let made : into_last t.tree.segment runs ≡ spec = cc same in
        let within = found_is_within o t.used (tiered_order o tiered) t.tree.runs runs is in
        let count : length (run_names runs) ≡ length runs = length-map runs (λ (run : Sized). Run run.id) in
        subst (HasSourcesWithin o) made (record { least = omega (arith, within.0, count); most = omega (arith, within.1, count) })

-- A pick of flushes has as many sources as the options ask, if their bounds are in order.
flush_pick_within : (o : TieredOptions) → are_tiered o ≡ true → (fresh : ℕ) (t : Planned) (spec : JobSpec) → flush_pick o fresh t ≡ Some spec → HasSourcesWithin o spec
flush_pick_within o tiered fresh t spec e =
    by (nat_le o.least (length t.tree.flushes) && is_allowed o t.used (flush_names (oldest o.most t.tree.flushes)) (total_size (oldest o.most t.tree.flushes)) (Run fresh) t.tree.runs) refl e
  where
    by : (b : Bool) → (nat_le o.least (length t.tree.flushes) && is_allowed o t.used (flush_names (oldest o.most t.tree.flushes)) (total_size (oldest o.most t.tree.flushes)) (Run fresh) t.tree.runs) ≡ b
        → cond b (Some (record { segment = t.tree.segment; sources = flush_names (oldest o.most t.tree.flushes); destination = Some fresh })) None ≡ Some spec → HasSourcesWithin o spec
    by false is same = absurd (cc same)
    by true is same =
        let chosen : List Sized = oldest o.most t.tree.flushes in
        let tests = both_true (nat_le o.least (length t.tree.flushes)) (is_allowed o t.used (flush_names chosen) (total_size chosen) (Run fresh) t.tree.runs) is in
        let enough = leb-true o.least (length t.tree.flushes) tests.0 in
        let order = tiered_order o tiered in
        let left = length-drop (length t.tree.flushes - o.most) t.tree.flushes in
        let count : length (flush_names chosen) ≡ length chosen = length-map chosen (λ (flush : Sized). L0 flush.id) in
        let made : JobSpec = record { segment = t.tree.segment; sources = flush_names chosen; destination = Some fresh } in
        let one : Some made ≡ Some spec = same in
        let equal : made ≡ spec = cc one in
        subst (HasSourcesWithin o) equal (record { least = omega (arith, order, enough, left, count); most = omega (arith, left, count) })

pick_within : (o : TieredOptions) → are_tiered o ≡ true → (fresh : ℕ) (t : Planned) (spec : JobSpec) → next_pick o fresh t ≡ Some spec → HasSourcesWithin o spec
pick_within o tiered fresh t spec e = by (flush_pick o fresh t) refl e
  where
    by : (pick : Option JobSpec) → flush_pick o fresh t ≡ pick → option_or pick (run_pick o t) ≡ Some spec → HasSourcesWithin o spec
    by None is same = run_pick_within o tiered t spec same
    by (Some other) is same = flush_pick_within o tiered fresh t spec (is ∙ same)

-- Each proposal has as many sources as the options ask.
pub sources_within : (o : TieredOptions) → are_tiered o ≡ true → (most : ℕ) (view : View) → AllByRecursion (HasSourcesWithin o) (tiered_proposals o most view)
unfolding tiered_proposals
sources_within o tiered most view =
    passes_all o (free_slots most view.jobs) (HasSourcesWithin o) (pick_within o tiered) (free_slots most view.jobs) (by_flushes (map (unplanned_tree view.jobs) (sized_trees view.handles view.manifest.trees)))
    (record { fresh = fresh_run_id view; picks = [] }) tt
