-- What holds of each pick in a tree.
use Rattle.std.proofs.Common.{map, ◌≡◌, refl, sym, ◌∙◌, ap, subst, ℕ, ◌+◌, ◌-◌, ◌≤◌, List, [], ◌∷◌, ◌++◌, append_assoc, take, length, cond, Bool, true, false, not, ◌&&◌, ◌||◌, arith, ◌⊎◌, inl, inr, eq-eqb}
use Rattle.std.specs.Prelude.{Option, Some, None, is_some, nat_le, fold, option_map}
use Rattle.std.specs.Option.{option_or}
use Rattle.std.specs.List.{list_all, list_any}
use Rattle.std.proofs.lemmas.Bool.{leb-true}
use Rattle.std.proofs.lemmas.List.{length-drop, map-append, take-append-drop}
use Rattle.row_model.specs.Lists.{Pairs}
use Rattle.fleet_model.specs.Work.Gates.{are_distinct, is_nonempty}
use Rattle.fleet_model.specs.Jobs.{JobSpec, contains, is_drain, is_drain_to}
use Rattle.sched_model.specs.FreshRuns.{capped_id}
use Rattle.fleet_model.specs.Nodes.{NodeName, L0, Run, Trees, is_l0, names, segment_at, tree_at}
use Rattle.fleet_model.specs.Sources.{begins_with_run, is_apart, is_lowest_or_above, is_whole_stretch, older_nodes, reaches_oldest, run_ids}
use Rattle.fleet_model.specs.Invariants.TreesFit.{StandsBefore}
use Rattle.sched_model.specs.Picks.{Planned, fresh_after, flush_pick, into_last, last_of, next_pick, run_pick}
use Rattle.sched_model.specs.Series.{TieredOptions, are_tiered, first_series, is_allowed, is_taken_again, oldest}
use Rattle.fleet_model.specs.Work.Scheduler.{lower}
use Rattle.sched_model.specs.SizeTiered.{agree, lowest_run}
use Rattle.sched_model.specs.Sizes.{Sized, flush_names, run_names, total_size}
use Rattle.sched_laws.proofs.Lists.{both_true, pairs_back, pairs_front, true_and}
use Rattle.sched_laws.proofs.Names.{In, apart_at, distinct_back, distinct_front, in_later}
use Rattle.sched_laws.proofs.Series.{last_is_contained, last_is_in, last_is_low, last_some, lowest_is_last, series_is_found, tiered_bounds}
use Rattle.sched_laws.proofs.Stretches.{stands, stretch_is_in}
use Rattle.sched_laws.proofs.Trees.{StandsIn}
use Rattle.course_laws.proofs.NewTables.{or_right}

-- There are sources, each is named once, and they stand among the nodes with the rest after them.
pub record IsPlaced (nodes sources rest : List NodeName) : Type 0 where
  pub some : is_nonempty sources ≡ true
  pub once : are_distinct sources ≡ true
  pub stretch : older_nodes sources nodes ≡ Some rest

pub placed : (front : List NodeName) (x : NodeName) (sources rest : List NodeName) → are_distinct (front ++ (x ∷ sources ++ rest)) ≡ true → IsPlaced (front ++ (x ∷ sources ++ rest)) (x ∷ sources) rest
placed front x sources rest once = record {
  some = refl;
  once = distinct_front (x ∷ sources) rest (distinct_back front (x ∷ sources ++ rest) once);
  stretch = stands front x sources rest once;
}

-- The job makes a run of a source's id, which is the lowest one among the sources.
pub record IntoLowest (spec : JobSpec) : Type 0 where
  pub id : ℕ
  pub is : spec.destination ≡ Some id
  pub among : In (Run id) spec.sources
  pub lowest : (runs : List ℕ) → is_lowest_or_above id (run_ids spec.sources) runs ≡ true

-- The job makes the fresh run, and no source is a run.
pub record IntoFresh (fresh : ℕ) (spec : JobSpec) : Type 0 where
  pub is : spec.destination ≡ Some fresh
  pub no_runs : run_ids spec.sources ≡ []

-- The sources stand in the tree one after the other, and none of them is used. The destination is the
-- lowest source run if a run is a source.
pub record IsPick (trees : Trees) (t : Planned) (spec : JobSpec) : Type 0 where
  pub here : spec.segment ≡ t.tree.segment
  pub some : is_nonempty spec.sources ≡ true
  pub once : are_distinct spec.sources ≡ true
  pub no_drain : is_drain spec ≡ false
  pub found : is_some (segment_at spec.segment trees) ≡ true
  pub within : (x : NodeName) → In x spec.sources → In x (names (tree_at spec.segment trees))
  pub stretch : is_whole_stretch (tree_at spec.segment trees) spec.sources ≡ true
  pub unused : (x : NodeName) → In x spec.sources → In x t.used → ⊥
  pub agrees : agree (lowest_run spec.sources) spec.destination ≡ true

-- ---- picks of flushes

no_runs_in : (flushes : List Sized) → run_ids (flush_names flushes) ≡ []
no_runs_in [] = refl
no_runs_in (flush ∷ flushes) = no_runs_in flushes

runs_begin : (runs : List Sized) → begins_with_run (run_names runs) ≡ true
runs_begin [] = refl
runs_begin (run ∷ runs) = refl

-- The spec that makes the fresh run of these flushes of a tree.
abbrev flush_spec : ℕ → Planned → List Sized → JobSpec
flush_spec fresh t flushes = record { segment = t.tree.segment; sources = flush_names flushes; destination = Some fresh }

flushes_make_fresh : (fresh : ℕ) (t : Planned) (flushes : List Sized) → IntoFresh fresh (flush_spec fresh t flushes)
flushes_make_fresh fresh t flushes = record { is = refl; no_runs = no_runs_in flushes }

flushes_stand : (t : Planned) (trees : Trees) → StandsIn trees t.tree → (before : List Sized) (first : Sized) (others : List Sized) → before ++ (first ∷ others) ≡ t.tree.flushes
    → IsPlaced (names (tree_at t.tree.segment trees)) (flush_names (first ∷ others)) (run_names t.tree.runs)
flushes_stand t trees stand before first others is =
    let runs : List NodeName = run_names t.tree.runs in
    let parts : flush_names t.tree.flushes ++ runs ≡ flush_names before ++ (L0 first.id ∷ flush_names others ++ runs) =
    ap (λ l. flush_names l ++ runs) (sym is) ∙ ap (λ l. l ++ runs) (map-append (λ (f : Sized). L0 f.id) before (first ∷ others)) ∙ append_assoc (flush_names before) (flush_names (first ∷ others)) runs in
    subst (λ nodes. IsPlaced nodes (flush_names (first ∷ others)) runs) (sym (stand.nodes ∙ parts))
    (placed (flush_names before) (L0 first.id) (flush_names others) runs (subst (λ l. are_distinct l ≡ true) parts stand.named_once))

-- The oldest flushes of a tree are a pick into the fresh run, if none of them is used and the fresh run is not either.
flushes_are_pick : (fresh : ℕ) (t : Planned) (trees : Trees) → StandsIn trees t.tree → (before : List Sized) (first : Sized) (others : List Sized) → before ++ (first ∷ others) ≡ t.tree.flushes
    → is_apart (Run fresh ∷ flush_names (first ∷ others)) t.used ≡ true → IsPick trees t (flush_spec fresh t (first ∷ others))
flushes_are_pick fresh t trees stand before first others is apart =
    let place = flushes_stand t trees stand before first others is in
    let sources : List NodeName = flush_names (first ∷ others) in
    record {
      here = refl;
      some = refl;
      once = place.once;
      no_drain = refl;
      found = stand.found;
      within = λ x h. stretch_is_in sources (names (tree_at t.tree.segment trees)) (run_names t.tree.runs) x place.stretch h;
      stretch = ap (reaches_oldest sources) place.stretch ∙ or_right (not (list_any is_l0 sources)) (begins_with_run (run_names t.tree.runs)) (runs_begin t.tree.runs);
      unused = λ x h there. apart_at (Run fresh ∷ sources) t.used x apart (in_later x (Run fresh) sources h) there;
      agrees = ap (λ ids. agree (fold lower None ids) (Some fresh)) (no_runs_in (first ∷ others));
    }

-- ---- picks of runs

no_flush_in : (runs : List Sized) → list_any is_l0 (run_names runs) ≡ false
no_flush_in [] = refl
no_flush_in (run ∷ runs) = no_flush_in runs

runs_parts : (t : Planned) (before : List Sized) (first : Sized) (others after : List Sized) → t.tree.runs ≡ before ++ (first ∷ others ++ after)
    → flush_names t.tree.flushes ++ run_names t.tree.runs ≡ (flush_names t.tree.flushes ++ run_names before) ++ (Run first.id ∷ run_names others ++ run_names after)
runs_parts t before first others after is =
    let flushes : List NodeName = flush_names t.tree.flushes in
    ap (λ l. flushes ++ run_names l) is
    ∙ ap (λ l. flushes ++ l) (map-append (λ (r : Sized). Run r.id) before (first ∷ others ++ after))
    ∙ ap (λ l. flushes ++ (run_names before ++ l)) (map-append (λ (r : Sized). Run r.id) (first ∷ others) after)
    ∙ sym (append_assoc flushes (run_names before) (Run first.id ∷ run_names others ++ run_names after))

module _ (t : Planned) (trees : Trees) (stand : StandsIn trees t.tree) (before : List Sized) (first : Sized) (others after : List Sized) (is : t.tree.runs ≡ before ++ (first ∷ others ++ after)) where
  runs_stand : IsPlaced (names (tree_at t.tree.segment trees)) (run_names (first ∷ others)) (run_names after)
  runs_stand =
      let parts = runs_parts t before first others after is in
      subst (λ nodes. IsPlaced nodes (run_names (first ∷ others)) (run_names after)) (sym (stand.nodes ∙ parts))
      (placed (flush_names t.tree.flushes ++ run_names before) (Run first.id) (run_names others) (run_names after) (subst (λ l. are_distinct l ≡ true) parts stand.named_once))

  runs_fall : Pairs StandsBefore (run_names (first ∷ others))
  runs_fall =
      let parts = runs_parts t before first others after is in
      let all : Pairs StandsBefore ((flush_names t.tree.flushes ++ run_names before) ++ (run_names (first ∷ others) ++ run_names after)) = subst (Pairs StandsBefore) parts stand.in_order in
      pairs_front StandsBefore (run_names (first ∷ others)) (run_names after) (pairs_back StandsBefore (flush_names t.tree.flushes ++ run_names before) (run_names (first ∷ others) ++ run_names after) all)

  -- Runs that lie one after the other, of which no job uses one, are a pick into the last of them.
  runs_are_pick : (id : ℕ) → last_of (map (λ r. r.id) (first ∷ others)) ≡ Some id → ((x : NodeName) → In x (run_names (first ∷ others)) → In x t.used → ⊥)
      → IsPick trees t (into_last t.tree.segment (first ∷ others))
  runs_are_pick id last unused =
      let place = runs_stand in
      let sources : List NodeName = run_names (first ∷ others) in
      record {
        here = refl;
        some = refl;
        once = place.once;
        no_drain = ap is_drain_to last;
        found = stand.found;
        within = λ x h. stretch_is_in sources (names (tree_at t.tree.segment trees)) (run_names after) x place.stretch h;
        stretch = ap (reaches_oldest sources) place.stretch ∙ ap (λ b. not b || begins_with_run (run_names after)) (no_flush_in (first ∷ others));
        unused = unused;
        agrees = ap (λ l. agree l (last_of (map (λ r. r.id) (first ∷ others)))) (lowest_is_last first others runs_fall) ∙ ap (λ l. agree l l) last ∙ eq-eqb id id refl;
      }

  runs_make_lowest : (id : ℕ) → last_of (map (λ r. r.id) (first ∷ others)) ≡ Some id → IntoLowest (into_last t.tree.segment (first ∷ others))
  runs_make_lowest id last = record {
    id = id;
    is = last;
    among = last_is_in first others id last;
    lowest = λ runs. true_and (contains (run_ids (run_names (first ∷ others))) id) (list_all (λ run. nat_le id run) (run_ids (run_names (first ∷ others))))
        (last_is_contained first others id last) (last_is_low first others id runs_fall last);
  }

-- ---- the next pick

-- A pick takes the id of its lowest source run, or it takes the fresh id, and the next fresh id is one above.
abbrev pub Makes : (fresh next : ℕ) → JobSpec → Type 0
Makes fresh next spec = IntoLowest spec ⊎ (IntoFresh fresh spec × (next ≡ capped_id (fresh + 1)))

module _ (o : TieredOptions) (tiered : are_tiered o ≡ true) (trees : Trees) (fresh : ℕ) (t : Planned) (stand : StandsIn trees t.tree) where
  -- What is picked of runs is a pick of the tree, and makes a run that may be made.
  run_pick_is : (spec : JobSpec) → run_pick o t ≡ Some spec → IsPick trees t spec × Makes fresh (fresh_after o t fresh) spec
  run_pick_is spec e = by (first_series o t.used t.tree.runs) refl e
    where
      by : (found : Option (List Sized)) → first_series o t.used t.tree.runs ≡ found → option_map (into_last t.tree.segment) found ≡ Some spec → IsPick trees t spec × Makes fresh (fresh_after o t fresh) spec
      by None is same = absurd (cc same)
      by (Some runs) is same =
          let bounds = tiered_bounds o tiered in
          let found = series_is_found o t.used bounds.0 bounds.1 t.tree.runs runs is in
          let last = last_some found.first found.others in
          let unused : (x : NodeName) → In x (run_names (found.first ∷ found.others)) → In x t.used → ⊥ =
          λ x h there. apart_at (run_names runs) t.used x found.free (subst (λ l. In x (run_names l)) (sym found.is) h) there in
          let made : into_last t.tree.segment (found.first ∷ found.others) ≡ spec = ap (into_last t.tree.segment) (sym found.is) ∙ cc same in (
            subst (IsPick trees t) made (runs_are_pick t trees stand found.before found.first found.others found.after found.whole last.0 last.1 unused),
            inl (subst IntoLowest made (runs_make_lowest t trees stand found.before found.first found.others found.after found.whole last.0 last.1)),
          )

  -- Unused oldest flushes are a pick into the fresh run.
  flushes_are_picked : (before chosen : List Sized) → before ++ chosen ≡ t.tree.flushes → 1 ≤ length chosen → is_apart (Run fresh ∷ flush_names chosen) t.used ≡ true
      → (spec : JobSpec) → flush_spec fresh t chosen ≡ spec → IsPick trees t spec × IntoFresh fresh spec
  flushes_are_picked before [] all some apart spec made = absurd (omega arith)
  flushes_are_picked before (first ∷ others) all some apart spec made =
      (subst (IsPick trees t) made (flushes_are_pick fresh t trees stand before first others all apart), subst (IntoFresh fresh) made (flushes_make_fresh fresh t (first ∷ others)))

  -- What is picked of flushes is a pick of the tree, and makes a run that may be made.
  flush_pick_is : (spec : JobSpec) → flush_pick o fresh t ≡ Some spec → IsPick trees t spec × Makes fresh (fresh_after o t fresh) spec
  flush_pick_is spec e =
      by (nat_le o.least (length t.tree.flushes) && is_allowed o t.used (flush_names (oldest o.most t.tree.flushes)) (total_size (oldest o.most t.tree.flushes)) (Run fresh) t.tree.runs) refl e e
    where
      by : (b : Bool) → (nat_le o.least (length t.tree.flushes) && is_allowed o t.used (flush_names (oldest o.most t.tree.flushes)) (total_size (oldest o.most t.tree.flushes)) (Run fresh) t.tree.runs) ≡ b
          → cond b (Some (flush_spec fresh t (oldest o.most t.tree.flushes))) None ≡ Some spec → flush_pick o fresh t ≡ Some spec → IsPick trees t spec × Makes fresh (fresh_after o t fresh) spec
      by false is same picked = absurd (cc same)
      by true is same picked =
          let bounds = tiered_bounds o tiered in
          let flushes = t.tree.flushes in
          let chosen : List Sized = oldest o.most flushes in
          let tests = both_true (nat_le o.least (length flushes)) (is_allowed o t.used (flush_names chosen) (total_size chosen) (Run fresh) t.tree.runs) is in
          let enough = leb-true o.least (length flushes) tests.0 in
          let some : 1 ≤ length chosen = omega (arith, bounds.0, bounds.1, enough, length-drop (length flushes - o.most) flushes) in
          let apart = (both_true (is_apart (Run fresh ∷ flush_names chosen) t.used) (not (is_taken_again o (total_size chosen) t.tree.runs)) tests.1).0 in
          let whole : Some (flush_spec fresh t chosen) ≡ Some spec = same in
          let made : flush_spec fresh t chosen ≡ spec = cc whole in
          let what = flushes_are_picked (take (length flushes - o.most) flushes) chosen (take-append-drop (length flushes - o.most) flushes) some apart spec made in
          (what.0, inr (what.1, ap (λ pick. cond (is_some pick) (capped_id (fresh + 1)) fresh) picked))

  -- What holds of the next pick.
  pub next_pick_is : (spec : JobSpec) → next_pick o fresh t ≡ Some spec → IsPick trees t spec × Makes fresh (fresh_after o t fresh) spec
  next_pick_is spec e = by (flush_pick o fresh t) refl e
    where
      by : (pick : Option JobSpec) → flush_pick o fresh t ≡ pick → option_or pick (run_pick o t) ≡ Some spec → IsPick trees t spec × Makes fresh (fresh_after o t fresh) spec
      by None is same = run_pick_is spec same
      by (Some other) is same = flush_pick_is spec (is ∙ same)
