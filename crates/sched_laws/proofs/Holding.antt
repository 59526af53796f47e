-- A pick is apart from the jobs that hold nodes and from the earlier picks.
use Rattle.std.proofs.Common.{◌≡◌, ◌≢◌, refl, sym, ◌∙◌, ap, subst, ℕ, ◌+◌, ◌<◌, ◌≤◌, List, [], ◌∷◌, cond, Bool, true, false, not, arith, min, ◌⊎◌, inl, inr, eq-eqb, eqb-true}
use Rattle.std.specs.Prelude.{Option, Some, None, is_some, bytes_eq, nat_lt, ◌==◌}
use Rattle.std.specs.List.{list_all}
use Rattle.std.proofs.lemmas.Bool.{ltb-true, ltb-false, lt-ltb}
use Rattle.row_model.specs.Lists.{Pairs}
use Rattle.fleet_model.specs.Work.Gates.{destination_fits}
use Rattle.fleet_model.specs.Jobs.{JobSpec, contains, nodes_of, with_destination}
use Rattle.sched_model.specs.FreshRuns.{capped_id}
use Rattle.fleet_model.specs.Nodes.{NodeName, Run, Trees, names, tree_at}
use Rattle.fleet_model.specs.Sources.{all_run_ids, is_apart, is_lowest_or_above, run_ids}
use Rattle.fleet_model.specs.Invariants.TreesFit.{NoneShared}
use Rattle.sched_model.specs.Picks.{Planned, flush_pick, fresh_after}
use Rattle.sched_model.specs.Series.{TieredOptions}
use Rattle.sched_laws.specs.Proposals.{HasFreeId}
use Rattle.sched_laws.proofs.Lists.{true_and}
use Rattle.sched_laws.proofs.Names.{In, apart_from, in_cases}
use Rattle.sched_laws.proofs.Picks.{IntoFresh, IsPick, Makes}
use Rattle.sched_laws.proofs.Trees.{equal_prefixes, run_is_contained, run_of_trees, same_prefix, trees_apart}

-- The id is at most the greatest one, and above the runs of all trees unless it is the greatest one.
pub record IsFresh (trees : Trees) (fresh : ℕ) : Type 0 where
  pub limit : fresh ≤ 4294967295
  pub above : fresh < 4294967295 → (id : ℕ) → contains (all_run_ids trees) id ≡ true → id < fresh

-- The sources are in their tree. The destination is a source, or else it is in no tree and below the fresh
-- id, unless that is the greatest one.
pub record Holds (trees : Trees) (fresh : ℕ) (spec : JobSpec) : Type 0 where
  pub within : (x : NodeName) → In x spec.sources → In x (names (tree_at spec.segment trees))
  pub made : (id : ℕ) → spec.destination ≡ Some id → In (Run id) spec.sources ⊎ ((contains (all_run_ids trees) id ≡ true → ⊥) × (fresh < 4294967295 → id < fresh))

-- A tree that is looked at uses the nodes of a job of its segment.
abbrev pub Uses : Planned → JobSpec → Type 0
Uses t spec = spec.segment ≡ t.tree.segment → (x : NodeName) → In x (nodes_of spec) → In x t.used

-- If the second job takes a run id of its own, the destination of the first is below it.
abbrev pub RisesTo : JobSpec → JobSpec → Type 0
RisesTo a b = run_ids b.sources ≡ [] → (i j : ℕ) → a.destination ≡ Some i → b.destination ≡ Some j → i < j

-- The destination is below the fresh id, unless that is the greatest one.
abbrev pub IsBelow : ℕ → JobSpec → Type 0
IsBelow fresh spec = (id : ℕ) → spec.destination ≡ Some id → fresh < 4294967295 → id < fresh

-- ---- the fresh id after a pick

-- The fresh id stays or rises by one, but not above the greatest one.
pub fresh_rises : (o : TieredOptions) (t : Planned) (fresh : ℕ) → (fresh_after o t fresh ≡ fresh) ⊎ (fresh_after o t fresh ≡ capped_id (fresh + 1))
fresh_rises o t fresh = by (is_some (flush_pick o fresh t))
  where
    by : (b : Bool) → (cond b (capped_id (fresh + 1)) fresh ≡ fresh) ⊎ (cond b (capped_id (fresh + 1)) fresh ≡ capped_id (fresh + 1))
    by true = inr refl
    by false = inl refl

pub fresh_grows : (o : TieredOptions) (t : Planned) (fresh : ℕ) → fresh_after o t fresh < 4294967295 → fresh ≤ fresh_after o t fresh
fresh_grows o t fresh small = by (fresh_rises o t fresh)
  where
    by : (fresh_after o t fresh ≡ fresh) ⊎ (fresh_after o t fresh ≡ capped_id (fresh + 1)) → fresh ≤ fresh_after o t fresh
    by (inl same) = omega (arith, same)
    by (inr more) = let up : fresh_after o t fresh ≡ min (fresh + 1) 4294967295 = more in omega (arith, up, small)

pub still_fresh : (trees : Trees) (fresh : ℕ) → IsFresh trees fresh → IsFresh trees (capped_id (fresh + 1))
still_fresh trees fresh f = record {
  limit = omega arith;
  above = λ small id h. let below : id < fresh = f.above (omega (arith, small)) id h in omega (arith, small, below);
}

pub fresh_after_is : (o : TieredOptions) (t : Planned) (trees : Trees) (fresh : ℕ) → IsFresh trees fresh → IsFresh trees (fresh_after o t fresh)
fresh_after_is o t trees fresh f = by (fresh_rises o t fresh)
  where
    by : (fresh_after o t fresh ≡ fresh) ⊎ (fresh_after o t fresh ≡ capped_id (fresh + 1)) → IsFresh trees (fresh_after o t fresh)
    by (inl same) = subst (IsFresh trees) (sym same) f
    by (inr more) = subst (IsFresh trees) (sym more) (still_fresh trees fresh f)

pub holds_above : (trees : Trees) (fresh : ℕ) (spec : JobSpec) → Holds trees fresh spec → Holds trees (capped_id (fresh + 1)) spec
holds_above trees fresh spec holds = record { within = holds.within; made = λ id is. by id (holds.made id is) }
  where
    by : (id : ℕ) → In (Run id) spec.sources ⊎ ((contains (all_run_ids trees) id ≡ true → ⊥) × (fresh < 4294967295 → id < fresh))
        → In (Run id) spec.sources ⊎ ((contains (all_run_ids trees) id ≡ true → ⊥) × (capped_id (fresh + 1) < 4294967295 → id < capped_id (fresh + 1)))
    by id (inl among) = inl among
    by id (inr new) = inr (new.0, λ small. let below : id < fresh = new.1 (omega (arith, small)) in omega (arith, small, below))

pub holds_after : (o : TieredOptions) (t : Planned) (trees : Trees) (fresh : ℕ) (spec : JobSpec) → Holds trees fresh spec → Holds trees (fresh_after o t fresh) spec
holds_after o t trees fresh spec holds = by (fresh_rises o t fresh)
  where
    by : (fresh_after o t fresh ≡ fresh) ⊎ (fresh_after o t fresh ≡ capped_id (fresh + 1)) → Holds trees (fresh_after o t fresh) spec
    by (inl same) = subst (λ n. Holds trees n spec) (sym same) holds
    by (inr more) = subst (λ n. Holds trees n spec) (sym more) (holds_above trees fresh spec holds)

-- ---- a pick and the nodes that are held

-- A fresh id that a pick takes is below the greatest one.
free_is_small : (trees : Trees) (fresh : ℕ) (spec : JobSpec) → IsFresh trees fresh → HasFreeId spec → IntoFresh fresh spec → fresh < 4294967295
free_is_small trees fresh spec f free into = by (nat_lt fresh 4294967295) refl f.limit
  where
    by : (b : Bool) → nat_lt fresh 4294967295 ≡ b → fresh ≤ 4294967295 → fresh < 4294967295
    by true e limit = ltb-true fresh 4294967295 e
    by false e limit =
        let above = ltb-false fresh 4294967295 e in
        let same : fresh ≡ 4294967295 = omega (arith, above, limit) in
        absurd (free (into.is ∙ ap Some same))

-- A node of a job is a source or the destination.
pub node_cases : (spec : JobSpec) (x : NodeName) → In x (nodes_of spec) → In x spec.sources ⊎ ((id : ℕ) × (spec.destination ≡ Some id) × (Run id ≡ x))
node_cases spec x h = by spec.destination refl h
  where
    with_run : (id : ℕ) → spec.destination ≡ Some id → (Run id ≡ x) ⊎ In x spec.sources → In x spec.sources ⊎ ((id : ℕ) × (spec.destination ≡ Some id) × (Run id ≡ x))
    with_run id is (inl same) = inr (id, is, same)
    with_run id is (inr source) = inl source

    by : (d : Option ℕ) → spec.destination ≡ d → In x (with_destination d spec.sources) → In x spec.sources ⊎ ((id : ℕ) × (spec.destination ≡ Some id) × (Run id ≡ x))
    by None is h = inl h
    by (Some id) is h = with_run id is (in_cases x (Run id) spec.sources h)

-- A node that a job holds is a source, or it is a run in no tree and below the fresh one.
held_cases : (trees : Trees) (fresh : ℕ) (spec : JobSpec) → Holds trees fresh spec → (x : NodeName) → In x (nodes_of spec)
    → In x spec.sources ⊎ ((id : ℕ) × (Run id ≡ x) × (contains (all_run_ids trees) id ≡ true → ⊥) × (fresh < 4294967295 → id < fresh))
held_cases trees fresh spec holds x h = by (node_cases spec x h)
  where
    with_run : (id : ℕ) → Run id ≡ x → In (Run id) spec.sources ⊎ ((contains (all_run_ids trees) id ≡ true → ⊥) × (fresh < 4294967295 → id < fresh))
        → In x spec.sources ⊎ ((id : ℕ) × (Run id ≡ x) × (contains (all_run_ids trees) id ≡ true → ⊥) × (fresh < 4294967295 → id < fresh))
    with_run id same (inl among) = inl (subst (λ y. In y spec.sources) same among)
    with_run id same (inr new) = inr (id, same, new.0, new.1)

    by : In x spec.sources ⊎ ((id : ℕ) × (spec.destination ≡ Some id) × (Run id ≡ x))
        → In x spec.sources ⊎ ((id : ℕ) × (Run id ≡ x) × (contains (all_run_ids trees) id ≡ true → ⊥) × (fresh < 4294967295 → id < fresh))
    by (inl source) = inl source
    by (inr run) = with_run run.0 run.2 (holds.made run.0 run.1)

all_below : (fresh : ℕ) (runs : List ℕ) → ((id : ℕ) → contains runs id ≡ true → id < fresh) → list_all (λ run. nat_lt run fresh) runs ≡ true
all_below fresh [] each = refl
all_below fresh (run ∷ runs) each =
    true_and (nat_lt run fresh) (list_all (λ r. nat_lt r fresh) runs)
    (lt-ltb run fresh (each run (ap (λ b. cond b true (contains runs run)) (eq-eqb run run refl))))
    (all_below fresh runs (λ id h. each id (later id (run == id) h)))
  where
    later : (id : ℕ) (b : Bool) → contains runs id ≡ true → cond b true (contains runs id) ≡ true
    later id true h = refl
    later id false h = h

module _ (trees : Trees) (fresh next : ℕ) (t : Planned) (spec : JobSpec) (f : IsFresh trees fresh) (pick : IsPick trees t spec) (makes : Makes fresh next spec) (free : HasFreeId spec) where
  -- A pick holds its nodes from then on.
  pub pick_holds : Holds trees next spec
  pick_holds = record { within = pick.within; made = λ id is. by id is makes }
    where
      by : (id : ℕ) → spec.destination ≡ Some id → Makes fresh next spec
          → In (Run id) spec.sources ⊎ ((contains (all_run_ids trees) id ≡ true → ⊥) × (next < 4294967295 → id < next))
      by id is (inl lowest) =
          let twice : Some lowest.id ≡ Some id = sym lowest.is ∙ is in
          let same : lowest.id ≡ id = cc twice in
          inl (subst (λ n. In (Run n) spec.sources) same lowest.among)
      by id is (inr into) =
          let twice : Some fresh ≡ Some id = sym into.0.is ∙ is in
          let same : fresh ≡ id = cc twice in
          let small = free_is_small trees fresh spec f free into.0 in
          inr (
            λ h. let below : id < fresh = f.above small id h in omega (arith, same, below),
            λ rest. let more : next ≡ min (fresh + 1) 4294967295 = into.1 in omega (arith, same, rest, more),
          )

  fits_at : (id : ℕ) → spec.destination ≡ Some id → is_lowest_or_above id (run_ids spec.sources) (all_run_ids trees) ≡ true → destination_fits trees spec.sources spec.destination ≡ true
  fits_at id is low =
      ap (destination_fits trees spec.sources) is
      ∙ true_and (not (id == 4294967295)) (is_lowest_or_above id (run_ids spec.sources) (all_run_ids trees)) (by (id == 4294967295) refl) low
    where
      by : (b : Bool) → (id == 4294967295) ≡ b → not b ≡ true
      by true e = absurd (free (is ∙ ap Some (eqb-true id 4294967295 e)))
      by false e = refl

  -- The destination of a pick passes rule 7.
  pub pick_destination_fits : destination_fits trees spec.sources spec.destination ≡ true
  pick_destination_fits = by makes
    where
      by : Makes fresh next spec → destination_fits trees spec.sources spec.destination ≡ true
      by (inl lowest) = fits_at lowest.id lowest.is (lowest.lowest (all_run_ids trees))
      by (inr into) =
          let small = free_is_small trees fresh spec f free into.0 in
          fits_at fresh into.0.is (ap (λ ids. is_lowest_or_above fresh ids (all_run_ids trees)) into.0.no_runs ∙ all_below fresh (all_run_ids trees) (f.above small))

  -- A node of a pick is a source, or it is the fresh run.
  pick_cases : (x : NodeName) → In x (nodes_of spec) → In x spec.sources ⊎ ((Run fresh ≡ x) × (fresh < 4294967295))
  pick_cases x h = by (node_cases spec x h)
    where
      with_run : (id : ℕ) → spec.destination ≡ Some id → Run id ≡ x → Makes fresh next spec → In x spec.sources ⊎ ((Run fresh ≡ x) × (fresh < 4294967295))
      with_run id is same (inl lowest) =
          let twice : Some lowest.id ≡ Some id = sym lowest.is ∙ is in
          let equal : lowest.id ≡ id = cc twice in
          inl (subst (λ y. In y spec.sources) (ap Run equal ∙ same) lowest.among)
      with_run id is same (inr into) =
          let twice : Some fresh ≡ Some id = sym into.0.is ∙ is in
          let equal : fresh ≡ id = cc twice in
          inr (ap Run equal ∙ same, free_is_small trees fresh spec f free into.0)

      by : In x spec.sources ⊎ ((id : ℕ) × (spec.destination ≡ Some id) × (Run id ≡ x)) → In x spec.sources ⊎ ((Run fresh ≡ x) × (fresh < 4294967295))
      by (inl source) = inl source
      by (inr run) = with_run run.0 run.1 run.2 makes

  -- A source of a pick is no node that a job of another tree holds.
  sources_elsewhere : Pairs NoneShared trees → (other : JobSpec) → Holds trees fresh other → spec.segment ≢ other.segment → (x : NodeName) → In x spec.sources → In x (nodes_of other) → ⊥
  sources_elsewhere shared other holds differ x here there = by (held_cases trees fresh other holds x there)
    where
      by : In x other.sources ⊎ ((id : ℕ) × (Run id ≡ x) × (contains (all_run_ids trees) id ≡ true → ⊥) × (fresh < 4294967295 → id < fresh)) → ⊥
      by (inl there) = trees_apart trees shared spec.segment other.segment differ x (pick.within x here) (holds.within x there)
      by (inr run) = run.2 (run_of_trees trees spec.segment run.0 (subst (λ y. In y (names (tree_at spec.segment trees))) (sym run.1) (pick.within x here)))

  -- No job holds the fresh run.
  fresh_is_free : fresh < 4294967295 → (other : JobSpec) → Holds trees fresh other → In (Run fresh) (nodes_of other) → ⊥
  fresh_is_free small other holds there = by (held_cases trees fresh other holds (Run fresh) there)
    where
      by : In (Run fresh) other.sources ⊎ ((id : ℕ) × (Run id ≡ Run fresh) × (contains (all_run_ids trees) id ≡ true → ⊥) × (fresh < 4294967295 → id < fresh)) → ⊥
      by (inl source) =
          let below : fresh < fresh = f.above small fresh (run_of_trees trees other.segment fresh (holds.within (Run fresh) source)) in
          omega (arith, below)
      by (inr run) =
          let equal : run.0 ≡ fresh = cc run.1 in
          let below : run.0 < fresh = run.3 small in
          omega (arith, equal, below)

  -- A pick is apart from each job that holds its nodes, if the tree uses the nodes of a job of its segment.
  pub pick_is_apart : Pairs NoneShared trees → (other : JobSpec) → Holds trees fresh other → Uses t other → is_apart (nodes_of spec) (nodes_of other) ≡ true
  pick_is_apart shared other holds uses = apart_from (nodes_of spec) (nodes_of other) (λ x here there. by x there (pick_cases x here))
    where
      source : (b : Bool) → bytes_eq spec.segment other.segment ≡ b → (x : NodeName) → In x spec.sources → In x (nodes_of other) → ⊥
      source true e x here there = pick.unused x here (uses (sym (equal_prefixes spec.segment other.segment e) ∙ pick.here) x there)
      source false e x here there =
          sources_elsewhere shared other holds
          (λ same. let itself = subst (λ p. bytes_eq spec.segment p ≡ true) same (same_prefix spec.segment) in cc (itself, e)) x here there

      by : (x : NodeName) → In x (nodes_of other) → In x spec.sources ⊎ ((Run fresh ≡ x) × (fresh < 4294967295)) → ⊥
      by x there (inl here) = source (bytes_eq spec.segment other.segment) refl x here there
      by x there (inr new) = fresh_is_free new.1 other holds (subst (λ y. In y (nodes_of other)) (sym new.0) there)

  -- A pick that takes the fresh id takes one above each destination below it.
  pub pick_rises : (other : JobSpec) → IsBelow fresh other → RisesTo other spec
  pick_rises other below none i j to made = by makes
    where
      by : Makes fresh next spec → i < j
      by (inl lowest) = absurd (let there = run_is_contained spec.sources lowest.id lowest.among in let absent = ap (λ ids. contains ids lowest.id) none in cc (there, absent))
      by (inr into) =
          let twice : Some fresh ≡ Some j = sym into.0.is ∙ made in
          let same : fresh ≡ j = cc twice in
          let low : i < fresh = below i to (free_is_small trees fresh spec f free into.0) in
          omega (arith, low, same)

  -- The destination of a job that holds its nodes is below the fresh id.
  pub held_is_below : (other : JobSpec) → Holds trees fresh other → IsBelow fresh other
  held_is_below other holds id to small = by (holds.made id to)
    where
      by : In (Run id) other.sources ⊎ ((contains (all_run_ids trees) id ≡ true → ⊥) × (fresh < 4294967295 → id < fresh)) → id < fresh
      by (inl source) = f.above small id (run_of_trees trees other.segment id (holds.within (Run id) source))
      by (inr new) = new.1 small
